use Rattle.std.proofs.Common.{◌≡◌, ◌≤◌, [], refl, drop, take, length, arith}
use Rattle.std.proofs.Math.ListN.{drop_of_length-le}
use Rattle.std.proofs.lemmas.List.{length-take}
use Rattle.command_streams.proofs.held.HeldBytes.begin_at.Goals as goal

pub returns : goal.returns
returns c =
    let front = take 65536 c.lengthen.new.buffer.items in
    let short : length front ≤ 65536 = omega (arith, length-take 65536 c.lengthen.new.buffer.items) in
    let none : drop 65536 front ≡ [] = drop_of_length-le front short in
    record { begun = (refl, none) }
