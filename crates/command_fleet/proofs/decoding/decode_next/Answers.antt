use Rattle.std.proofs.Common.{◌≡◌, ℕ, ◌+◌, ◌-◌, List, ap, drop, length, take, arith}
use Rattle.std.proofs.lemmas.List.{length-drop, take_all}
use Rattle.command_fleet.proofs.Blocks.{next_frame}
use Rattle.command_fleet.proofs.decoding.decode_next.Goals as goal

pub returns : goal.returns
returns c =
    let block : List ℕ = c.args.block.now in
    let at : ℕ = c.args.at in
    let len : ℕ = c.in-Frame.len in
    let rest : List ℕ = take (length block - at) (drop at block) in
    let message : List ℕ = take (4 + len - 4) (drop 4 rest) in
    let rest_is : rest ≡ drop at block = take_all (length block - at) (drop at block) (omega (arith, length-drop at block)) in
    let less : 4 + len - 4 ≡ len = omega arith in
    record {
      next = next_frame c.frames_pass.ensures.one block rest message at len (at + (4 + len)) c.args.reports.now.items c.push.new.self.items c.in-Ok.report
          rest_is
          (ap (λ (n : ℕ). take n (drop 4 rest)) less)
          c.requires.at
          (rw c.in-Frame.is at c.front_of.ensures.front)
          c.in-Ok.ensures.means
          (omega arith)
          c.in_ok-push-in-Ok.ensures.items;
    }
