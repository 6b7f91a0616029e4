use Rattle.std.proofs.Common.{rules}
use Rattle.std.proofs.lemmas.Nat.{be_bytes_4}
use Rattle.command_streams.proofs.front.number_of.Goals as goal

pub returns : goal.returns
returns c = search (rules, be_bytes_4)
