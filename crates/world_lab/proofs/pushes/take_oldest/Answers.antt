use Rattle.std.proofs.Common.{◌∙◌, Some, ap, rules}
use Rattle.world_lab.proofs.Pushing.{none_out, taken_out}
use Rattle.world_lab.proofs.pushes.take_oldest.Goals as goal

pub returns-in-Some : goal.returns-in-Some
returns-in-Some c =
    let out = taken_out c.args.server c.args.pushes.now.items c.in-Some.at c.remove.result (search rules) (search rules) in
    record { oldest = ap (λ m. Some m) c.into_message.ensures.message ∙ out.0; left = c.remove.ensures.items ∙ out.1 }

pub returns-in-None : goal.returns-in-None
returns-in-None c =
    let out = none_out c.args.server c.args.pushes.now.items (search rules) in
    record { oldest = out.0; left = out.1 }
