use Rattle.std.proofs.Common.{◌∙◌, ap}
use Rattle.std.specs.Option.{option_copied, option_map}
use Rattle.std.proofs.lemmas.Result.{IfOk-from_err}
use Rattle.message_deltas.specs.Deltas.{told_under}
use Rattle.message_deltas.proofs.deltas.heading.Goals as goal

pub returns : goal.returns
returns c =
    record {
      parts = λ i. record {
        first = c.in_ok-uid_bytes.ensures.bytes i;
        second = c.in_ok-copy.ensures.copied i;
        third = c.in_ok-copy-2.ensures.copied i;
        fourth = (c.in_ok-told_with.ensures.told ∙ ap (option_map (told_under (option_copied c.args.details))) c.in_ok-copy-3.ensures.copied) i;
      };
    }

pub returns-in_err-uid_bytes : goal.returns-in_err-uid_bytes
returns-in_err-uid_bytes c = record { parts = IfOk-from_err _ _ c.from_residual.ensures.0 }

pub returns-in_err-copy : goal.returns-in_err-copy
returns-in_err-copy c = record { parts = IfOk-from_err _ _ c.from_residual-in_err-copy.ensures.0 }

pub returns-in_err-copy-2 : goal.returns-in_err-copy-2
returns-in_err-copy-2 c = record { parts = IfOk-from_err _ _ c.from_residual-in_err-copy-2.ensures.0 }

pub returns-in_err-copy-3 : goal.returns-in_err-copy-3
returns-in_err-copy-3 c = record { parts = IfOk-from_err _ _ c.from_residual-in_err-copy-3.ensures.0 }

pub returns-in_err-told_with : goal.returns-in_err-told_with
returns-in_err-told_with c = record { parts = IfOk-from_err _ _ c.from_residual-in_err-told_with.ensures.0 }
