use Rattle.std.proofs.Common.{◌≡◌, ℕ, List, Bool, true, false, Result, Ok, Err, sym, subst}
use Rattle.std.specs.Prelude.{Option, Some, None, IfOk, IfSome, IsTrue, cond}
use Rattle.std.specs.Option.{option_map}
use Rattle.plain_values.specs.declared.memory.NoMemory.{NoMemory}
use Rattle.message_codec.specs.Values.{Values}
use Rattle.agent_rules.specs.declared.saved.Saved.{Saved}
use Rattle.agent_rules.specs.Columns.{parts_columns, saved_columns}
use Rattle.agent_rules.specs.Payloads.{MeansFields, MeansSaved, FitsTypes}
use Rattle.agent_rules.specs.Right.{is_right, are_right}
use Rattle.agent_rules.specs.Codec.{kept_if}
use Rattle.agent_rules.proofs.Found.{meaning_none}
use Rattle.agent_rules.proofs.Steps.{found_means}
use Rattle.agent_rules.proofs.reading.read_saved.Goals as goal

kept_is : (vs ws : Values) (b : Bool) → (let found : Option Values = Some ws in found ≡ cond b (Some vs) None) → ws ≡ vs
kept_is vs ws true e = cc
kept_is vs ws false e = cc

found_fields : (result : Result (Option Saved) NoMemory) (bytes : List ℕ) (vs : Values) → MeansFields bytes vs
    → IfOk result (λ found. option_map saved_columns found ≡ kept_if vs)
    → IfOk result (λ found. IfSome found (λ saved. IsTrue (is_right saved)))
    → IfOk result (λ found. IfSome found FitsTypes)
    → IfOk result (λ found. IfSome found (MeansSaved bytes))
found_fields (Ok None) bytes vs m kept right typed = tt
found_fields (Ok (Some saved)) bytes vs m kept right typed = record {
  fields = subst (MeansFields bytes) (sym (kept_is vs (saved_columns saved) (are_right vs) kept)) m;
  uid = typed.uid;
  right = right;
}
found_fields (Err e) bytes vs m kept right typed = tt

pub returns-in-Ok-clause-fields : goal.returns-in-Ok-clause-fields
returns-in-Ok-clause-fields c = found_fields c.settle.result c.args.bytes.now (parts_columns c.in-Ok.parts) c.in-Ok.ensures.means c.settle.ensures.kept c.settle.ensures.right c.settle.ensures.typed

pub returns-in-Ok-clause-means : goal.returns-in-Ok-clause-means
returns-in-Ok-clause-means c = found_means c.settle.result c.args.bytes.now (parts_columns c.in-Ok.parts) c.in-Ok.ensures.means c.settle.ensures.kept

pub returns-in-Err-Refused-clause-means : goal.returns-in-Err-Refused-clause-means
returns-in-Err-Refused-clause-means c = let h = rw c.in-Err-Refused.field-0-is at c.in-Err-Refused.ensures.refused in sym (meaning_none c.args.bytes.now h)
