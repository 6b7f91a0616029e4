use Rattle.std.proofs.Common.{ℕ, List, rules}
use Rattle.std.specs.Prelude.{is_some}
use Rattle.std.proofs.lemmas.Map.Made.{filter_same_pairs}
use Rattle.server_core.specs.Table.{find_record}
use Rattle.server_lines.specs.declared.sights.Mark.{Mark}
use Rattle.server_lines.proofs.sights.drop_others.Goals as goal

pub returns : goal.returns
returns c = record {
  dropped = filter_same_pairs _ (λ (e : List ℕ × Mark). is_some (find_record c.args.server.now.table.records e.0)) _ (λ k v b w f' t. search rules) _ _ c.retain.ensures.filtered;
}
