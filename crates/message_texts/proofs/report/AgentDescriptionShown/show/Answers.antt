use Rattle.message_texts.proofs.Lines.{behind, by_columns}
use Rattle.message_texts.proofs.report.AgentDescriptionShown.show.Goals as goal

pub returns : goal.returns
returns c = record { ok = by_columns _ _ _ _ _ (behind _ c.in_ok-show_many.ensures.ok c.in_ok-show_many-2.ensures.ok) }
