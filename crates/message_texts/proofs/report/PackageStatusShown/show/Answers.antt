use Rattle.message_texts.proofs.Lines.{behind, by_columns}
use Rattle.message_texts.proofs.report.PackageStatusShown.show.Goals as goal

pub returns : goal.returns
returns c = record { ok = by_columns _ _ _ _ _ (behind _ (behind _ (behind _ (behind _ (behind _ (behind _ c.in_ok-show_text.ensures.ok c.in_ok-show_text-2.ensures.ok) c.in_ok-show_blob.ensures.ok) c.in_ok-show_text-3.ensures.ok) c.in_ok-show_blob-2.ensures.ok) c.in_ok-show_enum.ensures.ok) c.in_ok-show_text-4.ensures.ok) }
