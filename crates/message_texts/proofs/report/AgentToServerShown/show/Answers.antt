use Rattle.message_texts.proofs.Lines.{behind, by_columns}
use Rattle.message_texts.proofs.report.AgentToServerShown.show.Goals as goal

pub returns : goal.returns
returns c = record { ok = by_columns _ _ _ _ _ (behind _ (behind _ (behind _ (behind _ (behind _ (behind _ (behind _ (behind _ (behind _ (behind _ (behind _ (behind _ c.in_ok-show_blob.ensures.ok c.in_ok-show_unsigned.ensures.ok) c.in_ok-show_one.ensures.ok) c.in_ok-show_unsigned-2.ensures.ok) c.in_ok-show_one-2.ensures.ok) c.in_ok-show_one-3.ensures.ok) c.in_ok-show_one-4.ensures.ok) c.in_ok-show_one-5.ensures.ok) c.in_ok-show_one-6.ensures.ok) c.in_ok-show_unsigned-3.ensures.ok) c.in_ok-show_one-7.ensures.ok) c.in_ok-show_one-8.ensures.ok) c.in_ok-show_one-9.ensures.ok) }
