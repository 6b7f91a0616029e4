use Rattle.message_texts.proofs.Lines.{behind, by_columns}
use Rattle.message_texts.proofs.reply.ServerErrorResponseShown.show.Goals as goal

pub returns : goal.returns
returns c = record { ok = by_columns _ _ _ _ _ (behind _ (behind _ c.in_ok-show_enum.ensures.ok c.in_ok-show_text.ensures.ok) c.in_ok-show_one.ensures.ok) }
