use Rattle.message_texts.proofs.Lines.{by_columns}
use Rattle.message_texts.proofs.reply.AgentIdentificationShown.show.Goals as goal

pub returns : goal.returns
returns c = record { ok = by_columns _ _ _ _ _ c.in_ok-show_blob.ensures.ok }
