use Rattle.message_replies.proofs.Headless.{message_stays}
use Rattle.message_replies.proofs.header.payload_of_message.Goals as goal

pub returns : goal.returns
returns c = record { stays = message_stays }
