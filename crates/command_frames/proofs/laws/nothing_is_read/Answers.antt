use Rattle.command_frames.proofs.Unread.{none_read}
use Rattle.command_frames.proofs.laws.nothing_is_read.Goals as goal

pub returns : goal.returns
returns c = record { outcome = none_read }
