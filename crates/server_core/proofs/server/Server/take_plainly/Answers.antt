use Rattle.std.proofs.Common.{refl}
use Rattle.server_core.proofs.server.Server.take_plainly.Goals as goal

pub returns-then-merge_plainly-clause-reply : goal.returns-then-merge_plainly-clause-reply
returns-then-merge_plainly-clause-reply c = c.if-merge_plainly.ensures.reply refl
