use Rattle.std.proofs.Common.{refl}
use Rattle.std.specs.Fmt.{digits}
use Rattle.message_codec.specs.Varint.{groups_of, varint}
use Rattle.message_replies.specs.Canonical.{canonical_reply}
use Rattle.edge_http.specs.Writing.{response_text}
use Rattle.server_sessions.proofs.answers.laws.constant_answers.Goals as goal

pub returns-clause-http : goal.returns-clause-http
unfolding response_text digits
returns-clause-http c = refl

pub returns-clause-bad_message : goal.returns-clause-bad_message
unfolding canonical_reply varint groups_of
returns-clause-bad_message c = refl

pub returns-clause-no_memory : goal.returns-clause-no_memory
unfolding canonical_reply varint groups_of
returns-clause-no_memory c = refl
