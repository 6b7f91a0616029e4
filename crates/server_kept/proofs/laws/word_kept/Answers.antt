use Rattle.std.proofs.Common.{refl}
use Rattle.server_kept.proofs.Words.{keeps_word, settles, stays_right}
use Rattle.server_kept.proofs.laws.word_kept.Goals as goal

pub returns-clause-config : goal.returns-clause-config
returns-clause-config c = keeps_word (λ offers. offers.config) (record { none = refl; over = λ s m. refl }) c.one_reply.ensures.one

pub returns-clause-packages : goal.returns-clause-packages
returns-clause-packages c = keeps_word (λ offers. offers.packages) (record { none = refl; over = λ s m. refl }) c.one_reply.ensures.one

pub returns-clause-connection : goal.returns-clause-connection
returns-clause-connection c = keeps_word (λ offers. offers.connection) (record { none = refl; over = λ s m. refl }) c.one_reply.ensures.one

pub returns-clause-right : goal.returns-clause-right
returns-clause-right c = stays_right c.one_reply.ensures.one

pub returns-clause-settled : goal.returns-clause-settled
returns-clause-settled c = settles c.one_reply.ensures.one
