use Rattle.message_deltas.proofs.ExactLemmas.{differs_in_all-exact, must_be_whole-exact, must_be_whole-same}
use Rattle.message_deltas.proofs.deltas.must_be_whole_is_exact.Goals as goal

pub returns-clause-all : goal.returns-clause-all
returns-clause-all c = differs_in_all-exact

pub returns-clause-exactly : goal.returns-clause-exactly
returns-clause-exactly c = must_be_whole-exact

pub returns-clause-capabilities : goal.returns-clause-capabilities
returns-clause-capabilities c = must_be_whole-same
