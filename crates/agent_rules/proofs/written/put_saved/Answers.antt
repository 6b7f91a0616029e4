use Rattle.agent_rules.specs.Payloads.{canonical_saved}
use Rattle.message_codec.proofs.Canonical.{capped_is}
use Rattle.agent_rules.proofs.Found.{reads_back}
use Rattle.agent_rules.proofs.written.put_saved.Goals as goal

pub append_counted-requires-clause-few : goal.append_counted-requires-clause-few
unfolding canonical_saved
append_counted-requires-clause-few c = c.requires.few

pub append_counted-requires-clause-counted : goal.append_counted-requires-clause-counted
unfolding canonical_saved
append_counted-requires-clause-counted c = capped_is c.saved_len.result _ c.saved_len.ensures.counts c.requires.few

pub returns-clause-appends : goal.returns-clause-appends
unfolding canonical_saved
returns-clause-appends c = c.append_counted.ensures.appends

pub returns-clause-reads_back : goal.returns-clause-reads_back
returns-clause-reads_back c right = reads_back c.args.saved.now c.saved_len.ensures.typed right c.requires.few
