use Rattle.server_core.specs.declared.rows.TheConstants.{AGENT_LIMIT}
use Rattle.world_model.proofs.Apart.{record_among, reply_among}
use Rattle.world_model.proofs.laws.records_hold_among_others.Goals as goal

pub returns-clause-held : goal.returns-clause-held
returns-clause-held c =
    record_among
    (record {
      whole_is_full = c.whole_report_is_full.ensures.full;
      whole_says = c.whole_report_is_full.ensures.state;
      delta_not_full = c.delta_is_not_full.ensures.not_full;
      delta_says = c.merge_of_delta.ensures.merged;
    })
    (record { follows = c.table_follows_history.ensures.follows AGENT_LIMIT; replies = c.table_follows_history.ensures.replies AGENT_LIMIT })
    (c.agents_are_apart.ensures.known AGENT_LIMIT)

pub returns-clause-due : goal.returns-clause-due
returns-clause-due c =
    reply_among
    (record {
      whole_is_full = c.whole_report_is_full.ensures.full;
      whole_says = c.whole_report_is_full.ensures.state;
      delta_not_full = c.delta_is_not_full.ensures.not_full;
      delta_says = c.merge_of_delta.ensures.merged;
    })
    (record { follows = c.table_follows_history.ensures.follows AGENT_LIMIT; replies = c.table_follows_history.ensures.replies AGENT_LIMIT })
    (c.agents_are_apart.ensures.reply AGENT_LIMIT)
