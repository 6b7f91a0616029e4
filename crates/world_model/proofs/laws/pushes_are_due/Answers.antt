use Rattle.server_core.specs.declared.rows.TheConstants.{AGENT_LIMIT}
use Rattle.world_model.proofs.Agreement.{pushes_agree}
use Rattle.world_model.proofs.Rooms.{has_room}
use Rattle.world_model.proofs.Runs.{push_names_nobody}
use Rattle.world_model.proofs.laws.pushes_are_due.Goals as goal

pub returns-clause-due : goal.returns-clause-due
returns-clause-due c = λ start events server uid few.
    pushes_agree
    (record {
      whole_is_full = c.whole_report_is_full.ensures.full;
      whole_says = c.whole_report_is_full.ensures.state;
      delta_not_full = c.delta_is_not_full.ensures.not_full;
      delta_says = c.merge_of_delta.ensures.merged;
    })
    (record { follows = c.table_follows_history.ensures.follows AGENT_LIMIT; replies = c.table_follows_history.ensures.replies AGENT_LIMIT })
    start
    events
    server
    uid
    (has_room (record { follows = c.table_follows_history.ensures.follows AGENT_LIMIT; replies = c.table_follows_history.ensures.replies AGENT_LIMIT })
    (record {
      ascend = c.identifiers_ascend.ensures.ascend;
      among = c.identifiers_ascend.ensures.among;
      all_ascend = c.identifiers_ascend.ensures.all_ascend;
      all_among = c.identifiers_ascend.ensures.all_among;
      once = c.identifiers_ascend.ensures.once;
    }) start events server few)

pub returns-clause-names_nobody : goal.returns-clause-names_nobody
returns-clause-names_nobody c = push_names_nobody
