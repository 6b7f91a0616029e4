use Rattle.std.proofs.Common.{◌≡◌, ℕ, List, Some, ◌++◌, ◌∷◌, [], ◌∙◌, ap, subst}
use Rattle.std.specs.Option.{option_map}
use Rattle.server_core.specs.declared.rows.TheConstants.{AGENT_LIMIT}
use Rattle.world_model.specs.World.{world, after, asks_full, entry_held, Delivered}
use Rattle.world_model.proofs.Rooms.{has_room}
use Rattle.world_model.proofs.Runs.{world_servers}
use Rattle.world_model.proofs.Headline.{held_after, delivered_again}
use Rattle.world_model.proofs.Replies.{recorded, reply_is_due, reply_asks}
use Rattle.world_model.proofs.laws.plain_reply_means_held.Goals as goal

pub returns-clause-due : goal.returns-clause-due
returns-clause-due c = λ start events place given e at few.
    recorded (world start events) place given e at
    ∙ ap (λ r. Some r)
    (reply_is_due
    (record {
      whole_is_full = c.whole_report_is_full.ensures.full;
      whole_says = c.whole_report_is_full.ensures.state;
      delta_not_full = c.delta_is_not_full.ensures.not_full;
      delta_says = c.merge_of_delta.ensures.merged;
    })
    (record { follows = c.table_follows_history.ensures.follows AGENT_LIMIT; replies = c.table_follows_history.ensures.replies AGENT_LIMIT })
    start
    events
    place
    given
    e
    at
    (has_room (record { follows = c.table_follows_history.ensures.follows AGENT_LIMIT; replies = c.table_follows_history.ensures.replies AGENT_LIMIT })
    (record {
      ascend = c.identifiers_ascend.ensures.ascend;
      among = c.identifiers_ascend.ensures.among;
      all_ascend = c.identifiers_ascend.ensures.all_ascend;
      all_among = c.identifiers_ascend.ensures.all_among;
      once = c.identifiers_ascend.ensures.once;
    }) start (events ++ Delivered place given ∷ []) (start.server_of e.server) few))

pub returns-clause-asks : goal.returns-clause-asks
returns-clause-asks c = λ start events place given e at.
    ap (option_map asks_full) (recorded (world start events) place given e at) ∙ ap (λ b. Some b) (reply_asks (world start events) place e given)

pub returns-clause-held : goal.returns-clause-held
returns-clause-held c = λ start events place given e at stood.
    subst (λ (f : List ℕ → List ℕ). entry_held (after (world start events) (Delivered place given)) (f e.server) e.uid ≡ Some e) (world_servers start events)
    (held_after (world start events) place given e at stood)

pub returns-clause-again : goal.returns-clause-again
returns-clause-again c = λ start events place given e at some held.
    delivered_again start.server_of (world start events) place given e (world_servers start events) at some held
