-- An agent's life is a run of the world.
use Rattle.std.proofs.Common.{◌≡◌, List, [], ◌∷◌, map, Some, refl, sym, ◌∙◌, ap, subst}
use Rattle.std.specs.Str.{bytes_eq}
use Rattle.agent_rules.specs.Reports.{where_true}
use Rattle.agent_rules.specs.Events.{AgentEvent, Changes, Reports, Hears, GivesUp, Restarts, Crashes, AllHearOwn, HearsOwn, agent_after, agent_run}
use Rattle.world_model.specs.Lives.{event_of}
use Rattle.world_model.specs.World.{World, Event, after, agent_follows, crash_of, run, seen_of}
use Rattle.world_model.proofs.Places.{bytes_self}

pub seen_own : (w : World) (event : AgentEvent) → HearsOwn w.agent event → seen_of w (event_of event) ≡ Some event
seen_own w (Changes now) own = refl
seen_own w Reports own = refl
seen_own w (Hears reply reactions) own =
    ap (λ b. where_true b (Hears reply reactions)) (ap (λ u. bytes_eq u w.agent.saved.uid) own ∙ bytes_self w.agent.saved.uid)
seen_own w GivesUp own = refl
seen_own w (Restarts local asks_uid) own = refl
seen_own w (Crashes during saves) own = ap (λ o. Some (crash_of w.agent o saves)) (seen_own w during own)

module _ (follows : (w : World) (e : Event) → (after w e).agent ≡ agent_follows w.agent (seen_of w e)) where
  pub life_runs : (events : List AgentEvent) (w : World) → AllHearOwn events w.agent → (run (map event_of events) w).agent ≡ agent_run events w.agent
  life_runs [] w own = refl
  life_runs (event ∷ events) w own =
      life_runs events (after w (event_of event)) (subst (AllHearOwn events) (sym step) own.1) ∙ ap (agent_run events) step
    where
      step : (after w (event_of event)).agent ≡ agent_after w.agent event
      step = follows w (event_of event) ∙ ap (agent_follows w.agent) (seen_own w event own.0)
