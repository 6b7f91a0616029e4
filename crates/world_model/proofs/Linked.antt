-- When a report may tell the changes alone.
use Rattle.std.proofs.Common.{◌≡◌, List, [], ◌∷◌, Bool, true, false, cond, Option, None, Some, refl, ◌∙◌, ap}
use Rattle.agent_rules.specs.declared.saved.Saved.{Saved}
use Rattle.agent_rules.specs.declared.rules.replies.Heard.{Heard}
use Rattle.agent_rules.specs.declared.rules.replies.Heard.TheVariants.{Commanded, Failed, Asked, Plain}
use Rattle.agent_rules.specs.Half.{AgentHalf, state_now, due_details, entry_of}
use Rattle.agent_rules.specs.Reports.{Entry, basis_for}
use Rattle.agent_rules.specs.Keeping.{Call, Change, Report, TakeReply, GiveUp, CommitTry, AbandonTry, ConfigDone, PackagesDone, Say, BeginTry, heard_in, kept_of_reply, keeping, fits}
use Rattle.agent_rules.specs.Calls.{told_by, call_after, calls_after}
use Rattle.agent_rules.specs.Events.{AgentEvent, Changes, Reports, Hears, GivesUp, Restarts, Crashes, calls_in}
use Rattle.world_model.specs.World.{World, Event, seen_of, agent_follows, after, run, Start, opening, world}
use Rattle.world_model.specs.Linking.{linked_by, linked_after, linked_over, linked_in, linked_from, may_tell_changes}
use Rattle.world_model.proofs.Kept.{entry_is}

call_linked : (a : AgentHalf) (c : Call) → (call_after a c).linked ≡ linked_after a c a.linked
call_linked a (Change now) = refl
call_linked a Report = refl
call_linked a (TakeReply reply) = by_heard (heard_in reply)
  where
    by_kept : (o : Option Saved) → (keeping o a).linked ≡ a.linked
    by_kept None = refl
    by_kept (Some s) = refl

    by_heard : (h : Heard) → (told_by h reply a).linked ≡ linked_by h a reply a.linked
    by_heard Commanded = refl
    by_heard Failed = refl
    by_heard Asked = by_kept (kept_of_reply a (heard_in reply) reply)
    by_heard Plain = refl
call_linked a GiveUp = refl
call_linked a CommitTry = refl
call_linked a AbandonTry = refl
call_linked a (ConfigDone None status) = refl
call_linked a (ConfigDone (Some applied) status) = refl
call_linked a (PackagesDone statuses) = refl
call_linked a (Say message) = refl
call_linked a (BeginTry next) = refl

calls_linked : (cs : List Call) (a : AgentHalf) → (calls_after a cs).linked ≡ linked_over a cs a.linked
calls_linked [] a = refl
calls_linked (c ∷ cs) a = by_test (calls_linked cs (call_after a c) ∙ ap (linked_over (call_after a c) cs) (call_linked a c)) (fits a c)
  where
    by_test : (calls_after (call_after a c) cs).linked ≡ linked_over (call_after a c) cs (linked_after a c a.linked) → (t : Bool)
        → (cond t (calls_after (call_after a c) cs) a).linked ≡ cond t (linked_over (call_after a c) cs (linked_after a c a.linked)) a.linked
    by_test rest true = rest
    by_test rest false = refl

seen_linked : (a : AgentHalf) (o : Option AgentEvent) → (agent_follows a o).linked ≡ linked_in a o a.linked
seen_linked a None = refl
seen_linked a (Some (Changes now)) = calls_linked (calls_in a (Changes now)) a
seen_linked a (Some Reports) = calls_linked (calls_in a Reports) a
seen_linked a (Some (Hears reply r)) = calls_linked (calls_in a (Hears reply r)) a
seen_linked a (Some GivesUp) = calls_linked (calls_in a GivesUp) a
seen_linked a (Some (Restarts local asks_uid)) = refl
seen_linked a (Some (Crashes during n)) = refl

module _ (follows : (w : World) (e : Event) → (after w e).agent ≡ agent_follows w.agent (seen_of w e)) where
  run_linked : (es : List Event) (w : World) → (run es w).agent.linked ≡ linked_from w es w.agent.linked
  run_linked [] w = refl
  run_linked (e ∷ es) w =
      run_linked es (after w e) ∙ ap (linked_from (after w e) es) (ap (λ (a : AgentHalf). a.linked) (follows w e) ∙ seen_linked w.agent (seen_of w e))

  pub basis_is : (start : Start) (events : List Event) → let a = (world start events).agent in
      (entry_of a).basis ≡ basis_for (may_tell_changes start events) a.last (state_now a) (due_details a)
  basis_is start events =
      let a = (world start events).agent in
      ap (λ (e : Entry). e.basis) (entry_is a).1 ∙ ap (λ l. basis_for l a.last (state_now a) (due_details a)) (run_linked events (opening start))
