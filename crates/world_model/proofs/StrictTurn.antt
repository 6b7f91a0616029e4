-- The run with two servers in strict turn, step by step.
use Rattle.std.proofs.Common.{◌≡◌, ℕ, List, [], ◌∷◌, ◌++◌, map, Bool, true, false, cond, Option, None, Some, slice_get, refl, sym, ◌∙◌, ap, codes, IsTrue, ◌↔◌, not, inl, inr}
use Rattle.std.specs.Prelude.{is_some}
use Rattle.std.specs.Option.{option_map, option_map_or}
use Rattle.message_values.specs.declared.state.State.{State}
use Rattle.message_deltas.specs.Deltas.{Details, delta_report, must_be_whole, IsDelta, MustBeWhole}
use Rattle.agent_rules.specs.Reports.{Entry, basis_for, message_of}
use Rattle.agent_rules.specs.Half.{AgentHalf, due_details, entry_of, state_now}
use Rattle.agent_rules.specs.Calls.{may_report, reported}
use Rattle.agent_rules.specs.Events.{Hears}
use Rattle.message_values.specs.declared.reply.ServerToAgent.{ServerToAgent}
use Rattle.server_core.specs.Replies.{asking_reply}
use Rattle.server_core.specs.declared.rows.Record.{Record}
use Rattle.world_model.specs.World.{Changed, Sent, Delivered, Answered, no_reactions, sends, asks_full, record_in_world, World, Given, delivers, after, run, reply_due, agent_follows}
use Rattle.world_model.specs.Clusters.{Cluster, ClusterEvent, At, is_behind, after_at, seen_by, with_world, run_at, first_cluster, cluster}
use Rattle.world_model.specs.Example.{start, with_custom, nothing, one_server, other_server, start_with_two, in_strict_turn}
use Rattle.std.proofs.lemmas.Bool.{false_from_ne_true}
use Rattle.world_model.proofs.Kept.{entry_is}
use Rattle.world_model.proofs.LostTable.{now, sent_with, early, late, first_entry, second_entry, last_entry, first_is, last_is, may_first, may_last, second_is, may_second}

-- this entry is sent
abbrev sent_at : List ℕ → Cluster → Entry → Cluster
sent_at s c e = with_world s c (sent_with (seen_by s c) e)

abbrev sent_if : List ℕ → Cluster → Bool → Cluster
sent_if s c may = with_world s c (cond may (sends (seen_by s c)) (seen_by s c))

abbrev rest_3 : List ClusterEvent
rest_3 = At one_server (Delivered 2 nothing) ∷ At one_server (Answered no_reactions) ∷ []

abbrev rest_2 : List ClusterEvent
rest_2 = At other_server (Delivered 1 nothing) ∷ At other_server (Answered no_reactions) ∷ []

abbrev rest_1 : List ClusterEvent
rest_1 = At one_server (Delivered 0 nothing) ∷ At one_server (Answered no_reactions) ∷ At one_server (Changed (with_custom (codes "x" ∷ []))) ∷ []

abbrev opened : Cluster
opened = first_cluster start_with_two

-- before the second report, before the last one, and at the end
early_there : Cluster
early_there = run_at rest_1 (sent_at one_server opened first_entry)

late_there : Cluster
late_there = run_at rest_2 (sent_at other_server early_there second_entry)

pub end_there : Cluster
end_there = run_at rest_3 (sent_at one_server late_there last_entry)

early_agent : early_there.agent ≡ early.agent
unfolding early_there
early_agent = refl

-- a delivery leaves the agent
delivered_agent : (s : List ℕ) (c : Cluster) (place : ℕ) (given : Given) → (after_at c (At s (Delivered place given))).agent ≡ c.agent
delivered_agent s c place given = by_test (option_map_or (is_behind c s) (slice_get c.sent place) false)
  where
    by_entry : (o : Option Entry) → (delivers (seen_by s c) place given o).agent ≡ c.agent
    by_entry None = refl
    by_entry (Some e) = refl

    by_test : (b : Bool) → (run (cond b (Delivered place given ∷ []) []) (seen_by s c)).agent ≡ c.agent
    by_test true = by_entry (slice_get c.sent place)
    by_test false = refl

-- the second report, delivered
abbrev second_there : Cluster
second_there = after_at (sent_at other_server early_there second_entry) (At other_server (Delivered 1 nothing))

abbrev second_lost : World
second_lost = after (sent_with early second_entry) (Delivered 1 nothing)

abbrev asked : ServerToAgent
asked = asking_reply (start.profiles other_server) (message_of second_entry) None

due_there : reply_due (seen_by other_server second_there) ≡ Some asked
unfolding early_there
due_there = refl

due_lost : reply_due second_lost ≡ Some asked
due_lost = refl

late_agent : late_there.agent ≡ late.agent
unfolding late_there
late_agent =
    (λ i. agent_follows ((delivered_agent other_server (sent_at other_server early_there second_entry) 1 nothing ∙ ap reported early_agent) i)
    (option_map (λ reply. Hears reply no_reactions) ((due_there ∙ sym due_lost) i)))

to_early : cluster start_with_two in_strict_turn ≡ run_at (At other_server Sent ∷ rest_2 ++ (At one_server Sent ∷ rest_3)) early_there
unfolding early_there
to_early =
    ap (λ b. run_at (rest_1 ++ (At other_server Sent ∷ rest_2 ++ (At one_server Sent ∷ rest_3))) (sent_if one_server opened b)) may_first
    ∙ ap (λ e. run_at (rest_1 ++ (At other_server Sent ∷ rest_2 ++ (At one_server Sent ∷ rest_3))) (sent_at one_server opened e)) first_is

module _ (carries : (uid : List ℕ) (number : ℕ) (old new : State) (details : Details) → IsDelta uid number old new details (delta_report uid number old new details))
    (exact : (old new : State) (detailed : Bool) → IsTrue (must_be_whole old new detailed) ↔ MustBeWhole old new detailed) where
  to_late : run_at (At other_server Sent ∷ rest_2 ++ (At one_server Sent ∷ rest_3)) early_there ≡ run_at (At one_server Sent ∷ rest_3) late_there
  unfolding late_there
  to_late =
      ap (λ b. run_at (rest_2 ++ (At one_server Sent ∷ rest_3)) (sent_if other_server early_there b)) (ap may_report early_agent ∙ may_second carries exact)
      ∙ ap (λ e. run_at (rest_2 ++ (At one_server Sent ∷ rest_3)) (sent_at other_server early_there e)) (ap entry_of early_agent ∙ second_is carries exact)

  to_end : run_at (At one_server Sent ∷ rest_3) late_there ≡ end_there
  unfolding end_there
  to_end =
      ap (λ b. run_at rest_3 (sent_if one_server late_there b)) (ap may_report late_agent ∙ may_last)
      ∙ ap (λ e. run_at rest_3 (sent_at one_server late_there e)) (ap entry_of late_agent ∙ last_is)

  pub turn_is : cluster start_with_two in_strict_turn ≡ end_there
  turn_is = to_early ∙ to_late ∙ to_end

pub end_numbers : map (λ (e : Entry). e.number) end_there.sent ≡ 1 ∷ 2 ∷ 3 ∷ []
unfolding end_there late_there early_there
end_numbers = refl

pub end_changes : map (λ (e : Entry). is_some e.basis) end_there.sent ≡ false ∷ true ∷ false ∷ []
unfolding end_there late_there early_there
end_changes = refl

pub end_one : map (λ place. option_map asks_full (end_there.replies one_server place)) (0 ∷ 1 ∷ 2 ∷ []) ≡ Some false ∷ None ∷ Some false ∷ []
unfolding end_there late_there early_there
end_one = refl

pub end_other : map (λ place. option_map asks_full (end_there.replies other_server place)) (0 ∷ 1 ∷ 2 ∷ []) ≡ None ∷ Some true ∷ None ∷ []
unfolding end_there late_there early_there
end_other = refl

pub end_known : option_map (λ (r : Record). r.number) (record_in_world end_there.sent (end_there.held one_server start.uid)) ≡ Some 3
unfolding end_there late_there early_there
end_known = refl

pub end_unknown : record_in_world end_there.sent (end_there.held other_server start.uid) ≡ None
unfolding end_there late_there early_there
end_unknown = refl

abbrev next_basis : AgentHalf → Option State
next_basis a = basis_for a.linked a.last (state_now a) (due_details a)

end_basis : next_basis end_there.agent ≡ basis_for true (Some now) now false
unfolding end_there late_there early_there
end_basis = refl

module _ (exact : (old new : State) (detailed : Bool) → IsTrue (must_be_whole old new detailed) ↔ MustBeWhole old new detailed) where
  unchanged : must_be_whole now now false ≡ false
  unchanged = false_from_ne_true (must_be_whole now now false) (λ whole. needless ((exact now now false).0 whole))
    where
      needless : MustBeWhole now now false → ⊥
      needless (inl apart) = apart refl
      needless (inr all) = all.description refl

  pub end_next : is_some (entry_of end_there.agent).basis ≡ true
  end_next =
      ap (λ (e : Entry). is_some e.basis) (entry_is end_there.agent).1
      ∙ ap is_some end_basis
      ∙ ap (λ b. is_some (cond (not b) (Some now) None)) unchanged
