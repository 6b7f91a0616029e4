-- The run in which a server loses its table, step by step.
use Rattle.std.proofs.Common.{◌≡◌, ◌≢◌, ℕ, List, [], ◌∷◌, ◌++◌, length, Bool, true, false, cond, not, ◌&&◌, Option, None, Some, inl, inr, refl, sym, ◌∙◌, ap, codes, IsTrue, ◌↔◌, arith}
use Rattle.std.proofs.lemmas.Bool.{false_from_ne_true}
use Rattle.message_values.specs.declared.components.AvailableComponents.{AvailableComponents}
use Rattle.message_values.specs.declared.custom.CustomCapabilities.{CustomCapabilities}
use Rattle.message_values.specs.declared.report.AgentToServer.{AgentToServer}
use Rattle.message_values.specs.declared.state.State.{State}
use Rattle.message_codec.specs.Varint.{varint, groups_of}
use Rattle.message_deltas.specs.Merging.{hash_in}
use Rattle.message_deltas.specs.Deltas.{Details, whole_report, delta_report, must_be_whole, CarriesChange, IsDelta, MustBeWhole}
use Rattle.message_reports.specs.Reports.{canonical_report}
use Rattle.agent_rules.specs.Payloads.{canonical_saved}
use Rattle.agent_rules.specs.Reports.{Entry, fits_message, message_of, state_of_agent}
use Rattle.agent_rules.specs.Half.{entry_with, entry_of, first_saved}
use Rattle.agent_rules.specs.Keeping.{Report, fits}
use Rattle.agent_rules.specs.Calls.{may_report, reported}
use Rattle.world_model.specs.World.{World, Event, Changed, Sent, Delivered, Answered, ServerRestarted, no_reactions, sends, run, opening, world}
use Rattle.world_model.specs.Example.{start, with_custom, nothing, lost_table}
use Rattle.world_model.proofs.Places.{none≢some}

abbrev pub before : State
before = state_of_agent (with_custom []) (first_saved start.uid start.settings)

abbrev pub now : State
now = state_of_agent (with_custom (codes "x" ∷ [])) (first_saved start.uid start.settings)

-- the report of the changes
abbrev changes_alone : AgentToServer
changes_alone = record (whole_report start.uid 2 now None) { agent_description = None }

first_fits : fits_message (whole_report start.uid 1 before None) ≡ true
unfolding canonical_report fits_message varint groups_of
first_fits = refl

changes_fit : fits_message changes_alone ≡ true
unfolding canonical_report fits_message varint groups_of
changes_fit = refl

last_fits : fits_message (whole_report start.uid 3 now None) ≡ true
unfolding canonical_report fits_message varint groups_of
last_fits = refl

-- the first block of numbers fits into the store
pub numbers_fit : fits (opening start).agent Report ≡ true
unfolding canonical_saved varint groups_of
numbers_fit = refl

left_out : {T : Type 0} (value carried : Option T) → CarriesChange value value carried → carried ≡ None
left_out value carried (inl same) = same.1
left_out value carried (inr changed) = absurd (changed.0 refl)

carried_now : {T : Type 0} (old new carried : Option T) → old ≢ new → CarriesChange old new carried → carried ≡ new
carried_now old new carried apart (inl same) = absurd (apart same.0)
carried_now old new carried apart (inr changed) = changed.1

-- no components are carried where no hash is
uncarried : (carried : Option AvailableComponents) → hash_in carried ≡ None → carried ≡ None
uncarried None no_hash = refl
uncarried (Some told) no_hash = absurd (none≢some (sym no_hash))

how_many : Option CustomCapabilities → ℕ
how_many None = 0
how_many (Some custom) = length custom.capabilities

custom_apart : Some before.custom ≢ Some now.custom
unfolding how_many
custom_apart same = let n : 0 ≡ 1 = ap how_many same in absurd (omega (arith, n))

-- an agent without a waiting message reports one entry
pub one_entry : (b : Bool) (e : Entry) → cond b e e ≡ e
one_entry true e = refl
one_entry false e = refl

-- this entry is sent
abbrev pub sent_with : World → Entry → World
sent_with w e = record w { agent = reported w.agent; sent = w.sent ++ e ∷ [] }

abbrev pub first_entry : Entry
first_entry = entry_with (opening start).agent None

-- the world before the second report
abbrev pub early : World
early = run (Delivered 0 nothing ∷ Answered no_reactions ∷ ServerRestarted (codes "http://s0") ∷ Changed (with_custom (codes "x" ∷ [])) ∷ []) (sent_with (opening start) first_entry)

-- the report of the changes that is sent then
abbrev pub second_entry : Entry
second_entry = record (entry_with early.agent None) { basis = Some before }

-- the world before the last report
abbrev pub late : World
late = run (Delivered 1 nothing ∷ Answered no_reactions ∷ []) (sent_with early second_entry)

abbrev pub last_entry : Entry
last_entry = entry_with late.agent None

-- the world at the end
abbrev pub at_end : World
at_end = run (Delivered 2 nothing ∷ Answered no_reactions ∷ []) (sent_with late last_entry)

pub first_is : entry_of (opening start).agent ≡ first_entry
first_is = one_entry _ first_entry

pub last_is : entry_of late.agent ≡ last_entry
last_is = one_entry _ last_entry

pub may_first : may_report (opening start).agent ≡ true
may_first =
    (λ i. fits_message (message_of (first_is i)) && numbers_fit i)
    ∙ ap (λ b. b && true) first_fits

pub may_last : may_report late.agent ≡ true
may_last =
    (λ i. fits_message (message_of (last_is i)) && true)
    ∙ ap (λ b. b && true) last_fits

module _ (carries : (uid : List ℕ) (number : ℕ) (old new : State) (details : Details) → IsDelta uid number old new details (delta_report uid number old new details))
    (exact : (old new : State) (detailed : Bool) → IsTrue (must_be_whole old new detailed) ↔ MustBeWhole old new detailed) where
  not_whole : must_be_whole before now false ≡ false
  not_whole = false_from_ne_true (must_be_whole before now false) (λ whole. needless ((exact before now false).0 whole))
    where
      needless : MustBeWhole before now false → ⊥
      needless (inl apart) = apart refl
      needless (inr all) = all.description refl

  delta_is : delta_report start.uid 2 before now None ≡ changes_alone
  delta_is =
      let d = carries start.uid 2 before now None in
      λ i. record {
        instance_uid = start.uid;
        sequence_num = 2;
        agent_description = left_out _ _ d.description i;
        capabilities = now.capabilities;
        health = left_out None _ d.health i;
        effective_config = left_out None _ d.effective i;
        remote_config_status = left_out None _ d.remote i;
        package_statuses = left_out None _ d.packages i;
        agent_disconnect = None;
        flags = 0;
        custom_capabilities = carried_now (Some before.custom) (Some now.custom) _ custom_apart d.custom i;
        custom_message = None;
        available_components = uncarried _ (left_out None _ d.components.0) i;
      }

  pub second_is : entry_of early.agent ≡ second_entry
  second_is =
      one_entry _ (entry_with early.agent None)
      ∙ ap (λ b. record (entry_with early.agent None) { basis = cond (not b) (Some before) None }) not_whole

  pub may_second : may_report early.agent ≡ true
  may_second =
      (λ i. fits_message (message_of (second_is i)) && true)
      ∙ ap (λ m. fits_message m && true) delta_is
      ∙ ap (λ b. b && true) changes_fit

  pub run_is : world start lost_table ≡ at_end
  run_is =
      ap (λ b. run rest_1 (cond b (sends (opening start)) (opening start))) may_first
      ∙ ap (λ e. run rest_1 (sent_with (opening start) e)) first_is
      ∙ ap (λ b. run rest_2 (cond b (sends early) early)) may_second
      ∙ ap (λ e. run rest_2 (sent_with early e)) second_is
      ∙ ap (λ b. run rest_3 (cond b (sends late) late)) may_last
      ∙ ap (λ e. run rest_3 (sent_with late e)) last_is
    where
      rest_3 : List Event
      rest_3 = Delivered 2 nothing ∷ Answered no_reactions ∷ []

      rest_2 : List Event
      rest_2 = Delivered 1 nothing ∷ Answered no_reactions ∷ Sent ∷ rest_3

      rest_1 : List Event
      rest_1 = Delivered 0 nothing ∷ Answered no_reactions ∷ ServerRestarted (codes "http://s0") ∷ Changed (with_custom (codes "x" ∷ [])) ∷ Sent ∷ rest_2
