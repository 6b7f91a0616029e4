-- The run in which an agent stops in its first report, step by step.
use Rattle.std.proofs.Common.{◌≡◌, List, [], ◌∷◌, ◌++◌, true, cond, ◌&&◌, None, refl, ◌∙◌, ap}
use Rattle.std.specs.Option.{option_to_list}
use Rattle.message_codec.specs.Varint.{varint, groups_of}
use Rattle.message_deltas.specs.Deltas.{whole_report}
use Rattle.message_reports.specs.Reports.{canonical_report}
use Rattle.agent_rules.specs.Payloads.{canonical_saved}
use Rattle.agent_rules.specs.Reports.{Entry, fits_message, message_of}
use Rattle.agent_rules.specs.Half.{AgentHalf, entry_with, entry_of, restarted}
use Rattle.agent_rules.specs.Keeping.{Report, kept_by, fits}
use Rattle.agent_rules.specs.Calls.{may_report, call_after, saves_of}
use Rattle.agent_rules.specs.Events.{keeping_first}
use Rattle.world_model.specs.World.{World, Event, Sent, Delivered, Answered, Restarted, no_reactions, sends, run, opening, world}
use Rattle.world_model.specs.Example.{start, nothing, stopped_report}
use Rattle.world_model.proofs.LostTable.{before, numbers_fit, one_entry, sent_with, may_first}

abbrev first : AgentHalf
first = (opening start).agent

-- the world once the agent stopped
abbrev stopped : World
stopped = record (opening start) { agent = restarted (keeping_first 1 (option_to_list (kept_by first Report) ++ []) first) }

abbrev early_entry : Entry
early_entry = entry_with stopped.agent None

-- the world before the last report
abbrev late : World
late = run (Delivered 0 nothing ∷ Answered no_reactions ∷ Restarted start.local start.asks_uid ∷ []) (sent_with stopped early_entry)

abbrev late_entry : Entry
late_entry = entry_with late.agent None

-- the world at the end
abbrev pub at_end : World
at_end = sent_with late late_entry

early_fits : fits_message (whole_report start.uid 1025 before None) ≡ true
unfolding canonical_report fits_message varint groups_of
early_fits = refl

late_fits : fits_message (whole_report start.uid 2049 before None) ≡ true
unfolding canonical_report fits_message varint groups_of
late_fits = refl

early_numbers : fits stopped.agent Report ≡ true
unfolding canonical_saved varint groups_of
early_numbers = refl

late_numbers : fits late.agent Report ≡ true
unfolding canonical_saved varint groups_of
late_numbers = refl

early_is : entry_of stopped.agent ≡ early_entry
early_is = one_entry _ early_entry

late_is : entry_of late.agent ≡ late_entry
late_is = one_entry _ late_entry

may_early : may_report stopped.agent ≡ true
may_early = (λ i. fits_message (message_of (early_is i)) && early_numbers i) ∙ ap (λ b. b && true) early_fits

may_late : may_report late.agent ≡ true
may_late = (λ i. fits_message (message_of (late_is i)) && late_numbers i) ∙ ap (λ b. b && true) late_fits

pub run_is : world start stopped_report ≡ at_end
run_is =
    ap (λ b. run rest_1 (record (opening start) { agent = restarted (keeping_first 1 (saves_of first (cond b (Report ∷ []) [])) first) })) may_first
    ∙ ap (λ b. run rest_1 (record (opening start) { agent = restarted (keeping_first 1 (cond b (option_to_list (kept_by first Report) ++ saves_of (call_after first Report) []) []) first) })) numbers_fit
    ∙ ap (λ b. run rest_2 (cond b (sends stopped) stopped)) may_early
    ∙ ap (λ e. run rest_2 (sent_with stopped e)) early_is
    ∙ ap (λ b. cond b (sends late) late) may_late
    ∙ ap (sent_with late) late_is
  where
    rest_2 : List Event
    rest_2 = Delivered 0 nothing ∷ Answered no_reactions ∷ Restarted start.local start.asks_uid ∷ Sent ∷ []

    rest_1 : List Event
    rest_1 = Sent ∷ rest_2
