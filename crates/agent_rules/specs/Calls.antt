-- What each call of an agent leaves.
use Rattle.std.specs.Prelude.{◌+◌, List, [], ◌∷◌, ◌++◌, Bool, true, false, not, ◌&&◌, ◌||◌, ◌==◌, nat_le, if◌then◌else◌, Option, None, Some, is_some, bytes_eq}
use Rattle.std.specs.Option.{option_map, option_or, option_to_list}
use Rattle.message_values.specs.declared.custom.CustomMessage.{CustomMessage}
use Rattle.plain_values.specs.declared.files.AgentConfigMap.{AgentConfigMap}
use Rattle.message_values.specs.declared.config.RemoteConfigStatus.{RemoteConfigStatus}
use Rattle.message_values.specs.declared.packages.PackageStatuses.{PackageStatuses}
use Rattle.message_values.specs.declared.reply.ServerToAgent.{ServerToAgent}
use Rattle.message_values.specs.declared.state.Settings.{Settings}
use Rattle.message_values.specs.declared.profile.TheConstants.{REPORT_AVAILABLE_COMPONENTS}
use Rattle.agent_rules.specs.declared.saved.Saved.{Saved}
use Rattle.message_deltas.specs.Obligations.{has_bit}
use Rattle.agent_rules.specs.declared.rules.parts.LocalState.{LocalState}
use Rattle.agent_rules.specs.declared.rules.parts.TheConstants.{LAST_LIMIT}
use Rattle.agent_rules.specs.Reports.{message_of, fits_message}
use Rattle.agent_rules.specs.Half.{AgentHalf, state_now, entry_of, due_details}
use Rattle.agent_rules.specs.Keeping.{Call, Change, Report, TakeReply, GiveUp, CommitTry, AbandonTry, ConfigDone, PackagesDone, Say, BeginTry, Heard, Commanded, Failed, Asked, Plain, heard_in, taught, kept, kept_by, fits}

-- once it knows this of itself
abbrev pub changed : LocalState → AgentHalf → AgentHalf
changed now a = record a { local = now }

-- there is a number for the next report
abbrev pub has_number : AgentHalf → Bool
has_number a = not (a.next == a.saved.limit) || nat_le a.saved.limit LAST_LIMIT

-- no answer is awaited, the report isn't too large, there is a number for it, and the store has room for the numbers
abbrev pub may_report : AgentHalf → Bool
may_report a = not a.awaits && (fits_message (message_of (entry_of a)) && (has_number a && fits a Report))

-- once a report was made: its number is used, its answer is awaited, and no custom message waits
abbrev pub reported : AgentHalf → AgentHalf
reported a = record (kept a Report) {
  next = a.next + 1;
  awaits = true;
  last = Some (state_now a);
  detailed = due_details a;
  linked = false;
  wants_details = false;
  message = None;
}

abbrev pub told_by : Heard → ServerToAgent → AgentHalf → AgentHalf
told_by Commanded reply a = record a { awaits = false; linked = true; proved = false }
told_by Failed reply a = record a { awaits = false; proved = false }
told_by Asked reply a = record (kept a (TakeReply reply)) { awaits = false; proved = false }
told_by Plain reply a = record (kept a (TakeReply reply)) {
  awaits = false;
  linked = bytes_eq a.saved.uid (taught a reply true).uid;
  wants_details = has_bit reply.flags REPORT_AVAILABLE_COMPONENTS;
  proved = is_some a.trial;
}

-- once a reply says this; an ignored wish for the full state counts as none
abbrev pub told : ServerToAgent → AgentHalf → AgentHalf
told reply a = told_by (heard_in reply) reply a

-- once the last report counts as unanswered
abbrev pub given_up : AgentHalf → AgentHalf
given_up a = record a { awaits = false }

-- once the settings under trial are its own
abbrev pub trial_kept : AgentHalf → AgentHalf
trial_kept a = record (kept a CommitTry) { trial = None; proved = false }

-- once they aren't tried any longer
abbrev pub trial_left : AgentHalf → AgentHalf
trial_left a = record a { trial = None; proved = false; abandoned = option_or (option_map (λ tried. tried.hash) a.trial) a.abandoned; linked = false }

-- once a configuration was applied, or failed
abbrev pub config_done : Option AgentConfigMap → RemoteConfigStatus → AgentHalf → AgentHalf
config_done applied status a = kept a (ConfigDone applied status)

-- once packages were seen to
abbrev pub packages_done : PackageStatuses → AgentHalf → AgentHalf
packages_done statuses a = kept a (PackagesDone statuses)

-- once it has this to say
abbrev pub said : CustomMessage → AgentHalf → AgentHalf
said message a = record a { message = Some message }

-- once these settings are tried
abbrev pub trial_begun : Settings → AgentHalf → AgentHalf
trial_begun next a = record a { trial = Some next; proved = false; linked = false }

-- what a call leaves
abbrev pub call_after : AgentHalf → Call → AgentHalf
call_after a (Change now) = changed now a
call_after a Report = reported a
call_after a (TakeReply reply) = told reply a
call_after a GiveUp = given_up a
call_after a CommitTry = trial_kept a
call_after a AbandonTry = trial_left a
call_after a (ConfigDone applied status) = config_done applied status a
call_after a (PackagesDone statuses) = packages_done statuses a
call_after a (Say message) = said message a
call_after a (BeginTry next) = trial_begun next a

-- what calls leave, one after another, up to the first that keeps more than there is room for
abbrev pub calls_after : AgentHalf → List Call → AgentHalf
calls_after a [] = a
calls_after a (call ∷ calls) = if fits a call then calls_after (call_after a call) calls else a

-- what they keep, in order
abbrev pub saves_of : AgentHalf → List Call → List Saved
saves_of a [] = []
saves_of a (call ∷ calls) = if fits a call then option_to_list (kept_by a call) ++ saves_of (call_after a call) calls else []
