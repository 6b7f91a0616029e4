-- What each call of an agent keeps.
use Rattle.std.specs.Prelude.{ℕ, ◌+◌, List, [], length, Bool, true, false, not, ◌&&◌, ◌||◌, ◌==◌, nat_le, if◌then◌else◌, Option, None, Some, is_some, unwrap_or, bytes_eq}
use Rattle.std.specs.Option.{option_and_then, option_map_or}
use Rattle.plain_values.specs.declared.files.AgentConfigMap.{AgentConfigMap}
use Rattle.message_values.specs.declared.config.RemoteConfigStatus.{RemoteConfigStatus}
use Rattle.message_values.specs.declared.custom.CustomMessage.{CustomMessage}
use Rattle.message_values.specs.declared.packages.PackageStatuses.{PackageStatuses}
use Rattle.message_values.specs.declared.reply.ServerToAgent.{ServerToAgent}
use Rattle.message_values.specs.declared.state.Settings.{Settings}
use Rattle.message_values.specs.declared.profile.TheConstants.{REPORT_FULL_STATE}
use Rattle.agent_rules.specs.declared.saved.Saved.{Saved}
use Rattle.message_deltas.specs.Obligations.{has_bit}
use Rattle.agent_rules.specs.Payloads.{canonical_saved}
use Rattle.agent_rules.specs.declared.rules.parts.LocalState.{LocalState}
use Rattle.agent_rules.specs.declared.rules.parts.TheConstants.{RESERVED_BLOCK}
pub use Rattle.agent_rules.specs.declared.rules.replies.Heard.{Heard}
pub use Rattle.agent_rules.specs.declared.rules.replies.Heard.TheVariants.{Commanded, Failed, Asked, Plain}
use Rattle.agent_rules.specs.Reports.{where_true}
use Rattle.agent_rules.specs.Half.{AgentHalf, target}

-- the calls that change an agent
pub data Call : Type 0 where
  Change : (now : LocalState) → Call
  Report : Call
  TakeReply : (reply : ServerToAgent) → Call
  GiveUp : Call
  CommitTry : Call
  AbandonTry : Call
  -- with the files that were applied, if any were
  ConfigDone : (applied : Option AgentConfigMap) (status : RemoteConfigStatus) → Call
  PackagesDone : (statuses : PackageStatuses) → Call
  Say : (message : CustomMessage) → Call
  BeginTry : (next : Settings) → Call

-- What a reply says to the agent itself: of one with a command all else is ignored, and one with an error counts as no answer.
abbrev pub heard_in : ServerToAgent → Heard
heard_in reply =
    if is_some reply.command then Commanded
    else if is_some reply.error_response then Failed
    else if has_bit reply.flags REPORT_FULL_STATE then Asked
    else Plain

-- the new identifier that a reply gives; one that hasn't 16 bytes is ignored
abbrev pub new_uid : ServerToAgent → Option (List ℕ)
new_uid reply = option_and_then (λ given. where_true (length given.new_instance_uid == 16) given.new_instance_uid) reply.agent_identification

-- the hash of the components that the last report told
abbrev pub told_hash : AgentHalf → List ℕ
told_hash a = unwrap_or (option_and_then (λ state. state.components) a.last) []

-- what is in use once a server gave an identifier, or answered the details of the components
abbrev pub taught : AgentHalf → ServerToAgent → Bool → Saved
taught a reply answered = record (a.saved) {
  uid = unwrap_or (new_uid reply) a.saved.uid;
  uid_given = a.saved.uid_given || is_some (new_uid reply);
  components_hash = if answered && a.detailed then told_hash a else a.saved.components_hash;
}

-- the two are of one identifier, as it was given, and of one hash of components
abbrev pub teaches_nothing : Saved → Saved → Bool
teaches_nothing old new = bytes_eq old.uid new.uid && ((old.uid_given || not new.uid_given) && bytes_eq old.components_hash new.components_hash)

abbrev pub kept_of_reply : AgentHalf → Heard → ServerToAgent → Option Saved
kept_of_reply a Commanded reply = None
kept_of_reply a Failed reply = None
kept_of_reply a Asked reply = where_true (not (teaches_nothing a.saved (taught a reply false))) (taught a reply false)
kept_of_reply a Plain reply = where_true (not (teaches_nothing a.saved (taught a reply true))) (taught a reply true)

-- with the settings under trial as its own
abbrev pub with_settings : AgentHalf → Saved
with_settings a = record (a.saved) { settings = target a }

-- what a call keeps, if it keeps anything: no call keeps twice
abbrev pub kept_by : AgentHalf → Call → Option Saved
kept_by a (Change now) = None
kept_by a Report = where_true (a.next == a.saved.limit) (record (a.saved) { limit = a.saved.limit + RESERVED_BLOCK })
kept_by a (TakeReply reply) = kept_of_reply a (heard_in reply) reply
kept_by a GiveUp = None
kept_by a CommitTry = Some (with_settings a)
kept_by a AbandonTry = None
kept_by a (ConfigDone None status) = Some (record (a.saved) { remote = status })
kept_by a (ConfigDone (Some applied) status) = Some (record (a.saved) { config = applied; config_hash = status.last_remote_config_hash; remote = status })
kept_by a (PackagesDone statuses) = Some (record (a.saved) { packages = statuses })
kept_by a (Say message) = None
kept_by a (BeginTry next) = None

-- what is kept is within the room
abbrev pub fits_room : ℕ → Option Saved → Bool
fits_room room part = option_map_or (λ s. nat_le (length (canonical_saved s)) room) part true

abbrev pub fits : AgentHalf → Call → Bool
fits a call = fits_room a.room (kept_by a call)

-- the agent with this as what it keeps
abbrev pub keeping : Option Saved → AgentHalf → AgentHalf
keeping None a = a
keeping (Some s) a = record a { saved = s; is_kept = true }

-- the agent once the call has kept what it keeps
abbrev pub kept : AgentHalf → Call → AgentHalf
kept a call = keeping (kept_by a call) a
