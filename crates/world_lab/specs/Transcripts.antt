-- What is written of a script's run: one line for each of its lines, as data and as text.
use Rattle.std.specs.Prelude.{ℕ, ◌+◌, ◌-◌, List, [], ◌∷◌, ◌++◌, length, map, Bool, ◌&&◌, if◌then◌else◌, Option, None, Some, is_none, is_some, slice_get, codes}
use Rattle.std.specs.Fmt.{decimal}
use Rattle.std.specs.List.{join_with_byte}
use Rattle.std.specs.Option.{option_map}
use Rattle.hex.specs.Hex.{encode_lower}
use Rattle.plain_values.specs.declared.maps.Pair.{Pair}
use Rattle.plain_values.specs.declared.files.AgentConfigFile.{AgentConfigFile}
use Rattle.message_values.specs.declared.config.AgentRemoteConfig.{AgentRemoteConfig}
use Rattle.message_values.specs.declared.reply.ServerToAgent.{ServerToAgent}
use Rattle.message_values.specs.declared.state.Settings.{Settings}
use Rattle.edge_devices.specs.Names.{are_good_names}
use Rattle.message_reports.specs.Reports.{canonical_report}
use Rattle.message_deltas.specs.Deltas.{whole_report}
use Rattle.agent_rules.specs.Reports.{Entry, message_of}
use Rattle.agent_rules.specs.Half.{AgentHalf, entry_of}
use Rattle.agent_rules.specs.Keeping.{CommitTry, TakeReply, fits}
use Rattle.agent_rules.specs.Calls.{may_report, told}
use Rattle.agent_rules.specs.Offers.{applied_call, next_of, offered_files, without_trial}
use Rattle.agent_rules.specs.Events.{Hears, agent_after}
use Rattle.server_core.specs.declared.offers.Offer.{Offer}
use Rattle.server_core.specs.Offers.{fits_offer}
use Rattle.agent_stopped.specs.Endings.{Ending, Passed, Stopped}
use Rattle.world_model.specs.World.{World, Event, Sent, Answered, push_due, Crashed as CrashedEvent, after, stands, reply_due, entry_held, no_reactions}
use Rattle.world_scripts.specs.Words.{is_url}
use Rattle.world_scripts.specs.declared.lines.Line.{Line}
use Rattle.world_scripts.specs.declared.lines.Line.TheVariants.{Caps, Attr, HealthOk, HealthBad, Effective, Custom, Component, Send, Deliver, Reply, GiveUp, Restart, ServerRestart, OfferConfig, OfferConnection, Stop, Record, Push, TakePush, Active}
use Rattle.world_lab.specs.declared.written.Attempt.{Attempt}
use Rattle.world_lab.specs.declared.written.Attempt.TheVariants.{Tried, Refused}
use Rattle.world_lab.specs.declared.written.TrialEnd.{TrialEnd}
use Rattle.world_lab.specs.declared.written.TrialEnd.TheVariants.{Kept, Abandoned}
use Rattle.world_lab.specs.declared.written.Written.{Written}
use Rattle.world_lab.specs.declared.written.Written.TheVariants.{Nothing, Changed, SentReport, Takes, Asks, Heard, GaveUp, Restarted, Crashed, Armed, Emptied, Offered, Held, Pushed, InUse}
use Rattle.world_lab.specs.Playing.{Progress, endpoint_of, server_at, file_offer, endpoint_offer, after_line, ends, first_progress, push_taken, restart_of, world_of}

-- ---- lines of a transcript

-- a report, by how many were sent before it
abbrev pub sent_line : ℕ → Entry → Written
sent_line before e = SentReport (before + 1) (server_at e.server) e.number (is_none e.basis) (canonical_report (message_of e))

abbrev pub delivered_line : World → ℕ → Option Entry → Written
delivered_line w place None = Nothing
delivered_line w place (Some e) = if stands w place e then Takes (server_at e.server) e.number else Asks (server_at e.server)

-- how a trial ends, if there is one
abbrev pub trial_end : AgentHalf → Option TrialEnd
trial_end a = option_map (λ tried. if a.proved && fits a CommitTry then Kept tried.endpoint else Abandoned tried.endpoint) a.trial

-- an offered configuration is applied: its names are good, and there is room for it
abbrev pub is_applied : AgentHalf → AgentRemoteConfig → Bool
is_applied a offer = are_good_names (offered_files offer).config_map && fits a (applied_call offer)

-- the settings that are tried now, or the endpoint of those that were refused
abbrev pub attempt : Option Settings → Option (List ℕ) → Option Attempt
attempt None refused = option_map Refused refused
attempt (Some tried) refused = Some (Tried tried.endpoint)

-- a reply that such an agent awaits; one for which there is no room isn't taken
abbrev pub heard_line : AgentHalf → ServerToAgent → Written
heard_line a reply =
    if fits a (TakeReply reply) then Heard
    (next_of reply a).full
    (trial_end (told reply a))
    (option_map (is_applied (without_trial (told reply a))) (next_of reply a).config)
    (attempt (agent_after a (Hears reply no_reactions)).trial (next_of reply a).refused)
    else Nothing

abbrev pub answered_line : AgentHalf → Option ServerToAgent → Written
answered_line a None = Nothing
answered_line a (Some reply) = if a.awaits then heard_line a reply else Nothing

abbrev pub given_up_line : AgentHalf → Written
given_up_line a = if a.awaits then GaveUp (option_map (λ tried. tried.endpoint) a.trial) else Nothing

-- an offer to the agent, of which the server holds this entry
abbrev pub offered_line : Option Entry → Offer → Written
offered_line held offer = if is_some held && fits_offer offer then Offered else Nothing

-- the whole report that the record of an entry stands for
abbrev pub record_line : ℕ → Option Entry → Written
record_line server None = Nothing
record_line server (Some e) = Held server e.number (canonical_report (whole_report e.uid e.number e.state None))

-- an agent that starts again
abbrev pub start_line : AgentHalf → Written
start_line a = Restarted a.saved.limit a.saved.settings.endpoint

-- the same behind a crash
abbrev pub crash_line : AgentHalf → Written
crash_line a = Crashed a.saved.limit a.saved.settings.endpoint

-- the line of an event, unless a device call in it was stopped
abbrev pub unless_stopped : World → Event → Ending → Written → Written
unless_stopped w e (Passed image) line = line
unless_stopped w e (Stopped saves image) line = crash_line (after w (CrashedEvent e saves)).agent

-- what is written of a line where no device call is stopped, by the world before it
abbrev pub plain_line : World → Line → Written
plain_line w (Caps bits) = Changed
plain_line w (Attr key text) = Changed
plain_line w HealthOk = Changed
plain_line w (HealthBad text) = Changed
plain_line w (Effective name text) = Changed
plain_line w (Custom name) = Changed
plain_line w (Component name) = Changed
plain_line w Send = if may_report w.agent then sent_line (length w.sent) (entry_of w.agent) else Nothing
plain_line w (Deliver report) = delivered_line w (report - 1) (slice_get w.sent (report - 1))
plain_line w Reply = answered_line w.agent (reply_due w)
plain_line w GiveUp = given_up_line w.agent
plain_line w Restart = start_line w.agent
plain_line w (ServerRestart server) = Emptied server
plain_line w (OfferConfig server name text) = offered_line (entry_held w (endpoint_of server) w.agent.saved.uid) (file_offer name text)
plain_line w (OfferConnection server url) =
    if is_url url then offered_line (entry_held w (endpoint_of server) w.agent.saved.uid) (endpoint_offer url) else Nothing
plain_line w (Stop call mode) = Armed
plain_line w (Record server) = record_line server (entry_held w (endpoint_of server) w.agent.saved.uid)
plain_line w (Push server) = if is_some (push_due w (endpoint_of server) w.agent.saved.uid) then Pushed server else Nothing
plain_line w TakePush = Nothing
plain_line w Active = InUse w.agent.saved.settings.endpoint w.agent.saved.config.config_map

-- what is written of a line
abbrev pub line_written : Progress → Line → Written
line_written p Send = unless_stopped (world_of p) Sent (ends p Sent) (plain_line (world_of p) Send)
line_written p Reply = unless_stopped (world_of p) (Answered no_reactions) (ends p (Answered no_reactions)) (plain_line (world_of p) Reply)
line_written p Restart = unless_stopped (world_of p) (restart_of (world_of p).agent) (ends p (restart_of (world_of p).agent)) (plain_line (world_of p) Restart)
line_written p TakePush = answered_line (world_of p).agent (push_taken p)
line_written p line = plain_line (world_of p) line

abbrev pub written_from : Progress → List Line → List Written
written_from p [] = []
written_from p (line ∷ lines) = line_written p line ∷ written_from (after_line p line) lines

-- the lines of the transcript of a script
abbrev pub lines_written : List Line → List Written
lines_written lines = written_from first_progress lines

-- ---- their text

-- words with a blank between them, ended by a line feed
abbrev pub text_line : List (List ℕ) → List ℕ
text_line words = join_with_byte 32 words ++ 10 ∷ []

abbrev pub form_word : Bool → List ℕ
form_word is_whole = if is_whole then codes "whole" else codes "delta"

abbrev pub full_word : Bool → List ℕ
full_word is_full = if is_full then codes "full" else codes "plain"

abbrev pub trial_words : Option TrialEnd → List (List ℕ)
trial_words None = []
trial_words (Some (Kept endpoint)) = codes "kept" ∷ endpoint ∷ []
trial_words (Some (Abandoned endpoint)) = codes "abandoned" ∷ endpoint ∷ []

abbrev pub config_words : Option Bool → List (List ℕ)
config_words None = []
config_words (Some applied) = codes "config" ∷ (if applied then codes "applied" else codes "failed") ∷ []

abbrev pub attempt_words : Option Attempt → List (List ℕ)
attempt_words None = []
attempt_words (Some (Tried endpoint)) = codes "try" ∷ endpoint ∷ []
attempt_words (Some (Refused endpoint)) = codes "refused" ∷ endpoint ∷ []

abbrev pub abandoned_words : Option (List ℕ) → List (List ℕ)
abandoned_words None = []
abandoned_words (Some endpoint) = codes "abandoned" ∷ endpoint ∷ []

abbrev pub file_word : Pair AgentConfigFile → List ℕ
file_word file = file.key ++ (61 ∷ encode_lower file.value.body)

-- the words of a line
abbrev pub words_of : Written → List (List ℕ)
words_of Nothing = codes "nothing" ∷ []
words_of Changed = codes "changed" ∷ []
words_of (SentReport report server number is_whole bytes) =
    codes "sent" ∷ decimal report ∷ decimal server ∷ decimal number ∷ form_word is_whole ∷ encode_lower bytes ∷ []
words_of (Takes server number) = codes "takes" ∷ decimal server ∷ decimal number ∷ []
words_of (Asks server) = codes "asks" ∷ decimal server ∷ []
words_of (Heard full trial applied attempt) = full_word full ∷ (trial_words trial ++ (config_words applied ++ attempt_words attempt))
words_of (GaveUp abandoned) = codes "gave-up" ∷ abandoned_words abandoned
words_of (Restarted number endpoint) = codes "restarted" ∷ decimal number ∷ endpoint ∷ []
words_of (Crashed number endpoint) = codes "crashed" ∷ decimal number ∷ endpoint ∷ []
words_of Armed = []
words_of (Emptied server) = codes "emptied" ∷ decimal server ∷ []
words_of Offered = codes "offered" ∷ []
words_of (Pushed server) = codes "pushed" ∷ decimal server ∷ []
words_of (Held server number bytes) = codes "record" ∷ decimal server ∷ decimal number ∷ encode_lower bytes ∷ []
words_of (InUse endpoint files) = codes "active" ∷ endpoint ∷ map file_word files

-- a line; of a stop that is armed nothing is written
abbrev pub text_of : Written → List ℕ
text_of Armed = []
text_of written = text_line (words_of written)

abbrev pub text_of_all : List Written → List ℕ
text_of_all [] = []
text_of_all (line ∷ lines) = text_of line ++ text_of_all lines

-- the transcript of a script
abbrev pub transcript_of : List Line → List ℕ
transcript_of lines = text_of_all (lines_written lines)
