-- What deliveries, offers and restarts make of the servers of a play that mirrors a world.
use Rattle.std.proofs.Common.{◌≡◌, ◌∙◌, ℕ, ◌<◌, List, [], ◌∷◌, ◌++◌, length, set, Bool, true, false, not, ◌&&◌, cond, nat_eq, Option, Some, None, slice_get, ap, sym, subst, refl, arith}
use Rattle.std.proofs.lemmas.Bool.Decides.{nat_tests}
use Rattle.std.specs.Option.{option_map}
use Rattle.std.specs.Str.{bytes_eq}
use Rattle.plain_values.specs.declared.files.AgentConfigMap.{AgentConfigMap}
use Rattle.message_values.specs.declared.connection.ConnectionSettingsOffers.{ConnectionSettingsOffers}
use Rattle.message_values.specs.declared.connection.OpAMPConnectionSettings.{OpAMPConnectionSettings}
use Rattle.message_values.specs.declared.report.AgentToServer.{AgentToServer}
use Rattle.message_values.specs.declared.reply.AgentIdentification.{AgentIdentification}
use Rattle.message_values.specs.declared.reply.ServerToAgent.{ServerToAgent}
use Rattle.message_values.specs.declared.reply.ServerErrorResponse.{ServerErrorResponse}
use Rattle.message_values.specs.declared.state.State.{State}
use Rattle.message_values.specs.declared.profile.TheConstants.{REQUEST_INSTANCE_UID}
use Rattle.message_deltas.specs.Obligations.{has_bit}
use Rattle.server_core.specs.declared.offers.Offers.{Offers}
use Rattle.server_core.specs.declared.replies.Profile.{Profile}
use Rattle.server_core.specs.Lengths.{fits_reply}
use Rattle.server_core.specs.Served.{Served}
use Rattle.server_core.specs.declared.offers.Offer.{Offer}
use Rattle.server_core.specs.declared.offers.Offer.TheVariants.{Config as ConfigOffer, Connection as ConnectionOffer}
use Rattle.server_core.specs.Offers.{offers_with, where_due}
use Rattle.server_core.specs.Replies.{Dues, Verdict, Unidentified, CrowdedOut, Passed, Taken, accepting_reply, bad_identifier, error_alone, identification, too_many_agents, reply_to}
use Rattle.server_core.specs.History.{Event as ServerEvent, Reported, Offered as OfferMade, due_reply}
use Rattle.server_core.specs.Table.{Table, table_after, table_of, table_reply}
use Rattle.agent_rules.specs.Half.{AgentHalf}
use Rattle.agent_rules.specs.Reports.{Entry, report_on, message_of}
use Rattle.world_model.specs.World.{World, Holding, Delivered, Offered, ServerRestarted, after, asks_full, carrying, changes_held, delivers, dues_with, holding_with, offers_at, put_at, reply_at, server_to, stands, verdict_in, with_offer}
use Rattle.world_model.specs.Servers.{arrives}
use Rattle.world_lab.specs.declared.plays.SentReport.{SentReport}
use Rattle.world_lab.specs.declared.written.Written.TheVariants.{Takes, Asks}
use Rattle.world_lab.specs.Playing.{endpoint_of, server_at, lab_profile, nothing_given, script_start}
use Rattle.world_lab.specs.Transcripts.{delivered_line}
use Rattle.world_lab.specs.Histories.{server_after}
use Rattle.world_lab.specs.Serving.{delivery_line}
use Rattle.world_lab.specs.Mirrors.{IsOffered, IsOfferedOne, IsReply, IsSentAs, AreOffers, AreSent, MirrorsWorld, kept_at}
use Rattle.world_lab.proofs.Mirroring.{reached_after}
use Rattle.world_lab.proofs.Sent.{some_same, sent_set, kept_set}
use Rattle.world_lab.proofs.Numbers.{servers_after, server_set, server_is}

-- the table of a server follows
abbrev pub Follow : Type 0
Follow = (history : List ServerEvent) (e : ServerEvent) → table_after (table_of history) e ≡ table_of (history ++ e ∷ [])

-- and its replies are those that are due
abbrev pub Reply : Type 0
Reply = (server : Profile) (history : List ServerEvent) (m : AgentToServer) (fresh : Option (List ℕ)) → table_reply server (table_of history) m fresh ≡ due_reply server history m fresh

-- ---- replies

number_on : (basis : Option State) (e : Entry) → (report_on basis e).sequence_num ≡ e.number
number_on None e = refl
number_on (Some before) e = refl

uid_on : (basis : Option State) (e : Entry) → (report_on basis e).instance_uid ≡ e.uid
uid_on None e = refl
uid_on (Some before) e = refl

-- what is written of a delivery is what the world says
pub delivery_text : (w : World) (place : ℕ) (r : SentReport) (e : Entry) (reply : ServerToAgent) → IsSentAs r e → asks_full reply ≡ not (stands w place e)
    → delivery_line r reply ≡ delivered_line w place (Some e)
delivery_text w place r e reply is flag =
    let number : r.message.sequence_num ≡ e.number = ap (λ m. m.sequence_num) is.message ∙ number_on e.basis e in
    let server : r.server ≡ server_at e.server = sym (server_is r.server) ∙ ap server_at is.server in
    ap (λ (b : Bool). cond b (Asks r.server) (Takes r.server r.message.sequence_num)) flag
    ∙ ap (λ (s : ℕ). cond (not (stands w place e)) (Asks s) (Takes s r.message.sequence_num)) server
    ∙ ap (λ (n : ℕ). cond (not (stands w place e)) (Asks (server_at e.server)) (Takes (server_at e.server) n)) number
    ∙ turned (stands w place e)
  where
    turned : (b : Bool) → cond (not b) (Asks (server_at e.server)) (Takes (server_at e.server) e.number) ≡ cond b (Takes (server_at e.server) e.number) (Asks (server_at e.server))
    turned true = refl
    turned false = refl

-- no reply has a message of its own
error_alone_carries : (uid : List ℕ) (error : ServerErrorResponse) → carrying None (error_alone uid error) ≡ error_alone uid error
error_alone_carries uid error = refl

pub carries_none : (server : Profile) (m : AgentToServer) (v : Verdict) → carrying None (reply_to server m None v) ≡ reply_to server m None v
carries_none server m Unidentified = by_length (fits_reply (error_alone m.instance_uid bad_identifier))
  where
    by_length : (b : Bool) → carrying None (cond b (error_alone m.instance_uid bad_identifier) (error_alone [] bad_identifier)) ≡ cond b (error_alone m.instance_uid bad_identifier) (error_alone [] bad_identifier)
    by_length true = refl
    by_length false = refl
carries_none server m CrowdedOut = by_length (fits_reply (error_alone m.instance_uid too_many_agents))
  where
    by_length : (b : Bool) → carrying None (cond b (error_alone m.instance_uid too_many_agents) (error_alone [] too_many_agents)) ≡ cond b (error_alone m.instance_uid too_many_agents) (error_alone [] too_many_agents)
    by_length true = refl
    by_length false = refl
carries_none server m Passed = refl
carries_none server m (Taken due) = by_parts due.restart due.details
  where
    by_parts : (restart details : Bool) → carrying None (accepting_reply server m None (record { restart = restart; offers = due.offers; details = details })) ≡ accepting_reply server m None (record { restart = restart; offers = due.offers; details = details })
    by_parts true details = refl
    by_parts false true = refl
    by_parts false false = refl

no_identification : (m : AgentToServer) → identification m None ≡ None
no_identification m = by_flag (has_bit m.flags REQUEST_INSTANCE_UID)
  where
    by_flag : (b : Bool) → cond b (option_map {U = AgentIdentification} (λ (uid : List ℕ). record { new_instance_uid = uid }) None) None ≡ None
    by_flag true = refl
    by_flag false = refl

-- what is due of what stands at a lab's server
pub none_due : {T : Type 0} (is_due : T → Bool) (standing : Option T) → standing ≡ None → where_due is_due standing ≡ None
none_due is_due standing none = ap (where_due is_due) none

pub connection_due : (is_due : ConnectionSettingsOffers → Bool) (standing : Option ConnectionSettingsOffers) → IsOfferedOne standing → IsOfferedOne (where_due is_due standing)
connection_due is_due None is = tt
connection_due is_due (Some offer) is = by_test (is_due offer)
  where
    by_test : (b : Bool) → IsOfferedOne (cond b (Some offer) None)
    by_test true = is
    by_test false = tt

pub reply_is_one : (w : World) (place : ℕ) (e : Entry) → e.uid ≡ script_start.uid → AreOffers (offers_at (w.held (server_to w e) e.uid)) → IsReply (reply_at w place e nothing_given)
reply_is_one w place e uid offers = subst IsReply (sym (carries_none (w.profiles (server_to w e)) (message_of e) (verdict_in w place e))) (by_verdict (stands w place e))
  where
    m : AgentToServer
    m = message_of e

    due : Dues
    due = dues_with w.sent (w.held (server_to w e) e.uid) place e

    by_restart : (b : Bool) → IsReply (accepting_reply (w.profiles (server_to w e)) m None (record { restart = b; offers = due.offers; details = due.details }))
    by_restart true = record { uid = uid_on e.basis e ∙ uid; given = refl; packages = refl; connection = tt }
    by_restart false = record {
      uid = uid_on e.basis e ∙ uid;
      given = no_identification m;
      packages = none_due _ _ offers.packages;
      connection = connection_due _ _ offers.connection;
    }

    by_verdict : (b : Bool) → IsReply (reply_to (w.profiles (server_to w e)) m None (cond b (Taken due) Passed))
    by_verdict true = by_restart due.restart
    by_verdict false = record { uid = uid_on e.basis e ∙ uid; given = no_identification m; packages = refl; connection = tt }

-- ---- deliveries

pub same_place : (place : ℕ) → nat_eq place place ≡ true
same_place place = grind (arith, nat_tests)

-- the reply of a server to a report that is delivered there is the world's
pub replied : Reply → (w : World) (history : List ℕ → List ServerEvent) (place : ℕ) (r : SentReport) (e : Entry) (server : Served) (reply : ServerToAgent)
    → IsSentAs r e → server ≡ server_after (history (endpoint_of r.server)) → reply ≡ table_reply server.profile server.table r.message None
    → slice_get w.sent place ≡ Some e
    → (after w (Delivered place nothing_given)).replies place ≡ Some (carrying None (due_reply lab_profile (history e.server) (message_of e) None))
    → reply ≡ reply_at w place e nothing_given
replied replies w history place r e server reply is server_is reply_is at due =
    let there : (after w (Delivered place nothing_given)).replies place ≡ Some (reply_at w place e nothing_given) =
    ap (λ (o : Option Entry). (delivers w place nothing_given o).replies place) at
    ∙ ap (λ (b : Bool). cond b (Some (reply_at w place e nothing_given)) (w.replies place)) (same_place place) in
    reply_is
    ∙ ap (λ s. table_reply s.profile s.table r.message None) server_is
    ∙ ap (λ m. table_reply lab_profile (table_of (history (endpoint_of r.server))) m None) is.message
    ∙ ap (λ (s : List ℕ). table_reply lab_profile (table_of (history s)) (message_of e) None) is.server
    ∙ replies lab_profile (history e.server) (message_of e) None
    ∙ sym (carries_none lab_profile (message_of e) _)
    ∙ some_same (sym due ∙ there)

-- the server after an event there
server_follows : Follow → (history : List ServerEvent) (event : ServerEvent) (server server' : Served)
    → server ≡ server_after history → server' ≡ record server { table = table_after server.table event }
    → server' ≡ server_after (history ++ event ∷ [])
server_follows follows history event server server' server_is step =
    step
    ∙ ap (λ s. with_table s (table_after s.table event)) server_is
    ∙ ap (λ t. with_table (server_after history) t) (follows history event)
  where
    with_table : Served → Table → Served
    with_table s t = record s { table = t }

-- what is held once an entry is
held_with : (found : Option Holding) (place : ℕ) (e : Entry) → AreOffers (offers_at found) → AreOffers (offers_at (Some (holding_with found place e)))
held_with found place e are = are

put_held : (b : Bool) (now : Holding) (was : Option Holding) → AreOffers (offers_at (Some now)) → AreOffers (offers_at was) → AreOffers (offers_at (cond b (Some now) was))
put_held true now was here there = here
put_held false now was here there = there

-- a report reaches its server
pub world_delivered : (w : World) → w.server_of ≡ script_start.server_of → Follow → (history : List ℕ → List ServerEvent) (a : AgentHalf) (sent sent' : List SentReport) (servers servers' : List Served)
    (place : ℕ) (r r' : SentReport) (e : Entry) (server server' : Served) (reply : ServerToAgent)
    → MirrorsWorld w history a sent servers
    → slice_get w.sent place ≡ Some e → IsSentAs r e → place < length sent → reply ≡ reply_at w place e nothing_given
    → r' ≡ record r { reply = Some reply } → sent' ≡ set sent place r'
    → server ≡ server_after (history (endpoint_of r.server)) → server' ≡ record server { table = table_after server.table (Reported r.message) } → servers' ≡ set servers r.server server'
    → MirrorsWorld (after w (Delivered place nothing_given)) (reached_after w history (Delivered place nothing_given)) a sent' servers'
world_delivered w there follows history a sent sent' servers servers' place r r' e server server' reply m at is within reply_is kept sent_is server_is step servers_is =
    subst (λ (o : Option Entry). MirrorsWorld (delivers w place nothing_given o) (λ endpoint. arrives endpoint w (history endpoint) o) a sent' servers') (sym at) (record {
      agent_is = m.agent_is;
      sent_are = subst (λ (rs : List SentReport). AreSent rs w.sent) (sym sent_is) (sent_set sent w.sent place r' e m.sent_are at is');
      replies_are = λ k. ap (λ (rs : List SentReport). kept_at rs k) sent_is ∙ kept_set sent r' place k within ∙ kept_there k (nat_eq k place);
      offers_are = λ s u. offers_there s u (stands w place e);
      servers_are =
          servers_is
          ∙ ap (λ (ss : List Served). set ss r.server server') m.servers_are
          ∙ ap (λ s. set (servers_after history) r.server s) (server_follows follows (history (endpoint_of r.server)) (Reported r.message) server server' server_is step ∙ ap (λ x. server_after (history (endpoint_of r.server) ++ Reported x ∷ [])) is.message)
          ∙ server_set history (λ endpoint. history endpoint ++ Reported (message_of e) ∷ []) r.server is.digit
          ∙ by_endpoint;
    })
  where
    is_one : IsReply reply
    is_one = subst IsReply (sym reply_is) (reply_is_one w place e is.uid (m.offers_are (server_to w e) e.uid))

    is' : IsSentAs r' e
    is' = subst (λ x. IsSentAs x e) (sym kept) (record { message = is.message; uid = is.uid; server = is.server; digit = is.digit; reply = is_one })

    kept_there : (k : ℕ) (b : Bool) → cond b r'.reply (kept_at sent k) ≡ cond b (Some (reply_at w place e nothing_given)) (w.replies k)
    kept_there k true = ap (λ x. x.reply) kept ∙ ap (λ x. Some x) reply_is
    kept_there k false = m.replies_are k

    now : Holding
    now = holding_with (w.held (server_to w e) e.uid) place e

    offers_there : (s u : List ℕ) (b : Bool) → AreOffers (offers_at ((cond b (put_at w.held (server_to w e) e.uid now) w.held) s u))
    offers_there s u true = put_held (bytes_eq (server_to w e) s && bytes_eq e.uid u) now (w.held s u) (held_with (w.held (server_to w e) e.uid) place e (m.offers_are (server_to w e) e.uid)) (m.offers_are s u)
    offers_there s u false = m.offers_are s u

    by_endpoint : servers_after (λ endpoint. cond (bytes_eq (endpoint_of r.server) endpoint) (history endpoint ++ Reported (message_of e) ∷ []) (history endpoint)) ≡ servers_after (λ endpoint. arrives endpoint w (history endpoint) (Some e))
    by_endpoint = ap (λ (s : List ℕ). servers_after (λ endpoint. cond (bytes_eq s endpoint) (history endpoint ++ Reported (message_of e) ∷ []) (history endpoint))) (is.server ∙ ap (λ (f : List ℕ → List ℕ). f e.server) (sym there))

-- there is no such report
pub world_undelivered : (w : World) (history : List ℕ → List ServerEvent) (a : AgentHalf) (sent : List SentReport) (servers : List Served) (place : ℕ)
    → MirrorsWorld w history a sent servers → slice_get w.sent place ≡ None
    → MirrorsWorld (after w (Delivered place nothing_given)) (reached_after w history (Delivered place nothing_given)) a sent servers
world_undelivered w history a sent servers place m none =
    subst (λ (o : Option Entry). MirrorsWorld (delivers w place nothing_given o) (λ endpoint. arrives endpoint w (history endpoint) o) a sent servers) (sym none) (record {
      agent_is = m.agent_is;
      sent_are = m.sent_are;
      replies_are = m.replies_are;
      offers_are = m.offers_are;
      servers_are = m.servers_are;
    })

-- a server restarts
pub world_emptied : (w : World) (history : List ℕ → List ServerEvent) (a : AgentHalf) (sent : List SentReport) (servers servers' : List Served) (number : ℕ) (server' : Served)
    → MirrorsWorld w history a sent servers → number < 10 → server' ≡ server_after [] → servers' ≡ set servers number server'
    → MirrorsWorld (after w (ServerRestarted (endpoint_of number))) (reached_after w history (ServerRestarted (endpoint_of number))) a sent servers'
world_emptied w history a sent servers servers' number server' m digit fresh servers_is = record {
  agent_is = m.agent_is;
  sent_are = m.sent_are;
  replies_are = m.replies_are;
  offers_are = λ s u. left s u (bytes_eq (endpoint_of number) s);
  servers_are = servers_is ∙ ap (λ (ss : List Served). set ss number server') m.servers_are ∙ ap (λ s. set (servers_after history) number s) fresh ∙ server_set history (λ endpoint. []) number digit;
}
  where
    left : (s u : List ℕ) (b : Bool) → AreOffers (offers_at (cond b None (w.held s u)))
    left s u true = record { packages = refl; connection = tt }
    left s u false = m.offers_are s u

-- ---- offers

-- what a lab's server offers
pub record IsScriptOffer (offer : Offer) : Type 0 where
  pub stays : (standing : Offers) → AreOffers standing → AreOffers (offers_with standing offer)

pub file_is_offer : (files : AgentConfigMap) → IsScriptOffer (ConfigOffer files)
file_is_offer files = record { stays = λ standing are. record { packages = are.packages; connection = are.connection } }

pub connection_is_offer : (settings : OpAMPConnectionSettings) → IsOffered settings.destination_endpoint → IsScriptOffer (ConnectionOffer settings)
connection_is_offer settings is = record { stays = λ standing are. record { packages = are.packages; connection = is } }

-- an offer is made at a server
pub world_offered : Follow → (w : World) (history : List ℕ → List ServerEvent) (a : AgentHalf) (sent : List SentReport) (servers servers' : List Served)
    (number : ℕ) (uid : List ℕ) (offer : Offer) (server server' : Served)
    → MirrorsWorld w history a sent servers → number < 10 → IsScriptOffer offer
    → server ≡ server_after (history (endpoint_of number)) → server' ≡ record server { table = table_after server.table (OfferMade uid offer) } → servers' ≡ set servers number server'
    → (fits : Bool)
    → MirrorsWorld (cond fits (changes_held (with_offer offer) w (endpoint_of number) uid (w.held (endpoint_of number) uid)) w) (reached_after w history (Offered (endpoint_of number) uid offer)) a sent servers'
world_offered follows w history a sent servers servers' number uid offer server server' m digit is server_is step servers_is fits = by_fits fits
  where
    at_servers : servers' ≡ servers_after (λ endpoint. cond (bytes_eq (endpoint_of number) endpoint) (history endpoint ++ OfferMade uid offer ∷ []) (history endpoint))
    at_servers =
        servers_is
        ∙ ap (λ (ss : List Served). set ss number server') m.servers_are
        ∙ ap (λ s. set (servers_after history) number s) (server_follows follows (history (endpoint_of number)) (OfferMade uid offer) server server' server_is step)
        ∙ server_set history (λ endpoint. history endpoint ++ OfferMade uid offer ∷ []) number digit

    same : MirrorsWorld w (reached_after w history (Offered (endpoint_of number) uid offer)) a sent servers'
    same = record { agent_is = m.agent_is; sent_are = m.sent_are; replies_are = m.replies_are; offers_are = m.offers_are; servers_are = at_servers }

    by_held : (found : Option Holding) → w.held (endpoint_of number) uid ≡ found
        → MirrorsWorld (changes_held (with_offer offer) w (endpoint_of number) uid found) (reached_after w history (Offered (endpoint_of number) uid offer)) a sent servers'
    by_held None none = same
    by_held (Some h) held = record {
      agent_is = m.agent_is;
      sent_are = m.sent_are;
      replies_are = m.replies_are;
      offers_are = λ s u. put_held (bytes_eq (endpoint_of number) s && bytes_eq uid u) (with_offer offer h) (w.held s u)
          (is.stays h.offers (subst (λ (o : Option Holding). AreOffers (offers_at o)) held (m.offers_are (endpoint_of number) uid))) (m.offers_are s u);
      servers_are = at_servers;
    }

    by_fits : (b : Bool) → MirrorsWorld (cond b (changes_held (with_offer offer) w (endpoint_of number) uid (w.held (endpoint_of number) uid)) w) (reached_after w history (Offered (endpoint_of number) uid offer)) a sent servers'
    by_fits true = by_held (w.held (endpoint_of number) uid) refl
    by_fits false = same
