-- The calls that a reply makes, part by part.
use Rattle.std.proofs.Common.{◌≡◌, ◌∙◌, ℕ, List, [], ◌∷◌, ◌++◌, Bool, true, false, not, ◌&&◌, ◌||◌, cond, Option, Some, None, ap, sym, subst, refl, inl, inr}
use Rattle.std.specs.Prelude.{IfSome, is_none}
use Rattle.std.specs.Option.{option_map, option_and_then, option_to_list}
use Rattle.edge_devices.specs.Endpoints.{is_endpoint}
use Rattle.message_values.specs.declared.connection.ConnectionSettingsOffers.{ConnectionSettingsOffers}
use Rattle.message_values.specs.declared.connection.OpAMPConnectionSettings.{OpAMPConnectionSettings}
use Rattle.message_values.specs.declared.custom.CustomMessage.{CustomMessage}
use Rattle.message_values.specs.declared.packages.PackagesAvailable.{PackagesAvailable}
use Rattle.message_values.specs.declared.reply.ServerToAgent.{ServerToAgent}
use Rattle.message_values.specs.declared.state.Settings.{Settings}
use Rattle.message_values.specs.declared.profile.TheConstants.{ACCEPTS_CONNECTION_SETTINGS}
use Rattle.message_deltas.specs.Obligations.{has_bit}
use Rattle.agent_rules.specs.declared.rules.parts.Next.{Next}
use Rattle.agent_rules.specs.declared.rules.replies.Heard.{Heard}
use Rattle.agent_rules.specs.declared.rules.replies.Heard.TheVariants.{Commanded, Failed, Asked, Plain}
use Rattle.agent_rules.specs.Reports.{where_true}
use Rattle.agent_rules.specs.Half.{AgentHalf, is_empty}
use Rattle.agent_rules.specs.Keeping.{Call, TakeReply, CommitTry, AbandonTry, PackagesDone, Say, heard_in, fits}
use Rattle.agent_rules.specs.Calls.{call_after, calls_after, told, told_by}
use Rattle.agent_rules.specs.Offers.{next_of, next_in, offered_hash, offered_settings, settings_due, is_acceptable, is_known, connection_due, packages_due, trial_calls, without_trial}
use Rattle.agent_rules.specs.Events.{following, reply_calls}
use Rattle.world_model.specs.World.{no_reactions}
use Rattle.world_lab.specs.Hearing.{all_fit, config_calls, trying_calls}
use Rattle.world_lab.specs.Mirrors.{IsOffered, IsOfferedOne, IsServer}

-- calls after calls
pub calls_join : (a : AgentHalf) (xs ys : List Call) → all_fit a xs ≡ true → calls_after a (xs ++ ys) ≡ calls_after (calls_after a xs) ys
calls_join a [] ys fit = refl
calls_join a (x ∷ xs) ys fit = by_room (λ rest. calls_join (call_after a x) xs ys rest) (fits a x) fit
  where
    by_room : (all_fit (call_after a x) xs ≡ true → calls_after (call_after a x) (xs ++ ys) ≡ calls_after (calls_after (call_after a x) xs) ys) → (b : Bool) → cond b (all_fit (call_after a x) xs) false ≡ true
        → cond b (calls_after (call_after a x) (xs ++ ys)) a ≡ calls_after (cond b (calls_after (call_after a x) xs) a) ys
    by_room further true fit = further fit
    by_room further false fit = absurd (cc fit)

-- the first call for which there is no room is the last
pub calls_stop : (a : AgentHalf) (xs ys : List Call) → all_fit a xs ≡ false → calls_after a (xs ++ ys) ≡ calls_after a xs
calls_stop a [] ys fit = absurd (cc fit)
calls_stop a (x ∷ xs) ys fit = by_room (λ rest. calls_stop (call_after a x) xs ys rest) (fits a x) fit
  where
    by_room : (all_fit (call_after a x) xs ≡ false → calls_after (call_after a x) (xs ++ ys) ≡ calls_after (call_after a x) xs) → (b : Bool) → cond b (all_fit (call_after a x) xs) false ≡ false
        → cond b (calls_after (call_after a x) (xs ++ ys)) a ≡ cond b (calls_after (call_after a x) xs) a
    by_room further true fit = further fit
    by_room further false fit = refl

-- there is room for both
pub all_join : (a : AgentHalf) (xs ys : List Call) → all_fit a (xs ++ ys) ≡ (all_fit a xs && all_fit (calls_after a xs) ys)
all_join a [] ys = refl
all_join a (x ∷ xs) ys = by_room (all_join (call_after a x) xs ys) (fits a x)
  where
    by_room : all_fit (call_after a x) (xs ++ ys) ≡ (all_fit (call_after a x) xs && all_fit (calls_after (call_after a x) xs) ys) → (b : Bool)
        → cond b (all_fit (call_after a x) (xs ++ ys)) false ≡ (cond b (all_fit (call_after a x) xs) false && all_fit (cond b (calls_after (call_after a x) xs) a) ys)
    by_room further true = further
    by_room further false = refl

-- a trial always ends
pub trial_fits : (a : AgentHalf) → all_fit a (trial_calls a) ≡ true
trial_fits a = by_trial (is_none a.trial) (a.proved && fits a CommitTry) refl
  where
    and_right : (x y : Bool) → (x && y) ≡ true → y ≡ true
    and_right true y e = e
    and_right false y e = absurd (cc e)

    by_trial : (none wins : Bool) → (a.proved && fits a CommitTry) ≡ wins → all_fit a (cond none [] (cond wins (CommitTry ∷ []) (AbandonTry ∷ []))) ≡ true
    by_trial true wins e = refl
    by_trial false true e = ap (λ (b : Bool). cond b true false) (and_right a.proved (fits a CommitTry) e)
    by_trial false false e = refl

-- what isn't asked for makes no calls
no_packages : (a : AgentHalf) (next : Next) → next.packages ≡ None → option_to_list (option_map (λ offer. PackagesDone no_reactions.statuses) next.packages) ≡ []
no_packages a next none = ap (λ o. option_to_list (option_map (λ offer. PackagesDone no_reactions.statuses) o)) none

no_answer : (m : Option CustomMessage) → option_to_list (option_and_then (λ message. option_map (λ answer. Say answer) no_reactions.answer) m) ≡ []
no_answer None = refl
no_answer (Some message) = refl

append_nothing : (xs : List Call) → xs ++ [] ≡ xs
append_nothing [] = refl
append_nothing (x ∷ xs) = ap (λ ys. x ∷ ys) (append_nothing xs)

pub following_is : (a : AgentHalf) (next : Next) → next.packages ≡ None → following a next no_reactions ≡ config_calls a next.config ++ trying_calls next.connection
following_is a next none =
    ap (λ (ps : List Call). ((config_calls a next.config ++ ps) ++ option_to_list (option_and_then (λ message. option_map (λ answer. Say answer) no_reactions.answer) next.message)) ++ trying_calls next.connection) (no_packages a next none)
    ∙ ap (λ (ms : List Call). ((config_calls a next.config ++ []) ++ ms) ++ trying_calls next.connection) (no_answer next.message)
    ∙ ap (λ (xs : List Call). xs ++ trying_calls next.connection) (append_nothing (config_calls a next.config ++ []) ∙ append_nothing (config_calls a next.config))

-- all of it, in the parts that the lab's agent goes through
pub reply_parts : (a a1 a2 a3 a4 : AgentHalf) (reply : ServerToAgent) (connection : Option Settings) → (next_of reply a).packages ≡ None → fits a (TakeReply reply) ≡ true
    → a1 ≡ told reply a → a2 ≡ calls_after a1 (trial_calls a1) → a3 ≡ calls_after a2 (config_calls a2 (next_of reply a).config) → a4 ≡ calls_after a3 (trying_calls connection)
    → connection ≡ cond (all_fit a2 (config_calls a2 (next_of reply a).config)) (next_of reply a).connection None
    → a4 ≡ calls_after a (reply_calls a reply no_reactions)
reply_parts a a1 a2 a3 a4 reply connection none fit e1 e2 e3 e4 e5 = sym through
  where
    b1 : AgentHalf
    b1 = told reply a

    b2 : AgentHalf
    b2 = without_trial b1

    same2 : a2 ≡ b2
    same2 = e2 ∙ ap (λ x. calls_after x (trial_calls x)) e1

    config : List Call
    config = config_calls b2 (next_of reply a).config

    end : Bool → AgentHalf
    end b = calls_after (calls_after b2 config) (trying_calls (cond b (next_of reply a).connection None))

    by_room : (b : Bool) → all_fit b2 config ≡ b → calls_after b2 (config ++ trying_calls (next_of reply a).connection) ≡ end b
    by_room true fit = calls_join b2 config (trying_calls (next_of reply a).connection) fit
    by_room false fit = calls_stop b2 config (trying_calls (next_of reply a).connection) fit

    through : calls_after a (reply_calls a reply no_reactions) ≡ a4
    through =
        ap (λ (b : Bool). cond b (calls_after b1 (trial_calls b1 ++ following b2 (next_of reply a) no_reactions)) a) fit
        ∙ calls_join b1 (trial_calls b1) (following b2 (next_of reply a) no_reactions) (trial_fits b1)
        ∙ ap (λ (cs : List Call). calls_after b2 cs) (following_is b2 (next_of reply a) none)
        ∙ by_room (all_fit b2 config) refl
        ∙ ap (λ x. calls_after (calls_after x (config_calls x (next_of reply a).config)) (trying_calls (cond (all_fit x (config_calls x (next_of reply a).config)) (next_of reply a).connection None))) (sym same2)
        ∙ ap (λ (c : Option Settings). calls_after (calls_after a2 (config_calls a2 (next_of reply a).config)) (trying_calls c)) (sym e5)
        ∙ ap (λ x. calls_after x (trying_calls connection)) (sym e3)
        ∙ sym e4

-- ---- what is asked

-- a reply that has no packages asks for none
pub asks_no_packages : (a : AgentHalf) (reply : ServerToAgent) → reply.packages_available ≡ None → (next_of reply a).packages ≡ None
asks_no_packages a reply none = by_word (heard_in reply)
  where
    by_word : (h : Heard) → (next_in h reply a).packages ≡ None
    by_word Commanded = refl
    by_word Failed = refl
    by_word Asked = ap (λ (o : Option PackagesAvailable). option_and_then (packages_due (told reply a).local.capabilities (told reply a).saved.packages.server_provided_all_packages_hash) o) none
    by_word Plain = ap (λ (o : Option PackagesAvailable). option_and_then (packages_due (told reply a).local.capabilities (told reply a).saved.packages.server_provided_all_packages_hash) o) none

-- whether a trial has its proof is told
pub asks_proved : (a : AgentHalf) (reply : ServerToAgent) → (next_of reply a).proved ≡ (told reply a).proved
asks_proved a reply = by_word (heard_in reply) refl
  where
    by_word : (h : Heard) → heard_in reply ≡ h → (next_in h reply a).proved ≡ (told_by h reply a).proved
    by_word Commanded e = refl
    by_word Failed e = refl
    by_word Asked e = ap (λ h. (told_by h reply a).proved) e
    by_word Plain e = ap (λ h. (told_by h reply a).proved) e

-- acceptable settings with such a URL are of a lab's server
acceptable_server : (offer : OpAMPConnectionSettings) → IsOffered offer.destination_endpoint → is_acceptable offer ≡ true → IsServer offer.destination_endpoint
acceptable_server offer (inl server) ok = server
acceptable_server offer (inr other) ok = absurd (by_parts (is_none offer.certificate) (is_empty offer.destination_endpoint) (is_endpoint offer.destination_endpoint) _ other.1 other.0 ok)
  where
    by_parts : (c e u h : Bool) → e ≡ false → u ≡ false → (c && ((e || u) && h)) ≡ true → ⊥
    by_parts true true u h e f ok = cc e
    by_parts true false true h e f ok = cc f
    by_parts true false false h e f ok = cc ok
    by_parts false e u h p q ok = cc ok

not_empty : (endpoint : List ℕ) → IsServer endpoint → is_empty endpoint ≡ false
not_empty endpoint is = ap is_empty is.is

settings_server : (active : Settings) (hash : List ℕ) (offer : OpAMPConnectionSettings) → IsOffered offer.destination_endpoint
    → IfSome (settings_due active hash offer) (λ settings. IsServer settings.endpoint)
settings_server active hash offer is = by_test (is_acceptable offer) refl
  where
    by_test : (b : Bool) → is_acceptable offer ≡ b → IfSome (where_true b (offered_settings active hash offer)) (λ settings. IsServer settings.endpoint)
    by_test true ok =
        let server = acceptable_server offer is ok in
        subst IsServer (sym (ap (λ (b : Bool). cond b active.endpoint offer.destination_endpoint) (not_empty offer.destination_endpoint server))) server
    by_test false ok = tt

-- settings to be tried are of a lab's server
pub asks_server : (a : AgentHalf) (reply : ServerToAgent) → IsOfferedOne reply.connection_settings → IfSome (next_of reply a).connection (λ settings. IsServer settings.endpoint)
asks_server a reply is = by_word (heard_in reply)
  where
    b : AgentHalf
    b = told reply a

    of_found : (capabilities : ℕ) (active : Settings) (abandoned : Option (List ℕ)) (hash : List ℕ) (o : Option ConnectionSettingsOffers) → IsOfferedOne o
        → IfSome (option_and_then (settings_due active hash) (option_and_then (connection_due capabilities active.hash abandoned) o)) (λ settings. IsServer settings.endpoint)
    of_found capabilities active abandoned hash None is = tt
    of_found capabilities active abandoned hash (Some offer) is = by_known (has_bit capabilities ACCEPTS_CONNECTION_SETTINGS && not (is_known active.hash abandoned offer.hash)) offer.opamp is
      where
        by_known : (known : Bool) (opamp : Option OpAMPConnectionSettings) → IfSome opamp (λ settings. IsOffered settings.destination_endpoint)
            → IfSome (option_and_then (settings_due active hash) (cond known opamp None)) (λ settings. IsServer settings.endpoint)
        by_known false opamp is = tt
        by_known true None is = tt
        by_known true (Some settings) is = settings_server active hash settings is

    by_word : (h : Heard) → IfSome (next_in h reply a).connection (λ settings. IsServer settings.endpoint)
    by_word Commanded = tt
    by_word Failed = tt
    by_word Asked = of_found b.local.capabilities (without_trial b).saved.settings (without_trial b).abandoned (offered_hash reply) reply.connection_settings is
    by_word Plain = of_found b.local.capabilities (without_trial b).saved.settings (without_trial b).abandoned (offered_hash reply) reply.connection_settings is
