-- Arguments, by how many there are.
use Rattle.std.proofs.Common.{◌≡◌, ◌≢◌, ◌<◌, ◌≤◌, ◌∙◌, sym, ℕ, List, [], ◌∷◌, length, map, get_or, drop, eqb, false, true, Option, None, Some, Bor, refl, arith}
use Rattle.std.specs.Prelude.{codes}
use Rattle.std.specs.Option.{option_map, option_and_then}
use Rattle.std.specs.Str.{bytes_eq}
use Rattle.std.proofs.lemmas.Bool.{eqb-true}
use Rattle.uuid.specs.Text.{parsed}
use Rattle.plain_values.specs.declared.headers.Header.{Header}
use Rattle.message_values.specs.declared.connection.OpAMPConnectionSettings.{OpAMPConnectionSettings}
use Rattle.server_core.specs.declared.offers.Offer.TheVariants.{Connection as ConnectionOffer}
use Rattle.server_lines.specs.declared.orders.Action.{Action}
use Rattle.server_lines.specs.declared.orders.Action.TheVariants as action
use Rattle.server_lines.specs.declared.orders.Order.TheVariants as order
use Rattle.server_lines.specs.declared.orders.Steering.{Steering}
use Rattle.server_lines.specs.Words.{id_in, text_in, number_in, terms_in, headers_in, filled, endpoint_alone, settings_with}
use Rattle.server_lines.specs.Reading.{alone, only_uid, only_id, connect_of, settings_of, act_of, action_with, begin_with, begin_where, begin_behind, begin_of, steering_with, steer_of, is_left}

-- the words that slices of text are
abbrev pub words : List (Bor (List ℕ)) → List (List ℕ)
words slices = map (λ (w : Bor (List ℕ)). w.now) slices

pub not_one : (args : List (Bor (List ℕ))) → length args ≢ 1 → only_uid (words args) ≡ None
not_one [] other = refl
not_one (u ∷ []) other = absurd (other refl)
not_one (u ∷ w ∷ ws) other = refl

pub one_uid : (args : List (Bor (List ℕ))) (d : Bor (List ℕ)) (uids : Option (List ℕ)) → length args ≡ 1 → uids ≡ parsed (get_or args 0 d).now → uids ≡ only_uid (words args)
one_uid [] d uids one u = absurd (omega (arith, one))
one_uid (a ∷ []) d uids one u = u
one_uid (a ∷ w ∷ ws) d uids one u = absurd (omega (arith, one))

-- there is none where each is refused
pub unparsed : (read : Option (List ℕ)) → ((u : List ℕ) → read ≡ Some u → false ≡ true) → read ≡ None
unparsed None refused = refl
unparsed (Some u) refused = absurd (let no = refused u refl in cc)

-- ---- words that are there, and words that aren't

pub alone_none : {T : Type 0} (meant : T) (args : List (Bor (List ℕ))) → eqb (length args) 0 ≡ false → None ≡ alone meant (words args)
alone_none meant [] some = absurd (cc)
alone_none meant (a ∷ args) some = refl

pub alone_some : {T : Type 0} (meant : T) (args : List (Bor (List ℕ))) → eqb (length args) 0 ≡ true → Some meant ≡ alone meant (words args)
alone_some meant [] none = refl
alone_some meant (a ∷ args) none = absurd (let no : length (a ∷ args) ≡ 0 = eqb-true (length (a ∷ args)) 0 none in omega (arith, no))

pub unfilled : {T : Type 0} (read : List (List ℕ) → Option T) (args : List (Bor (List ℕ))) → eqb (length args) 0 ≡ true → filled read (words args) ≡ None
unfilled read [] none = refl
unfilled read (a ∷ args) none = absurd (let no : length (a ∷ args) ≡ 0 = eqb-true (length (a ∷ args)) 0 none in omega (arith, no))

pub is_filled : {T : Type 0} (read : List (List ℕ) → Option T) (args : List (Bor (List ℕ))) → eqb (length args) 0 ≡ false → filled read (words args) ≡ read (words args)
is_filled read [] some = absurd (cc)
is_filled read (a ∷ args) some = refl

-- ---- settings

pub connect_of_other : (args : List (Bor (List ℕ))) → length args ≢ 1 → connect_of (words args) ≡ None
connect_of_other [] other = refl
connect_of_other (url ∷ []) other = absurd (other refl)
connect_of_other (url ∷ w ∷ ws) other = refl

pub connect_parts : (args : List (Bor (List ℕ))) (d : Bor (List ℕ)) → length args ≡ 1
    → connect_of (words args) ≡ Some (action.Offer (ConnectionOffer (endpoint_alone (get_or args 0 d).now)))
connect_parts [] d one = absurd (omega (arith, one))
connect_parts (url ∷ []) d one = refl
connect_parts (url ∷ w ∷ ws) d one = absurd (omega (arith, one))

pub connect_read : (args : List (Bor (List ℕ))) (d : Bor (List ℕ)) (url : List ℕ) (settings : OpAMPConnectionSettings) → length args ≡ 1
    → settings ≡ endpoint_alone url → url ≡ (get_or args 0 d).now → Some (action.Offer (ConnectionOffer settings)) ≡ connect_of (words args)
connect_read args d url settings one made u = rw (made, u) (sym (connect_parts args d one))

pub settings_of_few : (args : List (Bor (List ℕ))) → length args < 2 → settings_of (words args) ≡ None
settings_of_few [] few = refl
settings_of_few (url ∷ []) few = refl
settings_of_few (url ∷ n ∷ args) few = absurd (omega (arith, few))

-- two arguments of settings, and the words of headers behind them
pub settings_parts : (args named : List (Bor (List ℕ))) (d : Bor (List ℕ)) → 2 ≤ length args → named ≡ drop 2 args
    → settings_of (words args)
    ≡ option_and_then (λ seconds. option_map (λ headers. action.Offer (ConnectionOffer (settings_with (text_in (get_or args 0 d).now) seconds headers))) (headers_in (words named))) (number_in (get_or args 1 d).now)
settings_parts [] named d two cut = absurd (omega (arith, two))
settings_parts (url ∷ []) named d two cut = absurd (omega (arith, two))
settings_parts (url ∷ n ∷ args) named d two cut = rw cut refl

pub settings_read : (args named : List (Bor (List ℕ))) (d : Bor (List ℕ)) (url : List ℕ) (seconds : ℕ) (headers : List Header) (numbers : Option ℕ) (settings : OpAMPConnectionSettings)
    → settings ≡ settings_with url seconds headers → 2 ≤ length args → named ≡ drop 2 args → numbers ≡ number_in (get_or args 1 d).now → numbers ≡ Some seconds
    → Some headers ≡ headers_in (words named) → url ≡ text_in (get_or args 0 d).now
    → Some (action.Offer (ConnectionOffer settings)) ≡ settings_of (words args)
settings_read args named d url seconds headers numbers settings made two cut n is h u =
    let read : number_in (get_or args 1 d).now ≡ Some seconds = sym n ∙ is in
    let held : headers_in (words named) ≡ Some headers = sym h in
    rw (made, settings_parts args named d two cut, read, held, u) refl

pub settings_unread : (args : List (Bor (List ℕ))) (d : Bor (List ℕ)) (numbers : Option ℕ)
    → 2 ≤ length args → numbers ≡ number_in (get_or args 1 d).now → numbers ≡ None → None ≡ settings_of (words args)
settings_unread args d numbers two n is =
    let read : number_in (get_or args 1 d).now ≡ None = sym n ∙ is in
    rw (settings_parts args (drop 2 args) d two refl, read) refl

pub settings_unnamed : (args named : List (Bor (List ℕ))) (d : Bor (List ℕ)) (seconds : ℕ) (numbers : Option ℕ)
    → 2 ≤ length args → named ≡ drop 2 args → numbers ≡ number_in (get_or args 1 d).now → numbers ≡ Some seconds
    → None ≡ headers_in (words named) → None ≡ settings_of (words args)
settings_unnamed args named d seconds numbers two cut n is h =
    let read : number_in (get_or args 1 d).now ≡ Some seconds = sym n ∙ is in
    let held : headers_in (words named) ≡ None = sym h in
    rw (settings_parts args named d two cut, read, held) refl

-- ---- an agent and what is done for it

pub act_none : (verb : List ℕ) (args : List (Bor (List ℕ))) → length args < 1 → None ≡ act_of verb (words args)
unfolding act_of
act_none verb [] few = refl
act_none verb (a ∷ args) few = absurd (omega (arith, few))

act_parts : (verb : List ℕ) (args behind : List (Bor (List ℕ))) (d : Bor (List ℕ)) → 1 ≤ length args → behind ≡ drop 1 args
    → act_of verb (words args) ≡ option_and_then (λ uid. option_map (λ act. order.Act uid act) (action_with verb (words behind))) (parsed (get_or args 0 d).now)
unfolding act_of
act_parts verb [] behind d one cut = absurd (omega (arith, one))
act_parts verb (a ∷ args) behind d one cut = rw cut refl

pub act_unread : (verb : List ℕ) (args : List (Bor (List ℕ))) (d : Bor (List ℕ)) (uids : Option (List ℕ))
    → 1 ≤ length args → uids ≡ parsed (get_or args 0 d).now → uids ≡ None → None ≡ act_of verb (words args)
act_unread verb args d uids one u is =
    let read : parsed (get_or args 0 d).now ≡ None = sym u ∙ is in
    rw (act_parts verb args (drop 1 args) d one refl, read) refl

pub act_unmeant : (verb : List ℕ) (args behind : List (Bor (List ℕ))) (d : Bor (List ℕ)) (uid : List ℕ) (uids : Option (List ℕ))
    → 1 ≤ length args → behind ≡ drop 1 args → uids ≡ parsed (get_or args 0 d).now → uids ≡ Some uid
    → None ≡ action_with verb (words behind) → None ≡ act_of verb (words args)
act_unmeant verb args behind d uid uids one cut u is a =
    let read : parsed (get_or args 0 d).now ≡ Some uid = sym u ∙ is in
    let meant : action_with verb (words behind) ≡ None = sym a in
    rw (act_parts verb args behind d one cut, read, meant) refl

pub act_read : (verb : List ℕ) (args behind : List (Bor (List ℕ))) (d : Bor (List ℕ)) (uid : List ℕ) (uids : Option (List ℕ)) (act : Action)
    → 1 ≤ length args → behind ≡ drop 1 args → uids ≡ parsed (get_or args 0 d).now → uids ≡ Some uid
    → Some act ≡ action_with verb (words behind) → Some (order.Act uid act) ≡ act_of verb (words args)
act_read verb args behind d uid uids act one cut u is a =
    let read : parsed (get_or args 0 d).now ≡ Some uid = sym u ∙ is in
    let meant : action_with verb (words behind) ≡ Some act = sym a in
    rw (act_parts verb args behind d one cut, read, meant) refl

-- ---- rollouts

pub steer_none : (verb : List ℕ) (args : List (Bor (List ℕ))) → length args < 1 → None ≡ steer_of verb (words args)
unfolding steer_of
steer_none verb [] few = refl
steer_none verb (a ∷ args) few = absurd (omega (arith, few))

steer_parts : (verb : List ℕ) (args behind : List (Bor (List ℕ))) (d : Bor (List ℕ)) → 1 ≤ length args → behind ≡ drop 1 args
    → steer_of verb (words args) ≡ option_and_then (λ name. option_map (λ done. order.Steer name done) (steering_with verb (words behind))) (id_in (get_or args 0 d).now)
unfolding steer_of
steer_parts verb [] behind d one cut = absurd (omega (arith, one))
steer_parts verb (a ∷ args) behind d one cut = rw cut refl

pub steer_unread : (verb : List ℕ) (args : List (Bor (List ℕ))) (d : Bor (List ℕ)) (names : Option (List ℕ))
    → 1 ≤ length args → names ≡ id_in (get_or args 0 d).now → names ≡ None → None ≡ steer_of verb (words args)
steer_unread verb args d names one n is =
    let read : id_in (get_or args 0 d).now ≡ None = sym n ∙ is in
    rw (steer_parts verb args (drop 1 args) d one refl, read) refl

pub steer_unmeant : (verb : List ℕ) (args behind : List (Bor (List ℕ))) (d : Bor (List ℕ)) (name : List ℕ) (names : Option (List ℕ))
    → 1 ≤ length args → behind ≡ drop 1 args → names ≡ id_in (get_or args 0 d).now → names ≡ Some name
    → None ≡ steering_with verb (words behind) → None ≡ steer_of verb (words args)
steer_unmeant verb args behind d name names one cut n is s =
    let read : id_in (get_or args 0 d).now ≡ Some name = sym n ∙ is in
    let meant : steering_with verb (words behind) ≡ None = sym s in
    rw (steer_parts verb args behind d one cut, read, meant) refl

pub steer_read : (verb : List ℕ) (args behind : List (Bor (List ℕ))) (d : Bor (List ℕ)) (name : List ℕ) (names : Option (List ℕ)) (done : Steering)
    → 1 ≤ length args → behind ≡ drop 1 args → names ≡ id_in (get_or args 0 d).now → names ≡ Some name
    → Some done ≡ steering_with verb (words behind) → Some (order.Steer name done) ≡ steer_of verb (words args)
steer_read verb args behind d name names done one cut n is s =
    let read : id_in (get_or args 0 d).now ≡ Some name = sym n ∙ is in
    let meant : steering_with verb (words behind) ≡ Some done = sym s in
    rw (steer_parts verb args behind d one cut, read, meant) refl

pub begin_none : (args : List (Bor (List ℕ))) → length args < 1 → None ≡ begin_of (words args)
begin_none [] few = refl
begin_none (a ∷ args) few = absurd (omega (arith, few))

begin_parts : (args behind : List (Bor (List ℕ))) (d : Bor (List ℕ)) → 1 ≤ length args → behind ≡ drop 1 args
    → begin_of (words args) ≡ option_and_then (λ (p : ℕ × ℕ). begin_behind p.0 p.1 (words behind)) (terms_in (get_or args 0 d).now)
begin_parts [] behind d one cut = absurd (omega (arith, one))
begin_parts (a ∷ args) behind d one cut = rw cut refl

pub begin_unread : (args : List (Bor (List ℕ))) (d : Bor (List ℕ)) (terms : Option (ℕ × ℕ))
    → 1 ≤ length args → terms ≡ terms_in (get_or args 0 d).now → terms ≡ None → None ≡ begin_of (words args)
begin_unread args d terms one t is =
    let read : terms_in (get_or args 0 d).now ≡ None = sym t ∙ is in
    rw (begin_parts args (drop 1 args) d one refl, read) refl

pub begin_read : (args behind : List (Bor (List ℕ))) (d : Bor (List ℕ)) (width allowed : ℕ) (terms : Option (ℕ × ℕ))
    → 1 ≤ length args → behind ≡ drop 1 args → terms ≡ terms_in (get_or args 0 d).now → terms ≡ Some (width, allowed)
    → begin_behind width allowed (words behind) ≡ begin_of (words args)
begin_read args behind d width allowed terms one cut t is =
    let read : terms_in (get_or args 0 d).now ≡ Some (width, allowed) = sym t ∙ is in
    rw (begin_parts args behind d one cut, read) refl

pub behind_few : (width allowed : ℕ) (args : List (Bor (List ℕ))) → length args < 2 → begin_with width allowed None (words args) ≡ begin_behind width allowed (words args)
behind_few width allowed [] few = refl
behind_few width allowed (a ∷ []) few = refl
behind_few width allowed (a ∷ b ∷ args) few = absurd (omega (arith, few))

pub behind_where : (width allowed : ℕ) (args named : List (Bor (List ℕ))) (d : Bor (List ℕ)) → 2 ≤ length args → named ≡ drop 2 args
    → bytes_eq (get_or args 0 d).now (codes "where") ≡ true
    → begin_where width allowed (get_or args 1 d).now (words named) ≡ begin_behind width allowed (words args)
behind_where width allowed [] named d two cut is = absurd (omega (arith, two))
behind_where width allowed (a ∷ []) named d two cut is = absurd (omega (arith, two))
behind_where width allowed (a ∷ b ∷ args) named d two cut is = rw (is, cut) refl

pub behind_all : (width allowed : ℕ) (args : List (Bor (List ℕ))) (d : Bor (List ℕ)) → 2 ≤ length args
    → bytes_eq (get_or args 0 d).now (codes "where") ≡ false
    → begin_with width allowed None (words args) ≡ begin_behind width allowed (words args)
behind_all width allowed [] d two is = absurd (omega (arith, two))
behind_all width allowed (a ∷ []) d two is = absurd (omega (arith, two))
behind_all width allowed (a ∷ b ∷ args) d two is = rw is refl

pub not_one_id : (args : List (Bor (List ℕ))) → length args ≢ 1 → only_id (words args) ≡ None
not_one_id [] other = refl
not_one_id (a ∷ []) other = absurd (other refl)
not_one_id (a ∷ b ∷ args) other = refl

pub one_id : (args : List (Bor (List ℕ))) (d : Bor (List ℕ)) → length args ≡ 1 → only_id (words args) ≡ id_in (get_or args 0 d).now
one_id [] d one = absurd (omega (arith, one))
one_id (a ∷ []) d one = refl
one_id (a ∷ b ∷ args) d one = absurd (omega (arith, one))

-- ---- agents that have left

pub not_one_left : (args : List (Bor (List ℕ))) → length args ≢ 1 → is_left (words args) ≡ false
not_one_left [] other = refl
not_one_left (a ∷ []) other = absurd (other refl)
not_one_left (a ∷ b ∷ args) other = refl

pub one_left : (args : List (Bor (List ℕ))) (d : Bor (List ℕ)) → length args ≡ 1 → is_left (words args) ≡ bytes_eq (get_or args 0 d).now (codes "left")
one_left [] d one = absurd (omega (arith, one))
one_left (a ∷ []) d one = refl
one_left (a ∷ b ∷ args) d one = absurd (omega (arith, one))
