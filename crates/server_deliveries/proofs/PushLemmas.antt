-- What a push leads to.
use Rattle.std.proofs.Common.{◌≡◌, ℕ, ◌+◌, ◌<◌, List, [], ◌∷◌, ◌++◌, length, take, get_or, add-one, true, false, Option, None, Some, Result, Ok, Err, OnOk, OnErr, is_ok, MatchOption, refl, sym, ap, ◌∙◌, subst, inl, inr}
use Rattle.std.proofs.Math.Seq.{take-suc}
use Rattle.std.specs.Option.{option_and_then, option_map}
use Rattle.message_values.specs.declared.reply.ServerToAgent.{ServerToAgent}
use Rattle.edge_devices.specs.Wires.{IsOpen, Tells, TellsEnd}
use Rattle.edge_devices.specs.declared.wires.Lost.{Lost}
use Rattle.edge_devices.specs.declared.wires.WireCall.{WireCall}
use Rattle.edge_devices.specs.declared.wires.WireCall.TheVariants.{LostOn, Sent}
use Rattle.server_core.specs.declared.replies.Profile.{Profile}
use Rattle.server_core.specs.Table.{pushed_from}
use Rattle.message_replies.specs.Canonical.{canonical_reply}
use Rattle.message_replies.specs.Header.{wrapped}
use Rattle.server_sessions.specs.Reports.{Desk}
use Rattle.server_sessions.specs.Session.{Streams, without_stream}
use Rattle.server_sessions.specs.Wiring.{IsDone, IsLost, WireView}
use Rattle.server_sessions.specs.Connections.{Known, StandsFor}
use Rattle.server_deliveries.specs.Pushing.{Push, PushStanding, PushesTo, PushesToAll, SendsPush, push_on, pushing_of}
use Rattle.server_deliveries.specs.Routes.{Reach, route_to, routes_without}
use Rattle.server_deliveries.specs.Turns.{Leads, Post, post_of}

pub told_ok : {X : Type 0} (r : Result Unit Lost) → is_ok r ≡ true → OnOk r X → X
told_ok (Ok u) e h = h
told_ok (Err l) e h = absurd (cc e)

pub told_err : {X : Type 0} (r : Result Unit Lost) → is_ok r ≡ false → OnErr r X → X
told_err (Ok u) e h = absurd (cc e)
told_err (Err l) e h = h

-- the loss of a connection that was open is told
pub loss_told : (old new : Option (List WireCall)) (conn : ℕ) → IsOpen old conn → TellsEnd old new conn (LostOn conn) → Tells old new (LostOn conn)
loss_told None new conn was told = told
loss_told (Some calls) new conn was told = rw (was) at told

-- the payload was sent
pub sent_leads : (known : Known) (routes : Reach) (wire wire' : WireView) (push : Push) (desk : Desk) → IsDone (Sent push.conn push.payload) wire wire'
    → Leads (SendsPush push) desk (post_of known routes wire) (post_of known routes wire')
sent_leads known routes wire wire' push desk done = λ streams. (streams, inl (done, refl), λ stands. stands)

-- it was lost, and its connection is forgotten
pub lost_leads : (known known' : Known) (routes routes' : Reach) (wire wire' : WireView) (push : Push) (desk : Desk)
    → ((streams : Streams) → StandsFor known streams → StandsFor known' (without_stream streams push.conn))
    → IsLost push.conn wire wire' → routes' ≡ routes_without push.conn routes
    → Leads (SendsPush push) desk (post_of known routes wire) (post_of known' routes' wire')
lost_leads known known' routes routes' wire wire' push desk forgotten lost is = λ streams.
    (without_stream streams push.conn, inr (lost, ap (λ (r : Reach). pushing_of (without_stream streams push.conn) wire' desk r) is), λ stands. forgotten streams stands)

-- no connection reaches the agent
pub none_leads : (profile : Profile) (uid : List ℕ) (desk : Desk) (post : Post) → None ≡ route_to post.routes uid → Leads (PushesTo profile uid) desk post post
none_leads profile uid desk post none = λ streams. (streams, rw (sym none) refl, λ stands. stands)

-- there is nothing to push to it
pub nothing_leads : (profile : Profile) (uid : List ℕ) (desk : Desk) (post : Post) → None ≡ option_map (λ message. wrapped (canonical_reply message)) (pushed_from profile desk.table uid)
    → Leads (PushesTo profile uid) desk post post
nothing_leads profile uid desk post none = λ streams. (streams, by_message streams (pushed_from profile desk.table uid) (route_to post.routes uid) none, λ stands. stands)
  where
    by_message : (streams : Streams) (m : Option ServerToAgent) (r : Option ℕ) → None ≡ option_map (λ message. wrapped (canonical_reply message)) m
        → MatchOption (option_and_then (λ conn. option_map (push_on conn) m) r) (pushing_of streams post.wire desk post.routes ≡ pushing_of streams post.wire desk post.routes)
        (λ push. SendsPush push (pushing_of streams post.wire desk post.routes) (pushing_of streams post.wire desk post.routes))
    by_message streams None None e = refl
    by_message streams None (Some conn) e = refl
    by_message streams (Some m) r e = absurd (cc e)

-- the push goes out
pub push_leads : (profile : Profile) (uid : List ℕ) (desk : Desk) (old new : Post) (conn : ℕ) (payload : List ℕ) → Some conn ≡ route_to old.routes uid
    → Some payload ≡ option_map (λ message. wrapped (canonical_reply message)) (pushed_from profile desk.table uid)
    → Leads (SendsPush (record { conn = conn; payload = payload })) desk old new → Leads (PushesTo profile uid) desk old new
push_leads profile uid desk old new conn payload route is leads = λ streams.
    let led = leads streams in
    (led.0, by_message (pushed_from profile desk.table uid) (route_to old.routes uid) (pushing_of streams old.wire desk old.routes) (pushing_of led.0 new.wire desk new.routes) is route led.1, led.2)
  where
    by_message : (m : Option ServerToAgent) (r : Option ℕ) (a b : PushStanding) → Some payload ≡ option_map (λ message. wrapped (canonical_reply message)) m → Some conn ≡ r
        → SendsPush (record { conn = conn; payload = payload }) a b
        → MatchOption (option_and_then (λ conn. option_map (push_on conn) m) r) (b ≡ a) (λ push. SendsPush push a b)
    by_message None r a b e f sends = absurd (cc e)
    by_message (Some m) None a b e f sends = absurd (cc f)
    by_message (Some m) (Some c) a b e f sends =
        let same : payload ≡ wrapped (canonical_reply m) = cc in
        let own : conn ≡ c = cc in
        rw (sym same, sym own) sends

-- one agent more
all_more : (profile : Profile) (uids : List (List ℕ)) (uid : List ℕ) (a b c : PushStanding) → PushesToAll profile uids a b → PushesTo profile uid b c → PushesToAll profile (uids ++ uid ∷ []) a c
all_more profile [] uid a b c all one = (c, subst (λ (s : PushStanding). PushesTo profile uid s c) all one, refl)
all_more profile (u ∷ uids) uid a b c all one = (all.0, all.1, all_more profile uids uid all.0 b c all.2 one)

pub leads_none : (profile : Profile) (desk : Desk) (post : Post) → Leads (PushesToAll profile []) desk post post
leads_none profile desk post = λ streams. (streams, refl, λ stands. stands)

leads_on : (profile : Profile) (uids : List (List ℕ)) (uid : List ℕ) (desk : Desk) (a b c : Post)
    → Leads (PushesToAll profile uids) desk a b → Leads (PushesTo profile uid) desk b c → Leads (PushesToAll profile (uids ++ uid ∷ [])) desk a c
leads_on profile uids uid desk a b c all one = λ streams.
    let first = all streams in
    let last = one first.0 in
    (last.0, all_more profile uids uid _ _ _ first.1 last.1, λ stands. last.2 (first.2 stands))

pub leads_more : (profile : Profile) (uids : List (List ℕ)) (i : ℕ) (uid : List ℕ) (desk : Desk) (a b c : Post) → i < length uids → uid ≡ get_or uids i uid
    → Leads (PushesToAll profile (take i uids)) desk a b → Leads (PushesTo profile uid) desk b c → Leads (PushesToAll profile (take (i + 1) uids)) desk a c
leads_more profile uids i uid desk a b c within here all one =
    let longer : take (i + 1) uids ≡ take i uids ++ uid ∷ [] = ap (λ n. take n uids) (add-one i) ∙ take-suc uids i uid within ∙ ap (λ y. take i uids ++ y ∷ []) (sym here) in
    subst (λ (us : List (List ℕ)). Leads (PushesToAll profile us) desk a c) (sym longer) (leads_on profile (take i uids) uid desk a b c all one)

-- what holds where a call is refused
pub on_err : {T E : Type 0} (P : Type 0) (r : Result T E) → P → OnErr r P
on_err P (Ok x) holds = tt
on_err P (Err e) holds = holds
