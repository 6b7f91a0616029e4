-- That the connections which reach agents are known.
use Rattle.std.proofs.Common.{◌≡◌, ◌≢◌, ◌⊎◌, ℕ, List, [], ◌∷◌, Bool, true, false, ◌==◌, ◌||◌, ◌&&◌, if◌then◌else◌, Some, IsSome, IsTrue, refl, subst, inl, inr, arith}
use Rattle.std.proofs.lemmas.List.Elements.{recursion_from_All}
use Rattle.std.specs.List.{AllByRecursion, list_any}
use Rattle.std.specs.Str.{bytes_eq}
use Rattle.edge_devices.specs.declared.wires.WireEvent.{WireEvent}
use Rattle.server_sessions.specs.declared.answers.stepped.Handled.{Handled}
use Rattle.server_sessions.specs.Connections.{AreHeard, Forgets, KeepsKnown, Known, conn_of, known_at}
use Rattle.server_deliveries.specs.Lists.{has_conn}
use Rattle.server_deliveries.specs.Routes.{Reach, first_of, route_to, routes_ended, routes_noted, routes_with, routes_without, without}
use Rattle.server_deliveries.specs.Turns.{AreKnown}
use Rattle.server_deliveries.proofs.Tying.{has_without, not_without}

-- a push goes out on one of the connections that reach the agent
pub route_has : (routes : Reach) (uid : List ℕ) (conn : ℕ) → Some conn ≡ route_to routes uid → has_conn (routes uid) conn ≡ true
route_has routes uid conn is = by_list (routes uid) is
  where
    by_list : (conns : List ℕ) → Some conn ≡ first_of conns → has_conn conns conn ≡ true
    by_list [] is = absurd (cc is)
    by_list (c ∷ conns) is =
        let same : c ≡ conn = cc in
        let own : (c == conn) ≡ true = grind (arith, same) in
        rw own refl

-- a connection that is forgotten reaches nobody
pub known_forgotten : (conn : ℕ) (known known' : Known) (routes : Reach) → AreKnown known routes → Forgets conn known known' → AreKnown known' (routes_without conn routes)
known_forgotten conn known known' routes was forgets = λ uid c there. by_same uid c (c == conn) refl there
  where
    by_same : (uid : List ℕ) (c : ℕ) (b : Bool) → (c == conn) ≡ b → has_conn (without conn (routes uid)) c ≡ true → IsSome (known_at known' c)
    by_same uid c true e there =
        let same : c ≡ conn = grind (arith, e) in
        absurd (cc (not_without conn (routes uid), subst (λ (d : ℕ). has_conn (without conn (routes uid)) d ≡ true) same there))
    by_same uid c false e there =
        let apart : c ≢ conn = grind (arith, e) in
        rw (forgets.others c apart) (was uid c (has_without conn c (routes uid) there))

known_with : (known : Known) (h : Handled) (routes : Reach) → AreKnown known routes → IsSome (known_at known h.conn) → AreKnown known (routes_with h routes)
known_with known h routes was own = λ uid c there. by_test uid c (h.ws && bytes_eq h.uid uid) there
  where
    by_same : (uid : List ℕ) (c : ℕ) (b : Bool) → (h.conn == c) ≡ b → (b || has_conn (without h.conn (routes uid)) c) ≡ true → IsSome (known_at known c)
    by_same uid c true e there = let same : h.conn ≡ c = grind (arith, e) in subst (λ (d : ℕ). IsSome (known_at known d)) same own
    by_same uid c false e there = was uid c (has_without h.conn c (routes uid) there)

    by_test : (uid : List ℕ) (c : ℕ) (b : Bool) → has_conn (if b then h.conn ∷ without h.conn (routes uid) else routes uid) c ≡ true → IsSome (known_at known c)
    by_test uid c true there = by_same uid c (h.conn == c) refl there
    by_test uid c false there = was uid c there

heard_noted : (known : Known) (e : WireEvent) (handled : List Handled) (routes : Reach) → AreKnown known routes
    → AllByRecursion (λ h. (h.conn ≡ conn_of e) × IsSome (known_at known h.conn)) handled → AreKnown known (routes_noted handled routes)
heard_noted known e [] routes was all = was
heard_noted known e (h ∷ handled) routes was all = heard_noted known e handled (routes_with h routes) (known_with known h routes was all.0.1) all.1

-- reports came on known connections
pub known_noted : (known : Known) (e : WireEvent) (handled : List Handled) (routes : Reach) → AreKnown known routes → AreHeard known e handled → AreKnown known (routes_noted handled routes)
known_noted known e handled routes was heard =
    heard_noted known e handled routes was (recursion_from_All (λ (h : Handled). (h.conn ≡ conn_of e) × IsSome (known_at known h.conn)) handled heard)

has_ended : (ended : List ℕ) (routes : Reach) (uid : List ℕ) (c : ℕ) → has_conn (routes_ended ended routes uid) c ≡ true → (has_conn (routes uid) c ≡ true) × (list_any (λ d. d == c) ended ≡ false)
has_ended [] routes uid c there = (there, refl)
has_ended (e ∷ ended) routes uid c there =
    let more = has_ended ended (routes_without e routes) uid c there in
    (has_without e c (routes uid) more.0, by_same (e == c) refl more.0 more.1)
  where
    by_same : (b : Bool) → (e == c) ≡ b → has_conn (without e (routes uid)) c ≡ true → list_any (λ d. d == c) ended ≡ false → (b || list_any (λ d. d == c) ended) ≡ false
    by_same true is here none =
        let same : c ≡ e = grind (arith, is) in
        absurd (cc (not_without e (routes uid), subst (λ (d : ℕ). has_conn (without e (routes uid)) d ≡ true) same here))
    by_same false is here none = none

-- those that ended reach nobody, and the others are known still
pub known_after : (known known' : Known) (ended : List ℕ) (routes : Reach) → AreKnown known routes → KeepsKnown known known' ended → AreKnown known' (routes_ended ended routes)
known_after known known' ended routes was stays = λ uid c there.
    let has = has_ended ended routes uid c there in
    by_either c has.1 (stays c (was uid c has.0))
  where
    by_either : (c : ℕ) → list_any (λ d. d == c) ended ≡ false → IsSome (known_at known' c) ⊎ IsTrue (list_any (λ d. d == c) ended) → IsSome (known_at known' c)
    by_either c none (inl there) = there
    by_either c none (inr here) = absurd (cc (none, here))

-- routes that reach nobody
pub none_reached : (routes : Reach) (uid : List ℕ) (conn : ℕ) → routes uid ≡ [] → has_conn (routes uid) conn ≡ true → ⊥
none_reached routes uid conn is there = absurd (cc (rw is at there))
