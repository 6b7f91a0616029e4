-- What a loop knows, beside the streams that it stands for.
use Rattle.std.proofs.Common.{◌≡◌, ◌≢◌, ℕ, ◌≤◌, ◌<◌, List, [], ◌∷◌, ◌++◌, length, nat_le, Bool, true, false, not, cond, ◌&&◌, if◌then◌else◌, Option, None, Some, is_some, IsSome, MatchBool, MatchOption, ◌⊎◌, ◌==◌, IsTrue, refl, sym, ap, ◌∙◌, subst, inl, inr, arith}
use Rattle.std.specs.List.{list_any}
use Rattle.std.proofs.lemmas.Bool.{cases_eq}
use Rattle.std.proofs.lemmas.Bool.Decides.{nat_tests}
use Rattle.std.specs.Ordering.{nat_cmp}
use Rattle.std.specs.Map.{lookup, remove_entry, set_value}
use Rattle.std.specs.BTreeMap.{insert_entry, is_at}
use Rattle.edge_devices.specs.declared.wires.Kind.{Kind}
use Rattle.edge_devices.specs.declared.wires.WireEvent.{WireEvent}
use Rattle.edge_devices.specs.declared.wires.WireEvent.TheVariants as event
use Rattle.server_sessions.specs.Wiring.{WireView, IsDone}
use Rattle.edge_devices.specs.declared.wires.WireCall.TheVariants.{Closed}
use Rattle.server_core.specs.Table.{Table}
use Rattle.server_sessions.specs.declared.answers.stepped.Stepped.{Stepped}
use Rattle.server_waves.specs.Register.{Rolling}
use Rattle.server_sessions.specs.Reports.{Host, desk_of}
use Rattle.edge_devices.specs.Clocks.{EntropyState}
use Rattle.server_sessions.specs.declared.connection.Connection.{Connection}
use Rattle.server_sessions.specs.Streams.{Stream}
use Rattle.server_lines.specs.Sights.{Seen, numbers_in, sight_of}
use Rattle.server_sessions.specs.Session.{Scene, Streams, Ending, Opens, Does, stream_at, with_stream, without_stream}
use Rattle.server_sessions.specs.Runs.{HalfDoes}
use Rattle.server_sessions.specs.Connections.{Known, known_at, IsFor, StandsFor, Admits, Forgets, TakesPiece, ServesPiece, Steps, KeepsKnown, ended_at, ended_known, first_scene, scene_at}
use Rattle.server_sessions.proofs.PairedLemmas.{paired_length, paired_numbers, paired_lookup, paired_is_some, paired_remove, paired_set, paired_insert}

-- the same connections are known
pub same_known : (known : Known) (streams : Streams) (conn : ℕ) (b : Bool) → StandsFor known streams → is_some (known_at known conn) ≡ b → is_some (stream_at streams conn) ≡ b
same_known known streams conn b stands h = sym (paired_is_some IsFor (is_at (nat_cmp conn)) known streams stands) ∙ h

-- under the same numbers
same_numbers : (known : Known) (streams : Streams) → StandsFor known streams → numbers_in known ≡ numbers_in streams
same_numbers known streams stands = paired_numbers IsFor known streams stands

-- one that is known already
pub admits_known : (limit conn : ℕ) (k : Kind) (entries known : Known) (wire : WireView) → entries ≡ known → is_some (known_at entries conn) ≡ true → Admits limit conn k known known wire wire
admits_known limit conn k entries known wire is h streams stands =
    let there : is_some (known_at known conn) ≡ true = rw is at h in
    (streams, rw (same_known known streams conn true stands there) (refl, refl), stands)

-- one too many
pub admits_full : (limit conn : ℕ) (k : Kind) (entries known : Known) (wire wire' : WireView) → entries ≡ known → is_some (known_at entries conn) ≡ false
    → limit ≤ length entries → IsDone (Closed conn) wire wire' → Admits limit conn k known known wire wire'
admits_full limit conn k entries known wire wire' is h full told streams stands =
    let there : is_some (known_at known conn) ≡ false = rw is at h in
    let long : limit ≤ length streams = rw (is, paired_length IsFor known streams stands) at full in
    let test : nat_le limit (length streams) ≡ true = grind (arith, nat_tests) in
    (streams, rw (same_known known streams conn false stands there, test) (refl, told), stands)

-- a new one
pub admits_new : (limit conn : ℕ) (k : Kind) (entries known new : Known) (kept : Connection) (wire : WireView) → entries ≡ known → is_some (known_at entries conn) ≡ false
    → length entries < limit → new ≡ insert_entry nat_cmp entries conn kept → IsFor kept (record { kind = k; bytes = [] }) → Admits limit conn k known new wire wire
admits_new limit conn k entries known new kept wire is h room inserted fresh streams stands =
    let there : is_some (known_at known conn) ≡ false = rw is at h in
    let short : length streams < limit = rw (is, paired_length IsFor known streams stands) at room in
    let test : nat_le limit (length streams) ≡ false = grind (arith, nat_tests) in
    let stream : Stream = record { kind = k; bytes = [] } in (
      with_stream streams conn stream,
      rw (same_known known streams conn false stands there, test) (refl, refl),
      rw (inserted, is) (paired_insert IsFor conn known streams kept stream fresh stands),
    )

-- a connection that is opened doesn't end
opens_ends_none : (limit conn : ℕ) (k : Kind) (old new : Streams) (wire wire' : WireView) → Opens limit conn k old new wire wire' → [] ≡ ended_at conn old new
opens_ends_none limit conn k old new wire wire' opens = by_known (is_some (stream_at old conn)) refl opens
  where
    by_known : (b : Bool) → is_some (stream_at old conn) ≡ b
        → MatchBool b ((new ≡ old) × (wire' ≡ wire)) (MatchBool (nat_le limit (length old)) ((new ≡ old) × IsDone (Closed conn) wire wire') ((new ≡ with_stream old conn (record { kind = k; bytes = [] })) × (wire' ≡ wire)))
        → [] ≡ (if b && not (is_some (stream_at new conn)) then conn ∷ [] else [])
    by_known true e p = rw (p.0, e) refl
    by_known false e p = refl

-- a connection is opened
pub steps_opened : (host : Host) (seen : Seen) (limit conn : ℕ) (k : Kind) (known known' : Known) (wire wire' : WireView) (entropy : EntropyState) (table : Table) (rollouts : List Rolling) (stepped : Stepped)
    → limit ≡ host.profile.connections → Admits limit conn k known known' wire wire' → stepped ≡ record { stop = false; handled = []; ordered = []; entries = []; ended = [] }
    → Steps host seen (event.Opened conn k) known known' (first_scene wire entropy table rollouts) (scene_at wire' entropy table rollouts stepped) stepped
steps_opened host seen limit conn k known known' wire wire' entropy table rollouts stepped same admits is streams stands =
    let it = subst (λ (n : ℕ). Admits n conn k known known' wire wire') same admits streams stands in
    (it.0, rw is ((it.1, refl, refl)), (λ _. it.2), rw is (opens_ends_none host.profile.connections conn k streams it.0 wire wire' it.1))

-- what ended, by what was kept and by the streams
ended_there : (conn : ℕ) (known known' : Known) (streams streams' : Streams) → StandsFor known streams → StandsFor known' streams' → known_at known' conn ≡ None
    → ended_known conn known ≡ ended_at conn streams streams'
ended_there conn known known' streams streams' stands stands' gone =
    let away : is_some (stream_at streams' conn) ≡ false = same_known known' streams' conn false stands' (ap is_some gone) in
    let there : is_some (stream_at streams conn) ≡ is_some (known_at known conn) = same_known known streams conn (is_some (known_at known conn)) stands refl in
    rw (away, there) (by_known (is_some (known_at known conn)))
  where
    by_known : (b : Bool) → (if b then conn ∷ [] else []) ≡ (if b && true then conn ∷ [] else [])
    by_known true = refl
    by_known false = refl

-- a connection is closed
pub steps_closed : (host : Host) (seen : Seen) (conn : ℕ) (known known' : Known) (wire : WireView) (entropy : EntropyState) (table : Table) (rollouts : List Rolling) (stepped : Stepped)
    → Forgets conn known known' → stepped ≡ record { stop = false; handled = []; ordered = []; entries = []; ended = ended_known conn known }
    → Steps host seen (event.Closed conn) known known' (first_scene wire entropy table rollouts) (scene_at wire entropy table rollouts stepped) stepped
steps_closed host seen conn known known' wire entropy table rollouts stepped forgets is streams stands =
    let streams' = without_stream streams conn in
    let stands' : StandsFor known' streams' = rw forgets.entries (paired_remove IsFor (is_at (nat_cmp conn)) known streams stands) in
    (streams', rw is (refl, refl), (λ _. stands'), rw is (ended_there conn known known' streams streams' stands stands' forgets.gone))

-- what is looked up is there after its value was set
lookup_set : {X : Type 0} (test : ℕ → Bool) (es : List (ℕ × X)) (x : X) → is_some (lookup test (set_value test es x)) ≡ is_some (lookup test es)
lookup_set test [] x = refl
lookup_set test (e ∷ es) x = by_test (test e.0) refl (lookup_set test es x)
  where
    by_test : (b : Bool) → test e.0 ≡ b → is_some (lookup test (set_value test es x)) ≡ is_some (lookup test es)
        → is_some (lookup test (cond b ((e.0, x) ∷ es) (e ∷ set_value test es x))) ≡ is_some (cond b (Some e.1) (lookup test es))
    by_test true is more = rw is refl
    by_test false is more = rw is more

-- what is removed may be set before
remove_set : {X : Type 0} (test : ℕ → Bool) (es : List (ℕ × X)) (x : X) → remove_entry test (set_value test es x) ≡ remove_entry test es
remove_set test [] x = refl
remove_set {X} test (e ∷ es) x = by_test (test e.0) refl (remove_set test es x)
  where
    by_test : (b : Bool) → test e.0 ≡ b → remove_entry test (set_value test es x) ≡ remove_entry test es
        → remove_entry test (cond b ((e.0, x) ∷ es) (e ∷ set_value test es x)) ≡ cond b es (e ∷ remove_entry test es)
    by_test true is more = rw is refl
    by_test false is more = rw is (ap (λ (xs : List (ℕ × X)). e ∷ xs) more)

abbrev ending : Bool → Bool → Ending
ending stays stop = record { stays = stays; stop = stop }

none_from : {X : Type 0} (o : Option X) → is_some o ≡ false → o ≡ None
none_from None h = refl
none_from (Some x) h = absurd (cc h)

-- a connection on which bytes came stays, or is none that is known
pub piece_stays : (host : Host) (seen : Seen) (conn : ℕ) (bytes : List ℕ) (known known' : Known) (old new : Scene) (stays : Bool) (stepped : Stepped)
    → TakesPiece host seen conn bytes known known' old new (record { stays = stays; stop = stepped.stop }) → stays ≡ true → stepped.ended ≡ []
    → Steps host seen (event.Piece conn bytes) known known' old new stepped
piece_stays host seen conn bytes known known' old new stays stepped takes stay none streams stands = by_kept (known_at known conn) refl takes
  where
    by_kept : (o : Option Connection) → known_at known conn ≡ o
        → MatchOption o
        ((known' ≡ known) × (new ≡ old) × (ending stays stepped.stop ≡ record { stays = true; stop = false }))
        (λ kept. (kept' : Connection) × (known' ≡ set_value (is_at (nat_cmp conn)) known kept') × ServesPiece host (sight_of seen (numbers_in known)) conn bytes kept kept' old new (ending stays stepped.stop))
        → (streams' : Streams)
        × Does host seen (event.Piece conn bytes) (record { streams = streams; scene = old }) (record { streams = streams'; scene = new }) stepped.stop
        × (stepped.stop ≡ false → StandsFor known' streams')
        × (stepped.ended ≡ ended_at conn streams streams')
    by_kept None is p =
        let away : is_some (stream_at streams conn) ≡ false = same_known known streams conn false stands (ap is_some is) in
        let nowhere : stream_at streams conn ≡ None = none_from _ away in
        (streams, rw (nowhere, p.1) (refl, ap (λ (e : Ending). e.stop) p.2), (λ _. rw p.0 stands), rw away none)
    by_kept (Some kept) is p =
        let there = paired_lookup IsFor (is_at (nat_cmp conn)) known streams stands kept is in
        let serves = subst (λ (ns : List ℕ). ServesPiece host (sight_of seen ns) conn bytes kept p.0 old new (ending stays stepped.stop)) (same_numbers known streams stands) p.2 there.0 there.2 in
        let stream' : Stream = record there.0 { bytes = there.0.bytes ++ bytes } in
        let streams' : Streams = set_value (is_at (nat_cmp conn)) streams stream' in
        let still : is_some (stream_at streams' conn) ≡ true = lookup_set (is_at (nat_cmp conn)) streams stream' ∙ ap is_some there.1 in (
          streams',
          rw there.1 (serves.0.0, (ending stays stepped.stop), serves.0.1, serves.0.2, rw stay refl, refl),
          (λ goes_on. rw p.1 (paired_set IsFor (is_at (nat_cmp conn)) known streams p.0 stream' (serves.1 stay goes_on) stands)),
          rw (there.1, still) none,
        )

-- a connection on which bytes came ends
pub piece_ends : (host : Host) (seen : Seen) (conn : ℕ) (bytes : List ℕ) (known mid known' : Known) (old new : Scene) (stays : Bool) (stepped : Stepped)
    → TakesPiece host seen conn bytes known mid old new (record { stays = stays; stop = stepped.stop }) → stays ≡ false → Forgets conn mid known' → stepped.ended ≡ ended_known conn mid
    → Steps host seen (event.Piece conn bytes) known known' old new stepped
piece_ends host seen conn bytes known mid known' old new stays stepped takes leaves forgets ended streams stands = by_kept (known_at known conn) refl takes
  where
    by_kept : (o : Option Connection) → known_at known conn ≡ o
        → MatchOption o
        ((mid ≡ known) × (new ≡ old) × (ending stays stepped.stop ≡ record { stays = true; stop = false }))
        (λ kept. (kept' : Connection) × (mid ≡ set_value (is_at (nat_cmp conn)) known kept') × ServesPiece host (sight_of seen (numbers_in known)) conn bytes kept kept' old new (ending stays stepped.stop))
        → (streams' : Streams)
        × Does host seen (event.Piece conn bytes) (record { streams = streams; scene = old }) (record { streams = streams'; scene = new }) stepped.stop
        × (stepped.stop ≡ false → StandsFor known' streams')
        × (stepped.ended ≡ ended_at conn streams streams')
    by_kept None is p =
        let stay : stays ≡ true = ap (λ (e : Ending). e.stays) p.2 in
        absurd (cc (stay, leaves))
    by_kept (Some kept) is p =
        let there = paired_lookup IsFor (is_at (nat_cmp conn)) known streams stands kept is in
        let serves = subst (λ (ns : List ℕ). ServesPiece host (sight_of seen ns) conn bytes kept p.0 old new (ending stays stepped.stop)) (same_numbers known streams stands) p.2 there.0 there.2 in
        let streams' : Streams = without_stream streams conn in
        let stands' : StandsFor known' streams' =
        rw (forgets.entries, p.1, remove_set (is_at (nat_cmp conn)) known p.0) (paired_remove IsFor (is_at (nat_cmp conn)) known streams stands) in
        let away : is_some (stream_at streams' conn) ≡ false = same_known known' streams' conn false stands' (ap is_some forgets.gone) in
        let before : is_some (known_at mid conn) ≡ true = rw p.1 (lookup_set (is_at (nat_cmp conn)) known p.0 ∙ ap is_some is) in (
          streams',
          rw there.1 (serves.0.0, ending stays stepped.stop, serves.0.1, serves.0.2, rw leaves refl, refl),
          (λ _. stands'),
          ended ∙ rw (before, there.1, away) refl,
        )

-- a loop that knows nothing
pub none_known : (known : Known) (conn : ℕ) → known ≡ [] → IsSome (known_at known conn) → ⊥
none_known known conn is some = absurd (cc (rw is at some))

-- a value that is set changes nothing of what another test finds
pub found_set : {X : Type 0} (test other : ℕ → Bool) (es : List (ℕ × X)) (x : X) → is_some (lookup other (set_value test es x)) ≡ is_some (lookup other es)
found_set test other [] x = refl
found_set test other (e ∷ es) x = by_tests (test e.0) (other e.0) refl (found_set test other es x)
  where
    by_tests : (a b : Bool) → other e.0 ≡ b → is_some (lookup other (set_value test es x)) ≡ is_some (lookup other es)
        → is_some (lookup other (cond a ((e.0, x) ∷ es) (e ∷ set_value test es x))) ≡ is_some (cond b (Some e.1) (lookup other es))
    by_tests true true is more = rw is refl
    by_tests true false is more = rw is refl
    by_tests false true is more = rw is refl
    by_tests false false is more = rw is more

-- a connection that is forgotten is among those that ended, where it was known
pub forgets_known : (conn : ℕ) (old new : Known) → Forgets conn old new → KeepsKnown old new (ended_known conn old)
forgets_known conn old new forgets other was = by_same (cases_eq other conn)
  where
    ended : (b : Bool) → b ≡ true → IsTrue (list_any (λ c. c == other) (if b then other ∷ [] else []))
    ended true is = grind arith
    ended false is = absurd (cc is)

    by_same : (other ≡ conn) ⊎ (other ≢ conn) → IsSome (known_at new other) ⊎ IsTrue (list_any (λ c. c == other) (ended_known conn old))
    by_same (inl same) = inr (subst (λ (c : ℕ). IsTrue (list_any (λ c. c == other) (ended_known c old))) same (ended (is_some (known_at old other)) was))
    by_same (inr apart) = inl (rw (forgets.others other apart) was)

-- connections that are known still
pub known_still : (old new : Known) (ended : List ℕ) → ((other : ℕ) → IsSome (known_at old other) → IsSome (known_at new other)) → KeepsKnown old new ended
known_still old new ended still other was = inl (still other was)

-- connections of which one is forgotten then
pub known_then : (conn : ℕ) (old mid new : Known) → ((other : ℕ) → IsSome (known_at old other) → IsSome (known_at mid other)) → Forgets conn mid new → KeepsKnown old new (ended_known conn mid)
known_then conn old mid new still forgets other was = forgets_known conn mid new forgets other (still other was)

-- All that is due was done, of which nothing is told.
pub half_done : (host : Host) (seen : Seen) (e : WireEvent) (known known' : Known) (wire wire' : WireView) (entropy entropy' : EntropyState) (table : Table) (rollouts : List Rolling) (table' : Table) (rollouts' : List Rolling) (stepped : Stepped)
    → Steps host seen e known known' (first_scene wire entropy table rollouts) (scene_at wire' entropy' table' rollouts' stepped) stepped
    → (streams : Streams) → StandsFor known streams
    → HalfDoes host seen e (record { streams = streams; wire = wire; desk = desk_of entropy table rollouts }) wire' (desk_of entropy' table' rollouts')
half_done host seen e known known' wire wire' entropy entropy' table rollouts table' rollouts' stepped steps streams stands =
    let it = steps streams stands in
    inr (record { streams = it.0; scene = scene_at wire' entropy' table' rollouts' stepped }, stepped.stop, it.1, refl, refl)

-- a loop that forgets a connection stands for the streams without it
pub forgets_stands : (conn : ℕ) (known known' : Known) (streams : Streams) → StandsFor known streams → Forgets conn known known' → StandsFor known' (without_stream streams conn)
forgets_stands conn known known' streams stands forgets = rw forgets.entries (paired_remove IsFor (is_at (nat_cmp conn)) known streams stands)
