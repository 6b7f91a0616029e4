-- What becomes of bytes that came on a connection, of which an operator's are served over all known connections.
use Rattle.std.proofs.Common.{◌≡◌, ℕ, List, [], ◌∷◌, Bool, true, false, cond, Option, None, Some, is_some, IsSome, MatchOption, refl, sym, ap, ◌∙◌, subst}
use Rattle.std.specs.Ordering.{nat_cmp}
use Rattle.std.specs.Map.{set_value}
use Rattle.std.specs.BTreeMap.{is_at}
use Rattle.message_values.specs.declared.custom.CustomMessage.{CustomMessage}
use Rattle.server_core.specs.declared.replies.Profile.{Profile}
use Rattle.server_lines.specs.Sights.{Seen, numbers_in, sight_of}
use Rattle.server_sessions.specs.Connections.{Known, ServesPiece, TakesLines, TakesPiece, known_at, with_kept}
use Rattle.server_sessions.specs.Pieces.{BeginsPiece, TakesFirst}
use Rattle.server_sessions.specs.Reports.{Host, silent}
use Rattle.server_sessions.specs.Session.{Ending, Scene}
use Rattle.server_sessions.specs.declared.connection.Connection.{Connection}
use Rattle.server_sessions.specs.declared.connection.Connection.TheVariants.{Operator}
use Rattle.server_sessions.specs.declared.connections.Piece.TheVariants.{Lines, Served}
use Rattle.server_sessions.proofs.LineLemmas.{lines_piece}
use Rattle.server_sessions.proofs.LoopLemmas.{found_set}

-- a value that is set twice
set_twice : {X : Type 0} (test : ℕ → Bool) (es : List (ℕ × X)) (x y : X) → set_value test (set_value test es x) y ≡ set_value test es y
set_twice test [] x y = refl
set_twice {X} test (e ∷ es) x y = by_test (test e.0) refl (set_twice test es x y)
  where
    by_test : (b : Bool) → test e.0 ≡ b → set_value test (set_value test es x) y ≡ set_value test es y
        → set_value test (cond b ((e.0, x) ∷ es) (e ∷ set_value test es x)) y ≡ cond b ((e.0, y) ∷ es) (e ∷ set_value test es y)
    by_test true is more = rw is refl
    by_test false is more = rw is (ap (λ (xs : List (ℕ × X)). e ∷ xs) more)

-- the numbers stay where a value is set
numbers_set : {X : Type 0} (test : ℕ → Bool) (es : List (ℕ × X)) (x : X) → numbers_in (set_value test es x) ≡ numbers_in es
numbers_set test [] x = refl
numbers_set test (e ∷ es) x = by_test (test e.0) (numbers_set test es x)
  where
    by_test : (b : Bool) → numbers_in (set_value test es x) ≡ numbers_in es → numbers_in (cond b ((e.0, x) ∷ es) (e ∷ set_value test es x)) ≡ numbers_in (e ∷ es)
    by_test true more = refl
    by_test false more = ap (λ (ns : List ℕ). e.0 ∷ ns) more

-- the same connections are known where something else is kept of one
pub known_with : (known known' : Known) (conn other : ℕ) (kept : Connection) → known' ≡ with_kept known conn kept → IsSome (known_at known' other) → IsSome (known_at known other)
known_with known known' conn other kept is there =
    sym (found_set (is_at (nat_cmp conn)) (is_at (nat_cmp other)) known kept) ∙ ap (λ (k : Known). is_some (known_at k other)) (sym is) ∙ there

pub still_with : (known known' : Known) (conn other : ℕ) (kept : Connection) → known' ≡ with_kept known conn kept → IsSome (known_at known other) → IsSome (known_at known' other)
still_with known known' conn other kept is there =
    ap (λ (k : Known). is_some (known_at k other)) is ∙ found_set (is_at (nat_cmp conn)) (is_at (nat_cmp other)) known kept ∙ there

module _ (host : Host) (conn : ℕ) (bytes : List ℕ) (known mid : Known) (old now : Scene) (stop : Bool) where
  -- a front is lent of a connection that is known, before which nothing ended the run
  pub lines_known : (front : List ℕ) → TakesFirst host conn bytes (Lines front) known mid old now stop → IsSome (known_at known conn)
  lines_known front first = by_kept (known_at known conn) first
    where
      by_kept : (o : Option Connection)
          → MatchOption o ((mid ≡ known) × (now ≡ old) × (Lines front ≡ Served true) × (stop ≡ false)) (λ kept. (kept' : Connection) × (mid ≡ with_kept known conn kept') × BeginsPiece host conn bytes (Lines front) kept kept' old now stop)
          → is_some o ≡ true
      by_kept None p = absurd (cc p.2)
      by_kept (Some kept) p = refl

  pub lines_go_on : (front : List ℕ) → TakesFirst host conn bytes (Lines front) known mid old now stop → stop ≡ false
  lines_go_on front first = by_kept (known_at known conn) first
    where
      by_kept : (o : Option Connection)
          → MatchOption o ((mid ≡ known) × (now ≡ old) × (Lines front ≡ Served true) × (stop ≡ false)) (λ kept. (kept' : Connection) × (mid ≡ with_kept known conn kept') × BeginsPiece host conn bytes (Lines front) kept kept' old now stop)
          → stop ≡ false
      by_kept None p = p.3
      by_kept (Some kept) p = p.2.3

  -- what was served at once
  pub served_taken : (seen : Seen) (stays : Bool) → TakesFirst host conn bytes (Served stays) known mid old now stop
      → TakesPiece host seen conn bytes known mid old now (record { stays = stays; stop = stop })
  served_taken seen stays first = by_kept (known_at known conn) first
    where
      stays_so : Served stays ≡ Served true → stays ≡ true
      stays_so e = cc e

      by_kept : (o : Option Connection)
          → MatchOption o ((mid ≡ known) × (now ≡ old) × (Served stays ≡ Served true) × (stop ≡ false)) (λ kept. (kept' : Connection) × (mid ≡ with_kept known conn kept') × BeginsPiece host conn bytes (Served stays) kept kept' old now stop)
          → MatchOption o ((mid ≡ known) × (now ≡ old) × (◌≡◌ {A = Ending} (record { stays = stays; stop = stop }) (record { stays = true; stop = false })))
          (λ kept. (kept' : Connection) × (mid ≡ with_kept known conn kept') × ServesPiece host (sight_of seen (numbers_in known)) conn bytes kept kept' old now (record { stays = stays; stop = stop }))
      by_kept None p = (p.0, p.1, (λ i. record { stays = stays_so p.2 i; stop = p.3 i }))
      by_kept (Some kept) p = (p.0, p.1, p.2 (sight_of seen (numbers_in known)))

-- an operator's front is lent, and its lines are served
pub lines_taken : (profile : Profile) (answers : CustomMessage → Option CustomMessage → Type 0) (seen : Seen) (conn : ℕ) (bytes front : List ℕ) (known mid known' : Known) (old now new : Scene) (stop : Bool) (end : Ending)
    → TakesFirst (record { profile = profile; answers = answers }) conn bytes (Lines front) known mid old now stop
    → TakesLines (silent profile) (sight_of seen (numbers_in mid)) conn bytes front mid known' now new end
    → TakesPiece (record { profile = profile; answers = answers }) seen conn bytes known known' old new end
lines_taken profile answers seen conn bytes front known mid known' old now new stop end first lines = by_kept (known_at known conn) first
  where
    by_kept : (o : Option Connection)
        → MatchOption o ((mid ≡ known) × (now ≡ old) × (Lines front ≡ Served true) × (stop ≡ false))
        (λ kept. (kept' : Connection) × (mid ≡ with_kept known conn kept') × BeginsPiece (record { profile = profile; answers = answers }) conn bytes (Lines front) kept kept' old now stop)
        → MatchOption o ((known' ≡ known) × (new ≡ old) × (end ≡ record { stays = true; stop = false }))
        (λ kept. (kept' : Connection) × (known' ≡ with_kept known conn kept') × ServesPiece (record { profile = profile; answers = answers }) (sight_of seen (numbers_in known)) conn bytes kept kept' old new end)
    by_kept None p = absurd (cc p.2)
    by_kept (Some kept) p =
        let same : numbers_in mid ≡ numbers_in known = ap numbers_in p.1 ∙ numbers_set (is_at (nat_cmp conn)) known p.0 in
        let piece = lines_piece profile answers (sight_of seen (numbers_in mid)) conn bytes front lines.0 now new end lines.2 in (
          Operator lines.0,
          lines.1 ∙ ap (λ (k : Known). with_kept k conn (Operator lines.0)) p.1 ∙ set_twice (is_at (nat_cmp conn)) known p.0 (Operator lines.0),
          subst (λ (k : Connection). ServesPiece (record { profile = profile; answers = answers }) (sight_of seen (numbers_in known)) conn bytes k (Operator lines.0) old new end) (sym p.2.0)
              (subst (λ (s : Scene). ServesPiece (record { profile = profile; answers = answers }) (sight_of seen (numbers_in known)) conn bytes (Operator front) (Operator lines.0) s new end) p.2.2
              (subst (λ (ns : List ℕ). ServesPiece (record { profile = profile; answers = answers }) (sight_of seen ns) conn bytes (Operator front) (Operator lines.0) now new end) same piece)),
        )
