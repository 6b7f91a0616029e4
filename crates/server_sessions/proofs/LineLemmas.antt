-- Lines of an operator.
use Rattle.std.proofs.Common.{◌≡◌, ◌≢◌, ℕ, List, [], ◌∷◌, ◌++◌, map, Bool, true, false, not, ◌&&◌, Option, MatchBool, refl, sym, ap, ◌∙◌, append_assoc, append-nil, ◌⊎◌, inl, inr}
use Rattle.std.proofs.lemmas.Grind.{flat_map-append}
use Rattle.std.proofs.lemmas.List.{map-append}
use Rattle.std.proofs.lemmas.List.Elements.{All-nil, All-cons, All-head, All-tail, All-append, All-push}
use Rattle.std.specs.List.{flat_map}
use Rattle.std.proofs.lemmas.Bool.{cases_eq}
use Rattle.edge_devices.specs.declared.wires.Kind.{Kind}
use Rattle.edge_devices.specs.declared.wires.Kind.TheVariants as kind
use Rattle.edge_devices.specs.Clocks.{EntropyState}
use Rattle.server_core.specs.declared.replies.Profile.{Profile}
use Rattle.server_lines.specs.Sights.{Sight}
use Rattle.server_sessions.specs.Streams.{Item, AreLines, IsOneLine, ended_line, line_item, rest_items}
use Rattle.server_sessions.specs.Reports.{Host, silent}
use Rattle.server_sessions.specs.Session.{Scene, Ending, Serves, ServesAll}
use Rattle.message_values.specs.declared.custom.CustomMessage.{CustomMessage}
use Rattle.server_sessions.specs.declared.connection.Connection.TheVariants as connection
use Rattle.server_sessions.specs.Connections.{LinesServed, ServesLines, ServesPiece}
use Rattle.server_sessions.proofs.SessionLemmas.{wider_all}

-- items that are served one list after the other
pub serves_append : (host : Host) (k : Kind) (conn : ℕ) (xs ys : List Item) (a b c : Scene) (end : Ending)
    → ServesAll host k conn xs a b (record { stays = true; stop = false }) → ServesAll host k conn ys b c end → ServesAll host k conn (xs ++ ys) a c end
serves_append host k conn [] ys a b c end p q = rw (sym p.0) q
serves_append host k conn (x ∷ xs) ys a b c end p q =
    (p.0, p.1, p.2, by_end (p.1.stays && not p.1.stop) refl (λ r. serves_append host k conn xs ys p.0 b c end r q) p.3)
  where
    by_end : (t : Bool) → (p.1.stays && not p.1.stop) ≡ t
        → (ServesAll host k conn xs p.0 b (record { stays = true; stop = false }) → ServesAll host k conn (xs ++ ys) p.0 c end)
        → MatchBool t (ServesAll host k conn xs p.0 b (record { stays = true; stop = false })) ((b ≡ p.0) × (◌≡◌ {A = Ending} (record { stays = true; stop = false }) p.1))
        → MatchBool t (ServesAll host k conn (xs ++ ys) p.0 c end) ((c ≡ p.0) × (end ≡ p.1))
    by_end true is more r = more r
    by_end false is more r = absurd (cc (is, ap (λ (e : Ending). e.stays && not e.stop) r.1))

-- one item more, behind which nothing is handled where the connection doesn't stay or the run ends
pub serves_last : (host : Host) (k : Kind) (conn : ℕ) (item : Item) (items : List Item) (a b : Scene) (end : Ending)
    → Serves host k conn item a b end → (end.stays && not end.stop) ≡ false → ServesAll host k conn (item ∷ items) a b end
serves_last host k conn item items a b end served is = (b, end, served, rw is (refl, refl))

-- one item more, behind which it goes on
pub serves_on : (host : Host) (k : Kind) (conn : ℕ) (item : Item) (a b : Scene)
    → Serves host k conn item a b (record { stays = true; stop = false }) → ServesAll host k conn (item ∷ []) a b (record { stays = true; stop = false })
serves_on host k conn item a b served = (b, record { stays = true; stop = false }, served, (refl, refl))

abbrev NoFeed : ℕ → Type 0
NoFeed byte = byte ≢ 10

-- bytes have lines
pub lines_exist : (bytes : List ℕ) → (lines : List (List ℕ)) × (rest : List ℕ) × AreLines bytes lines rest
lines_exist [] = ([], [], record { whole = refl; each = All-nil IsOneLine; partial = All-nil NoFeed })
lines_exist (b ∷ bytes) = by_feed (cases_eq b 10) (lines_exist bytes)
  where
    by_lines : (lines : List (List ℕ)) (rest : List ℕ) → b ≢ 10 → AreLines bytes lines rest → (lines' : List (List ℕ)) × (rest' : List ℕ) × AreLines (b ∷ bytes) lines' rest'
    by_lines [] rest apart q = ([], b ∷ rest, record { whole = ap (λ (xs : List ℕ). b ∷ xs) q.whole; each = All-nil IsOneLine; partial = All-cons NoFeed b rest apart q.partial })
    by_lines (line ∷ lines) rest apart q = (
      (b ∷ line) ∷ lines,
      rest,
      record {
        whole = ap (λ (xs : List ℕ). b ∷ xs) q.whole;
        each = All-cons IsOneLine (b ∷ line) lines (All-cons NoFeed b line apart (All-head IsOneLine line lines q.each)) (All-tail IsOneLine line lines q.each);
        partial = q.partial;
      },
    )

    by_feed : (b ≡ 10) ⊎ (b ≢ 10) → (lines : List (List ℕ)) × (rest : List ℕ) × AreLines bytes lines rest → (lines : List (List ℕ)) × (rest : List ℕ) × AreLines (b ∷ bytes) lines rest
    by_feed (inl is) p = ([] ∷ p.0, p.1, record { whole = rw is (ap (λ (xs : List ℕ). 10 ∷ xs) p.2.whole); each = All-cons IsOneLine [] p.0 (All-nil NoFeed) p.2.each; partial = p.2.partial })
    by_feed (inr apart) p = by_lines p.0 p.1 apart p.2

module _ (profile : Profile) (sight : Sight) (conn : ℕ) (part bytes front left line rest : List ℕ) (old new new' : EntropyState → Scene) where
  -- where a next line stands
  next_line : (done : List (List ℕ)) → part ++ bytes ≡ flat_map ended_line done ++ (front ++ left) → left ≡ ended_line line ++ rest
      → part ++ bytes ≡ flat_map ended_line (done ++ (front ++ line) ∷ []) ++ rest
  next_line done whole cut = whole ∙ rw cut (simp (flat_map-append, append_assoc, append-nil))

  -- one more line, behind which it goes on
  pub lines_on : (front' : List ℕ) → IsOneLine front × LinesServed profile sight conn (part ++ bytes) (front ++ left) old new → left ≡ ended_line line ++ rest → IsOneLine line → front' ≡ []
      → ((entropy : EntropyState) → Serves (silent profile) kind.Operator conn (line_item sight (front ++ line)) (new entropy) (new' entropy) (record { stays = true; stop = false }))
      → IsOneLine front' × LinesServed profile sight conn (part ++ bytes) (front' ++ rest) old new'
  lines_on front' so cut one empty served =
      let p = so.1 in
      let done : List (List ℕ) = p.0 ++ (front ++ line) ∷ [] in (
        rw empty (All-nil NoFeed),
        (
          done,
          rw empty (next_line p.0 p.1 cut),
          All-push IsOneLine p.0 (front ++ line) p.2 (All-append NoFeed front line so.0 one),
          λ entropy. rw map-append (serves_append (silent profile) kind.Operator conn (map (line_item sight) p.0) (line_item sight (front ++ line) ∷ []) (old entropy) (new entropy) (new' entropy) _
              (p.3 entropy) (serves_on (silent profile) kind.Operator conn (line_item sight (front ++ line)) (new entropy) (new' entropy) (served entropy))),
        ),
      )

  -- the last line that is handled
  pub lines_last : (part' : List ℕ) (end : Ending) → IsOneLine front × LinesServed profile sight conn (part ++ bytes) (front ++ left) old new → left ≡ ended_line line ++ rest → IsOneLine line
      → (entropy : EntropyState) → Serves (silent profile) kind.Operator conn (line_item sight (front ++ line)) (new entropy) (new' entropy) end → (end.stays && not end.stop) ≡ false
      → ServesLines (silent profile) sight conn part bytes part' (old entropy) (new' entropy) end
  lines_last part' end so cut one entropy served is =
      let p = so.1 in
      let l : List ℕ = front ++ line in
      let more = lines_exist rest in
      let lines : List (List ℕ) = (p.0 ++ l ∷ []) ++ more.0 in
      let items : List Item = map (line_item sight) more.0 ++ rest_items more.1 in (
        lines,
        more.1,
        record {
          whole = next_line p.0 p.1 cut ∙ ap (λ (xs : List ℕ). flat_map ended_line (p.0 ++ l ∷ []) ++ xs) more.2.whole ∙ simp (flat_map-append, append_assoc);
          each = All-append IsOneLine (p.0 ++ l ∷ []) more.0 (All-push IsOneLine p.0 l p.2 (All-append NoFeed front line so.0 one)) more.2.each;
          partial = more.2.partial;
        },
        simp (map-append, append_assoc) (serves_append (silent profile) kind.Operator conn (map (line_item sight) p.0) (line_item sight l ∷ items) (old entropy) (new entropy) (new' entropy) end (p.3 entropy)
            (serves_last (silent profile) kind.Operator conn (line_item sight l) items (new entropy) (new' entropy) end served is)),
        λ stays goes_on. absurd (cc (rw (stays, goes_on) at is)),
      )

  -- no line is whole in what is left
  pub lines_end : (part' : List ℕ) (stays stop : Bool) → stop ≡ false → IsOneLine front × LinesServed profile sight conn (part ++ bytes) (front ++ left) old new → IsOneLine left
      → (entropy : EntropyState) → ServesAll (silent profile) kind.Operator conn (rest_items (front ++ left)) (new entropy) (new' entropy) (record { stays = stays; stop = false })
      → (stays ≡ true → part' ≡ front ++ left)
      → ServesLines (silent profile) sight conn part bytes part' (old entropy) (new' entropy) (record { stays = stays; stop = stop })
  lines_end part' stays stop goes_on so one entropy served kept =
      let p = so.1 in (
        p.0,
        front ++ left,
        record { whole = p.1; each = p.2; partial = All-append NoFeed front left so.0 one },
        rw goes_on (serves_append (silent profile) kind.Operator conn (map (line_item sight) p.0) (rest_items (front ++ left)) (old entropy) (new entropy) (new' entropy) _ (p.3 entropy) served),
        λ there _. kept there,
      )

-- new lines behind those before
join_lines : (before bytes part rest : List ℕ) (old new : List (List ℕ)) → AreLines before old part → AreLines (part ++ bytes) new rest → AreLines (before ++ bytes) (old ++ new) rest
join_lines before bytes part rest old new a n = record {
  whole = ap (λ (xs : List ℕ). xs ++ bytes) a.whole ∙ append_assoc (flat_map ended_line old) part bytes ∙ ap (λ (xs : List ℕ). flat_map ended_line old ++ xs) n.whole ∙ simp (flat_map-append, append_assoc);
  each = All-append IsOneLine old new a.each n.each;
  partial = n.partial;
}

-- lines are what a piece of an operator brings
pub lines_piece : (profile : Profile) (answers : CustomMessage → Option CustomMessage → Type 0) (sight : Sight) (conn : ℕ) (bytes part part' : List ℕ) (old new : Scene) (end : Ending)
    → (IsOneLine part → ServesLines (silent profile) sight conn part bytes part' old new end)
    → ServesPiece (record { profile = profile; answers = answers }) sight conn bytes (connection.Operator part) (connection.Operator part') old new end
lines_piece profile answers sight conn bytes part part' old new end lines stream is =
    let a = is.1.1 in
    let n = lines a.partial in
    let all = join_lines stream.bytes bytes part n.1 is.1.0 n.0 a n.2 in
    let items : List Item = map (line_item sight) n.0 ++ rest_items n.1 in (
      rw is.0 (items, (is.1.0, n.0, part, n.1, a, all, refl), wider_all profile (λ m r. ⊥) answers (λ m r none. absurd none) kind.Operator conn items old new end n.3),
      λ stays goes_on. (is.0, (is.1.0 ++ n.0, rw (n.4 stays goes_on) all)),
    )
