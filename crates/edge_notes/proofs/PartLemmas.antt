-- Notes of several parts.
use Rattle.std.proofs.Common.{◌≡◌, ◌∙◌, ℕ, ◌+◌, ◌<◌, ◌≤◌, List, [], ◌∷◌, ◌++◌, length, get_or, take, drop, Option, refl, sym, ap, subst, inl, inr, arith, append_assoc, append-nil, take_all, take-append-drop}
use Rattle.std.proofs.lemmas.List.{take_more}
use Rattle.std.proofs.lemmas.List.Concat.{flat_map-append}
use Rattle.std.proofs.KnownBytes.{Appends-trans}
use Rattle.std.specs.List.{flat_map}
use Rattle.std.specs.Io.KnownBytes.{Appends}
use Rattle.edge_devices.specs.Faults.{HasRisen}
use Rattle.edge_devices.specs.Streams.{SinkView}
use Rattle.edge_notes.specs.Noted.{IsCutOff, IsFrontOf, IsNoted}

later : (a b c : ℕ) → a ≤ b → HasRisen b c → HasRisen a c
later a b c before (inl more) = inl (omega (arith, before, more))
later a b c before (inr most) = inr most

module _ {X : Type 0} (text : X → List ℕ) where
  -- a part more
  pub parts_more : (xs : List X) (i : ℕ) (d : X) (a b c : Option (List ℕ)) (part : List ℕ) → Appends a b (flat_map text (take i xs)) → Appends b c part → part ≡ text (get_or xs i d) → i < length xs
      → Appends a c (flat_map text (take (i + 1) xs))
  parts_more xs i d a b c part before put is within =
      let joined : flat_map text (take i xs) ++ part ≡ flat_map text (take (i + 1) xs) =
      ap (λ (p : List ℕ). flat_map text (take i xs) ++ p) (is ∙ sym (append-nil (text (get_or xs i d))))
      ∙ sym (flat_map-append text (take i xs) (get_or xs i d ∷ []))
      ∙ ap (flat_map text) (sym (take_more xs i d within)) in
      subst (λ (bytes : List ℕ). Appends a c bytes) joined (Appends-trans a b c _ _ before put)

  -- The parts before one, a front of it and what else there is are all parts.
  front_of_parts : (xs : List X) (i : ℕ) (d : X) (part : List ℕ) (n : ℕ) → part ≡ text (get_or xs i d) → i < length xs → IsFrontOf (flat_map text (take i xs) ++ take n part) (flat_map text xs)
  front_of_parts xs i d part n is within =
      let rest = flat_map text (drop (i + 1) xs) in
      let one : (flat_map text (take i xs) ++ take n part) ++ (drop n part ++ rest) ≡ flat_map text (take i xs) ++ (part ++ rest) =
      append_assoc (flat_map text (take i xs)) (take n part) (drop n part ++ rest)
      ∙ ap (λ (l : List ℕ). flat_map text (take i xs) ++ l) (sym (append_assoc (take n part) (drop n part) rest) ∙ ap (λ (l : List ℕ). l ++ rest) (take-append-drop n part)) in
      let both : flat_map text (take i xs) ++ (part ++ rest) ≡ flat_map text (take (i + 1) xs) ++ rest =
      sym (append_assoc (flat_map text (take i xs)) part rest)
      ∙ ap (λ (l : List ℕ). l ++ rest)
      (ap (λ (p : List ℕ). flat_map text (take i xs) ++ p) (is ∙ sym (append-nil (text (get_or xs i d))))
      ∙ sym (flat_map-append text (take i xs) (get_or xs i d ∷ []))
      ∙ ap (flat_map text) (sym (take_more xs i d within))) in
      let all : flat_map text (take (i + 1) xs) ++ rest ≡ flat_map text xs =
      sym (flat_map-append text (take (i + 1) xs) (drop (i + 1) xs)) ∙ ap (flat_map text) (take-append-drop (i + 1) xs) in
      (drop n part ++ rest, one ∙ both ∙ all)

  -- the sink failed at a part
  pub parts_cut : (xs : List X) (i : ℕ) (d : X) (a b c : SinkView) (part : List ℕ) (n : ℕ) → Appends a.taken b.taken (flat_map text (take i xs)) → a.faults ≤ b.faults
      → Appends b.taken c.taken (take n part) → HasRisen b.faults c.faults → part ≡ text (get_or xs i d) → i < length xs → IsNoted (flat_map text xs) a c
  parts_cut xs i d a b c part n before count put risen is within = inr (record {
    failed = later a.faults b.faults c.faults count risen;
    front = flat_map text (take i xs) ++ take n part;
    of_text = front_of_parts xs i d part n is within;
    taken = Appends-trans a.taken b.taken c.taken _ _ before put;
  })

  -- all parts
  pub parts_taken : (xs : List X) (i : ℕ) (a b : SinkView) → Appends a.taken b.taken (flat_map text (take i xs)) → length xs ≤ i → IsNoted (flat_map text xs) a b
  parts_taken xs i a b taken all = inl (subst (λ (l : List X). Appends a.taken b.taken (flat_map text l)) (take_all i xs all) taken)

-- a note of one part that the sink failed at
pub text_cut : (text : List ℕ) (a b : SinkView) (n : ℕ) → Appends a.taken b.taken (take n text) → HasRisen a.faults b.faults → IsNoted text a b
text_cut text a b n taken risen = inr (record { failed = risen; front = take n text; of_text = (drop n text, take-append-drop n text); taken = taken })
