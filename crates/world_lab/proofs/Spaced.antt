-- Lines of words.
use Rattle.std.proofs.Common.{◌≡◌, ◌∙◌, ℕ, List, [], ◌∷◌, ◌++◌, ap, sym, refl, append_assoc}
use Rattle.std.specs.List.{join_with_byte}
use Rattle.world_lab.specs.Transcripts.{text_line}
use Rattle.world_lab.specs.Words.{spaced}

append_nothing : (xs : List ℕ) → xs ++ [] ≡ xs
append_nothing [] = refl
append_nothing (x ∷ xs) = ap (λ ys. x ∷ ys) (append_nothing xs)

-- words with a blank between them are the first word, and the others with a blank before each
join_spaced : (word : List ℕ) (words : List (List ℕ)) → join_with_byte 32 (word ∷ words) ≡ word ++ spaced words
join_spaced word [] = sym (append_nothing word)
join_spaced word (next ∷ words) = ap (λ (t : List ℕ). word ++ (32 ∷ t)) (join_spaced next words)

spaced_append : (xs ys : List (List ℕ)) → spaced (xs ++ ys) ≡ spaced xs ++ spaced ys
spaced_append [] ys = refl
spaced_append (x ∷ xs) ys = ap (λ (t : List ℕ). (32 ∷ x) ++ t) (spaced_append xs ys) ∙ sym (append_assoc (32 ∷ x) (spaced xs) (spaced ys))

-- a line that grew by three rows of words
pub line_grown : (old word t1 t2 t3 t4 t5 : List ℕ) (a b c : List (List ℕ))
    → t1 ≡ old ++ word → t2 ≡ t1 ++ spaced a → t3 ≡ t2 ++ spaced b → t4 ≡ t3 ++ spaced c → t5 ≡ t4 ++ 10 ∷ []
    → t5 ≡ old ++ text_line (word ∷ (a ++ (b ++ c)))
line_grown old word t1 t2 t3 t4 t5 a b c e1 e2 e3 e4 e5 =
    e5
    ∙ ap (λ (t : List ℕ). t ++ 10 ∷ []) (e4 ∙ ap (λ (t : List ℕ). t ++ spaced c) (e3 ∙ ap (λ (t : List ℕ). t ++ spaced b) (e2 ∙ ap (λ (t : List ℕ). t ++ spaced a) e1)))
    ∙ ap (λ (t : List ℕ). t ++ 10 ∷ []) joined
    ∙ append_assoc old (join_with_byte 32 (word ∷ (a ++ (b ++ c)))) (10 ∷ [])
  where
    joined : (((old ++ word) ++ spaced a) ++ spaced b) ++ spaced c ≡ old ++ join_with_byte 32 (word ∷ (a ++ (b ++ c)))
    joined =
        append_assoc ((old ++ word) ++ spaced a) (spaced b) (spaced c)
        ∙ ap (λ (t : List ℕ). ((old ++ word) ++ spaced a) ++ t) (sym (spaced_append b c))
        ∙ append_assoc (old ++ word) (spaced a) (spaced (b ++ c))
        ∙ ap (λ (t : List ℕ). (old ++ word) ++ t) (sym (spaced_append a (b ++ c)))
        ∙ append_assoc old word (spaced (a ++ (b ++ c)))
        ∙ ap (λ (t : List ℕ). old ++ t) (sym (join_spaced word (a ++ (b ++ c))))
