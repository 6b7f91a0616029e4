-- Lines by their words.
use Rattle.std.proofs.Common.{◌≡◌, sym, ℕ, List, Bool, true, false, Option, None, Some, Result, Ok, Err, Bor, ◌&&◌, ◌∷◌, [], refl, ap, ◌∙◌}
use Rattle.std.specs.Prelude.{IsUtf8, IfOk, MatchOption}
use Rattle.std.specs.List.{list_all}
use Rattle.server_lines.specs.declared.orders.Order.{Order}
use Rattle.server_lines.specs.Words.{words_in, is_word}
use Rattle.server_lines.specs.Lines.{MeansOrder, IsNoOrder}
use Rattle.server_lines.specs.Reading.{order_of}
use Rattle.server_lines.proofs.ArgumentLemmas.{words}
use Rattle.server_lines.proofs.SpellingLemmas.{read_of_spelled, spelled_of_read, one_order}

pub means_read : (line : List ℕ) (read : Option Order) → IsUtf8 line → list_all is_word (words_in line) ≡ true → read ≡ order_of (words_in line)
    → MatchOption read (IsNoOrder line) (MeansOrder line)
means_read line None utf8 filled is = λ ordered means. absurd (let spelled = read_of_spelled (words_in line) ordered means.spelled in cc)
means_read line (Some ordered) utf8 filled is = record { utf8 = utf8; filled = filled; spelled = spelled_of_read (words_in line) ordered (sym is) }

pub unfilled : (line : List ℕ) → list_all is_word (words_in line) ≡ false → IsNoOrder line
unfilled line not_filled ordered means = absurd (let filled = means.filled in cc)

pub means_one : (line : List ℕ) (ordered other : Order) → MeansOrder line ordered → MeansOrder line other → ordered ≡ other
means_one line ordered other a b = one_order (words_in line) ordered other a.spelled b.spelled

filled_slices : (slices : List (Bor (List ℕ))) → list_all is_word (words slices) ≡ list_all (λ (w : Bor (List ℕ)). is_word w.now) slices
filled_slices [] = refl
filled_slices (w ∷ ws) = ap (λ b. is_word w.now && b) (filled_slices ws)

-- the slices are the words of a line
words_are : (line text : List ℕ) (items slices : List (Bor (List ℕ))) → text ≡ line → words items ≡ words_in text → slices ≡ items → words slices ≡ words_in line
words_are line text items slices same cut taken = ap words taken ∙ cut ∙ ap words_in same

pub read_filled : {E : Type 0} (line text : List ℕ) (items slices others : List (Bor (List ℕ))) (filled : Bool) (result : Result (Option Order) E)
    → text ≡ line → IsUtf8 line → words items ≡ words_in text → slices ≡ items → others ≡ items
    → filled ≡ list_all (λ (w : Bor (List ℕ)). is_word w.now) slices → filled ≡ true
    → IfOk result (λ read. read ≡ order_of (words others)) → IfOk result (λ read. MatchOption read (IsNoOrder line) (MeansOrder line))
read_filled line text items slices others filled (Ok read) same utf8 cut taken again test is made =
    let all : list_all is_word (words_in line) ≡ true =
    ap (list_all is_word) (sym (words_are line text items slices same cut taken)) ∙ filled_slices slices ∙ sym test ∙ is in
    means_read line read utf8 all (made ∙ ap order_of (words_are line text items others same cut again))
read_filled line text items slices others filled (Err e) same utf8 cut taken again test is made = tt

pub read_unfilled : (line text : List ℕ) (items slices : List (Bor (List ℕ))) (filled : Bool) → text ≡ line → words items ≡ words_in text → slices ≡ items
    → filled ≡ list_all (λ (w : Bor (List ℕ)). is_word w.now) slices → filled ≡ false → IsNoOrder line
read_unfilled line text items slices filled same cut taken test is =
    unfilled line (ap (list_all is_word) (sym (words_are line text items slices same cut taken)) ∙ filled_slices slices ∙ sym test ∙ is)
