-- A line of so many words.
use Rattle.std.proofs.Common.{◌≡◌, ◌∙◌, ℕ, List, [], ◌∷◌, Bool, true, false, cond, Option, None, Some, eqb, ◌&&◌, ◌⊎◌, inl, inr, refl, sym, ap}
use Rattle.std.specs.Prelude.{codes}
use Rattle.std.specs.Bool.{then_some}
use Rattle.std.specs.Cmp.Lexicographic.{bytes_decides}
use Rattle.std.specs.List.{onto_first}
use Rattle.std.specs.Option.{MatchOption, IsSomeAnd, option_map}
use Rattle.std.proofs.lemmas.List.Splits.{slice_split_at, slice_split_none}
use Rattle.std.specs.Str.{bytes_eq}
use Rattle.world_scripts.specs.declared.lines.Line.TheVariants.{Caps, Attr, HealthOk, HealthBad, Effective, Custom, Component, Deliver, ServerRestart, Record, Push}
use Rattle.world_scripts.specs.Cuts.{IsCut, IsFree, words_in}
use Rattle.world_scripts.specs.Lines.{line_in, line_of_one, line_of_two, line_of_three, line_of_four, line_of_words, connection_offered, stop_armed}
use Rattle.world_scripts.specs.Words.{is_word, capabilities_in, decimal_number, digit_number}

-- one word more in front of the others
words_more : (line front rest : List ℕ) → IsCut 32 line front rest → words_in line ≡ front ∷ words_in rest
words_more line front rest cut = ap words_in cut.whole ∙ slice_split_at (λ b. eqb b 32) front 32 rest cut.first refl

one_word : (line : List ℕ) → IsFree 32 line → words_in line ≡ line ∷ []
one_word line free = slice_split_none (λ b. eqb b 32) line free

more_than_four : (verb first second third : List ℕ) (b : ℕ) (ended : Bool) (xs ys : List (List ℕ))
    → line_of_words (verb ∷ first ∷ second ∷ third ∷ cond ended ([] ∷ xs) (onto_first b ys)) ≡ None
more_than_four verb first second third b true xs ys = refl
more_than_four verb first second third b false xs [] = refl
more_than_four verb first second third b false xs (y ∷ ys) = refl

-- a fifth word or more
too_many : (verb first second third line : List ℕ) → line_of_words (verb ∷ first ∷ second ∷ third ∷ words_in line) ≡ None
too_many verb first second third [] = refl
too_many verb first second third (b ∷ line) = more_than_four verb first second third b (eqb b 32) (words_in line) (words_in line)

pub line_of_one_word : (line : List ℕ) → IsFree 32 line → line_in line ≡ line_of_one line
unfolding line_in
line_of_one_word line free = rw (one_word line free) refl

pub line_of_two_words : (line verb word : List ℕ) → IsCut 32 line verb word → IsFree 32 word → line_in line ≡ line_of_two verb word
unfolding line_in
line_of_two_words line verb word cut free = rw (words_more line verb word cut, one_word word free) refl

pub line_of_three_words : (line verb rest first second : List ℕ) → IsCut 32 line verb rest → IsCut 32 rest first second → IsFree 32 second
    → line_in line ≡ line_of_three verb first second
unfolding line_in
line_of_three_words line verb rest first second cut again free =
    rw (words_more line verb rest cut, words_more rest first second again, one_word second free) refl

-- the words of a line whose first three are these
three_words : (line verb rest first more second last : List ℕ) → IsCut 32 line verb rest → IsCut 32 rest first more → IsCut 32 more second last
    → words_in line ≡ verb ∷ first ∷ second ∷ words_in last
three_words line verb rest first more second last cut again third =
    rw (words_more line verb rest cut, words_more rest first more again, words_more more second last third) refl

pub line_of_four_words : (line verb rest first more second last : List ℕ) → IsCut 32 line verb rest → IsCut 32 rest first more → IsCut 32 more second last
    → IsFree 32 last → line_in line ≡ line_of_four verb first second last
unfolding line_in
line_of_four_words line verb rest first more second last cut again third free =
    rw (three_words line verb rest first more second last cut again third, one_word last free) refl

pub line_of_more_words : (line verb rest first more second other third last : List ℕ) → IsCut 32 line verb rest → IsCut 32 rest first more
    → IsCut 32 more second other → IsCut 32 other third last → line_in line ≡ None
unfolding line_in
line_of_more_words line verb rest first more second other third last cut again behind fourth =
    rw (three_words line verb rest first more second other cut again behind, words_more other third last fourth) (too_many verb first second third last)

-- what a closure makes of the value, where there is one
pub mapped : {A B : Type 0} (given : Option A) (made : Option B) (Made : A → B → Type 0) (f : A → B) → MatchOption given (made ≡ None) (λ x. IsSomeAnd made (Made x)) → ((x : A) (y : B) → Made x y → y ≡ f x)
    → made ≡ option_map f given
mapped None made Made f cases is = cases
mapped (Some x) (Some y) Made f cases is = ap Some (is x y cases)
mapped (Some x) None Made f cases is = absurd cases

pub map_then_some : {A B : Type 0} (f : A → B) (some : Bool) (x : A) → option_map f (then_some some x) ≡ then_some some (f x)
map_then_some f true x = refl
map_then_some f false x = refl

two_names : (verb one other : List ℕ) → bytes_eq one other ≡ false → true ≡ bytes_eq verb one → bytes_eq verb other ≡ false
two_names verb one other apart is = ap (λ v. bytes_eq v other) ((bytes_decides verb one).0 (sym is)) ∙ apart

module _ (verb first second : List ℕ) where
  pub attribute_line : true ≡ bytes_eq verb (codes "attr") → line_of_three verb first second ≡ then_some (is_word first && is_word second) (Attr first second)
  unfolding line_of_three
  attribute_line is = rw (sym is) refl

  module _ (not_attribute : false ≡ bytes_eq verb (codes "attr")) where
    pub effective_line : true ≡ bytes_eq verb (codes "effective") → line_of_three verb first second ≡ then_some (is_word first && is_word second) (Effective first second)
    unfolding line_of_three
    effective_line is = rw (sym not_attribute, sym is) refl

    module _ (not_effective : false ≡ bytes_eq verb (codes "effective")) where
      pub health_line : true ≡ bytes_eq verb (codes "health") → true ≡ bytes_eq first (codes "bad") → line_of_three verb first second ≡ then_some (is_word second) (HealthBad second)
      unfolding line_of_three
      health_line is bad = rw (sym not_attribute, sym not_effective, sym is, sym bad) refl

      pub connection_line : true ≡ bytes_eq verb (codes "offer-connection") → line_of_three verb first second ≡ connection_offered first second
      unfolding line_of_three
      connection_line is = rw (sym not_attribute, sym not_effective, two_names verb (codes "offer-connection") (codes "health") refl is, sym is) refl

      module _ (not_connection : false ≡ bytes_eq verb (codes "offer-connection")) where
        pub stop_line : true ≡ bytes_eq verb (codes "stop") → line_of_three verb first second ≡ stop_armed first second
        unfolding line_of_three
        stop_line is = rw (sym not_attribute, sym not_effective, two_names verb (codes "stop") (codes "health") refl is, sym not_connection, sym is) refl

        -- another verb, or health that isn't bad
        pub other_line : false ≡ bytes_eq verb (codes "stop") → (false ≡ bytes_eq verb (codes "health")) ⊎ (false ≡ bytes_eq first (codes "bad")) → None ≡ line_of_three verb first second
        unfolding line_of_three
        other_line not_stop (inl other) = rw (sym not_attribute, sym not_effective, sym other, sym not_connection, sym not_stop) refl
        other_line not_stop (inr good) = rw (sym not_attribute, sym not_effective, sym good, sym not_connection, sym not_stop) (by_test (bytes_eq verb (codes "health")))
          where
            by_test : (b : Bool) → None ≡ cond b (then_some (false && is_word second) (HealthBad second)) None
            by_test true = refl
            by_test false = refl

module _ (verb word : List ℕ) where
  pub capabilities_line : true ≡ bytes_eq verb (codes "caps") → line_of_two verb word ≡ option_map Caps (capabilities_in word)
  unfolding line_of_two
  capabilities_line is = rw (sym is) refl

  module _ (not_capabilities : false ≡ bytes_eq verb (codes "caps")) where
    pub health_ok_line : true ≡ bytes_eq verb (codes "health") → line_of_two verb word ≡ then_some (bytes_eq word (codes "ok")) HealthOk
    unfolding line_of_two
    health_ok_line is = rw (sym not_capabilities, sym is) refl

    module _ (not_health_ok : false ≡ bytes_eq verb (codes "health")) where
      pub custom_line : true ≡ bytes_eq verb (codes "custom") → line_of_two verb word ≡ then_some (is_word word) (Custom word)
      unfolding line_of_two
      custom_line is = rw (sym not_capabilities, sym not_health_ok, sym is) refl

      module _ (not_custom : false ≡ bytes_eq verb (codes "custom")) where
        pub component_line : true ≡ bytes_eq verb (codes "component") → line_of_two verb word ≡ then_some (is_word word) (Component word)
        unfolding line_of_two
        component_line is = rw (sym not_capabilities, sym not_health_ok, sym not_custom, sym is) refl

        module _ (not_component : false ≡ bytes_eq verb (codes "component")) where
          pub deliver_line : true ≡ bytes_eq verb (codes "deliver") → line_of_two verb word ≡ option_map Deliver (decimal_number word)
          unfolding line_of_two
          deliver_line is = rw (sym not_capabilities, sym not_health_ok, sym not_custom, sym not_component, sym is) refl

          module _ (not_deliver : false ≡ bytes_eq verb (codes "deliver")) where
            pub server_restart_line : true ≡ bytes_eq verb (codes "server-restart") → line_of_two verb word ≡ option_map ServerRestart (digit_number word)
            unfolding line_of_two
            server_restart_line is = rw (sym not_capabilities, sym not_health_ok, sym not_custom, sym not_component, sym not_deliver, sym is) refl

            module _ (not_server_restart : false ≡ bytes_eq verb (codes "server-restart")) where
              pub record_line : true ≡ bytes_eq verb (codes "record") → line_of_two verb word ≡ option_map Record (digit_number word)
              unfolding line_of_two
              record_line is = rw (sym not_capabilities, sym not_health_ok, sym not_custom, sym not_component, sym not_deliver, sym not_server_restart, sym is) refl

              module _ (not_record : false ≡ bytes_eq verb (codes "record")) where
                pub push_line : true ≡ bytes_eq verb (codes "push") → line_of_two verb word ≡ option_map Push (digit_number word)
                unfolding line_of_two
                push_line is = rw (sym not_capabilities, sym not_health_ok, sym not_custom, sym not_component, sym not_deliver, sym not_server_restart, sym not_record, sym is) refl

                module _ (not_push : false ≡ bytes_eq verb (codes "push")) where
                  pub no_line_of_two : None ≡ line_of_two verb word
                  unfolding line_of_two
                  no_line_of_two = rw (sym not_capabilities, sym not_health_ok, sym not_custom, sym not_component, sym not_deliver, sym not_server_restart, sym not_record, sym not_push) refl
