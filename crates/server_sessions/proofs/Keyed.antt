-- Entries under keys that differ, as those of known connections do.
use Rattle.std.proofs.Common.{◌≡◌, ℕ, ◌+◌, ◌≤◌, List, [], ◌∷◌, Bool, true, false, cond, None, Some, is_some, refl, sym, ap, subst, arith}
use Rattle.std.specs.declared.cmp.Ordering.{Ordering}
use Rattle.std.specs.declared.cmp.Ordering.TheVariants.{Less, Equal, Greater}
use Rattle.std.specs.Ordering.{is_eq, match_ordering, nat_cmp}
use Rattle.std.specs.Map.{lookup, remove_entry, set_value}
use Rattle.std.specs.BTreeMap.{insert_entry, is_at}
use Rattle.std.proofs.lemmas.Map.Lookups.{exact_unsigned}
use Rattle.server_sessions.specs.Behind.{IsKeyed, entries_of}

module _ {X : Type 0} where
  -- none of that key
  absent : (key : ℕ) (es : List (ℕ × X)) → entries_of key es ≡ 0 → lookup (is_at (nat_cmp key)) es ≡ None
  absent key [] none = refl
  absent key (e ∷ es) none = by_test (is_at (nat_cmp key) e.0) none (absent key es)
    where
      by_test : (b : Bool) → cond b 1 0 + entries_of key es ≡ 0 → (entries_of key es ≡ 0 → lookup (is_at (nat_cmp key)) es ≡ None) → cond b (Some e.1) (lookup (is_at (nat_cmp key)) es) ≡ None
      by_test true isnt more = absurd (omega (arith, isnt))
      by_test false isnt more = more (omega (arith, isnt))

  present : (key : ℕ) (es : List (ℕ × X)) → is_some (lookup (is_at (nat_cmp key)) es) ≡ false → entries_of key es ≡ 0
  present key [] none = refl
  present key (e ∷ es) none = by_test (is_at (nat_cmp key) e.0) none (present key es)
    where
      by_test : (b : Bool) → is_some (cond b (Some e.1) (lookup (is_at (nat_cmp key)) es)) ≡ false → (is_some (lookup (is_at (nat_cmp key)) es) ≡ false → entries_of key es ≡ 0) → cond b 1 0 + entries_of key es ≡ 0
      by_test true isnt more = absurd (cc isnt)
      by_test false isnt more = let rest : entries_of key es ≡ 0 = more isnt in omega (arith, rest)

  one_fewer : (key : ℕ) (es : List (ℕ × X)) → entries_of key es ≤ 1 → entries_of key (remove_entry (is_at (nat_cmp key)) es) ≡ 0
  one_fewer key [] once = refl
  one_fewer key (e ∷ es) once = by_test (is_at (nat_cmp key) e.0) refl once (one_fewer key es)
    where
      by_test : (b : Bool) → is_at (nat_cmp key) e.0 ≡ b → cond b 1 0 + entries_of key es ≤ 1 → (entries_of key es ≤ 1 → entries_of key (remove_entry (is_at (nat_cmp key)) es) ≡ 0)
          → entries_of key (cond b es (e ∷ remove_entry (is_at (nat_cmp key)) es)) ≡ 0
      by_test true is few more = omega (arith, few)
      by_test false is few more = let rest : entries_of key (remove_entry (is_at (nat_cmp key)) es) ≡ 0 = more (omega (arith, few)) in rw is (omega (arith, rest))

  -- Without its entry there is none of that key.
  pub gone : (key : ℕ) (es : List (ℕ × X)) → IsKeyed es → lookup (is_at (nat_cmp key)) (remove_entry (is_at (nat_cmp key)) es) ≡ None
  gone key es once = absent key (remove_entry (is_at (nat_cmp key)) es) (one_fewer key es (once key))

  fewer : (key : ℕ) (test : ℕ → Bool) (es : List (ℕ × X)) → entries_of key (remove_entry test es) ≤ entries_of key es
  fewer key test [] = omega arith
  fewer key test (e ∷ es) = by_test (test e.0) (fewer key test es)
    where
      by_test : (b : Bool) → entries_of key (remove_entry test es) ≤ entries_of key es → entries_of key (cond b es (e ∷ remove_entry test es)) ≤ entries_of key (e ∷ es)
      by_test true more = omega arith
      by_test false more = omega (arith, more)

  pub keyed_without : (test : ℕ → Bool) (es : List (ℕ × X)) → IsKeyed es → IsKeyed (remove_entry test es)
  keyed_without test es once = λ key. let less : entries_of key (remove_entry test es) ≤ entries_of key es = fewer key test es in let was : entries_of key es ≤ 1 = once key in omega (arith, less, was)

  same_keys : (key : ℕ) (test : ℕ → Bool) (es : List (ℕ × X)) (w : X) → entries_of key (set_value test es w) ≡ entries_of key es
  same_keys key test [] w = refl
  same_keys key test (e ∷ es) w = by_test (test e.0) (same_keys key test es w)
    where
      by_test : (b : Bool) → entries_of key (set_value test es w) ≡ entries_of key es → entries_of key (cond b ((e.0, w) ∷ es) (e ∷ set_value test es w)) ≡ entries_of key (e ∷ es)
      by_test true more = refl
      by_test false more = ap (λ n. cond (is_at (nat_cmp key) e.0) 1 0 + n) more

  pub keyed_set : (test : ℕ → Bool) (es : List (ℕ × X)) (w : X) → IsKeyed es → IsKeyed (set_value test es w)
  keyed_set test es w once = λ key. rw (same_keys key test es w) (once key)

  one_more : (key new : ℕ) (w : X) (es : List (ℕ × X)) → entries_of key (insert_entry nat_cmp es new w) ≤ cond (is_at (nat_cmp key) new) 1 0 + entries_of key es
  one_more key new w [] = omega arith
  one_more key new w (e ∷ es) = by_order (nat_cmp new e.0) (one_more key new w es)
    where
      by_order : (o : Ordering) → entries_of key (insert_entry nat_cmp es new w) ≤ cond (is_at (nat_cmp key) new) 1 0 + entries_of key es
          → entries_of key (match_ordering o ((new, w) ∷ e ∷ es) ((e.0, w) ∷ es) (e ∷ insert_entry nat_cmp es new w)) ≤ cond (is_at (nat_cmp key) new) 1 0 + entries_of key (e ∷ es)
      by_order Less more = omega arith
      by_order Equal more = omega arith
      by_order Greater more = omega (arith, more)

  -- An entry of a new key comes to them.
  pub keyed_with : (new : ℕ) (w : X) (es : List (ℕ × X)) → is_some (lookup (is_at (nat_cmp new)) es) ≡ false → IsKeyed es → IsKeyed (insert_entry nat_cmp es new w)
  keyed_with new w es none once = λ key. by_test key (is_at (nat_cmp key) new) refl (one_more key new w es)
    where
      is_equal : (o : Ordering) → is_eq o ≡ true → o ≡ Equal
      is_equal Less is = absurd (cc is)
      is_equal Equal is = refl
      is_equal Greater is = absurd (cc is)

      by_test : (key : ℕ) (b : Bool) → is_at (nat_cmp key) new ≡ b → entries_of key (insert_entry nat_cmp es new w) ≤ cond b 1 0 + entries_of key es → entries_of key (insert_entry nat_cmp es new w) ≤ 1
      by_test key true is more =
          let same : key ≡ new = exact_unsigned key new (is_equal (nat_cmp key new) is) in
          let zero : entries_of key es ≡ 0 = subst (λ (k : ℕ). entries_of k es ≡ 0) (sym same) (present new es none) in
          omega (arith, more, zero)
      by_test key false is more = let was : entries_of key es ≤ 1 = once key in omega (arith, more, was)

pub keyed_none : (X : Type 0) → IsKeyed {X = X} []
keyed_none X = λ key. omega arith
