-- One server of these handlers says one profile.
use Rattle.std.proofs.Common.{◌≡◌, ℕ, List, [], ◌∷◌, Bool, true, false, ◌||◌, refl, sym, ◌∙◌, ap, subst}
use Rattle.std.proofs.lemmas.Bool.{false_from_ne_true}
use Rattle.std.proofs.lemmas.Cmp.{nat_list_cmp_total}
use Rattle.std.specs.Cmp.Lexicographic.{bytes_decides}
use Rattle.std.specs.List.{AllByRecursion}
use Rattle.std.specs.Ordering.{ordering_reverse}
use Rattle.std.specs.Str.{bytes_eq}
use Rattle.std.specs.declared.cmp.Ordering.TheVariants.{Greater, Less}
use Rattle.plain_values.specs.Pairs.{byte_cmp}
use Rattle.message_handlers.specs.Handling.{is_held}
use Rattle.message_handlers.specs.Names.{AreAscending}
use Rattle.server_core.specs.declared.replies.Profile.{Profile}
use Rattle.command_serve.specs.Serving.{IsProfileWith}

not_both : (u v : List ℕ) → byte_cmp u v ≡ Less → byte_cmp v u ≡ Less → ⊥
not_both u v below above = let greater : byte_cmp u v ≡ Greater = nat_list_cmp_total.antisymm u v ∙ ap ordering_reverse above in absurd (cc (below, greater))

held_is_below : (u : List ℕ) (us : List (List ℕ)) (v : List ℕ) → AllByRecursion (λ w. byte_cmp u w ≡ Less) us → is_held us v ≡ true → byte_cmp u v ≡ Less
held_is_below u [] v below held = absurd (cc held)
held_is_below u (w ∷ us) v below held = by_first (bytes_eq w v) refl held (held_is_below u us v below.1)
  where
    by_first : (b : Bool) → bytes_eq w v ≡ b → (b || is_held us v) ≡ true → (is_held us v ≡ true → byte_cmp u v ≡ Less) → byte_cmp u v ≡ Less
    by_first true e h more = subst (λ (x : List ℕ). byte_cmp u x ≡ Less) ((bytes_decides w v).0 e) below.0
    by_first false e h more = more h

not_held : (u : List ℕ) (us : List (List ℕ)) → AllByRecursion (λ w. byte_cmp u w ≡ Less) us → is_held us u ≡ false
not_held u us below =
    false_from_ne_true (is_held us u) (λ held. let less : byte_cmp u u ≡ Less = held_is_below u us u below held in not_both u u less less)

held_first : (u : List ℕ) (us : List (List ℕ)) → is_held (u ∷ us) u ≡ true
held_first u us = let same : bytes_eq u u ≡ true = (bytes_decides u u).1 refl in rw same refl

-- names in ascending order are the same list where they are the same names
one_order : (us vs : List (List ℕ)) → AreAscending us → AreAscending vs → ((name : List ℕ) → is_held us name ≡ is_held vs name) → us ≡ vs
one_order [] [] p q same = refl
one_order [] (v ∷ vs) p q same = let no : false ≡ true = same v ∙ held_first v vs in absurd (cc no)
one_order (u ∷ us) [] p q same = let no : true ≡ false = sym (held_first u us) ∙ same u in absurd (cc no)
one_order (u ∷ us) (v ∷ vs) p q same = by_first (bytes_eq u v) refl (one_order us vs p.1 q.1)
  where
    other : (name : List ℕ) → bytes_eq u name ≡ false → u ≡ v → is_held us name ≡ is_held vs name
    other name e head =
        let f : bytes_eq v name ≡ false = subst (λ (x : List ℕ). bytes_eq x name ≡ false) head e in
        let whole : (bytes_eq u name || is_held us name) ≡ (bytes_eq v name || is_held vs name) = same name in
        rw (e, f) at whole

    tails : u ≡ v → (name : List ℕ) → is_held us name ≡ is_held vs name
    tails head name = by_name (bytes_eq u name) refl
      where
        by_name : (b : Bool) → bytes_eq u name ≡ b → is_held us name ≡ is_held vs name
        by_name true e =
            let is : u ≡ name = (bytes_decides u name).0 e in
            let left : is_held us name ≡ false = subst (λ (x : List ℕ). is_held us x ≡ false) is (not_held u us p.0) in
            let right : is_held vs name ≡ false = subst (λ (x : List ℕ). is_held vs x ≡ false) (sym head ∙ is) (not_held v vs q.0) in
            left ∙ sym right
        by_name false e = other name e head

    apart_left : bytes_eq u v ≡ false → byte_cmp u v ≡ Less
    apart_left e =
        let whole : (bytes_eq u v || is_held us v) ≡ true = same v ∙ held_first v vs in
        held_is_below u us v p.0 (rw e at whole)

    apart_right : bytes_eq u v ≡ false → byte_cmp v u ≡ Less
    apart_right e =
        let other_way : bytes_eq v u ≡ false = false_from_ne_true (bytes_eq v u) (λ is. let back : bytes_eq u v ≡ true = (bytes_decides u v).1 (sym ((bytes_decides v u).0 is)) in cc (e, back)) in
        let whole : (bytes_eq v u || is_held vs u) ≡ true = sym (same u) ∙ held_first u us in
        held_is_below v vs u q.0 (rw other_way at whole)

    by_first : (b : Bool) → bytes_eq u v ≡ b → (((name : List ℕ) → is_held us name ≡ is_held vs name) → us ≡ vs) → u ∷ us ≡ v ∷ vs
    by_first true e more =
        let head : u ≡ v = (bytes_decides u v).0 e in
        let tail : us ≡ vs = more (tails head) in
        cc (head, tail)
    by_first false e more = absurd (not_both u v (apart_left e) (apart_right e))

pub one_profile : (names : List (List ℕ)) (limit : ℕ) (a b : Profile) → IsProfileWith names limit a → IsProfileWith names limit b → a ≡ b
one_profile names limit a b p q =
    let capabilities : a.capabilities ≡ b.capabilities = p.capabilities ∙ sym q.capabilities in
    let customs : a.custom.capabilities ≡ b.custom.capabilities =
    one_order a.custom.capabilities b.custom.capabilities p.custom.ascending q.custom.ascending (λ name. p.custom.same name ∙ sym (q.custom.same name)) in
    let connections : a.connections ≡ b.connections = p.connections ∙ sym q.connections in
    λ i. record { capabilities = capabilities i; custom = record { capabilities = customs i }; connections = connections i }
