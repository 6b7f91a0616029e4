-- The names of the capabilities that have handlers.
use Rattle.std.specs.Prelude.{◌≡◌, ℕ, List, [], ◌∷◌, ⊤}
use Rattle.std.specs.List.{AllByRecursion}
use Rattle.std.specs.declared.cmp.Ordering.TheVariants.{Less}
use Rattle.plain_values.specs.Pairs.{byte_cmp}
use Rattle.message_handlers.specs.Handling.{is_held}
use Rattle.message_handlers.specs.declared.stored.Handlers.{Handlers}

-- the names, in the order of their handlers
abbrev pub names_of : {V : Type 0} {P : V → Type 0} → Handlers V P → List (List ℕ)
names_of handlers = handlers.names.items

-- each name is below all later ones in byte order
abbrev pub AreAscending : List (List ℕ) → Type 0
AreAscending [] = ⊤
AreAscending (name ∷ names) = AllByRecursion (λ other. byte_cmp name other ≡ Less) names × AreAscending names

-- These are the names in ascending order.
pub record IsOrdered (names ordered : List (List ℕ)) : Type 0 where
  pub ascending : AreAscending ordered
  pub same : (name : List ℕ) → is_held ordered name ≡ is_held names name
