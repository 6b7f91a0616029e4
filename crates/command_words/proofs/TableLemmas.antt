-- Adding rows of the table one by one.
use Rattle.std.proofs.Common.{◌≡◌, ◌∙◌, ℕ, ◌+◌, ◌<◌, List, [], ◌∷◌, ◌++◌, length, get_or, map, take, refl, sym, ap, ap₂}
use Rattle.std.proofs.lemmas.List.{take_more, map-append}
use Rattle.clap.specs.Words.{App, Rule, Shape, Text, with_rule, with_subcommand}
use Rattle.command_words.specs.Rows.{rule_in, shape_in, with_all}
use Rattle.command_words.specs.Table.{subcommand}
use Rattle.command_words.specs.declared.table.Argument.{Argument}
use Rattle.command_words.specs.declared.table.Subcommand.{Subcommand}

abbrev alone : Text → List Rule → App
alone name rules = record { top = subcommand name rules; subs = [] }

pub rules_more : (name : Text) (xs : List Argument) (i : ℕ) (d : Argument) (old new : App) (r : Rule)
    → old ≡ record { top = subcommand name (map rule_in (take i xs)); subs = [] } → new ≡ with_rule old r
    → r ≡ rule_in (get_or xs i d) → i < length xs
    → new ≡ record { top = subcommand name (map rule_in (take (i + 1) xs)); subs = [] }
rules_more name xs i d old new r was is row within =
    is ∙ ap₂ with_rule was row
    ∙ ap (alone name) (sym (ap (map rule_in) (take_more xs i d within) ∙ map-append rule_in (take i xs) (get_or xs i d ∷ [])))

with_all-push : (app : App) (xs : List Subcommand) (x : Subcommand)
    → with_all app (xs ++ x ∷ []) ≡ with_subcommand (with_all app xs) (shape_in x)
with_all-push app [] x = refl
with_all-push app (y ∷ ys) x = with_all-push (with_subcommand app (shape_in y)) ys x

pub all_more : (app : App) (xs : List Subcommand) (i : ℕ) (d : Subcommand) (old new : App) (s : Shape)
    → old ≡ with_all app (take i xs) → new ≡ with_subcommand old s → s ≡ shape_in (get_or xs i d) → i < length xs
    → new ≡ with_all app (take (i + 1) xs)
all_more app xs i d old new s was is row within =
    is ∙ ap₂ with_subcommand was row
    ∙ sym (ap (with_all app) (take_more xs i d within) ∙ with_all-push app (take i xs) (get_or xs i d))
