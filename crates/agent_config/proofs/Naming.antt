-- The files of a configuration have good names in the folder.
use Rattle.std.proofs.Common.{◌≡◌, ℕ, zero, suc, ◌<◌, List, [], ◌∷◌, length, get_or, Bool, true, false, cond, Option, Some, None, refl, sym, ◌∙◌, ap, arith}
use Rattle.std.specs.Prelude.{◌||◌, ◌&&◌, ◌==◌, not, find, option_map}
use Rattle.std.specs.List.{list_all}
use Rattle.std.proofs.lemmas.Bool.{false≢true}
use Rattle.plain_values.specs.declared.files.AgentConfigFile.{AgentConfigFile}
use Rattle.plain_values.specs.declared.maps.Pair.{Pair}
use Rattle.edge_devices.specs.Names.{is_good_name, is_good_among, are_good_names}
use Rattle.agent_config.specs.Config.{file_name, has_good_name, first_bad}

or_none : (a b : Bool) → b ≡ false → (a || b) ≡ true → a ≡ true
or_none true b none e = refl
or_none false b none e = absurd (false≢true (sym none ∙ e))

not_empty : (n : ℕ) (b : Bool) → ((suc n == 0) && b) ≡ false
not_empty n b = ap (λ t. t && b) (differ n)
  where
    differ : (n : ℕ) → (suc n == 0) ≡ false
    differ n = grind arith

good_file : (count : ℕ) (key : List ℕ) → is_good_among count key ≡ true → is_good_name (file_name key) ≡ true
good_file count [] e = refl
good_file count (byte ∷ bytes) e = or_none (is_good_name (byte ∷ bytes)) ((length (byte ∷ bytes) == 0) && (count == 1)) (not_empty (length bytes) (count == 1)) e

both : (a b : Bool) → (a && b) ≡ true → (a ≡ true) × (b ≡ true)
both true b e = (refl, e)
both false b e = absurd (false≢true e)

and_true : (a b : Bool) → a ≡ true → b ≡ true → (a && b) ≡ true
and_true true b e f = f
and_true false b e f = e

all_good : (count : ℕ) (files : List (Pair AgentConfigFile)) → list_all (λ file. is_good_among count file.key) files ≡ true → list_all has_good_name files ≡ true
all_good count [] e = refl
all_good count (file ∷ files) e =
    let two = both (is_good_among count file.key) (list_all (λ file. is_good_among count file.key) files) e in
    and_true (has_good_name file) (list_all has_good_name files) (good_file count file.key two.0) (all_good count files two.1)

pub good_files : (config : List (Pair AgentConfigFile)) → are_good_names config ≡ true → list_all has_good_name config ≡ true
good_files config e = all_good (length config) config e

pub good_at : (files : List (Pair AgentConfigFile)) (i : ℕ) (file : Pair AgentConfigFile) → list_all has_good_name files ≡ true → i < length files → file ≡ get_or files i file
    → has_good_name file ≡ true
good_at [] i file e within is = absurd (omega (arith, within))
good_at (x ∷ xs) zero file e within is = ap has_good_name is ∙ (both (has_good_name x) (list_all has_good_name xs) e).0
good_at (x ∷ xs) (suc i) file e within is = good_at xs i file (both (has_good_name x) (list_all has_good_name xs) e).1 (omega (arith, within)) is

abbrev is_there : Option (List ℕ) → Bool
is_there (Some name) = true
is_there None = false

found_cases : {X : Type 0} (key : X → List ℕ) (x : X) (rest : Option X) (all : Bool) (b : Bool) → (option_map key rest ≡ None → all ≡ true)
    → option_map key (cond (not b) (Some x) rest) ≡ None → (b && all) ≡ true
found_cases key x rest all true later e = later e
found_cases key x rest all false later e = absurd (false≢true (sym (ap is_there e)))

none_found : {X : Type 0} (good : X → Bool) (key : X → List ℕ) (xs : List X) → option_map key (find (λ x. not (good x)) xs) ≡ None → list_all good xs ≡ true
none_found good key [] e = refl
none_found good key (x ∷ xs) e = found_cases key x (find (λ x. not (good x)) xs) (list_all good xs) (good x) (none_found good key xs) e

pub no_bad : (config : List (Pair AgentConfigFile)) → first_bad config ≡ None → are_good_names config ≡ true
no_bad config e = none_found (λ file. is_good_among (length config) file.key) (λ file. file.key) config e
