-- How the files of an area come to be those of a configuration.
use Rattle.std.proofs.Common.{◌≡◌, ℕ, zero, suc, ◌+◌, ◌<◌, List, [], ◌∷◌, ◌++◌, length, get_or, take, Bool, true, false, cond, Option, Some, None, refl, sym, ◌∙◌, ap, subst, arith, inl, inr, ◌⊎◌}
use Rattle.std.specs.Prelude.{fold, Contains, IsSome, Result, Ok, Err, IsErrAnd, IsTrue, ◌||◌}
use Rattle.std.specs.Str.{bytes_eq}
use Rattle.std.specs.Cmp.Lexicographic.{bytes_decides}
use Rattle.std.proofs.lemmas.Bool.{false≢true}
use Rattle.std.proofs.lemmas.Grind.{take_at_read}
use Rattle.std.proofs.lemmas.List.Elements.{Contains-append_cases}
use Rattle.edge_devices.proofs.Running.{makes_none, runs_then, runs_done}
use Rattle.plain_values.specs.declared.files.AgentConfigFile.{AgentConfigFile}
use Rattle.plain_values.specs.declared.maps.Pair.{Pair}
use Rattle.edge_devices.specs.Folders.{Files, FolderState, AreNames, SameAreas, SameOthers, Runs, is_file, same_area}
use Rattle.edge_devices.specs.declared.folders.Area.{Area}
use Rattle.edge_devices.specs.declared.folders.Area.TheVariants.{Config, Packages, Status}
use Rattle.edge_devices.specs.declared.folders.FolderFail.{FolderFail}
use Rattle.edge_devices.specs.declared.folders.FolderFail.TheVariants.{NoMemory}
use Rattle.agent_config.specs.Config.{AreFiles, file_name, with_file, files_of, has_file, Leaves}

-- After the first files were written.
pub record Writes (start now : FolderState) (files : List (Pair AgentConfigFile)) : Type 0 where
  pub written : IsTrue now.told → AreFiles (now.files Config) (fold with_file (start.files Config) files)
  pub others : SameAreas Config start.files now.files
  pub runs : Runs {T = Unit} start now (Ok tt)

-- After the files of these names were removed, but those of the configuration.
pub record Removes (start now : FolderState) (config : List (Pair AgentConfigFile)) (names : List (List ℕ)) : Type 0 where
  pub left : IsTrue now.told → Leaves config names (start.files Config) (now.files Config)
  pub others : SameAreas Config start.files now.files
  pub runs : Runs {T = Unit} start now (Ok tt)

bool_cases : (b : Bool) → (b ≡ true) ⊎ (b ≡ false)
bool_cases true = inl refl
bool_cases false = inr refl

or_false : (a b : Bool) → (a || b) ≡ false → (a ≡ false) × (b ≡ false)
or_false true b e = absurd (false≢true (sym e))
or_false false b e = (refl, e)

or_left : (a b : Bool) → (a || b) ≡ true → b ≡ false → a ≡ true
or_left true b e f = refl
or_left false b e f = absurd (false≢true (sym f ∙ e))

none_of : (o : Option (List ℕ)) → (IsSome o → ⊥) → o ≡ None
none_of None h = refl
none_of (Some x) h = absurd (h refl)

fold_snoc : {A X : Type 0} (f : A → X → A) (a : A) (xs : List X) (x : X) → fold f a (xs ++ x ∷ []) ≡ f (fold f a xs) x
fold_snoc f a [] x = refl
fold_snoc f a (y ∷ ys) x = fold_snoc f (f a y) ys x

-- a name that no file has
fold_free : (config : List (Pair AgentConfigFile)) (base : Files) (name : List ℕ) → has_file config name ≡ false → fold with_file base config name ≡ base name
fold_free [] base name e = refl
fold_free (p ∷ ps) base name e =
    let both = or_false (bytes_eq (file_name p.key) name) (has_file ps name) e in
    fold_free ps (with_file base p) name both.1 ∙ ap (λ b. cond b (Some p.value.body) (base name)) both.0

-- a name that some file has
fold_held : (config : List (Pair AgentConfigFile)) (base other : Files) (name : List ℕ) → has_file config name ≡ true → fold with_file base config name ≡ fold with_file other config name
fold_held [] base other name e = absurd (false≢true e)
fold_held (p ∷ ps) base other name e = elim (bool_cases (has_file ps name)) [
  | inl more ↦ fold_held ps (with_file base p) (with_file other p) name more
  | inr last ↦
      let here = or_left (bytes_eq (file_name p.key) name) (has_file ps name) e last in
      fold_free ps (with_file base p) name last ∙ ap (λ b. cond b (Some p.value.body) (base name)) here
      ∙ sym (fold_free ps (with_file other p) name last ∙ ap (λ b. cond b (Some p.value.body) (other name)) here)
]

-- what changes one file of the area leaves the other areas as they were
pub same_elsewhere : (name : List ℕ) (old new : Area → Files) → SameOthers Config name old new → SameAreas Config old new
same_elsewhere name old new same other file e = same other file (elsewhere other e)
  where
    elsewhere : (other : Area) → same_area Config other ≡ false → is_file Config name other file ≡ false
    elsewhere Config e = absurd (false≢true (sym e))
    elsewhere Packages e = refl
    elsewhere Status e = refl

-- where memory was wanting no call is told
pub runs_wanting : {T : Type 0} (state : FolderState) (result : Result T FolderFail) → IsErrAnd result (λ fail. fail ≡ NoMemory) → Runs state state result
runs_wanting state (Ok value) is = absurd is
runs_wanting {T} state (Err fail) is = subst (λ (fail : FolderFail). Runs {T = T} state state (Err fail)) (sym is) (record { seen = []; makes = makes_none state; stops = refl })

-- the file of that name was written
pub one_written : (old new : Area → Files) (x : Pair AgentConfigFile) (name : List ℕ) → name ≡ file_name x.key → new Config name ≡ Some x.value.body → SameOthers Config name old new
    → AreFiles (new Config) (with_file (old Config) x)
one_written old new x name is written same other = elim (bool_cases (bytes_eq (file_name x.key) other)) [
  | inl this ↦ ap (new Config) (sym (is ∙ (bytes_decides (file_name x.key) other).0 this)) ∙ written ∙ sym (ap (λ b. cond b (Some x.value.body) (old Config other)) this)
  | inr apart ↦ same Config other (ap (λ n. bytes_eq n other) is ∙ apart) ∙ sym (ap (λ b. cond b (Some x.value.body) (old Config other)) apart)
]

pub writes_none : (start : FolderState) → Writes start start []
writes_none start = record { written = λ t name. refl; others = λ other file e. refl; runs = runs_done start tt }

pub writes_more : (start now next : FolderState) (files : List (Pair AgentConfigFile)) (i : ℕ) (x : Pair AgentConfigFile) → Writes start now (take i files)
    → i < length files → x ≡ get_or files i x
    → (IsTrue next.told → AreFiles (next.files Config) (with_file (now.files Config) x)) → SameAreas Config now.files next.files → Runs {T = Unit} now next (Ok tt)
    → Writes start next (take (i + 1) files)
writes_more start now next files i x w within is written others runs = record {
  written = λ t name.
      let told : IsTrue now.told = subst IsTrue runs.makes.told t in
      written t name ∙ ap (λ o. cond (bytes_eq (file_name x.key) name) (Some x.value.body) o) (w.written told name)
      ∙ sym (ap (λ (files : Files). files name) (fold_snoc with_file (start.files Config) (take i files) x))
      ∙ sym (ap (λ files. fold with_file (start.files Config) files name) ((take_at_read files i x within).1 ∙ ap (λ y. take i files ++ y ∷ []) (sym is)));
  others = λ other file e. others other file e ∙ w.others other file e;
  runs = runs_then start now next tt (Ok tt) w.runs runs;
}

-- the names that were looked at, with one more that isn't this
not_more : (names : List (List ℕ)) (x name : List ℕ) → (x ≡ name → ⊥) → ¬ Contains names name → ¬ Contains (names ++ x ∷ []) name
not_more names x name differs none c = elim (Contains-append_cases names (x ∷ []) name c) [ inl before ↦ none before | inr last ↦ differs (lone x name last) ]
  where
    lone : (x name : List ℕ) → Contains (x ∷ []) name → x ≡ name
    lone x name (zero, h, e) = e
    lone x name (suc k, h, e) = absurd (omega (arith, h))

pub leaves_same : (config : List (Pair AgentConfigFile)) (names : List (List ℕ)) (x : List ℕ) (old new : Files) → has_file config x ≡ true
    → Leaves config names old new → Leaves config (names ++ x ∷ []) old new
leaves_same config names x old new has left = record {
  kept = left.kept;
  removed = λ name e. elim (left.removed name e) [
    | inl none ↦ inl none
    | inr same ↦ inr (same.0, not_more names x name (λ is. false≢true (sym e ∙ subst (λ n. has_file config n ≡ true) is has)) same.1)
  ];
}

pub leaves_more : (config : List (Pair AgentConfigFile)) (names : List (List ℕ)) (x : List ℕ) (old now new : Files) → has_file config x ≡ false
    → new x ≡ None → ((name : List ℕ) → bytes_eq x name ≡ false → new name ≡ now name) → Leaves config names old now → Leaves config (names ++ x ∷ []) old new
leaves_more config names x old now new free gone same left = record {
  kept = λ name e. elim (bool_cases (bytes_eq x name)) [
    | inl is ↦ absurd (false≢true (sym free ∙ subst (λ n. has_file config n ≡ true) (sym ((bytes_decides x name).0 is)) e))
    | inr other ↦ same name other ∙ left.kept name e
  ];
  removed = λ name e. elim (bool_cases (bytes_eq x name)) [
    | inl is ↦ inl (subst (λ n. new n ≡ None) ((bytes_decides x name).0 is) gone)
    | inr other ↦ elim (left.removed name e) [
      | inl none ↦ inl (same name other ∙ none)
      | inr before ↦ inr (same name other ∙ before.0, not_more names x name (λ is. false≢true (sym other ∙ (bytes_decides x name).1 is)) before.1)
    ]
  ];
}

pub removes_none : (start : FolderState) (config : List (Pair AgentConfigFile)) → Removes start start config []
removes_none start config = record {
  left = λ t. record { kept = λ name e. refl; removed = λ name e. inr (refl, λ c. absurd (omega (arith, c.1))) };
  others = λ other file e. refl;
  runs = runs_done start tt;
}

read_more : (names : List (List ℕ)) (i : ℕ) (x : List ℕ) → i < length names → x ≡ get_or names i x → take (i + 1) names ≡ take i names ++ x ∷ []
read_more names i x within is = (take_at_read names i x within).1 ∙ ap (λ y. take i names ++ y ∷ []) (sym is)

pub removes_same : (start now : FolderState) (config : List (Pair AgentConfigFile)) (names : List (List ℕ)) (i : ℕ) (x : List ℕ) → Removes start now config (take i names)
    → i < length names → x ≡ get_or names i x → has_file config x ≡ true → Removes start now config (take (i + 1) names)
removes_same start now config names i x r within is has = record {
  left = λ t. subst (λ names. Leaves config names (start.files Config) (now.files Config)) (sym (read_more names i x within is)) (leaves_same config (take i names) x _ _ has (r.left t));
  others = r.others;
  runs = r.runs;
}

pub removes_more : (start now next : FolderState) (config : List (Pair AgentConfigFile)) (names : List (List ℕ)) (i : ℕ) (x : List ℕ) → Removes start now config (take i names)
    → i < length names → x ≡ get_or names i x → has_file config x ≡ false
    → (IsTrue next.told → next.files Config x ≡ None) → SameOthers Config x now.files next.files → Runs {T = Unit} now next (Ok tt) → Removes start next config (take (i + 1) names)
removes_more start now next config names i x r within is free gone same runs = record {
  left = λ t. subst (λ names. Leaves config names (start.files Config) (next.files Config)) (sym (read_more names i x within is))
      (leaves_more config (take i names) x _ _ _ free (gone t) (λ name e. same Config name e) (r.left (subst IsTrue runs.makes.told t)));
  others = λ other file e. same_elsewhere x now.files next.files same other file e ∙ r.others other file e;
  runs = runs_then start now next tt (Ok tt) r.runs runs;
}

-- all files are written, and of the names that the area then has those that aren't the configuration's are removed
pub brought : (config : List (Pair AgentConfigFile)) (names : List (List ℕ)) (old written left new : Files) → AreFiles written (fold with_file old config)
    → ((name : List ℕ) → left name ≡ written name) → AreNames written names → Leaves config names left new → AreFiles new (files_of config)
brought config names old written left new w same listed l name = elim (bool_cases (has_file config name)) [
  | inl has ↦ l.kept name has ∙ same name ∙ w name ∙ fold_held config old (λ name. None) name has
  | inr free ↦ elim (l.removed name free) [
    | inl none ↦ none
    | inr before ↦ before.0 ∙ same name ∙ none_of (written name) (λ some. before.1 ((listed name).1 some))
  ] ∙ sym (fold_free config (λ name. None) name free)
]
