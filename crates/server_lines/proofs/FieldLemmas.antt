-- Packages, files and headers, word by word.
use Rattle.std.proofs.Common.{◌≡◌, ◌≤◌, ◌<◌, ◌-◌, ◌∙◌, sym, ap, ℕ, List, [], ◌∷◌, ◌++◌, length, get_or, take, drop, eqb, false, append_assoc, Option, None, Some, Bor, refl, arith}
use Rattle.std.proofs.lemmas.List.{append-nil, take_rest}
use Rattle.std.specs.Option.{option_map, option_and_then}
use Rattle.plain_values.specs.declared.files.AgentConfigFile.{AgentConfigFile}
use Rattle.plain_values.specs.declared.headers.Header.{Header}
use Rattle.plain_values.specs.declared.maps.Pair.{Pair}
use Rattle.message_values.specs.declared.packages.PackageAvailable.{PackageAvailable}
use Rattle.server_lines.specs.Words.{bytes_in, files_in, header_in, headers_in, named_file, one_package, packages_in, text_in}
use Rattle.server_lines.proofs.ArgumentLemmas.{words}

-- these, and behind them those of the words
abbrev pub with_rest : {T : Type 0} → (List (List ℕ) → Option (List T)) → List T → List (Bor (List ℕ)) → Option (List T)
with_rest read made rest = option_map (λ more. made ++ more) (read (words rest))

alone_again : {T : Type 0} (read : Option (List T)) → read ≡ option_map (λ more. [] ++ more) read
alone_again None = refl
alone_again (Some more) = refl

pub none_before : {T : Type 0} (read : List (List ℕ) → Option (List T)) (rest : List (Bor (List ℕ))) → read (words rest) ≡ with_rest read [] rest
none_before read rest = alone_again (read (words rest))

moved : {T : Type 0} (made : List T) (one : T) (read : Option (List T))
    → option_map (λ more. made ++ more) (option_map (λ more. one ∷ more) read) ≡ option_map (λ more. (made ++ one ∷ []) ++ more) read
moved made one None = refl
moved made one (Some more) = ap Some (sym (append_assoc made (one ∷ []) more))

-- a first one, which is there or not, and those of more words
stepped : {H T : Type 0} (made : List T) (one : T) (make : H → T) (found : Option H) (read : Option (List T)) → Some one ≡ option_map make found
    → option_map (λ more. made ++ more) (option_and_then (λ h. option_map (λ more. make h ∷ more) read) found) ≡ option_map (λ more. (made ++ one ∷ []) ++ more) read
stepped made one make None read is = absurd (cc)
stepped made one make (Some h) read is =
    let same : one ≡ make h = cc in
    rw (← same) (moved made one read)

refused : {H T : Type 0} (made : List T) (make : H → T) (found : Option H) (read : Option (List T)) → None ≡ option_map make found
    → None ≡ option_map (λ more. made ++ more) (option_and_then (λ h. option_map (λ more. make h ∷ more) read) found)
refused made make None read is = refl
refused made make (Some h) read is = absurd (cc)

itself : {T : Type 0} (found : Option T) → found ≡ option_map (λ h. h) found
itself None = refl
itself (Some h) = refl

-- no word is left
pub all_read : {T : Type 0} (read : List (List ℕ) → Option (List T)) (made : List T) (rest : List (Bor (List ℕ))) → read [] ≡ Some [] → length rest ≡ 0
    → Some made ≡ with_rest read made rest
all_read read made [] empty none = rw empty (ap Some (sym (append-nil made)))
all_read read made (w ∷ rest) empty none = absurd (omega (arith, none))

-- what stands behind the first n words
pub behind : (n : ℕ) (rest : List (Bor (List ℕ))) → take (length rest - n) (drop n rest) ≡ drop n rest
behind n rest = take_rest rest n

-- ---- packages

abbrev pub entry_of : List ℕ → List ℕ → List ℕ → List ℕ → Option (Pair PackageAvailable)
entry_of name version url hex = option_map (λ hash. record { key = name; value = one_package version url hash }) (bytes_in hex)

pub one_more : (entries : List (Pair PackageAvailable)) (entry : Pair PackageAvailable) (rest : List (Bor (List ℕ))) (d : Bor (List ℕ)) → 4 ≤ length rest
    → Some entry ≡ entry_of (get_or rest 0 d).now (get_or rest 1 d).now (get_or rest 2 d).now (get_or rest 3 d).now
    → with_rest packages_in entries rest ≡ with_rest packages_in (entries ++ entry ∷ []) (drop 4 rest)
one_more entries entry [] d four is = absurd (omega (arith, four))
one_more entries entry (n ∷ []) d four is = absurd (omega (arith, four))
one_more entries entry (n ∷ v ∷ []) d four is = absurd (omega (arith, four))
one_more entries entry (n ∷ v ∷ u ∷ []) d four is = absurd (omega (arith, four))
one_more entries entry (n ∷ v ∷ u ∷ h ∷ rest) d four is =
    stepped entries entry (λ hash. record { key = n.now; value = one_package v.now u.now hash }) (bytes_in h.now) (packages_in (words rest)) is

-- a package whose last word isn't hexadecimal
pub one_refused : (entries : List (Pair PackageAvailable)) (rest : List (Bor (List ℕ))) (d : Bor (List ℕ)) → 4 ≤ length rest
    → None ≡ entry_of (get_or rest 0 d).now (get_or rest 1 d).now (get_or rest 2 d).now (get_or rest 3 d).now
    → None ≡ with_rest packages_in entries rest
one_refused entries [] d four is = absurd (omega (arith, four))
one_refused entries (n ∷ []) d four is = absurd (omega (arith, four))
one_refused entries (n ∷ v ∷ []) d four is = absurd (omega (arith, four))
one_refused entries (n ∷ v ∷ u ∷ []) d four is = absurd (omega (arith, four))
one_refused entries (n ∷ v ∷ u ∷ h ∷ rest) d four is =
    refused entries (λ hash. let p : Pair PackageAvailable = record { key = n.now; value = one_package v.now u.now hash } in p) (bytes_in h.now) (packages_in (words rest)) is

-- too few words are left
pub cut_short : (entries : List (Pair PackageAvailable)) (rest : List (Bor (List ℕ))) → length rest < 4 → eqb (length rest) 0 ≡ false → None ≡ with_rest packages_in entries rest
cut_short entries [] few some = absurd (cc)
cut_short entries (n ∷ []) few some = refl
cut_short entries (n ∷ v ∷ []) few some = refl
cut_short entries (n ∷ v ∷ u ∷ []) few some = refl
cut_short entries (n ∷ v ∷ u ∷ h ∷ rest) few some = absurd (omega (arith, few))

-- ---- files

abbrev pub file_of : List ℕ → List ℕ → List ℕ → Option (Pair AgentConfigFile)
file_of name kind hex = option_map (λ body. named_file (text_in name) (text_in kind) body) (bytes_in hex)

pub file_more : (files : List (Pair AgentConfigFile)) (file : Pair AgentConfigFile) (rest : List (Bor (List ℕ))) (d : Bor (List ℕ)) → 3 ≤ length rest
    → Some file ≡ file_of (get_or rest 0 d).now (get_or rest 1 d).now (get_or rest 2 d).now
    → with_rest files_in files rest ≡ with_rest files_in (files ++ file ∷ []) (drop 3 rest)
file_more files file [] d three is = absurd (omega (arith, three))
file_more files file (n ∷ []) d three is = absurd (omega (arith, three))
file_more files file (n ∷ k ∷ []) d three is = absurd (omega (arith, three))
file_more files file (n ∷ k ∷ h ∷ rest) d three is =
    stepped files file (λ body. named_file (text_in n.now) (text_in k.now) body) (bytes_in h.now) (files_in (words rest)) is

-- a file whose last word isn't hexadecimal
pub file_refused : (files : List (Pair AgentConfigFile)) (rest : List (Bor (List ℕ))) (d : Bor (List ℕ)) → 3 ≤ length rest
    → None ≡ file_of (get_or rest 0 d).now (get_or rest 1 d).now (get_or rest 2 d).now
    → None ≡ with_rest files_in files rest
file_refused files [] d three is = absurd (omega (arith, three))
file_refused files (n ∷ []) d three is = absurd (omega (arith, three))
file_refused files (n ∷ k ∷ []) d three is = absurd (omega (arith, three))
file_refused files (n ∷ k ∷ h ∷ rest) d three is =
    refused files (λ body. named_file (text_in n.now) (text_in k.now) body) (bytes_in h.now) (files_in (words rest)) is

-- too few words are left
pub files_short : (files : List (Pair AgentConfigFile)) (rest : List (Bor (List ℕ))) → length rest < 3 → eqb (length rest) 0 ≡ false → None ≡ with_rest files_in files rest
files_short files [] few some = absurd (cc)
files_short files (n ∷ []) few some = refl
files_short files (n ∷ k ∷ []) few some = refl
files_short files (n ∷ k ∷ h ∷ rest) few some = absurd (omega (arith, few))

-- ---- headers

pub header_more : (headers : List Header) (header : Header) (rest : List (Bor (List ℕ))) (d : Bor (List ℕ)) → 1 ≤ length rest
    → Some header ≡ header_in (get_or rest 0 d).now → with_rest headers_in headers rest ≡ with_rest headers_in (headers ++ header ∷ []) (drop 1 rest)
header_more headers header [] d one is = absurd (omega (arith, one))
header_more headers header (w ∷ rest) d one is = stepped headers header (λ h. h) (header_in w.now) (headers_in (words rest)) (is ∙ itself (header_in w.now))

pub header_refused : (headers : List Header) (rest : List (Bor (List ℕ))) (d : Bor (List ℕ)) → 1 ≤ length rest
    → None ≡ header_in (get_or rest 0 d).now → None ≡ with_rest headers_in headers rest
header_refused headers [] d one is = absurd (omega (arith, one))
header_refused headers (w ∷ rest) d one is = refused headers (λ h. h) (header_in w.now) (headers_in (words rest)) (is ∙ itself (header_in w.now))
