-- Calls of a folder and of a dialer that are all allowed.
use Rattle.std.proofs.Common.{◌≡◌, ℕ, ◌<◌, List, [], ◌∷◌, ◌++◌, length, get_or, false, refl, sym, ◌∙◌, ap, arith, append_assoc, inl, inr, subst}
use Rattle.std.specs.Prelude.{Err, IsSomeAnd, IsTrue, Ok, OnOk, None, Option, Result, Some, is_some}
use Rattle.std.specs.List.{AllByRecursion}
use Rattle.std.proofs.lemmas.List.{append-nil}
use Rattle.plain_values.specs.declared.maps.Pair.{Pair}
use Rattle.message_values.specs.declared.packages.DownloadableFile.{DownloadableFile}
use Rattle.message_values.specs.declared.packages.PackageAvailable.{PackageAvailable}
use Rattle.message_values.specs.declared.packages.PackageStatus.{PackageStatus}
use Rattle.message_values.specs.declared.packages.PackageStatuses.{PackageStatuses}
use Rattle.message_values.specs.declared.packages.PackagesAvailable.{PackagesAvailable}
use Rattle.plain_values.specs.Pairs.{value_at}
use Rattle.edge_devices.specs.declared.folders.FolderCall.{FolderCall}
use Rattle.edge_devices.specs.Folders.{FolderState, Makes}
use Rattle.edge_devices.specs.declared.dialers.DialFail.{DialFail}
use Rattle.edge_devices.specs.declared.dialers.DialFail.TheVariants.{Fault, NoMemory}
use Rattle.edge_devices.specs.declared.dialers.DialerCall.{DialerCall}
use Rattle.edge_devices.specs.declared.dialers.DialerCall.TheVariants.{Fetch}
use Rattle.edge_devices.specs.Dialers.{DialerState, Dials}
use Rattle.edge_devices.proofs.Running.{makes_none, makes_append}
use Rattle.agent_packages.specs.Packages.{is_same}
use Rattle.agent_packages.specs.Due.{MakesOnly, IsWriteOf, IsOwnWrite, IsRemoveOf, IsFetchedWrite, IsGoneRemove, IsDue, AsksOnly, IsFetchOf, IsOwnFetch, IsDueFetch}

all_append : {X : Type 0} (P : X → Type 0) (xs ys : List X) → AllByRecursion P xs → AllByRecursion P ys → AllByRecursion P (xs ++ ys)
all_append P [] ys a b = b
all_append P (x ∷ xs) ys a b = (a.0, all_append P xs ys a.1 b)

all_wider : {X : Type 0} (P Q : X → Type 0) (xs : List X) → ((call : X) → P call → Q call) → AllByRecursion P xs → AllByRecursion Q xs
all_wider P Q [] h a = tt
all_wider P Q (x ∷ xs) h a = (h x a.0, all_wider P Q xs h a.1)

pub only_none : (P : FolderCall → Type 0) (f : FolderState) → MakesOnly P f f
only_none P f = record { seen = []; made = makes_none f; each = tt }

pub only_makes_none : (P : FolderCall → Type 0) (f g : FolderState) → Makes f g [] → MakesOnly P f g
only_makes_none P f g made = record { seen = []; made = made; each = tt }

pub only_makes_one : (P : FolderCall → Type 0) (f g : FolderState) (call : FolderCall) → P call → Makes f g (call ∷ []) → MakesOnly P f g
only_makes_one P f g call allowed made = record { seen = call ∷ []; made = made; each = (allowed, tt) }

pub only_then : (P : FolderCall → Type 0) (f g h : FolderState) → MakesOnly P f g → MakesOnly P g h → MakesOnly P f h
only_then P f g h a b = record {
  seen = a.seen ++ b.seen;
  made = makes_append f g h a.seen b.seen a.made b.made;
  each = all_append P a.seen b.seen a.each b.each;
}

only_wider : (P Q : FolderCall → Type 0) (f g : FolderState) → ((call : FolderCall) → P call → Q call) → MakesOnly P f g → MakesOnly Q f g
only_wider P Q f g h a = record { seen = a.seen; made = a.made; each = all_wider P Q a.seen h a.each }

-- the calls of one package are among those of all
pub only_fetched : (held : List (Pair PackageStatus)) (items : List (Pair PackageAvailable)) (i : ℕ) (x : Pair PackageAvailable) (f g : FolderState) → i < length items → x ≡ get_or items i x
    → MakesOnly (IsOwnWrite held x) f g → MakesOnly (IsFetchedWrite held items) f g
only_fetched held items i x f g within is a =
    only_wider (IsOwnWrite held x) (IsFetchedWrite held items) f g (λ call w. record { item = x; among = (i, within, sym is); own = w }) a

pub only_own : (held : List (Pair PackageStatus)) (x : Pair PackageAvailable) (f g : FolderState) → is_same held x ≡ false → MakesOnly (IsWriteOf x.key x.value) f g
    → MakesOnly (IsOwnWrite held x) f g
only_own held x f g other a = only_wider (IsWriteOf x.key x.value) (IsOwnWrite held x) f g (λ call w. (other, w)) a

pub only_gone : (offered : List (Pair PackageAvailable)) (items : List (Pair PackageStatus)) (i : ℕ) (x : Pair PackageStatus) (f g : FolderState) → i < length items → x ≡ get_or items i x
    → is_some (value_at offered x.key) ≡ false → MakesOnly (IsRemoveOf x.key) f g → MakesOnly (IsGoneRemove offered items) f g
only_gone offered items i x f g within is gone a =
    only_wider (IsRemoveOf x.key) (IsGoneRemove offered items) f g (λ call w. record { item = x; among = (i, within, sym is); gone = gone; remove = w }) a

pub due_fetched : (held : PackageStatuses) (offered : PackagesAvailable) (items : List (Pair PackageAvailable)) (f g : FolderState) → items ≡ offered.packages
    → MakesOnly (IsFetchedWrite held.packages items) f g → MakesOnly (IsDue held offered) f g
due_fetched held offered items f g is a =
    only_wider (IsFetchedWrite held.packages offered.packages) (IsDue held offered) f g (λ call w. inl w) (subst (λ items. MakesOnly (IsFetchedWrite held.packages items) f g) is a)

pub due_gone : (held : PackageStatuses) (offered : PackagesAvailable) (items : List (Pair PackageStatus)) (f g : FolderState) → items ≡ held.packages
    → MakesOnly (IsGoneRemove offered.packages items) f g → MakesOnly (IsDue held offered) f g
due_gone held offered items f g is a =
    only_wider (IsGoneRemove offered.packages held.packages) (IsDue held offered) f g (λ call w. inr w) (subst (λ items. MakesOnly (IsGoneRemove offered.packages items) f g) is a)

-- what an answer of Ok says of what is behind it
pub on_ok : {T E : Type 0} (result : Result T E) (P Q : Type 0) → (P → Q) → OnOk result P → OnOk result Q
on_ok (Ok value) P Q f p = f p
on_ok (Err error) P Q f p = p

pub asks_only_none : (P : DialerCall → Type 0) (d : DialerState) → AsksOnly P d d
asks_only_none P d = record { seen = []; told = refl; calls = λ t. sym (append-nil d.calls); count = omega arith; want_count = omega arith; each = tt }

pub asks_only_then : (P : DialerCall → Type 0) (c d e : DialerState) → AsksOnly P c d → AsksOnly P d e → AsksOnly P c e
asks_only_then P c d e a b = record {
  seen = a.seen ++ b.seen;
  told = b.told ∙ a.told;
  calls = λ t. b.calls t ∙ ap (λ calls. calls ++ b.seen) (a.calls (subst IsTrue b.told t)) ∙ append_assoc c.calls a.seen b.seen;
  count = omega (arith, a.count, b.count);
  want_count = omega (arith, a.want_count, b.want_count);
  each = all_append P a.seen b.seen a.each b.each;
}

asks_only_wider : (P Q : DialerCall → Type 0) (d e : DialerState) → ((call : DialerCall) → P call → Q call) → AsksOnly P d e → AsksOnly Q d e
asks_only_wider P Q d e h a = record { seen = a.seen; told = a.told; calls = a.calls; count = a.count; want_count = a.want_count; each = all_wider P Q a.seen h a.each }

-- the one fetch of a package, whatever its answer
pub fetch_only : (d e : DialerState) (item : PackageAvailable) (file : DownloadableFile) (result : Result (List ℕ) DialFail) → item.file ≡ Some file
    → Dials {T = List ℕ} d e (Fetch file.download_url) result → AsksOnly (IsFetchOf item) d e
fetch_only d e item file (Ok content) has p = record {
  seen = Fetch file.download_url (Some content) ∷ [];
  told = p.told;
  calls = p.calls;
  count = p.count;
  want_count = p.want_count;
  each = (subst (λ (o : Option DownloadableFile). IsSomeAnd o (λ other. file.download_url ≡ other.download_url)) (sym has) refl, tt);
}
fetch_only d e item file (Err Fault) has p = record {
  seen = Fetch file.download_url None ∷ [];
  told = p.told;
  calls = p.calls;
  count = p.count;
  want_count = p.want_count;
  each = (subst (λ (o : Option DownloadableFile). IsSomeAnd o (λ other. file.download_url ≡ other.download_url)) (sym has) refl, tt);
}
fetch_only d e item file (Err NoMemory) has p = record { seen = []; told = p.told; calls = p.calls; count = p.count; want_count = p.want_count; each = tt }

-- the fetches of one package are among those of all
pub asks_own : (held : List (Pair PackageStatus)) (x : Pair PackageAvailable) (d e : DialerState) → is_same held x ≡ false → AsksOnly (IsFetchOf x.value) d e
    → AsksOnly (IsOwnFetch held x) d e
asks_own held x d e other a = asks_only_wider (IsFetchOf x.value) (IsOwnFetch held x) d e (λ call w. (other, w)) a

pub asks_due : (held : List (Pair PackageStatus)) (items : List (Pair PackageAvailable)) (i : ℕ) (x : Pair PackageAvailable) (d e : DialerState) → i < length items → x ≡ get_or items i x
    → AsksOnly (IsOwnFetch held x) d e → AsksOnly (IsDueFetch held items) d e
asks_due held items i x d e within is a =
    asks_only_wider (IsOwnFetch held x) (IsDueFetch held items) d e (λ call w. record { item = x; among = (i, within, sym is); own = w }) a

pub asks_offered : (held : List (Pair PackageStatus)) (offered items : List (Pair PackageAvailable)) (d e : DialerState) → items ≡ offered
    → AsksOnly (IsDueFetch held items) d e → AsksOnly (IsDueFetch held offered) d e
asks_offered held offered items d e is a = subst (λ items. AsksOnly (IsDueFetch held items) d e) is a
