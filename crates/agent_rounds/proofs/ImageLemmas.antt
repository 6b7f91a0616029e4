-- What a crash leaves in parts that follow one another.
use Rattle.std.proofs.Common.{◌≡◌, ◌≤◌, ℕ, List, [], ◌∷◌, ◌++◌, Bool, false, Option, None, Some, IsTrue, inl, inr, refl, sym, ◌∙◌, ap, subst, arith}
use Rattle.std.specs.List.{AllByRecursion}
use Rattle.std.specs.Option.{option_map}
use Rattle.std.proofs.Math.Decide.{dec_le}
use Rattle.std.proofs.lemmas.Bool.{false≢true}
use Rattle.std.proofs.lemmas.List.{append_assoc, append-nil}
use Rattle.edge_devices.specs.Faults.{HasRisen}
use Rattle.edge_devices.specs.Disks.{DeviceCall, DiskState, Medium, medium, disk_bytes, MayLeave, IsSettled, LeftSince}
use Rattle.agent_store.specs.declared.slots.Layout.{Layout}
use Rattle.agent_store.specs.Plans.{planned}
use Rattle.agent_store.specs.Slots.{reading, StandsFor}
use Rattle.agent_store.specs.Store.{StoreState}
use Rattle.agent_rules.specs.declared.saved.Saved.{Saved}
use Rattle.agent_rules.specs.Codec.{codec}
use Rattle.agent_rules.specs.Payloads.{canonical_saved}
use Rattle.agent_rules.specs.Half.{kept_part}
use Rattle.agent_state.specs.View.{AgentView, FitsDisk, HasPart, MeansItself}
use Rattle.agent_rounds.specs.Moments.{HasOneOf, KeepsImages, SavesOnce, last_part}

-- one of the first parts is one of all, and so is one of the others
has_first : (layout : Layout) (first : Option Saved) (a b : List Saved) (image : ℕ → ℕ) → HasOneOf layout first a image → HasOneOf layout first (a ++ b) image
has_first layout first [] [] image has = has
has_first layout first [] (part ∷ parts) image has = inl has
has_first layout first (part ∷ parts) b image (inl has) = inl has
has_first layout first (part ∷ parts) b image (inr has) = inr (has_first layout (Some part) parts b image has)

has_second : (layout : Layout) (first : Option Saved) (a b : List Saved) (image : ℕ → ℕ) → HasOneOf layout (last_part first a) b image → HasOneOf layout first (a ++ b) image
has_second layout first [] b image has = has
has_second layout first (part ∷ parts) b image has = inr (has_second layout (Some part) parts b image has)

last_part-append : (first : Option Saved) (a b : List Saved) → last_part first (a ++ b) ≡ last_part (last_part first a) b
last_part-append first [] b = refl
last_part-append first (part ∷ parts) b = last_part-append (Some part) parts b

-- what a crash leaves has this too
pub left_with : (old new : DiskState) (P Q : (ℕ → ℕ) → Type 0) → ((image : ℕ → ℕ) → P image → Q image) → LeftSince old new P → LeftSince old new Q
left_with old new P Q weaker left = record {
  told = left.told;
  later = left.later;
  past = left.past;
  each = λ t image from to is. weaker image (left.each t image from to is);
}

left_joined : (old mid new : DiskState) (P : (ℕ → ℕ) → Type 0) → LeftSince old mid P → LeftSince mid new P → LeftSince old new P
left_joined old mid new P first second = record {
  told = second.told ∙ first.told;
  later = omega (arith, first.later, second.later);
  past = λ t h. second.past t (omega (arith, h, first.later)) ∙ first.past t h;
  each = λ t image from to is.
      elim (dec_le t mid.moment) [
        | yes before ↦ first.each t image from before (subst (λ m. MayLeave m image) (second.past t before) is)
        | no after ↦ second.each t image (omega (arith, after)) to is
      ];
}

pub risen : (old mid new : ℕ) → old ≤ mid → HasRisen mid new → HasRisen old new
risen old mid new rose (inl above) = inl (omega (arith, rose, above))
risen old mid new rose (inr full) = inr full

-- the device calls of some saves and then of others
saves_joined : (s m t : StoreState) (a b : List Saved) (first second : List DeviceCall) → SavesOnce s a first m → SavesOnce m b second t → SavesOnce s (a ++ b) (first ++ second) t
saves_joined s m t [] b first second one more =
    subst (λ (calls : List DeviceCall). SavesOnce s b (calls ++ second) t) (sym one.0) (subst (λ (u : StoreState). SavesOnce u b second t) one.1 more)
saves_joined s m t (part ∷ parts) b first second (next, (rest, (calls, (once, others)))) more = (
  next,
  (
    rest ++ second,
    (
      ap (λ c. c ++ second) calls ∙ append_assoc (planned codec s (canonical_saved part)) rest second,
      (once, saves_joined next m t parts b rest second others more),
    ),
  ),
)

all_both : (a b : List Saved) → AllByRecursion MeansItself a → AllByRecursion MeansItself b → AllByRecursion MeansItself (a ++ b)
all_both [] b first second = second
all_both (part ∷ parts) b first second = (first.0, all_both parts b first.1 second)

-- the parts that are kept by one part of a round and then by another
pub joined : (old mid new : DiskState) (s m t : AgentView) (a b : List Saved) (failed : Bool)
    → KeepsImages old mid s m a false → KeepsImages mid new m t b failed → KeepsImages old new s t (a ++ b) failed
joined old mid new s m t a b failed first second = record {
  crash = λ told. left_joined old mid new (HasOneOf s.store.layout (kept_part s.half) (a ++ b))
      (left_with old mid (HasOneOf s.store.layout (kept_part s.half) a) (HasOneOf s.store.layout (kept_part s.half) (a ++ b))
      (has_first s.store.layout (kept_part s.half) a b) (first.crash told))
      (left_with mid new (HasOneOf m.store.layout (kept_part m.half) b) (HasOneOf s.store.layout (kept_part s.half) (a ++ b))
      (λ image has. has_second s.store.layout (kept_part s.half) a b image
      (subst (λ p. HasOneOf s.store.layout p b image) (first.last refl) (subst (λ l. HasOneOf l (kept_part m.half) b image) first.layout has)))
      (second.crash (first.told ∙ told)));
  once = λ intact told.
      let one = first.once refl told in
      let more = second.once intact (subst IsTrue (sym first.told) told) in (
        one.0 ++ more.0,
        (
          more.1.0 ∙ (ap (λ c. c ++ more.0) one.1.0 ∙ append_assoc old.calls one.0 more.0),
          saves_joined s.store m.store t.store a b one.0 more.0 one.1.1 more.1.1,
        ),
      );
  fits = second.fits;
  last = λ intact. second.last intact ∙ (ap (λ p. last_part p b) (first.last refl) ∙ sym (last_part-append (kept_part s.half) a b));
  layout = second.layout ∙ first.layout;
  told = second.told ∙ first.told;
  itself = all_both a b first.itself second.itself;
  counts = omega (arith, first.counts, second.counts);
  fault = λ is. risen old.faults mid.faults new.faults first.counts (second.fault is);
  broken = second.broken;
}

settled_image : (m : Medium) (image : ℕ → ℕ) → IsSettled m → MayLeave m image → image ≡ m.seen
settled_image m image settled is = λ i place. is place (settled place) i

-- an image that reads as another stands for the same
stands_as : (layout : Layout) (part : Option (List ℕ)) (image former : ℕ → ℕ) → reading codec layout image ≡ reading codec layout former
    → StandsFor codec layout former part → StandsFor codec layout image part
stands_as layout None image former same stands = same ∙ stands
stands_as layout (Some part) image former same stands = same ∙ stands

crash_nothing : (disk : DiskState) (a : AgentView) → FitsDisk disk a.store (kept_part a.half) → IsTrue disk.told → LeftSince disk disk (HasPart a.store.layout (kept_part a.half))
crash_nothing disk a fits told = record {
  told = refl;
  later = omega arith;
  past = λ t h. refl;
  each = λ t image from to is.
      let now : t ≡ disk.moment = omega (arith, from, to) in
      stands_as a.store.layout (option_map canonical_saved (kept_part a.half)) image (disk_bytes disk)
      (ap (reading codec a.store.layout) (settled_image (medium disk) image fits.store_fits.settled (subst (λ u. MayLeave (disk.history u) image) now is)))
      (fits.stands told);
}

-- nothing is kept
pub nothing_kept : (disk : DiskState) (a b : AgentView) → FitsDisk disk a.store (kept_part a.half) → b.store ≡ a.store → kept_part b.half ≡ kept_part a.half
    → KeepsImages disk disk a b [] false
nothing_kept disk a b fits store part = record {
  crash = crash_nothing disk a fits;
  once = λ intact told. ([], (sym (append-nil disk.calls), (refl, store)));
  fits = λ intact. subst (λ s. FitsDisk disk s (kept_part b.half)) (sym store) (subst (λ p. FitsDisk disk a.store p) (sym part) fits);
  last = λ intact. part;
  layout = ap (λ s. s.layout) store;
  told = refl;
  itself = tt;
  counts = omega arith;
  fault = λ is. absurd (false≢true is);
  broken = λ is. absurd (false≢true is);
}
