-- What is written of journals, all of it or a front.
use Rattle.std.proofs.Common.{◌≡◌, ℕ, zero, suc, ◌+◌, List, [], ◌∷◌, ◌++◌, length, take, Option, None, Some, Result, Ok, Err, refl, sym, ap, subst, ◌∙◌, arith, inl, inr}
use Rattle.std.specs.Prelude.{IfErr, IsErrOf, slice_get}
use Rattle.std.specs.Io.KnownBytes.{Appends, Keeps}
use Rattle.std.proofs.KnownBytes.{Appends-trans, Keeps-refl}
use Rattle.message_values.specs.declared.report.AgentToServer.{AgentToServer}
use Rattle.command_streams.specs.declared.stop.OutputForm.TheVariants.{Frames}
use Rattle.command_streams.specs.declared.stop.Stop.{Stop}
use Rattle.command_streams.specs.declared.stop.RunFail.{RunFail}
use Rattle.command_streams.specs.declared.stop.RunFail.TheVariants.{ReadFault, WriteFault, NoMemory}
use Rattle.command_streams.specs.Output.{last_words}
use Rattle.command_streams.specs.Replies.{IsCutShort}
use Rattle.command_fleet.specs.Reading.{ReadsReports}
use Rattle.shard_journals.specs.declared.rows.Row.{Row}
use Rattle.shard_journals.specs.Fleets.{AreJournalsOf}
use Rattle.shard_journals.specs.Histories.{IsHistory}
use Rattle.command_fleet.specs.Collecting.{FleetWrites, PutsShort, fleet_output}
use Rattle.command_fleet.specs.Output.{fleet_frames}

-- a front of the first of two is one of both
cut_front : (n : ℕ) (xs ys : List ℕ) → (k : ℕ) × (take k (xs ++ ys) ≡ take n xs)
cut_front zero xs ys = (0, refl)
cut_front (suc n) [] ys = (0, refl)
cut_front (suc n) (x ∷ xs) ys = let c = cut_front n xs ys in (suc c.0, ap (λ (t : List ℕ). x ∷ t) c.1)

-- the first of two and a front of the second are a front of both
cut_back : (n : ℕ) (xs ys : List ℕ) → take (length xs + n) (xs ++ ys) ≡ xs ++ take n ys
cut_back n [] ys = (let z : 0 + n ≡ n = omega arith in ap (λ k. take k ys) z)
cut_back n (x ∷ xs) ys =
    (let z : length (x ∷ xs) + n ≡ suc (length xs + n) = omega arith in ap (λ k. take k (x ∷ (xs ++ ys))) z ∙ ap (λ (t : List ℕ). x ∷ t) (cut_back n xs ys))

-- the sink took a front of the frames
pub frames_cut : (old new : Option (List ℕ)) (n : ℕ) (frames : List ℕ) (journals : List (List Row)) (stop : Stop) → frames ≡ fleet_frames journals
    → Appends old new (take n frames) → PutsShort old new journals stop WriteFault
frames_cut old new n frames journals stop are added =
    let c = cut_front n (fleet_frames journals) (last_words Frames stop) in
    (c.0, subst (Appends old new) (ap (take n) are ∙ sym c.1) added)

-- the frames were written, and then not the last words
pub words_cut : (old mid new : Option (List ℕ)) (frames : List ℕ) (journals : List (List Row)) (stop : Stop) (fail : RunFail) → frames ≡ fleet_frames journals
    → Appends old mid frames → IsCutShort mid new (last_words Frames stop) fail → PutsShort old new journals stop fail
words_cut old mid new frames journals stop ReadFault are added cut = absurd cut
words_cut old mid new frames journals stop WriteFault are added cut = (
  length (fleet_frames journals) + cut.0,
  subst (Appends old new) (sym (cut_back cut.0 (fleet_frames journals) (last_words Frames stop)))
      (Appends-trans old mid new (fleet_frames journals) (take cut.0 (last_words Frames stop)) (subst (Appends old mid) are added) cut.1),
)
words_cut old mid new frames journals stop NoMemory are added cut = inr (kept old mid new (fleet_frames journals) (subst (Appends old mid) are added) cut)
  where
    kept : (a b c : Option (List ℕ)) (bytes : List ℕ) → Appends a b bytes → Keeps b c → Appends a c bytes
    kept None b c bytes p q = tt
    kept (Some xs) None c bytes p q = absurd p
    kept (Some xs) (Some ys) None bytes p q = absurd q
    kept (Some xs) (Some ys) (Some zs) bytes p q = q ∙ p

pub words_cut_of : {T : Type 0} (r : Result T RunFail) (old mid new : Option (List ℕ)) (frames : List ℕ) (journals : List (List Row)) (stop : Stop) → frames ≡ fleet_frames journals
    → Appends old mid frames → IfErr r (IsCutShort mid new (last_words Frames stop)) → IfErr r (PutsShort old new journals stop)
words_cut_of (Ok x) old mid new frames journals stop are added cut = tt
words_cut_of (Err fail) old mid new frames journals stop are added cut = words_cut old mid new frames journals stop fail are added cut

-- the frames and the last words were written
pub all_written : (old mid new : Option (List ℕ)) (frames : List ℕ) (journals : List (List Row)) (stop : Stop) → frames ≡ fleet_frames journals
    → Appends old mid frames → Appends mid new (last_words Frames stop) → Appends old new (fleet_output journals stop)
all_written old mid new frames journals stop are added words =
    Appends-trans old mid new (fleet_frames journals) (last_words Frames stop) (subst (Appends old mid) are added) words

-- what was written of journals, as what the command wrote
pub fleet_cut : (desks budget : ℕ) (input old new : Option (List ℕ)) (reports : List AgentToServer) (journals : List (List Row)) (stop : Stop) (fail : RunFail)
    → ReadsReports budget input reports stop → AreJournalsOf reports desks journals → PutsShort old new journals stop fail → FleetWrites desks budget input old new (Err fail)
fleet_cut desks budget input old new reports journals stop ReadFault reads are short = absurd short
fleet_cut desks budget input old new reports journals stop WriteFault reads are short = (stop, journals, (reports, reads, are), short.0, short.1)
fleet_cut desks budget input old new reports journals stop NoMemory reads are short = elim short [
  | inl kept ↦ inl kept
  | inr added ↦ inr (stop, journals, (reports, reads, are), added)
]

-- before anything is written the source fails, or memory is wanting
pub nothing_written : (desks budget : ℕ) (input old : Option (List ℕ)) (fail : RunFail) → (IsErrOf {T = Stop} (Err fail) WriteFault → ⊥) → FleetWrites desks budget input old old (Err fail)
nothing_written desks budget input old ReadFault no_write = Keeps-refl old
nothing_written desks budget input old WriteFault no_write = absurd (no_write refl)
nothing_written desks budget input old NoMemory no_write = inl (Keeps-refl old)

-- what cut the writing short was no read fault
not_read : (old new : Option (List ℕ)) (journals : List (List Row)) (stop : Stop) (fail : RunFail) → PutsShort old new journals stop fail → fail ≡ ReadFault → ⊥
not_read old new journals stop fail short is = subst (PutsShort old new journals stop) is short

pub no_read_fault : {T : Type 0} (r : Result T RunFail) (y fail : RunFail) (old new : Option (List ℕ)) (journals : List (List Row)) (stop : Stop) → r ≡ Err y → y ≡ fail → PutsShort old new journals stop fail → IsErrOf r ReadFault → ⊥
no_read_fault r y fail old new journals stop is same short err =
    let read : fail ≡ ReadFault = cc in
    not_read old new journals stop fail short read

pub each_history : (reports : List AgentToServer) (desks : ℕ) (journals : List (List Row)) → AreJournalsOf reports desks journals
    → (shard : ℕ) (rows : List Row) → slice_get journals shard ≡ Some rows → IsHistory rows
each_history reports desks journals are shard rows at = (are.each shard rows at).history

-- the journals that were made of the reports that were given
pub journals_of : (given reports : List AgentToServer) (desks : ℕ) (made journals : List (List Row)) → given ≡ reports → journals ≡ made → AreJournalsOf given desks made → AreJournalsOf reports desks journals
journals_of given reports desks made journals same is are =
    subst (λ (rs : List AgentToServer). AreJournalsOf rs desks journals) same (subst (λ (js : List (List Row)). AreJournalsOf given desks js) (sym is) are)
