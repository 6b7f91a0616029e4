-- What a call of the agent does to a round.
use Rattle.std.proofs.Common.{◌≡◌, ◌≤◌, ◌+◌, ℕ, List, [], ◌++◌, Bool, true, false, Option, None, Some, Ok, Err, IfSome, IsSome, inl, inr, refl, sym, ◌∙◌, ap, subst}
use Rattle.std.specs.List.{AllByRecursion}
use Rattle.std.specs.Option.{option_to_list}
use Rattle.std.specs.Prelude.{◌⊎◌}
use Rattle.std.proofs.lemmas.Bool.{false≢true}
use Rattle.std.proofs.lemmas.List.{append-nil}
use Rattle.message_values.specs.declared.reply.ServerToAgent.{ServerToAgent}
use Rattle.edge_devices.specs.Disks.{DeviceCall, DiskState, Countdown}
use Rattle.edge_devices.specs.DiskCalls.{MadeAll}
use Rattle.agent_store.specs.declared.slots.Layout.{Layout}
use Rattle.agent_store.specs.Plans.{planned}
use Rattle.agent_store.specs.Store.{StoreState}
use Rattle.agent_rules.specs.declared.saved.Saved.{Saved}
use Rattle.agent_rules.specs.Codec.{codec}
use Rattle.agent_rules.specs.Payloads.{canonical_saved}
use Rattle.agent_rules.specs.declared.rules.parts.AgentFail.{AgentFail}
use Rattle.agent_rules.specs.declared.rules.parts.AgentFail.TheVariants as fails
use Rattle.agent_rules.specs.declared.rules.replies.Heard.{Heard}
use Rattle.agent_rules.specs.declared.rules.replies.Heard.TheVariants.{Commanded, Failed, Asked, Plain}
use Rattle.agent_rules.specs.Half.{AgentHalf, kept_part}
use Rattle.agent_rules.specs.Keeping.{Call, Change, Report, TakeReply, GiveUp, CommitTry, AbandonTry, ConfigDone, PackagesDone, Say, BeginTry, heard_in, kept_of_reply, fits, fits_room, kept, kept_by, keeping}
use Rattle.agent_rules.specs.Calls.{call_after, told_by}
use Rattle.agent_state.specs.View.{AgentView, CallRefusal, FitsDisk, HasPart, IsOneSave, IsSavable, KeepRefusal, MeansItself, StandsBeforeOrAfter, save_plan}
use Rattle.agent_rounds.specs.declared.ends.AgentEnd.{AgentEnd}
use Rattle.agent_rounds.specs.declared.ends.AgentEnd.TheVariants.{StoreFault, NumbersSpent, TooLarge, NoMemory}
use Rattle.agent_rounds.specs.Stages.{IsSpent, MakesCall, Stage, keeps_with}
use Rattle.agent_rounds.specs.Moments.{HasOneOf, IsEndOf, RunsPart, SavesOnce, last_part, with_agent}
use Rattle.agent_rounds.proofs.ImageLemmas.{left_with}
use Rattle.agent_rounds.proofs.RunLemmas.{run_beside}

by_kept : (layout : Layout) (a : AgentHalf) (k : Option Saved) (image : ℕ → ℕ) → HasPart layout (kept_part a) image ⊎ HasPart layout (kept_part (keeping k a)) image
    → HasOneOf layout (kept_part a) (option_to_list k) image
by_kept layout a None image (inl before) = before
by_kept layout a None image (inr after) = after
by_kept layout a (Some part) image (inl before) = inl before
by_kept layout a (Some part) image (inr after) = inr after

-- what is kept before or after a call is what was kept, or what it keeps
before_or_after : (a : AgentView) (call : Call) (image : ℕ → ℕ) → StandsBeforeOrAfter a call image
    → HasOneOf a.store.layout (kept_part a.half) (option_to_list (kept_by a.half call)) image
before_or_after a call image = by_kept a.store.layout a.half (kept_by a.half call) image

last_kept : (a : AgentHalf) (k : Option Saved) → kept_part (keeping k a) ≡ last_part (kept_part a) (option_to_list k)
last_kept a None = refl
last_kept a (Some part) = refl

-- a call leaves what it kept
left_told : (a : AgentHalf) (reply : ServerToAgent) (heard : Heard) → heard_in reply ≡ heard → kept_part (told_by heard reply a) ≡ kept_part (kept a (TakeReply reply))
left_told a reply Commanded is = ap (λ h. kept_part (keeping (kept_of_reply a h reply) a)) (sym is)
left_told a reply Failed is = ap (λ h. kept_part (keeping (kept_of_reply a h reply) a)) (sym is)
left_told a reply Asked is = refl
left_told a reply Plain is = refl

left_by : (a : AgentHalf) (call : Call) → kept_part (call_after a call) ≡ kept_part (kept a call)
left_by a (Change now) = refl
left_by a Report = refl
left_by a (TakeReply reply) = left_told a reply (heard_in reply) refl
left_by a GiveUp = refl
left_by a CommitTry = refl
left_by a AbandonTry = refl
left_by a (ConfigDone applied status) = refl
left_by a (PackagesDone statuses) = refl
left_by a (Say message) = refl
left_by a (BeginTry next) = refl

kept_after : (a : AgentHalf) (call : Call) → kept_part (call_after a call) ≡ last_part (kept_part a) (option_to_list (kept_by a call))
kept_after a call = left_by a call ∙ last_kept a (kept_by a call)

-- what a call keeps has this
all_kept : (P : Saved → Type 0) (k : Option Saved) → IfSome k P → AllByRecursion P (option_to_list k)
all_kept P None has = tt
all_kept P (Some part) has = (has, tt)

-- the device calls of what a call keeps
saves_by : (a b : StoreState) (old new : DiskState) (c d : Countdown) (k : Option Saved) → MadeAll (save_plan a k) old new c d → b.generation ≤ a.generation + 1
    → (k ≡ None → b ≡ a) → (calls : List DeviceCall) × ((new.calls ≡ old.calls ++ calls) × SavesOnce a (option_to_list k) calls b)
saves_by a b old new c d None made once same = ([], (made.calls, (refl, same refl)))
saves_by a b old new c d (Some part) made once same = (
  planned codec a (canonical_saved part),
  (made.calls, (b, ([], (sym (append-nil (planned codec a (canonical_saved part))), (once, (refl, refl)))))),
)

-- the call is made
pub call_made : {T : Type 0} (call : Call) (old new : DiskState) (c d : Countdown) (a b : AgentView) (s : Stage) (value : T)
    → fits a.half call ≡ true → b.half ≡ call_after a.half call → IsOneSave old new c d a b call (Ok value)
    → RunsPart (MakesCall call) old new (with_agent a s) (with_agent b s) (Ok tt)
call_made call old new c d a b s value room is one = record {
  saves = option_to_list (kept_by a.half call);
  does = (room, ap (λ half. record s { half = half; store = b.store; keeps = keeps_with (with_agent a s) call }) is);
  images = record {
    crash = λ told. left_with old new (StandsBeforeOrAfter a call) (HasOneOf a.store.layout (kept_part a.half) (option_to_list (kept_by a.half call)))
        (before_or_after a call) (one.crash told);
    once = λ intact told. saves_by a.store b.store old new c d (kept_by a.half call) (one.made told) one.once one.beside;
    fits = λ intact. one.fits (λ fault. cc);
    last = λ intact. ap kept_part is ∙ kept_after a.half call;
    layout = one.layout;
    told = one.told;
    itself = all_kept MeansItself (kept_by a.half call) one.itself;
    counts = one.counts;
    fault = λ failed. absurd (false≢true failed);
    broken = λ failed. absurd (false≢true failed);
  };
}

-- the call is made, and isn't lent the disk
pub call_beside : (call : Call) (disk : DiskState) (a b : AgentView) (s : Stage) → kept_by a.half call ≡ None → FitsDisk disk a.store (kept_part a.half)
    → b.half ≡ call_after a.half call → b.store ≡ a.store → RunsPart (MakesCall call) disk disk (with_agent a s) (with_agent b s) (Ok tt)
call_beside call disk a b s nothing fits is store =
    run_beside (MakesCall call) disk (with_agent a s) (with_agent b s) (Ok tt) fits store
    (ap kept_part is ∙ (left_by a.half call ∙ ap (λ k. kept_part (keeping k a.half)) nothing))
    refl
    (ap (λ k. fits_room a.half.room k) nothing, λ i. record s { half = is i; store = b.store; keeps = nothing_joins i })
  where
    nothing_joins : s.keeps ≡ keeps_with (with_agent a s) call
    nothing_joins = sym (ap (λ k. s.keeps ++ option_to_list k) nothing ∙ append-nil s.keeps)

module _ (s : Stage) (call : Call) (room : s.half.room ≡ s.store.layout.room) where
  fits_by : (part : Saved) (fit : Bool) → kept_by s.half call ≡ Some part → fits_room s.store.layout.room (Some part) ≡ fit → fits s.half call ≡ fit
  fits_by part fit keeps is = ap (λ k. fits_room s.half.room k) keeps ∙ (ap (λ r. fits_room r (Some part)) room ∙ is)

  pub spent_by : (k : Option Saved) → kept_by s.half call ≡ k → IfSome k (λ part. KeepRefusal s.store part fails.NumbersSpent) → IsSome k → IsSpent s call
  spent_by None keeps why some = absurd (false≢true some)
  spent_by (Some part) keeps why some = (part, keeps, fits_by part true keeps why.0, why.1, why.2)

  pub large_by : (k : Option Saved) → kept_by s.half call ≡ k → IfSome k (λ part. KeepRefusal s.store part fails.TooLarge) → IsSome k → fits s.half call ≡ false
  large_by None keeps why some = absurd (false≢true some)
  large_by (Some part) keeps why some = fits_by part false keeps why

  pub roomy_by : (k : Option Saved) → kept_by s.half call ≡ k → IfSome k (λ part. KeepRefusal s.store part fails.StoreFault) → IsSome k → fits s.half call ≡ true
  roomy_by None keeps why some = absurd (false≢true some)
  roomy_by (Some part) keeps why some = fits_by part true keeps why

module _ (call : Call) (old new : DiskState) (c d : Countdown) (a b : AgentView) (s : Stage) where
  refused_as : (end : AgentEnd) → RunsPart (MakesCall call) old old (with_agent a s) (with_agent a s) (Err end) → b ≡ a → new ≡ old
      → RunsPart (MakesCall call) old new (with_agent a s) (with_agent b s) (Err end)
  refused_as end runs same disk =
      subst (λ v. RunsPart (MakesCall call) old new (with_agent a s) (with_agent v s) (Err end)) (sym same)
      (subst (λ d. RunsPart (MakesCall call) old d (with_agent a s) (with_agent a s) (Err end)) (sym disk) runs)

  could_mean : (k : Option Saved) → IfSome k (IsSavable a.store) → IfSome k MeansItself
  could_mean None can = tt
  could_mean (Some part) can = can.itself

  pub store_fault : (T : Type 0) → IsOneSave {T = T} old new c d a b call (Err fails.StoreFault) → IsSome (kept_by a.half call)
      → fits a.half call ≡ true → RunsPart (MakesCall call) old new (with_agent a s) (with_agent b s) (Err StoreFault)
  store_fault T one some roomy = record {
    saves = option_to_list (kept_by a.half call);
    does = ((some, roomy), refl);
    images = record {
      crash = λ told. left_with old new (StandsBeforeOrAfter a call) (HasOneOf a.store.layout (kept_part a.half) (option_to_list (kept_by a.half call)))
          (before_or_after a call) (one.crash told);
      once = λ intact told. absurd (false≢true (sym intact));
      fits = λ intact. absurd (false≢true (sym intact));
      last = λ intact. absurd (false≢true (sym intact));
      layout = one.layout;
      told = one.told;
      itself = all_kept MeansItself (kept_by a.half call) (could_mean (kept_by a.half call) (one.savable refl));
      counts = one.counts;
      fault = λ failed. one.fault refl;
      broken = λ failed. one.broken refl;
    };
  }

  -- the call is refused
  pub call_refused : (T : Type 0) (fail : AgentFail) (end : AgentEnd) → IsEndOf fail end → a.half.room ≡ a.store.layout.room → FitsDisk old a.store (kept_part a.half)
      → IsOneSave {T = T} old new c d a b call (Err fail) → CallRefusal a call fail
      → RunsPart (MakesCall call) old new (with_agent a s) (with_agent b s) (Err end)
  call_refused T fails.StoreFault end is room fits one why =
      subst (λ e. RunsPart (MakesCall call) old new (with_agent a s) (with_agent b s) (Err e)) (sym is)
      (store_fault T one why.1 (roomy_by (with_agent a s) call room (kept_by a.half call) refl why.0 why.1))
  call_refused T fails.NumbersSpent end is room fits one why =
      subst (λ e. RunsPart (MakesCall call) old new (with_agent a s) (with_agent b s) (Err e)) (sym is)
      (refused_as NumbersSpent
      (run_beside (MakesCall call) old (with_agent a s) (with_agent a s) (Err NumbersSpent) fits refl refl refl
      (spent_by (with_agent a s) call room (kept_by a.half call) refl why.0 why.1, refl))
      (one.unchanged (λ fault. cc)) (one.untouched (λ fault. cc)))
  call_refused T fails.TooLarge end is room fits one why =
      subst (λ e. RunsPart (MakesCall call) old new (with_agent a s) (with_agent b s) (Err e)) (sym is)
      (refused_as TooLarge
      (run_beside (MakesCall call) old (with_agent a s) (with_agent a s) (Err TooLarge) fits refl refl refl
      (large_by (with_agent a s) call room (kept_by a.half call) refl why.0 why.1, refl))
      (one.unchanged (λ fault. cc)) (one.untouched (λ fault. cc)))
  call_refused T fails.NoMemory end is room fits one why =
      subst (λ e. RunsPart (MakesCall call) old new (with_agent a s) (with_agent b s) (Err e)) (sym is)
      (refused_as NoMemory (run_beside (MakesCall call) old (with_agent a s) (with_agent a s) (Err NoMemory) fits refl refl refl (tt, refl))
      (one.unchanged (λ fault. cc)) (one.untouched (λ fault. cc)))
  call_refused T fails.WrongUid end is room fits one why = absurd is
