-- How a trial ends, and calls that keep nothing.
use Rattle.std.proofs.Common.{◌≡◌, ℕ, List, [], ◌∷◌, ◌++◌, Bool, true, false, ◌&&◌, Option, None, Some, Result, Ok, Err, inl, refl, sym, ◌∙◌, ap, subst}
use Rattle.std.specs.Prelude.{if◌then◌else◌, is_none, is_some}
use Rattle.std.specs.Option.{option_to_list}
use Rattle.std.proofs.lemmas.List.{append-nil}
use Rattle.edge_devices.specs.Disks.{DiskState, Countdown}
use Rattle.agent_rules.specs.declared.rules.parts.AgentFail.{AgentFail}
use Rattle.agent_rules.specs.declared.rules.parts.AgentFail.TheVariants as fails
use Rattle.agent_rules.specs.Half.{AgentHalf, kept_part}
use Rattle.agent_rules.specs.Keeping.{Call, CommitTry, AbandonTry, GiveUp, fits, fits_room, kept_by, with_settings}
use Rattle.agent_rules.specs.Calls.{call_after}
use Rattle.agent_rules.specs.Events.{leaving_calls}
use Rattle.agent_rules.specs.Offers.{trial_calls}
use Rattle.agent_state.specs.View.{AgentView, CallRefusal, FitsDisk, IsOneSave}
use Rattle.agent_rounds.specs.declared.ends.AgentEnd.{AgentEnd}
use Rattle.agent_rounds.specs.declared.ends.AgentEnd.TheVariants.{NoMemory}
use Rattle.agent_rounds.specs.Replies.{GivesUpRound}
use Rattle.agent_rounds.specs.Status.{HeldView, pause_of, without_link}
use Rattle.agent_rounds.specs.Stages.{MakesCall, MakesCalls, Stage, keeps_with}
use Rattle.agent_rounds.specs.Moments.{IsEndOf, RunsPart, with_agent, with_held, with_saves}
use Rattle.agent_rounds.proofs.RunLemmas.{goes_on, run_beside, run_ends}
use Rattle.agent_rounds.proofs.CallLemmas.{call_made, call_refused}

-- a call that keeps nothing
pub made : (call : Call) (a b : AgentView) (s : Stage) → kept_by a.half call ≡ None → b.half ≡ call_after a.half call → MakesCall call (with_agent a s) (with_agent b s) (Ok tt)
made call a b s nothing is = (ap (λ k. fits_room a.half.room k) nothing, λ i. record s { half = is i; store = b.store; keeps = joins i })
  where
    joins : s.keeps ≡ keeps_with (with_agent a s) call
    joins = sym (ap (λ k. s.keeps ++ option_to_list k) nothing ∙ append-nil s.keeps)

-- a list of one call
pub alone : (call : Call) (s t : Stage) → MakesCall call s t (Ok tt) → MakesCalls (call ∷ []) s t (Ok tt)
alone call s t done = goes_on (MakesCall call) (λ _. MakesCalls []) s t t tt (Ok tt) done (refl, refl)

alone_runs : (call : Call) (old new : DiskState) (s t : Stage) → RunsPart (MakesCall call) old new s t (Ok tt) → RunsPart (MakesCalls (call ∷ [])) old new s t (Ok tt)
alone_runs call old new s t run = record { saves = run.saves; does = alone call s (with_saves run.saves t) run.does; images = run.images }

alone_ends : (call : Call) (old new : DiskState) (s t : Stage) (end : AgentEnd) → RunsPart (MakesCall call) old new s t (Err end) → RunsPart (MakesCalls (call ∷ [])) old new s t (Err end)
alone_ends call old new s t end run = run_ends (MakesCall call) (λ _. MakesCalls []) old new s t end run

none_of : {T : Type 0} (o : Option T) (some : Bool) → is_some o ≡ some → is_none o ≡ (if some then false else true)
none_of None true is = cc
none_of None false is = refl
none_of (Some x) true is = refl
none_of (Some x) false is = cc

-- there is none
pub none_tried : {T : Type 0} (o : Option T) → is_some o ≡ false → o ≡ None
none_tried None is = refl
none_tried (Some x) is = cc

-- settings that are abandoned leave what is kept as it was
pub left_fits : (disk : DiskState) (a b : AgentView) → FitsDisk disk a.store (kept_part a.half) → b.half ≡ call_after a.half AbandonTry → b.store ≡ a.store
    → FitsDisk disk b.store (kept_part b.half)
left_fits disk a b fits_disk left same =
    subst (λ (half : AgentHalf). FitsDisk disk b.store (kept_part half)) (sym left) (subst (λ store. FitsDisk disk store (kept_part a.half)) (sym same) fits_disk)

-- so do those that have no room
module _ (T : Type 0) (old new : DiskState) (x y : Countdown) (a b e : AgentView) (one : IsOneSave {T = T} old new x y a b CommitTry (Err fails.TooLarge)) (left : e.half ≡ call_after b.half AbandonTry) where
  pub large_fits : e.store ≡ b.store → FitsDisk new e.store (kept_part e.half)
  large_fits same = left_fits new b e (one.fits (λ is. cc)) left same

  pub large_idle : a.half.awaits ≡ false → e.half.awaits ≡ false
  large_idle idle = ap (λ (h : AgentHalf). h.awaits) left ∙ (ap (λ (v : AgentView). v.half.awaits) (one.unchanged (λ fault. cc)) ∙ idle)

abbrev calls_by : Bool → Bool → List Call
calls_by none wins = if none then [] else if wins then CommitTry ∷ [] else AbandonTry ∷ []

no_trial : (a : AgentHalf) → is_some a.trial ≡ false → trial_calls a ≡ []
no_trial a is = ap (λ none. calls_by none (a.proved && fits a CommitTry)) (none_of a.trial false is)

module _ (a : AgentHalf) (tries : is_some a.trial ≡ true) where
  tried : trial_calls a ≡ calls_by false (a.proved && fits a CommitTry)
  tried = ap (λ none. calls_by none (a.proved && fits a CommitTry)) (none_of a.trial true tries)

  wins : a.proved ≡ true → fits a CommitTry ≡ true → trial_calls a ≡ CommitTry ∷ []
  wins proved fit = tried ∙ ap (λ b. calls_by false b) (ap (λ p. p && fits a CommitTry) proved ∙ fit)

  unproved : a.proved ≡ false → trial_calls a ≡ AbandonTry ∷ []
  unproved proved = tried ∙ ap (λ b. calls_by false b) (ap (λ p. p && fits a CommitTry) proved)

  large : a.proved ≡ true → fits a CommitTry ≡ false → trial_calls a ≡ AbandonTry ∷ []
  large proved fit = tried ∙ ap (λ b. calls_by false b) (ap (λ p. p && fits a CommitTry) proved ∙ fit)

abbrev pub EndsTrial : Stage → Stage → Result Unit AgentEnd → Type 0
EndsTrial = λ s. MakesCalls (trial_calls s.half) s

as_trial : (calls : List Call) (old new : DiskState) (s t : Stage) (r : Result Unit AgentEnd) → trial_calls s.half ≡ calls → RunsPart (MakesCalls calls) old new s t r → RunsPart EndsTrial old new s t r
as_trial calls old new s t r is run = record {
  saves = run.saves;
  does = subst (λ (cs : List Call). MakesCalls cs s (with_saves run.saves t) r) (sym is) run.does;
  images = run.images;
}

-- there is no trial
pub trial_none : (disk : DiskState) (a : AgentView) (s : Stage) → FitsDisk disk a.store (kept_part a.half) → is_some a.half.trial ≡ false
    → RunsPart EndsTrial disk disk (with_agent a s) (with_agent a s) (Ok tt)
trial_none disk a s fits none =
    as_trial [] disk disk (with_agent a s) (with_agent a s) (Ok tt) (no_trial a.half none)
    (run_beside (MakesCalls []) disk (with_agent a s) (with_agent a s) (Ok tt) fits refl refl refl (refl, refl))

abandons : (disk : DiskState) (a b : AgentView) (s : Stage) → FitsDisk disk a.store (kept_part a.half) → trial_calls a.half ≡ AbandonTry ∷ [] → b.half ≡ call_after a.half AbandonTry → b.store ≡ a.store
    → RunsPart EndsTrial disk disk (with_agent a s) (with_agent b s) (Ok tt)
abandons disk a b s fits calls is store =
    as_trial (AbandonTry ∷ []) disk disk (with_agent a s) (with_agent b s) (Ok tt) calls
    (run_beside (MakesCalls (AbandonTry ∷ [])) disk (with_agent a s) (with_agent b s) (Ok tt) fits store (ap kept_part is) refl
    (alone AbandonTry (with_agent a s) (with_agent b s) (made AbandonTry a b s refl is)))

-- it has no proof
pub trial_unproved : (disk : DiskState) (a b : AgentView) (s : Stage) → FitsDisk disk a.store (kept_part a.half) → is_some a.half.trial ≡ true → a.half.proved ≡ false
    → b.half ≡ call_after a.half AbandonTry → b.store ≡ a.store → RunsPart EndsTrial disk disk (with_agent a s) (with_agent b s) (Ok tt)
trial_unproved disk a b s fits tries proved is store = abandons disk a b s fits (unproved a.half tries proved) is store

module _ (old new : DiskState) (c d : Countdown) (a b : AgentView) (s : Stage) (fits_disk : FitsDisk old a.store (kept_part a.half)) (tries : is_some a.half.trial ≡ true) (proved : a.half.proved ≡ true) where
  -- it is kept
  pub trial_kept : {T : Type 0} (value : T) → fits a.half CommitTry ≡ true → b.half ≡ call_after a.half CommitTry → IsOneSave old new c d a b CommitTry (Ok value)
      → RunsPart EndsTrial old new (with_agent a s) (with_agent b s) (Ok tt)
  trial_kept value fit is one =
      as_trial (CommitTry ∷ []) old new (with_agent a s) (with_agent b s) (Ok tt) (wins a.half tries proved fit)
      (alone_runs CommitTry old new (with_agent a s) (with_agent b s) (call_made CommitTry old new c d a b s value fit is one))

  module _ (T : Type 0) (room : a.half.room ≡ a.store.layout.room) where
    fit_by : (fit : Bool) → fits_room a.store.layout.room (Some (with_settings a.half)) ≡ fit → fits a.half CommitTry ≡ fit
    fit_by fit is = ap (λ r. fits_room r (Some (with_settings a.half))) room ∙ is

    -- there is no room for it
    pub trial_large : (e : AgentView) → IsOneSave {T = T} old new c d a b CommitTry (Err fails.TooLarge) → CallRefusal a CommitTry fails.TooLarge
        → e.half ≡ call_after b.half AbandonTry → e.store ≡ b.store → RunsPart EndsTrial old new (with_agent a s) (with_agent e s) (Ok tt)
    trial_large e one why is store =
        let same : b ≡ a = one.unchanged (λ fault. cc) in
        let still : new ≡ old = one.untouched (λ fault. cc) in
        subst (λ (disk : DiskState). RunsPart EndsTrial old disk (with_agent a s) (with_agent e s) (Ok tt)) (sym still)
        (abandons old a e s fits_disk (large a.half tries proved (fit_by false why.0)) (is ∙ ap (λ (v : AgentView). call_after v.half AbandonTry) same) (store ∙ ap (λ (v : AgentView). v.store) same))

    wanting_by : (fit : Bool) → fits a.half CommitTry ≡ fit → RunsPart EndsTrial old old (with_agent a s) (with_agent a s) (Err NoMemory)
    wanting_by true fit =
        as_trial (CommitTry ∷ []) old old (with_agent a s) (with_agent a s) (Err NoMemory) (wins a.half tries proved fit)
        (run_beside (MakesCalls (CommitTry ∷ [])) old (with_agent a s) (with_agent a s) (Err NoMemory) fits_disk refl refl refl (inl (tt, refl)))
    wanting_by false fit =
        as_trial (AbandonTry ∷ []) old old (with_agent a s) (with_agent a s) (Err NoMemory) (large a.half tries proved fit)
        (run_beside (MakesCalls (AbandonTry ∷ [])) old (with_agent a s) (with_agent a s) (Err NoMemory) fits_disk refl refl refl (inl (tt, refl)))

    refused : (fail : AgentFail) (end : AgentEnd) → IsEndOf fail end → fits a.half CommitTry ≡ true → IsOneSave {T = T} old new c d a b CommitTry (Err fail) → CallRefusal a CommitTry fail
        → RunsPart EndsTrial old new (with_agent a s) (with_agent b s) (Err end)
    refused fail end is fit one why =
        as_trial (CommitTry ∷ []) old new (with_agent a s) (with_agent b s) (Err end) (wins a.half tries proved fit)
        (alone_ends CommitTry old new (with_agent a s) (with_agent b s) end (call_refused CommitTry old new c d a b s T fail end is room fits_disk one why))

    -- it isn't kept for another cause
    pub trial_refused : (fail : AgentFail) (end : AgentEnd) → IsEndOf fail end → (fail ≡ fails.TooLarge → ⊥) → IsOneSave {T = T} old new c d a b CommitTry (Err fail) → CallRefusal a CommitTry fail
        → RunsPart EndsTrial old new (with_agent a s) (with_agent b s) (Err end)
    trial_refused fails.StoreFault end is apart one why = refused fails.StoreFault end is (fit_by true why.0) one why
    trial_refused fails.NumbersSpent end is apart one why = refused fails.NumbersSpent end is (fit_by true why.0.0) one why
    trial_refused fails.TooLarge end is apart one why = absurd (apart refl)
    trial_refused fails.WrongUid end is apart one why = absurd why
    trial_refused fails.NoMemory end is apart one why =
        let same : b ≡ a = one.unchanged (λ fault. cc) in
        let still : new ≡ old = one.untouched (λ fault. cc) in
        subst (λ e. RunsPart EndsTrial old new (with_agent a s) (with_agent b s) (Err e)) (sym is)
        (subst (λ (v : AgentView). RunsPart EndsTrial old new (with_agent a s) (with_agent v s) (Err NoMemory)) (sym same)
        (subst (λ (disk : DiskState). RunsPart EndsTrial old disk (with_agent a s) (with_agent a s) (Err NoMemory)) (sym still)
        (wanting_by (fits a.half CommitTry) refl)))

-- what is left to do once a report was given up
pub leaves_none : (a : AgentHalf) → is_some a.trial ≡ false → leaving_calls a ≡ []
leaves_none a is = ap (λ none. if none then [] else AbandonTry ∷ []) (none_of a.trial false is)

pub leaves_trial : (a : AgentHalf) → is_some a.trial ≡ true → leaving_calls a ≡ AbandonTry ∷ []
leaves_trial a is = ap (λ none. if none then [] else AbandonTry ∷ []) (none_of a.trial true is)

-- A report is given up, and then a trial is left.
module _ (a b e : AgentView) (held : HeldView) (s : Stage) (is : b.half ≡ call_after a.half GiveUp)
    (leaves : MakesCalls (leaving_calls b.half) (with_agent b (with_held (without_link held) s)) (with_agent e (with_held (without_link held) s)) (Ok tt)) where
  gives_up : MakesCalls (GiveUp ∷ leaving_calls a.half) (with_agent a (with_held (without_link held) s)) (with_agent e (with_held (without_link held) s)) (Ok tt)
  gives_up =
      goes_on (MakesCall GiveUp) (λ _. MakesCalls (leaving_calls a.half)) (with_agent a (with_held (without_link held) s)) (with_agent b (with_held (without_link held) s)) (with_agent e (with_held (without_link held) s)) tt (Ok tt)
      (made GiveUp a b (with_held (without_link held) s) refl is)
      (subst (λ (calls : List Call). MakesCalls calls (with_agent b (with_held (without_link held) s)) (with_agent e (with_held (without_link held) s)) (Ok tt)) (ap leaving_calls is) leaves)

  pub round_given_up : (nanos : ℕ) → nanos ≡ pause_of e.half.saved.settings.interval None
      → GivesUpRound (with_agent a (with_held held s)) (with_agent e (with_held (without_link held) s)) (Ok (record { restart = false; nanos = Some nanos }))
  round_given_up nanos pause =
      (with_agent e (with_held (without_link held) s), (tt, (gives_up, (refl, ap (λ (n : ℕ). Ok (record { restart = false; nanos = Some n })) pause))))
