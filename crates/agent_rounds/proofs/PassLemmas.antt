-- What the parts of a round pass on: the folder's calls are more, and unless the round ends the way of proving is as it was, and the next report's number
-- hasn't fallen.
use Rattle.std.proofs.Common.{◌≡◌, ◌∙◌, ℕ, ◌+◌, ◌≤◌, ◌++◌, List, [], ◌∷◌, Bool, true, false, Option, None, Some, Result, Ok, Err, inl, inr, refl, sym, ap, subst, arith}
use Rattle.std.specs.Prelude.{codes, OnOk}
use Rattle.std.proofs.lemmas.List.{append-nil}
use Rattle.plain_values.specs.declared.memory.NoMemory.{NoMemory as Wanting}
use Rattle.message_values.specs.declared.config.AgentRemoteConfig.{AgentRemoteConfig}
use Rattle.message_values.specs.declared.reply.ServerToAgent.{ServerToAgent}
use Rattle.edge_devices.specs.declared.folders.FolderCall.{FolderCall}
use Rattle.edge_devices.specs.declared.folders.FolderFail.{FolderFail}
use Rattle.edge_devices.specs.Folders.{FolderState}
use Rattle.agent_config.specs.declared.Outcome.{Outcome}
use Rattle.agent_config.specs.declared.Outcome.TheVariants as outcomes
use Rattle.agent_rules.specs.declared.saved.Saved.{Saved}
use Rattle.agent_rules.specs.declared.rules.replies.Heard.{Heard}
use Rattle.agent_rules.specs.declared.rules.replies.Heard.TheVariants.{Asked, Commanded, Failed, Plain}
use Rattle.agent_rules.specs.Half.{AgentHalf}
use Rattle.agent_rules.specs.Keeping.{AbandonTry, BeginTry, Call, Change, CommitTry, ConfigDone, GiveUp, PackagesDone, Report, Say, TakeReply, fits, heard_in, kept_by, keeping}
use Rattle.agent_rules.specs.Calls.{call_after, told_by}
use Rattle.agent_rules.specs.Offers.{applied_call, failed_call}
use Rattle.agent_rounds.specs.declared.ends.AgentEnd.{AgentEnd}
use Rattle.agent_rounds.specs.declared.ends.AgentEnd.TheVariants as ends
use Rattle.agent_config.specs.declared.word.Said.{Said}
use Rattle.agent_rounds.specs.declared.proving.Trial.{Trial}
use Rattle.agent_rounds.specs.Parts.{ReadsStatus, SettlesArea}
use Rattle.agent_rounds.specs.Proving.{NamesTrial, name_of, quarters, refusal}
use Rattle.agent_rounds.specs.Replies.{AppliesFiles, Brings, BringsBack, ConfigEnds, Configures, FailsBack, KeepsBy, KeepsFiles, KeepsProved, KeepsUnless, TriesBy, TriesFor, TriesNamed, WatchesTrial, held_after, held_again, unsettled}
use Rattle.agent_rounds.specs.Stages.{Gives, MakesCall, Stage, Then}
use Rattle.agent_rounds.specs.Status.{HeldView}
use Rattle.agent_rounds.proofs.CalmLemmas.{Calm}
use Rattle.agent_rounds.proofs.KeptLemmas.{Grows, grows_both, made_folder}
use Rattle.agent_rounds.proofs.ProvingLemmas.{Beside, watches_beside}

pub record Passes {T : Type 0} (s t : Stage) (result : Result T AgentEnd) : Type 0 where
  pub told : t.folder.told ≡ s.folder.told
  pub grows : Grows s.folder t.folder
  pub prove : OnOk result (t.held.prove ≡ s.held.prove)
  pub next : OnOk result (s.half.next ≤ t.half.next)

abbrev pub IsPassing : {T : Type 0} → (Stage → Stage → Result T AgentEnd → Type 0) → Type 0
IsPassing {T = T} P = (s t : Stage) (result : Result T AgentEnd) → P s t result → Passes s t result

-- the folder is as it was
same_grows : (a b : FolderState) → b ≡ a → Grows a b
same_grows a b is = λ told. ([], ap (λ (f : FolderState). f.calls) is ∙ sym (append-nil a.calls))

no_less : (a b : AgentHalf) → b ≡ a → a.next ≤ b.next
no_less a b is = subst (λ (h : AgentHalf). a.next ≤ h.next) (sym is) (omega arith)

pub calm_passes : {T : Type 0} (s t : Stage) (result : Result T AgentEnd) → Calm s t → Passes s t result
calm_passes s t (Ok value) calm = record {
  told = ap (λ (f : FolderState). f.told) calm.folder;
  grows = same_grows s.folder t.folder calm.folder;
  prove = calm.prove;
  next = no_less s.half t.half calm.half;
}
calm_passes s t (Err end) calm = record {
  told = ap (λ (f : FolderState). f.told) calm.folder;
  grows = same_grows s.folder t.folder calm.folder;
  prove = tt;
  next = tt;
}

no_less_both : (a b c : ℕ) → a ≤ b → b ≤ c → a ≤ c
no_less_both a b c one two = omega (arith, one, two)

both_pass : {A B : Type 0} (s m t : Stage) (a : A) (result : Result B AgentEnd) → Passes s m (Ok a) → Passes m t result → Passes s t result
both_pass s m t a (Ok value) one two =
    let first : m.held.prove ≡ s.held.prove = one.prove in
    let second : t.held.prove ≡ m.held.prove = two.prove in record {
      told = two.told ∙ one.told;
      grows = grows_both s.folder m.folder t.folder two.told one.grows two.grows;
      prove = second ∙ first;
      next = no_less_both s.half.next m.half.next t.half.next one.next two.next;
    }
both_pass s m t a (Err end) one two = record {
  told = two.told ∙ one.told;
  grows = grows_both s.folder m.folder t.folder two.told one.grows two.grows;
  prove = tt;
  next = tt;
}

out_passes : {A B : Type 0} (s t : Stage) (end : AgentEnd) → Passes {T = A} s t (Err end) → Passes {T = B} s t (Err end)
out_passes s t end one = record { told = one.told; grows = one.grows; prove = tt; next = tt }

module _ {A B : Type 0} (P : Stage → Stage → Result A AgentEnd → Type 0) (Q : A → Stage → Stage → Result B AgentEnd → Type 0) where
  then_passes : IsPassing P → ((a : A) → IsPassing (Q a)) → IsPassing (Then P Q)
  then_passes one two s t (Ok value) (m, (a, (begun, done))) = both_pass s m t a (Ok value) (one s m (Ok a) begun) (two a m t (Ok value) done)
  then_passes one two s t (Err end) (inl ended) = out_passes {A = A} {B = B} s t end (one s t (Err end) ended)
  then_passes one two s t (Err end) (inr (m, (a, (begun, ended)))) = both_pass s m t a (Err end) (one s m (Ok a) begun) (two a m t (Err end) ended)

-- ---- calls of the agent

same_next : (part : Option Saved) (a : AgentHalf) → (keeping part a).next ≡ a.next
same_next None a = refl
same_next (Some saved) a = refl

told_next : (heard : Heard) (reply : ServerToAgent) (a : AgentHalf) → (told_by heard reply a).next ≡ a.next
told_next Commanded reply a = refl
told_next Failed reply a = refl
told_next Asked reply a = same_next (kept_by a (TakeReply reply)) a
told_next Plain reply a = same_next (kept_by a (TakeReply reply)) a

equal_no_less : (a b : ℕ) → b ≡ a → a ≤ b
equal_no_less a b is = omega (arith, is)

one_above : (a : ℕ) → a ≤ a + 1
one_above a = omega arith

next_on : (call : Call) (a : AgentHalf) → a.next ≤ (call_after a call).next
next_on (Change now) a = equal_no_less a.next a.next refl
next_on Report a = one_above a.next
next_on (TakeReply reply) a = equal_no_less a.next (told_by (heard_in reply) reply a).next (told_next (heard_in reply) reply a)
next_on GiveUp a = equal_no_less a.next a.next refl
next_on CommitTry a = equal_no_less a.next a.next refl
next_on AbandonTry a = equal_no_less a.next a.next refl
next_on (ConfigDone None status) a = equal_no_less a.next a.next refl
next_on (ConfigDone (Some applied) status) a = equal_no_less a.next a.next refl
next_on (PackagesDone statuses) a = equal_no_less a.next a.next refl
next_on (Say message) a = equal_no_less a.next a.next refl
next_on (BeginTry next) a = equal_no_less a.next a.next refl

made_passes : (call : Call) (s t : Stage) (end : AgentEnd) → MakesCall call s t (Err end) → Passes {T = Unit} s t (Err end)
made_passes call s t end made =
    let same = made_folder call s t (Err end) made in
    record { told = ap (λ (f : FolderState). f.told) same; grows = same_grows s.folder t.folder same; prove = tt; next = tt }

pub call_passes : (call : Call) → IsPassing (MakesCall call)
call_passes call s t (Ok done) made = record {
  told = ap (λ (u : Stage). u.folder.told) made.1;
  grows = same_grows s.folder t.folder (ap (λ (u : Stage). u.folder) made.1);
  prove = ap (λ (u : Stage). u.held.prove) made.1;
  next = subst (λ (h : AgentHalf). s.half.next ≤ h.next) (sym (ap (λ (u : Stage). u.half) made.1)) (next_on call s.half);
}
call_passes call s t (Err end) made = made_passes call s t end made

-- ---- the area and the status file

-- the half is as it was, and so is the way of proving
held_passes : {T : Type 0} (s t : Stage) (result : Result T AgentEnd) → t.folder.told ≡ s.folder.told → Grows s.folder t.folder → t.half ≡ s.half → t.held.prove ≡ s.held.prove → Passes s t result
held_passes s t (Ok value) told grows half prove = record { told = told; grows = grows; prove = prove; next = no_less s.half t.half half }
held_passes s t (Err end) told grows half prove = record { told = told; grows = grows; prove = tt; next = tt }

pub area_passes : IsPassing SettlesArea
area_passes s t result settled =
    held_passes s t result settled.settles.runs.makes.told (λ told. (settled.settles.runs.seen, settled.settles.runs.makes.calls told)) (ap (λ (u : Stage). u.half) settled.rest)
    (ap (λ (u : Stage). u.held.prove) settled.rest)

pub reads_pass : IsPassing ReadsStatus
reads_pass s t result read =
    held_passes s t result read.call.told (λ told. (_, read.call.calls told)) (ap (λ (u : Stage). u.half) read.rest) (ap (λ (u : Stage). u.held.prove) read.rest)

again_prove : (answer : Result Unit FolderFail) (held : HeldView) → (held_again answer held).prove ≡ held.prove
again_prove (Ok done) held = refl
again_prove (Err fail) held = refl

back_passes : IsPassing BringsBack
back_passes s t result back =
    held_passes s t result back.settles.runs.makes.told (λ told. (back.settles.runs.seen, back.settles.runs.makes.calls told)) (ap (λ (u : Stage). u.half) back.rest)
    (ap (λ (u : Stage). u.held.prove) back.rest ∙ again_prove back.answer s.held)

after_prove : (answer : Result Outcome Wanting) (held : HeldView) → (held_after answer held).prove ≡ held.prove
after_prove (Ok outcomes.Applied) held = refl
after_prove (Ok (outcomes.BadName name)) held = refl
after_prove (Ok (outcomes.FolderFault true)) held = refl
after_prove (Ok (outcomes.FolderFault false)) held = refl
after_prove (Err wanting) held = refl

applies_pass : (offer : AgentRemoteConfig) → IsPassing (AppliesFiles offer)
applies_pass offer s t result applied =
    held_passes s t result applied.applies.calls.makes.told (λ told. (applied.applies.calls.seen, applied.applies.calls.makes.calls told)) (ap (λ (u : Stage). u.half) applied.rest)
    (ap (λ (u : Stage). u.held.prove) applied.rest ∙ after_prove applied.answer s.held)

names_pass : (name : List ℕ) → IsPassing (NamesTrial name)
names_pass name s t result names =
    held_passes s t result names.call.told (λ told. (_, names.call.calls told)) (ap (λ (u : Stage). u.half) names.rest) (ap (λ (u : Stage). u.held.prove) names.rest)

beside_passes : (s t : Stage) (result : Result Said AgentEnd) → Beside s t → Passes s t result
beside_passes s t result beside =
    held_passes s t result beside.told beside.grows (ap (λ (u : Stage). u.half) beside.rest) (ap (λ (u : Stage). u.held.prove) beside.rest)

trial_passes : (trial : Trial) → IsPassing (WatchesTrial trial)
trial_passes trial s t (Ok said) watched = beside_passes s t (Ok said) (watches_beside (quarters trial.seconds) trial.name s t (Ok said) watched)
trial_passes trial s t (Err end) watched =
    let u : Stage = record s { held = unsettled s.held } in
    let beside = watches_beside (quarters trial.seconds) trial.name u t (Err end) watched in
    record { told = beside.told; grows = beside.grows; prove = tt; next = tt }

-- ---- an offered configuration

module _ (offer : AgentRemoteConfig) where
  fails_pass : (text : List ℕ) → IsPassing (FailsBack offer text)
  fails_pass text = then_passes BringsBack (λ done. MakesCall (failed_call offer text)) back_passes (λ done. call_passes (failed_call offer text))

  files_pass : IsPassing (KeepsFiles offer)
  files_pass s t (Ok done) made =
      let passes = call_passes (applied_call offer) s t (Ok tt) made in
      record { told = passes.told; grows = passes.grows; prove = passes.prove; next = passes.next }
  files_pass s t (Err end) made =
      let u : Stage = record s { held = unsettled s.held } in
      let passes = made_passes (applied_call offer) u t end made in
      record { told = passes.told; grows = passes.grows; prove = tt; next = tt }

  by_passes : (fit : Bool) → IsPassing (KeepsBy fit offer)
  by_passes true = files_pass
  by_passes false = fails_pass (codes "too large")

  unless_passes : (text : Option (List ℕ)) → IsPassing (KeepsUnless text offer)
  unless_passes None s t result kept = by_passes (fits s.half (applied_call offer)) s t result kept
  unless_passes (Some text) s t result kept = fails_pass text s t result kept

  proved_passes : (trial : Option Trial) → IsPassing (KeepsProved trial offer)
  proved_passes None = unless_passes None
  proved_passes (Some trial) = then_passes (WatchesTrial trial) (λ said. KeepsUnless (refusal said) offer) (trial_passes trial) (λ said. unless_passes (refusal said))

  ends_pass : (trial : Option Trial) (outcome : Outcome) → IsPassing (ConfigEnds trial offer outcome)
  ends_pass trial (outcomes.BadName name) = call_passes (failed_call offer (codes "bad name"))
  ends_pass trial (outcomes.FolderFault settled) = call_passes (failed_call offer (codes "folder fault"))
  ends_pass trial outcomes.Applied = proved_passes trial

  brings_pass : (trial : Option Trial) → IsPassing (Brings trial offer)
  brings_pass trial = then_passes (AppliesFiles offer) (λ outcome. ConfigEnds trial offer outcome) (applies_pass offer) (ends_pass trial)

  named_passes : (trial : Trial) (named : Bool) → IsPassing (TriesNamed trial offer named)
  named_passes trial true = brings_pass (Some trial)
  named_passes trial false = call_passes (failed_call offer (codes "folder fault"))

  tried_passes : (fit : Bool) (trial : Trial) → IsPassing (TriesBy fit trial offer)
  tried_passes true trial = then_passes (NamesTrial trial.name) (λ named. TriesNamed trial offer named) (names_pass trial.name) (named_passes trial)
  tried_passes false trial = call_passes (failed_call offer (codes "too large"))

  tries_pass : (tried : Option ℕ) → IsPassing (TriesFor tried offer)
  tries_pass None s t result tries = brings_pass None s t result tries
  tries_pass (Some seconds) s t result tries = tried_passes (fits s.half (applied_call offer)) (record { seconds = seconds; name = name_of s.half offer }) s t result tries

  pub configured_passes : IsPassing (Configures (Some offer))
  configured_passes s t result (tried, (is, tries)) = tries_pass tried s t result tries
