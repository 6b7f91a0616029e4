-- What a round and a run keep of an agent whose collector proves its configurations: the former configuration, or one that the collector proved meanwhile.
use Rattle.std.proofs.Common.{◌≡◌, ◌∙◌, ℕ, zero, suc, ◌+◌, ◌-◌, ◌≤◌, ◌++◌, List, [], ◌∷◌, Bool, true, false, Option, None, Some, Result, Ok, Err, inl, inr, refl, sym, ap, subst, arith}
use Rattle.std.specs.Prelude.{◌⊎◌, ◌&&◌, codes, Contains, IsSome, IsTrue, is_none}
use Rattle.std.proofs.lemmas.Bool.{false≢true}
use Rattle.std.proofs.lemmas.List.{append-nil, append_assoc}
use Rattle.std.proofs.lemmas.List.Elements.{Contains-append_cases, Contains-append_right}
use Rattle.plain_values.specs.declared.files.AgentConfigMap.{AgentConfigMap}
use Rattle.message_values.specs.declared.config.AgentRemoteConfig.{AgentRemoteConfig}
use Rattle.message_values.specs.declared.custom.CustomCapabilities.{CustomCapabilities}
use Rattle.message_values.specs.declared.custom.CustomMessage.{CustomMessage}
use Rattle.message_values.specs.declared.packages.PackageStatuses.{PackageStatuses}
use Rattle.message_values.specs.declared.packages.PackagesAvailable.{PackagesAvailable}
use Rattle.message_values.specs.declared.reply.ServerToAgent.{ServerToAgent}
use Rattle.message_values.specs.declared.state.Settings.{Settings}
use Rattle.edge_devices.specs.declared.folders.FolderCall.{FolderCall}
use Rattle.edge_devices.specs.declared.folders.FolderCall.TheVariants.{Read}
use Rattle.edge_devices.specs.declared.folders.Area.TheVariants as areas
use Rattle.edge_devices.specs.Folders.{FolderState}
use Rattle.agent_rules.specs.declared.saved.Saved.{Saved}
use Rattle.agent_rules.specs.declared.rules.parts.Next.{Next}
use Rattle.agent_rules.specs.declared.rules.replies.Heard.{Heard}
use Rattle.agent_rules.specs.declared.rules.replies.Heard.TheVariants.{Asked, Commanded, Failed, Plain}
use Rattle.agent_rules.specs.Reports.{where_true}
use Rattle.agent_rules.specs.Half.{AgentHalf, kept_part}
use Rattle.agent_rules.specs.Keeping.{AbandonTry, BeginTry, Call, Change, CommitTry, ConfigDone, GiveUp, PackagesDone, Report, Say, TakeReply, fits, heard_in, kept_by, kept_of_reply, keeping}
use Rattle.agent_rules.specs.Calls.{call_after}
use Rattle.agent_rules.specs.Events.{leaving_calls}
use Rattle.agent_rules.specs.Offers.{next_of, offered_files, trial_calls}
use Rattle.agent_rounds.specs.declared.ends.AgentEnd.{AgentEnd}
use Rattle.agent_rounds.specs.declared.ends.AgentEnd.TheVariants as ends
use Rattle.agent_rounds.specs.declared.ends.Pause.{Pause}
use Rattle.agent_rounds.specs.declared.held.Settling.{Settling}
use Rattle.agent_rounds.specs.declared.held.Settling.TheVariants as settling
use Rattle.agent_store.specs.declared.slots.Layout.{Layout}
use Rattle.agent_state.specs.View.{HasPart}
use Rattle.agent_rounds.specs.Moments.{HasOneOf, Leads, Moment, nothing_held, stage_at, with_saves}
use Rattle.agent_rounds.specs.Parts.{MakesReport, ReadsStatus, SettlesArea, SettlesBy, SettlesWhereDue, TellsLocal}
use Rattle.agent_rounds.specs.Proving.{HasFormerOrProved, IsFormerOrProved, IsProvedBy, IsProvedConfig, KeepsFormerOrProved, LeavesFormerOrProved, name_of, trial_name}
use Rattle.agent_rounds.specs.Replies.{BeginsTrial, Configures, DealsWith, DealsWithNext, DealsWithReply, GivesUpRound, Handles, Installs, PausesAfter, Says, Syncs}
use Rattle.agent_rounds.specs.Rounds.{Asking, GoesOn, Informs, Prepares, RoundBy, RoundsBy, Waiting}
use Rattle.agent_rounds.specs.Stages.{Gives, MakesCall, MakesCalls, Stage, Then}
use Rattle.agent_rounds.specs.Status.{HeldView, local_by, pause_after, pause_of, without_link}
use Rattle.agent_rounds.proofs.AreaLemmas.{KeepAll, KeepsConfig, leaving_keep, same_config, trial_keep}
use Rattle.agent_rounds.proofs.CalmLemmas.{Calm, IsCalm, calm_still, gives_calm}
use Rattle.agent_rounds.proofs.ImageLemmas.{left_with}
use Rattle.agent_rounds.proofs.KeptLemmas.{Adds, Grows, adds_call, configured_keeps, grows_both, none_among, some_is}
use Rattle.agent_rounds.proofs.PassLemmas.{IsPassing, Passes, area_passes, call_passes, calm_passes, configured_passes, reads_pass}
use Rattle.agent_rounds.proofs.ProvingLemmas.{proved_on}

-- ---- parts that keep no other configuration

-- what is kept has the configuration as it was
abbrev Former : Stage → Saved → Type 0
Former s part = part.config ≡ s.half.saved.config

taught_same : (is : Bool) (taught part : Saved) → where_true is taught ≡ Some part → part.config ≡ taught.config
taught_same true taught part keeps = ap (λ (p : Saved). p.config) (some_is part taught (sym keeps))
taught_same false taught part keeps = absurd (let e : None ≡ Some part = keeps in cc)

reply_same : (heard : Heard) (a : AgentHalf) (reply : ServerToAgent) (part : Saved) → kept_of_reply a heard reply ≡ Some part → part.config ≡ a.saved.config
reply_same Commanded a reply part keeps = absurd (let e : None ≡ Some part = keeps in cc)
reply_same Failed a reply part keeps = absurd (let e : None ≡ Some part = keeps in cc)
reply_same Asked a reply part keeps = taught_same _ _ part keeps
reply_same Plain a reply part keeps = taught_same _ _ part keeps

none_kept : (part : Saved) (X : Type 0) → None ≡ Some part → X
none_kept part X keeps = absurd (let e : None ≡ Some part = keeps in cc)

kept_same : (call : Call) (a : AgentHalf) → KeepsConfig call → (part : Saved) → kept_by a call ≡ Some part → part.config ≡ a.saved.config
kept_same (ConfigDone (Some applied) status) a same part keeps = absurd same
kept_same (ConfigDone None status) a same part keeps = ap (λ (p : Saved). p.config) (some_is part _ (sym keeps))
kept_same (Change now) a same part keeps = none_kept part (part.config ≡ a.saved.config) keeps
kept_same Report a same part keeps = taught_same _ _ part keeps
kept_same (TakeReply reply) a same part keeps = reply_same (heard_in reply) a reply part keeps
kept_same GiveUp a same part keeps = none_kept part (part.config ≡ a.saved.config) keeps
kept_same CommitTry a same part keeps = ap (λ (p : Saved). p.config) (some_is part _ (sym keeps))
kept_same AbandonTry a same part keeps = none_kept part (part.config ≡ a.saved.config) keeps
kept_same (PackagesDone statuses) a same part keeps = ap (λ (p : Saved). p.config) (some_is part _ (sym keeps))
kept_same (Say message) a same part keeps = none_kept part (part.config ≡ a.saved.config) keeps
kept_same (BeginTry next) a same part keeps = none_kept part (part.config ≡ a.saved.config) keeps

call_adds : (call : Call) → KeepsConfig call → (s t : Stage) (result : Result Unit AgentEnd) → MakesCall call s t result → Adds (Former s) s t result
call_adds call same s t result made = adds_call (Former s) call s t result (kept_same call s.half same) (same_config call s.half same) made

-- nothing is kept, and the half is as it was
still_adds : {T : Type 0} (s t : Stage) (result : Result T AgentEnd) → t.keeps ≡ s.keeps → t.half ≡ s.half → Adds (Former s) s t result
still_adds s t (Ok value) keeps half =
    record { more = []; joins = keeps ∙ sym (append-nil s.keeps); each = λ part among. absurd (none_among part among); now = ap (λ (h : AgentHalf). h.saved.config) half }
still_adds s t (Err end) keeps half = record { more = []; joins = keeps ∙ sym (append-nil s.keeps); each = λ part among. absurd (none_among part among); now = tt }

-- ---- what holds at a stage, since the run began

record Carried (from t : Stage) : Type 0 where
  more : List Saved
  joins : t.keeps ≡ from.keeps ++ more
  each : (part : Saved) → Contains more part → IsFormerOrProved from t.folder part.config
  grows : Grows from.folder t.folder

-- the run goes on, with so many report numbers used at least
record Goes (from : Stage) (used : ℕ) (t : Stage) : Type 0 where
  carried : Carried from t
  config : IsFormerOrProved from t.folder t.half.saved.config
  prove : t.held.prove ≡ from.held.prove
  next : from.half.next + used ≤ t.half.next

abbrev CarriedAt : {T : Type 0} → Stage → ℕ → Stage → Result T AgentEnd → Type 0
CarriedAt from used t (Ok value) = Goes from used t
CarriedAt from used t (Err end) = Carried from t

abbrev CarriesFrom : {T : Type 0} → Stage → ℕ → ℕ → (Stage → Stage → Result T AgentEnd → Type 0) → Type 0
CarriesFrom {T = T} from before after P = (s t : Stage) (result : Result T AgentEnd) → Goes from before s → P s t result → CarriedAt from after t result

module _ (from : Stage) where
  abbrev Carries : {T : Type 0} → ℕ → ℕ → (Stage → Stage → Result T AgentEnd → Type 0) → Type 0
  Carries {T = T} before after P = CarriesFrom {T = T} from before after P

  module _ {A B : Type 0} (first second third : ℕ) (P : Stage → Stage → Result A AgentEnd → Type 0) (Q : A → Stage → Stage → Result B AgentEnd → Type 0) where
    then_carries : Carries first second P → ((a : A) → Carries second third (Q a)) → Carries first third (Then P Q)
    then_carries one two s t (Ok value) goes (m, (a, (begun, done))) = two a m t (Ok value) (one s m (Ok a) goes begun) done
    then_carries one two s t (Err end) goes (inl ended) = one s t (Err end) goes ended
    then_carries one two s t (Err end) goes (inr (m, (a, (begun, ended)))) = two a m t (Err end) (one s m (Ok a) goes begun) ended

  -- a proof up to a moment is one up to a later moment
  later : (name : List ℕ) (a b : FolderState) → b.told ≡ a.told → Grows a b → IsProvedBy name from.folder a → IsProvedBy name from.folder b
  later name a b same grows proved = record {
    body = proved.body;
    status = proved.status;
    means = proved.means;
    word = proved.word;
    read = λ told.
        let one = proved.read (subst IsTrue same told) in
        let two = grows told in
        let call : FolderCall = Read areas.Status (codes "status.pb") (Some (Some proved.body)) in
        (one.0, (one.1.0 ++ two.0, two.1 ∙ (ap (λ (calls : List FolderCall). calls ++ two.0) one.1.1 ∙ append_assoc (from.folder.calls ++ one.0) (call ∷ one.1.0) two.0)));
  }

  wider : (config : AgentConfigMap) (a b : FolderState) → b.told ≡ a.told → Grows a b → IsFormerOrProved from a config → IsFormerOrProved from b config
  wider config a b same grows (inl former) = inl former
  wider config a b same grows (inr proved) = inr (record {
    offer = proved.offer;
    files = proved.files;
    number = proved.number;
    since = proved.since;
    proved = later (trial_name proved.number proved.offer.config_hash) a b same grows proved.proved;
  })

  carried_still : (s t : Stage) → t ≡ s → Carried from s → Carried from t
  carried_still s t is carried = subst (Carried from) (sym is) carried

  module _ {T : Type 0} (used : ℕ) (s t : Stage) (result : Result T AgentEnd) (goes : Goes from used s) (passes : Passes s t result) where
    -- each of the parts that join has the configuration at this stage or another one that is right too
    joined : (Right : Saved → Type 0) → Adds Right s t result → ((part : Saved) → Right part → IsFormerOrProved from t.folder part.config) → Carried from t
    joined Right adds right = record {
      more = goes.carried.more ++ adds.more;
      joins = adds.joins ∙ (ap (λ (keeps : List Saved). keeps ++ adds.more) goes.carried.joins ∙ append_assoc from.keeps goes.carried.more adds.more);
      each = λ part among. by_side part (Contains-append_cases goes.carried.more adds.more part among);
      grows = grows_both from.folder s.folder t.folder passes.told goes.carried.grows passes.grows;
    }
      where
        by_side : (part : Saved) → Contains goes.carried.more part ⊎ Contains adds.more part → IsFormerOrProved from t.folder part.config
        by_side part (inl among) = wider part.config s.folder t.folder passes.told passes.grows (goes.carried.each part among)
        by_side part (inr among) = right part (adds.each part among)

    -- the configuration at this stage
    now_right : (config : AgentConfigMap) → config ≡ s.half.saved.config → IsFormerOrProved from t.folder config
    now_right config is = subst (λ (c : AgentConfigMap). IsFormerOrProved from t.folder c) (sym is) (wider s.half.saved.config s.folder t.folder passes.told passes.grows goes.config)

  next_used : (a b c used : ℕ) → a + used ≤ b → b ≤ c → a + used ≤ c
  next_used a b c used one two = omega (arith, one, two)

  -- of a part with these parts kept
  module _ (Right : Stage → FolderState → Saved → Type 0) where
    right_carries : {T : Type 0} (used : ℕ) (s t : Stage) (result : Result T AgentEnd) → Goes from used s → Passes s t result → Adds (Right s t.folder) s t result
        → ((part : Saved) → Right s t.folder part → IsFormerOrProved from t.folder part.config) → CarriedAt from used t result
    right_carries used s t (Ok value) goes passes adds right =
        let same : t.held.prove ≡ s.held.prove = passes.prove in
        let now : Right s t.folder t.half.saved = adds.now in record {
          carried = joined used s t (Ok value) goes passes (Right s t.folder) adds right;
          config = right t.half.saved now;
          prove = same ∙ goes.prove;
          next = next_used from.half.next s.half.next t.half.next used goes.next passes.next;
        }
    right_carries used s t (Err end) goes passes adds right = joined used s t (Err end) goes passes (Right s t.folder) adds right

  same_carries : {T : Type 0} (used : ℕ) (s t : Stage) (result : Result T AgentEnd) → Goes from used s → Passes s t result → Adds (Former s) s t result → CarriedAt from used t result
  same_carries used s t result goes passes adds =
      right_carries (λ u f part. part.config ≡ u.half.saved.config) used s t result goes passes adds (λ part is. now_right used s t result goes passes part.config is)

  calm_carries : {T : Type 0} (used : ℕ) (P : Stage → Stage → Result T AgentEnd → Type 0) → IsCalm P → Carries used used P
  calm_carries used P calms s t result goes part =
      let calm = calms s t result part in
      same_carries used s t result goes (calm_passes s t result calm) (still_adds s t result calm.keeps calm.half)

  gives_carry : {T : Type 0} (used : ℕ) (value : T) → Carries used used (Gives value)
  gives_carry used value = calm_carries used (Gives value) (gives_calm value)

  call_carries : (used : ℕ) (call : Call) → KeepsConfig call → Carries used used (MakesCall call)
  call_carries used call same s t result goes made = same_carries used s t result goes (call_passes call s t result made) (call_adds call same s t result made)

  calls_carry : (used : ℕ) (calls : List Call) → KeepAll calls → Carries used used (MakesCalls calls)
  calls_carry used [] keep = gives_carry used tt
  calls_carry used (call ∷ calls) keep =
      then_carries used used used (MakesCall call) (λ done. MakesCalls calls) (call_carries used call keep.0) (λ done. calls_carry used calls keep.1)

  -- ---- up to the report

  area_carries : (used : ℕ) → Carries used used SettlesArea
  area_carries used s t result goes settled =
      same_carries used s t result goes (area_passes s t result settled) (still_adds s t result (ap (λ (u : Stage). u.keeps) settled.rest) (ap (λ (u : Stage). u.half) settled.rest))

  by_carries : (used : ℕ) (now : Settling) → Carries used used (SettlesBy now)
  by_carries used settling.Settled s t result goes settled = gives_carry used tt s t result goes settled
  by_carries used settling.First s t result goes settled = area_carries used s t result goes settled
  by_carries used settling.Again s t result goes settled = area_carries used s t result goes settled

  reads_carry : (used : ℕ) → Carries used used ReadsStatus
  reads_carry used s t result goes read =
      same_carries used s t result goes (reads_pass s t result read) (still_adds s t result (ap (λ (u : Stage). u.keeps) read.rest) (ap (λ (u : Stage). u.half) read.rest))

  local_carries : (used : ℕ) (are : CustomCapabilities → Type 0) → Carries used used (TellsLocal are)
  local_carries used are s t (Ok done) goes (names, (is, made)) = call_carries used (Change (local_by s.held.status s.half.saved.config names)) tt s t (Ok tt) goes made
  local_carries used are s t (Err end) goes told = carried_still s t told.1 goes.carried

  one_more : (a b used : ℕ) → a + used ≤ b → a + (used + 1) ≤ b + 1
  one_more a b used within = omega (arith, within)

  -- a report uses its number
  report_carries : (used : ℕ) → Carries used (used + 1) MakesReport
  report_carries used s t (Ok bytes) goes made =
      let gone = call_carries used Report tt s t (Ok tt) goes made.2 in record {
        carried = gone.carried;
        config = gone.config;
        prove = gone.prove;
        next = subst (λ (h : AgentHalf). from.half.next + (used + 1) ≤ h.next) (sym (ap (λ (u : Stage). u.half) made.2.1)) (one_more from.half.next s.half.next used goes.next);
      }
  report_carries used s t (Err ends.StoreFault) goes made = call_carries used Report tt s t (Err ends.StoreFault) goes made.1
  report_carries used s t (Err ends.FolderFault) goes made = carried_still s t made.1 goes.carried
  report_carries used s t (Err ends.ClockFault) goes made = carried_still s t made.1 goes.carried
  report_carries used s t (Err ends.RoundsSpent) goes made = carried_still s t made.1 goes.carried
  report_carries used s t (Err ends.NumbersSpent) goes made = carried_still s t made.1 goes.carried
  report_carries used s t (Err ends.TooLarge) goes made = carried_still s t made.1 goes.carried
  report_carries used s t (Err ends.NoMemory) goes made = carried_still s t made.1 goes.carried

  -- ---- behind the report: an offered configuration, of an agent whose collector proves it

  module _ (seconds : ℕ) (asked : from.held.prove ≡ Some seconds) where
    below_last : (a b : ℕ) → a + 1 ≤ b → a ≤ b - 1
    below_last a b within = omega (arith, within)

    -- the offered files, whose trial the collector proved, or the configuration at this stage
    abbrev Tried : AgentRemoteConfig → Stage → FolderState → Saved → Type 0
    Tried offer s f part = (part.config ≡ s.half.saved.config) ⊎ ((part.config ≡ offered_files offer) × IsProvedBy (name_of s.half offer) s.folder f)

    offer_carries : (offer : AgentRemoteConfig) → Carries 1 1 (Configures (Some offer))
    offer_carries offer s t result goes done =
        let keeps = configured_keeps offer s t seconds result (goes.prove ∙ asked) done in
        let passes = configured_passes offer s t result done in
        right_carries (Tried offer) 1 s t result goes passes (record { more = keeps.more; joins = keeps.joins; each = keeps.each; now = keeps.now }) (right passes)
      where
        right : Passes s t result → (part : Saved) → Tried offer s t.folder part → IsFormerOrProved from t.folder part.config
        right passes part (inl former) = now_right 1 s t result goes passes part.config former
        right passes part (inr tried) = inr (record {
          offer = offer;
          files = tried.0;
          number = s.half.next - 1;
          since = below_last from.half.next s.half.next goes.next;
          proved = proved_on (name_of s.half offer) from.folder s.folder t.folder goes.carried.grows tried.1 passes.told;
        })

    config_carries : (offer : Option AgentRemoteConfig) → Carries 1 1 (Configures offer)
    config_carries None = gives_carry 1 tt
    config_carries (Some offer) = offer_carries offer

    -- ---- the other parts

    syncs_carry : (offer : PackagesAvailable) → Carries 1 1 (Syncs offer)
    syncs_carry offer s t result goes ran = same_carries 1 s t result goes (synced s t result ran) (still_adds s t result (ap (λ (u : Stage). u.keeps) ran.rest) (ap (λ (u : Stage). u.half) ran.rest))
      where
        synced : (s t : Stage) (result : Result PackageStatuses AgentEnd) → Syncs offer s t result → Passes s t result
        synced s t (Ok value) ran = record {
          told = ran.only.made.told;
          grows = λ told. (ran.only.seen, ran.only.made.calls told);
          prove = ap (λ (u : Stage). u.held.prove) ran.rest;
          next = subst (λ (h : AgentHalf). s.half.next ≤ h.next) (sym (ap (λ (u : Stage). u.half) ran.rest)) (omega arith);
        }
        synced s t (Err end) ran = record { told = ran.only.made.told; grows = λ told. (ran.only.seen, ran.only.made.calls told); prove = tt; next = tt }

    installs_carry : (offer : Option PackagesAvailable) → Carries 1 1 (Installs offer)
    installs_carry None = gives_carry 1 tt
    installs_carry (Some offer) =
        then_carries 1 1 1 (Syncs offer) (λ statuses. MakesCall (PackagesDone statuses)) (syncs_carry offer) (λ statuses. call_carries 1 (PackagesDone statuses) tt)

    says_carry : (answer : Option CustomMessage) → Carries 1 1 (Says answer)
    says_carry None = gives_carry 1 tt
    says_carry (Some answer) = call_carries 1 (Say answer) tt

    module _ (may : CustomMessage → Option CustomMessage → Type 0) where
      handles_carry : (message : Option CustomMessage) → Carries 1 1 (Handles may message)
      handles_carry None s t result goes handled = gives_carry 1 tt s t result goes handled
      handles_carry (Some message) s t (Ok done) goes (answer, (allowed, said)) = says_carry answer s t (Ok tt) goes said
      handles_carry (Some message) s t (Err end) goes handled = carried_still s t handled.1 goes.carried

      begins_carry : (next : Option Settings) → Carries 1 1 (BeginsTrial next)
      begins_carry None = gives_carry 1 tt
      begins_carry (Some settings) = call_carries 1 (BeginTry settings) tt

      next_carries : (next : Next) → Carries 1 1 (DealsWithNext may next)
      next_carries next =
          then_carries 1 1 1 (λ s. MakesCalls (trial_calls s.half) s)
          (λ _. Then (Configures next.config) (λ _. Then (Installs next.packages) (λ _. Then (Handles may next.message) (λ _. Then (BeginsTrial next.connection) (λ _. PausesAfter next)))))
          (λ s t result goes made. calls_carry 1 (trial_calls s.half) (trial_keep (is_none s.half.trial) (s.half.proved && fits s.half CommitTry)) s t result goes made)
          (λ _. then_carries 1 1 1 (Configures next.config) (λ _. Then (Installs next.packages) (λ _. Then (Handles may next.message) (λ _. Then (BeginsTrial next.connection) (λ _. PausesAfter next))))
          (config_carries next.config)
          (λ _. then_carries 1 1 1 (Installs next.packages) (λ _. Then (Handles may next.message) (λ _. Then (BeginsTrial next.connection) (λ _. PausesAfter next))) (installs_carry next.packages)
          (λ _. then_carries 1 1 1 (Handles may next.message) (λ _. Then (BeginsTrial next.connection) (λ _. PausesAfter next)) (handles_carry next.message)
          (λ _. then_carries 1 1 1 (BeginsTrial next.connection) (λ _. PausesAfter next) (begins_carry next.connection)
          (λ _ s t result goes paused. gives_carry 1 (pause_after next s.half.saved.settings.interval) s t result goes paused)))))

      reply_carries : (reply : ServerToAgent) → Carries 1 1 (DealsWithReply may reply)
      reply_carries reply s t result goes dealt =
          then_carries 1 1 1 (MakesCall (TakeReply reply)) (λ _. DealsWithNext may (next_of reply s.half)) (call_carries 1 (TakeReply reply) tt) (λ _. next_carries (next_of reply s.half))
          s t result goes dealt

      give_up_carries : Carries 1 1 GivesUpRound
      give_up_carries s t result goes given =
          let unlinked : Stage = record s { held = without_link s.held } in
          let carried : Carried from unlinked = record { more = goes.carried.more; joins = goes.carried.joins; each = goes.carried.each; grows = goes.carried.grows } in
          then_carries 1 1 1 (MakesCalls (GiveUp ∷ leaving_calls s.half)) (λ _ m. Gives (record { restart = false; nanos = Some (pause_of m.half.saved.settings.interval None) }) m)
          (calls_carry 1 (GiveUp ∷ leaving_calls s.half) (tt, leaving_keep (is_none s.half.trial)))
          (λ _ m u result goes given. gives_carry 1 (record { restart = false; nanos = Some (pause_of m.half.saved.settings.interval None) }) m u result goes given)
          unlinked t result (record { carried = carried; config = goes.config; prove = goes.prove; next = goes.next }) given

      deals_carry : (reply : Option ServerToAgent) → Carries 1 1 (DealsWith may reply)
      deals_carry None = give_up_carries
      deals_carry (Some reply) = reply_carries reply

      -- ---- a round and a run

      module _ (asks : Asking) (waits : Waiting) (asks_calm : (bytes : List ℕ) → IsCalm (asks bytes)) (waits_calm : (pause : Pause) → IsCalm (waits pause)) (are : CustomCapabilities → Type 0) where
        round_carries : Carries 0 1 (RoundBy asks waits may are)
        round_carries =
            then_carries 0 1 1 (Prepares are) (λ bytes. Then (asks bytes) (λ reply. Then (DealsWith may reply) waits))
            (then_carries 0 0 1 (Informs are) (λ _. MakesReport)
            (then_carries 0 0 0 SettlesWhereDue (λ _. Then ReadsStatus (λ _. TellsLocal are)) (λ s t result goes settled. by_carries 0 s.held.settling s t result goes settled)
            (λ _. then_carries 0 0 0 ReadsStatus (λ _. TellsLocal are) (reads_carry 0) (λ _. local_carries 0 are)))
            (λ _. report_carries 0))
            (λ bytes. then_carries 1 1 1 (asks bytes) (λ reply. Then (DealsWith may reply) waits) (calm_carries 1 (asks bytes) (asks_calm bytes))
            (λ reply. then_carries 1 1 1 (DealsWith may reply) waits (deals_carry reply) (λ pause. calm_carries 1 (waits pause) (waits_calm pause))))

        -- of what goes on after a round
        anew : (s : Stage) → Goes from 1 s → Goes from 0 s
        anew s goes = record { carried = goes.carried; config = goes.config; prove = goes.prove; next = fewer from.half.next s.half.next goes.next }
          where
            fewer : (a b : ℕ) → a + 1 ≤ b → a + 0 ≤ b
            fewer a b within = omega (arith, within)

        anew_at : {T : Type 0} (t : Stage) (result : Result T AgentEnd) → CarriedAt from 1 t result → CarriedAt from 0 t result
        anew_at t (Ok value) goes = anew t goes
        anew_at t (Err end) carried = carried

        on_carries : (done : ℕ) (more : Stage → Stage → Result ℕ AgentEnd → Type 0) → Carries 0 0 more → (restart : Bool) → Carries 0 0 (GoesOn done more restart)
        on_carries done more rest true = gives_carry 0 (done + 1)
        on_carries done more rest false = rest

        rounds_carry : (left done : ℕ) → Carries 0 0 (RoundsBy asks waits may are left done)
        rounds_carry zero done s t (Ok rounds) goes ran = absurd (let e : Ok rounds ≡ Err ends.RoundsSpent = ran.1 in cc)
        rounds_carry zero done s t (Err end) goes ran = carried_still s t ran.0 goes.carried
        rounds_carry (suc left) done s t result goes ran =
            then_carries 0 0 0 (RoundBy asks waits may are) (GoesOn done (RoundsBy asks waits may are left (done + 1)))
            (λ u v ended begun round. anew_at v ended (round_carries u v ended begun round))
            (on_carries done (RoundsBy asks waits may are left (done + 1)) (rounds_carry left (done + 1))) s t result goes ran

-- an image that stands for the first part or for one of these, each of which is so
one_of : (layout : Layout) (So : Saved → Type 0) (first : Option Saved) (parts : List Saved) (image : ℕ → ℕ) → ((part : Saved) → Contains parts part → So part) → HasOneOf layout first parts image
    → HasPart layout first image ⊎ ((part : Saved) × HasPart layout (Some part) image × So part)
one_of layout So first [] image each has = inl has
one_of layout So first (part ∷ parts) image each (inl has) = inl has
one_of layout So first (part ∷ parts) image each (inr has) = by_rest (one_of layout So (Some part) parts image (λ other among. each other (behind other among)) has)
  where
    behind : (other : Saved) → Contains parts other → Contains (part ∷ parts) other
    behind other among = Contains-append_right (part ∷ []) parts other among

    by_rest : HasPart layout (Some part) image ⊎ ((other : Saved) × HasPart layout (Some other) image × So other)
        → HasPart layout first image ⊎ ((other : Saved) × HasPart layout (Some other) image × So other)
    by_rest (inl has) = inr (part, has, each part (0, omega arith, refl))
    by_rest (inr other) = inr other

begins_with : (s : Stage) → Goes s 0 s
begins_with s = record {
  carried = record { more = []; joins = sym (append-nil s.keeps); each = λ part among. absurd (none_among part among); grows = λ told. ([], sym (append-nil s.folder.calls)) };
  config = inl refl;
  prove = refl;
  next = same s.half.next;
}
  where
    same : (a : ℕ) → a + 0 ≤ a
    same a = omega arith

ends_with : {T : Type 0} (used : ℕ) (s t : Stage) (result : Result T AgentEnd) → CarriedAt s used t result → KeepsFormerOrProved s t result
ends_with used s t (Ok value) goes = record { more = goes.carried.more; joins = goes.carried.joins; each = goes.carried.each; now = goes.config }
ends_with used s t (Err end) carried = record { more = carried.more; joins = carried.joins; each = carried.each; now = tt }

module _ (asks : Asking) (waits : Waiting) (asks_calm : (bytes : List ℕ) → IsCalm (asks bytes)) (waits_calm : (pause : Pause) → IsCalm (waits pause))
    (may : CustomMessage → Option CustomMessage → Type 0) (are : CustomCapabilities → Type 0) where
  pub round_keeps : (seconds : ℕ) (s t : Stage) (result : Result Bool AgentEnd) → s.held.prove ≡ Some seconds → RoundBy asks waits may are s t result → KeepsFormerOrProved s t result
  round_keeps seconds s t result asked round = ends_with 1 s t result (round_carries s seconds asked may asks waits asks_calm waits_calm are s t result (begins_with s) round)

  pub rounds_keep : (seconds left done : ℕ) (s t : Stage) (result : Result ℕ AgentEnd) → s.held.prove ≡ Some seconds → RoundsBy asks waits may are left done s t result → KeepsFormerOrProved s t result
  rounds_keep seconds left done s t result asked ran = ends_with 0 s t result (rounds_carry s seconds asked may asks waits asks_calm waits_calm are left done s t result (begins_with s) ran)

  -- ---- what a crash leaves

  asked_of : (prove : Option ℕ) (held : HeldView) → IsSome prove → held ≡ nothing_held prove → (seconds : ℕ) × (held.prove ≡ Some seconds)
  asked_of None held some is = absurd (false≢true some)
  asked_of (Some seconds) held some is = (seconds, ap (λ (h : HeldView). h.prove) is)

  pub leads_prove : (prove : Option ℕ) → IsSome prove → (rounds : ℕ) (before after : Moment) (result : Result ℕ AgentEnd) → before.held ≡ nothing_held prove
      → Leads (RoundsBy asks waits may are rounds 0) before after result → LeavesFormerOrProved before after.disk after.folder
  leads_prove prove some rounds before after result none leads told =
      let run = leads [] in
      let asked = asked_of prove before.held some none in
      let keeps = rounds_keep asked.0 rounds 0 (stage_at before []) (with_saves run.saves (stage_at after [])) result asked.1 run.does in
      left_with before.disk after.disk (HasOneOf before.agent.store.layout (kept_part before.agent.half) run.saves) (HasFormerOrProved before after.folder)
      (λ image has. one_of before.agent.store.layout (λ part. IsFormerOrProved (stage_at before []) after.folder part.config) (kept_part before.agent.half) run.saves image
      (λ part among. keeps.each part (subst (λ (parts : List Saved). Contains parts part) keeps.joins among)) has)
      (run.images.crash told)
