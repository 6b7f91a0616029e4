-- A round that ends in one of its parts kept the first of what its events keep.
use Rattle.std.proofs.Common.{◌≡◌, ℕ, List, [], ◌∷◌, ◌++◌, Bool, true, false, Option, None, Some, Ok, Err, refl, sym, ◌∙◌, ap, subst, inl, inr}
use Rattle.std.specs.Prelude.{codes, if◌then◌else◌}
use Rattle.std.specs.Option.{option_and_then, option_map, option_to_list}
use Rattle.std.proofs.lemmas.List.{append_assoc, append-nil}
use Rattle.message_values.specs.declared.config.AgentRemoteConfig.{AgentRemoteConfig}
use Rattle.message_values.specs.declared.custom.CustomMessage.{CustomMessage}
use Rattle.message_values.specs.declared.packages.PackageStatuses.{PackageStatuses}
use Rattle.message_values.specs.declared.packages.PackagesAvailable.{PackagesAvailable}
use Rattle.message_values.specs.declared.reply.ServerToAgent.{ServerToAgent}
use Rattle.message_values.specs.declared.state.Settings.{Settings}
use Rattle.agent_config.specs.declared.Outcome.{Outcome}
use Rattle.agent_config.specs.declared.Outcome.TheVariants as outcomes
use Rattle.agent_rules.specs.declared.saved.Saved.{Saved}
use Rattle.agent_rules.specs.declared.rules.parts.Next.{Next}
use Rattle.agent_rules.specs.Half.{AgentHalf, no_packages}
use Rattle.agent_rules.specs.Keeping.{Call, TakeReply, GiveUp, PackagesDone, Say, BeginTry, fits, kept_by}
use Rattle.agent_rules.specs.Calls.{call_after, saves_of, told}
use Rattle.agent_rules.specs.Offers.{Reactions, applied_call, config_call, failed_call, next_of, offered_files, trial_calls, without_trial}
use Rattle.agent_rules.specs.Events.{following, leaving_calls, reply_calls}
use Rattle.agent_rounds.specs.declared.ends.AgentEnd.{AgentEnd}
use Rattle.agent_rounds.specs.declared.ends.AgentEnd.TheVariants.{StoreFault, FolderFault, ClockFault, RoundsSpent, NumbersSpent, TooLarge, NoMemory}
use Rattle.agent_rounds.specs.Status.{without_link}
use Rattle.agent_rounds.specs.Stages.{MakesCall, MakesCalls, Stage}
use Rattle.agent_rounds.specs.Replies.{BeginsTrial, Brings, ConfigEnds, Configures, DealsWithNext, DealsWithReply, FailsBack, GivesUpRound, Handles, Installs, IsTriedFor, KeepsBy, KeepsProved, KeepsUnless, TellsBadName, TriesBy, TriesFor, unsettled}
use Rattle.edge_devices.specs.Names.{are_good_names}
use Rattle.agent_rounds.specs.declared.proving.Trial.{Trial}
use Rattle.agent_rounds.specs.Proving.{name_of, quarters, refusal}
use Rattle.agent_rounds.proofs.ProvingLemmas.{watches_beside}
use Rattle.agent_rounds.proofs.EventLemmas.{Made, Still, bad_names, call_by, config_made, good_names, handles_made, is_answer, made_both, made_calls, made_one, names_told, not_bad, packages_made, saves-append}

-- What was kept from the one stage to the other is the first of what these calls keep.
pub record KeepsFront (calls : List Call) (s t : Stage) : Type 0 where
  pub front : List Saved
  pub rest : List Saved
  pub joined : saves_of s.half calls ≡ front ++ rest
  pub keeps : t.keeps ≡ s.keeps ++ front

pub front_none : (calls : List Call) (s t : Stage) → t.keeps ≡ s.keeps → KeepsFront calls s t
front_none calls s t same = record { front = []; rest = saves_of s.half calls; joined = refl; keeps = same ∙ sym (append-nil s.keeps) }

-- a call that ended the round
pub front_call : (call : Call) (more : List Call) (s t : Stage) (end : AgentEnd) → MakesCall call s t (Err end) → KeepsFront (call ∷ more) s t
front_call call more s t StoreFault ended = record {
  front = option_to_list (kept_by s.half call);
  rest = saves_of (call_after s.half call) more;
  joined = ap (λ (b : Bool). if b then option_to_list (kept_by s.half call) ++ saves_of (call_after s.half call) more else []) ended.0.1;
  keeps = ap (λ (u : Stage). u.keeps) ended.1;
}
front_call call more s t FolderFault ended = absurd ended.0
front_call call more s t ClockFault ended = absurd ended.0
front_call call more s t RoundsSpent ended = absurd ended.0
front_call call more s t NumbersSpent ended = front_none (call ∷ more) s t (ap (λ (u : Stage). u.keeps) ended.1)
front_call call more s t TooLarge ended = front_none (call ∷ more) s t (ap (λ (u : Stage). u.keeps) ended.1)
front_call call more s t NoMemory ended = front_none (call ∷ more) s t (ap (λ (u : Stage). u.keeps) ended.1)

-- more calls keep at least what the first ones do
saves_more : (xs ys : List Call) (a : AgentHalf) → (rest : List Saved) × (saves_of a (xs ++ ys) ≡ saves_of a xs ++ rest)
saves_more [] ys a = (saves_of a ys, refl)
saves_more (x ∷ xs) ys a = by_fits (saves_more xs ys (call_after a x)) (fits a x)
  where
    by_fits : ((rest : List Saved) × (saves_of (call_after a x) (xs ++ ys) ≡ saves_of (call_after a x) xs ++ rest)) → (b : Bool)
        → (rest : List Saved) × ((if b then option_to_list (kept_by a x) ++ saves_of (call_after a x) (xs ++ ys) else []) ≡ (if b then option_to_list (kept_by a x) ++ saves_of (call_after a x) xs else []) ++ rest)
    by_fits more true = (
      more.0,
      ap (λ (k : List Saved). option_to_list (kept_by a x) ++ k) more.1 ∙ sym (append_assoc (option_to_list (kept_by a x)) (saves_of (call_after a x) xs) more.0),
    )
    by_fits more false = ([], refl)

pub front_more : (xs ys : List Call) (s t : Stage) → KeepsFront xs s t → KeepsFront (xs ++ ys) s t
front_more xs ys s t f =
    let more = saves_more xs ys s.half in
    record {
      front = f.front;
      rest = f.rest ++ more.0;
      joined = more.1 ∙ (ap (λ (k : List Saved). k ++ more.0) f.joined ∙ append_assoc f.front f.rest more.0);
      keeps = f.keeps;
    }

-- behind calls that were made
pub front_after : (xs ys : List Call) (s m t : Stage) → Made xs s m → KeepsFront ys m t → KeepsFront (xs ++ ys) s t
front_after xs ys s m t made f = record {
  front = saves_of s.half xs ++ f.front;
  rest = f.rest;
  joined = saves-append ys s.half xs made.0
      ∙ (ap (λ (k : List Saved). saves_of s.half xs ++ k) (ap (λ (a : AgentHalf). saves_of a ys) (sym made.1.0) ∙ f.joined)
      ∙ sym (append_assoc (saves_of s.half xs) f.front f.rest));
  keeps = f.keeps ∙ (ap (λ (k : List Saved). k ++ f.front) made.1.1 ∙ append_assoc s.keeps (saves_of s.half xs) f.front);
}

-- behind what makes no call
pub front_still : (calls : List Call) (s m t : Stage) → Still s m → KeepsFront calls m t → KeepsFront calls s t
front_still calls s m t still f = record {
  front = f.front;
  rest = f.rest;
  joined = ap (λ (a : AgentHalf). saves_of a calls) (sym still.0) ∙ f.joined;
  keeps = f.keeps ∙ ap (λ (k : List Saved). k ++ f.front) still.1;
}

pub front_calls : (calls : List Call) (s t : Stage) (end : AgentEnd) → MakesCalls calls s t (Err end) → KeepsFront calls s t
front_calls [] s t end gives = absurd (cc gives.1)
front_calls (call ∷ calls) s t end (inl ended) = front_call call calls s t end ended
front_calls (call ∷ calls) s t end (inr (m, (done, (made, rest)))) = front_after (call ∷ []) calls s m t (made_one call s m made) (front_calls calls m t end rest)

-- ---- an offered configuration

back_front : (offer : AgentRemoteConfig) (text : List ℕ) (m t : Stage) (end : AgentEnd) → FailsBack offer text m t (Err end) → KeepsFront (failed_call offer text ∷ []) m t
back_front offer text m t end (inl back) = front_none (failed_call offer text ∷ []) m t (ap (λ (u : Stage). u.keeps) back.rest)
back_front offer text m t end (inr (n, (done, (brought, ended)))) =
    front_still (failed_call offer text ∷ []) m n t (ap (λ (u : Stage). u.half) brought.rest, ap (λ (u : Stage). u.keeps) brought.rest)
    (front_call (failed_call offer text) [] n t end ended)

keeps_front : (offer : AgentRemoteConfig) (m t : Stage) (end : AgentEnd) (fit : Bool) → KeepsBy fit offer m t (Err end) → KeepsFront (call_by true None fit offer ∷ []) m t
keeps_front offer m t end true ended =
    let f = front_call (applied_call offer) [] (record m { held = unsettled m.held }) t end ended in
    record { front = f.front; rest = f.rest; joined = f.joined; keeps = f.keeps }
keeps_front offer m t end false ended = back_front offer (codes "too large") m t end ended

unless_front : (offer : AgentRemoteConfig) (m t : Stage) (end : AgentEnd) (failure : Option (List ℕ)) → KeepsUnless failure offer m t (Err end)
    → KeepsFront (call_by true failure (fits m.half (applied_call offer)) offer ∷ []) m t
unless_front offer m t end None ended = keeps_front offer m t end (fits m.half (applied_call offer)) ended
unless_front offer m t end (Some text) ended = back_front offer text m t end ended

proved_front : (offer : AgentRemoteConfig) (m t : Stage) (end : AgentEnd) (watch : Option Trial) → KeepsProved watch offer m t (Err end)
    → (failure : Option (List ℕ)) × KeepsFront (call_by true failure (fits m.half (applied_call offer)) offer ∷ []) m t
proved_front offer m t end None ended = (None, unless_front offer m t end None ended)
proved_front offer m t end (Some watch) (inl watched) =
    let beside = watches_beside (quarters watch.seconds) watch.name (record m { held = unsettled m.held }) t (Err end) watched in
    (None, front_none (call_by true None (fits m.half (applied_call offer)) offer ∷ []) m t (ap (λ (u : Stage). u.keeps) beside.rest))
proved_front offer m t end (Some watch) (inr (n, (said, (watched, ended)))) =
    let beside = watches_beside (quarters watch.seconds) watch.name m n (Ok said) watched in
    let half : n.half ≡ m.half = ap (λ (u : Stage). u.half) beside.rest in (
      refusal said,
      front_still (call_by true (refusal said) (fits m.half (applied_call offer)) offer ∷ []) m n t (half, ap (λ (u : Stage). u.keeps) beside.rest)
          (subst (λ (a : AgentHalf). KeepsFront (call_by true (refusal said) (fits a (applied_call offer)) offer ∷ []) n t) half (unless_front offer n t end (refusal said) ended)),
    )

abbrev ConfigFront : AgentRemoteConfig → Stage → Stage → Type 0
ConfigFront offer s t = (failure : Option (List ℕ)) × KeepsFront (config_call s.half failure offer ∷ []) s t

outcome_front : (offer : AgentRemoteConfig) (m t : Stage) (end : AgentEnd) (watch : Option Trial) (outcome : Outcome) → TellsBadName offer outcome → ConfigEnds watch offer outcome m t (Err end) → ConfigFront offer m t
outcome_front offer m t end watch (outcomes.BadName name) told ended = (
  None,
  subst (λ (good : Bool). KeepsFront (call_by good None (fits m.half (applied_call offer)) offer ∷ []) m t) (sym (bad_names (offered_files offer).config_map name told))
      (front_call (failed_call offer (codes "bad name")) [] m t end ended),
)
outcome_front offer m t end watch (outcomes.FolderFault settled) told ended = (
  Some (codes "folder fault"),
  subst (λ (good : Bool). KeepsFront (call_by good (Some (codes "folder fault")) (fits m.half (applied_call offer)) offer ∷ []) m t) (sym (good_names (offered_files offer).config_map told))
      (front_call (failed_call offer (codes "folder fault")) [] m t end ended),
)
outcome_front offer m t end watch outcomes.Applied told ended =
    let proved = proved_front offer m t end watch ended in (
      proved.0,
      subst (λ (good : Bool). KeepsFront (call_by good proved.0 (fits m.half (applied_call offer)) offer ∷ []) m t) (sym (good_names (offered_files offer).config_map told)) proved.1,
    )

-- behind a moment of the same half and keeps
front_behind : (offer : AgentRemoteConfig) (s m t : Stage) → m.half ≡ s.half → m.keeps ≡ s.keeps → ConfigFront offer m t → ConfigFront offer s t
front_behind offer s m t half keeps f = (
  f.0,
  front_still (config_call s.half f.0 offer ∷ []) s m t (half, keeps) (subst (λ (a : AgentHalf). KeepsFront (config_call a f.0 offer ∷ []) m t) half f.1),
)

brought_front : (offer : AgentRemoteConfig) (s t : Stage) (end : AgentEnd) (watch : Option Trial) → Brings watch offer s t (Err end) → ConfigFront offer s t
brought_front offer s t end watch (inl applied) = (None, front_none (config_call s.half None offer ∷ []) s t (ap (λ (u : Stage). u.keeps) applied.rest))
brought_front offer s t end watch (inr (m, (outcome, (applied, ended)))) =
    front_behind offer s m t (ap (λ (u : Stage). u.half) applied.rest) (ap (λ (u : Stage). u.keeps) applied.rest)
    (outcome_front offer m t end watch outcome (names_told offer applied.answer outcome (is_answer applied.answer outcome applied.end) applied.names) ended)

-- before anything was brought the offer failed
early_front : (offer : AgentRemoteConfig) (text : List ℕ) (s t : Stage) (end : AgentEnd) → are_good_names (offered_files offer).config_map ≡ true → MakesCall (failed_call offer text) s t (Err end) → ConfigFront offer s t
early_front offer text s t end good ended = (
  Some text,
  subst (λ (good : Bool). KeepsFront (call_by good (Some text) (fits s.half (applied_call offer)) offer ∷ []) s t) (sym good) (front_call (failed_call offer text) [] s t end ended),
)

tried_front : (offer : AgentRemoteConfig) (s t : Stage) (end : AgentEnd) (trial : Trial) (fit : Bool) → are_good_names (offered_files offer).config_map ≡ true → TriesBy fit trial offer s t (Err end) → ConfigFront offer s t
tried_front offer s t end trial false good ended = early_front offer (codes "too large") s t end good ended
tried_front offer s t end trial true good (inl named) = (None, front_none (config_call s.half None offer ∷ []) s t (ap (λ (u : Stage). u.keeps) named.rest))
tried_front offer s t end trial true good (inr (k, (true, (names, brought)))) =
    front_behind offer s k t (ap (λ (u : Stage). u.half) names.rest) (ap (λ (u : Stage). u.keeps) names.rest) (brought_front offer k t end (Some trial) brought)
tried_front offer s t end trial true good (inr (k, (false, (names, failed)))) =
    front_behind offer s k t (ap (λ (u : Stage). u.half) names.rest) (ap (λ (u : Stage). u.keeps) names.rest) (early_front offer (codes "folder fault") k t end good failed)

tries_front : (offer : AgentRemoteConfig) (s t : Stage) (end : AgentEnd) (tried : Option ℕ) → IsTriedFor s.held.prove s.half.saved.config offer tried → TriesFor tried offer s t (Err end) → ConfigFront offer s t
tries_front offer s t end None is brought = brought_front offer s t end None brought
tries_front offer s t end (Some seconds) (inl (needs, none)) tried = absurd (let e : Some seconds ≡ None = none in cc)
tries_front offer s t end (Some seconds) (inr (not, prove)) tried =
    tried_front offer s t end (record { seconds = seconds; name = name_of s.half offer }) (fits s.half (applied_call offer))
    (not_bad (are_good_names (offered_files offer).config_map) (λ bad. not (inl bad))) tried

config_front : (offer : Option AgentRemoteConfig) (s t : Stage) (end : AgentEnd) → Configures offer s t (Err end)
    → (failure : Option (List ℕ)) × KeepsFront (option_to_list (option_map (config_call s.half failure) offer)) s t
config_front None s t end gives = absurd (cc gives.1)
config_front (Some offer) s t end (tried, (is, run)) = tries_front offer s t end tried is run

-- ---- packages, messages, settings

installs_front : (offer : Option PackagesAvailable) (s t : Stage) (end : AgentEnd) → Installs offer s t (Err end)
    → (statuses : PackageStatuses) × KeepsFront (option_to_list (option_map (λ o. PackagesDone statuses) offer)) s t
installs_front None s t end gives = absurd (cc gives.1)
installs_front (Some offer) s t end (inl synced) = (no_packages, front_none (PackagesDone no_packages ∷ []) s t (ap (λ (u : Stage). u.keeps) synced.rest))
installs_front (Some offer) s t end (inr (m, (statuses, (synced, ended)))) = (
  statuses,
  front_still (PackagesDone statuses ∷ []) s m t (ap (λ (u : Stage). u.half) synced.rest, ap (λ (u : Stage). u.keeps) synced.rest) (front_call (PackagesDone statuses) [] m t end ended),
)

handles_front : (may : CustomMessage → Option CustomMessage → Type 0) (message : Option CustomMessage) (s t : Stage) (end : AgentEnd) → Handles may message s t (Err end) → t.keeps ≡ s.keeps
handles_front may None s t end gives = absurd (cc gives.1)
handles_front may (Some message) s t end ended = ap (λ (u : Stage). u.keeps) ended.1

begins_front : (next : Option Settings) (s t : Stage) (end : AgentEnd) → BeginsTrial next s t (Err end) → KeepsFront (option_to_list (option_map (λ settings. BeginTry settings) next)) s t
begins_front None s t end gives = absurd (cc gives.1)
begins_front (Some settings) s t end ended = front_call (BeginTry settings) [] s t end ended

-- ---- a reply

-- what was answered so far
reacted : Option (List ℕ) → PackageStatuses → Option CustomMessage → Reactions
reacted failure statuses answer = record { failure = failure; statuses = statuses; answer = answer }

abbrev config_calls : AgentHalf → Option (List ℕ) → Next → List Call
config_calls a failure next = option_to_list (option_map (config_call a failure) next.config)

abbrev package_calls : PackageStatuses → Next → List Call
package_calls statuses next = option_to_list (option_map (λ offer. PackagesDone statuses) next.packages)

abbrev message_calls : Option CustomMessage → Next → List Call
message_calls said next = option_to_list (option_and_then (λ message. option_map (λ answer. Say answer) said) next.message)

abbrev trial_begins : Next → List Call
trial_begins next = option_to_list (option_map (λ settings. BeginTry settings) next.connection)

-- the front of one of the parts, once those before it were made
abbrev NextFront : Next → Stage → Stage → Type 0
NextFront next s t = (r : Reactions) × KeepsFront (following s.half next r) s t

module _ (may : CustomMessage → Option CustomMessage → Type 0) (next : Next) (s t : Stage) (end : AgentEnd) where
  config_ended : Configures next.config s t (Err end) → NextFront next s t
  config_ended ended =
      let f = config_front next.config s t end ended in
      let calls : List Call = config_calls s.half f.0 next in (
        record { failure = f.0; statuses = no_packages; answer = None },
        front_more (calls ++ package_calls no_packages next ++ message_calls None next) (trial_begins next) s t
            (front_more (calls ++ package_calls no_packages next) (message_calls None next) s t (front_more calls (package_calls no_packages next) s t f.1)),
      )

  packages_ended : (m : Stage) (failure : Option (List ℕ)) → Made (config_calls s.half failure next) s m → Installs next.packages m t (Err end) → NextFront next s t
  packages_ended m failure made ended =
      let f = installs_front next.packages m t end ended in
      let calls : List Call = config_calls s.half failure next in (
        record { failure = failure; statuses = f.0; answer = None },
        front_more (calls ++ package_calls f.0 next ++ message_calls None next) (trial_begins next) s t
            (front_more (calls ++ package_calls f.0 next) (message_calls None next) s t (front_after calls (package_calls f.0 next) s m t made f.1)),
      )

  message_ended : (m : Stage) (failure : Option (List ℕ)) (statuses : PackageStatuses) → Made (config_calls s.half failure next ++ package_calls statuses next) s m
      → Handles may next.message m t (Err end) → NextFront next s t
  message_ended m failure statuses made ended =
      let calls : List Call = config_calls s.half failure next ++ package_calls statuses next in (
        record { failure = failure; statuses = statuses; answer = None },
        front_more (calls ++ message_calls None next) (trial_begins next) s t
            (front_after calls (message_calls None next) s m t made (front_none (message_calls None next) m t (handles_front may next.message m t end ended))),
      )

  trial_ended : (m : Stage) (failure : Option (List ℕ)) (statuses : PackageStatuses) (said : Option CustomMessage)
      → Made (config_calls s.half failure next ++ package_calls statuses next ++ message_calls said next) s m → BeginsTrial next.connection m t (Err end) → NextFront next s t
  trial_ended m failure statuses said made ended = (
    record { failure = failure; statuses = statuses; answer = said },
    front_after (config_calls s.half failure next ++ package_calls statuses next ++ message_calls said next) (trial_begins next) s m t made (begins_front next.connection m t end ended),
  )

behind_trial : (next : Next) (s m t : Stage) → Made (trial_calls s.half) s m → NextFront next m t
    → (r : Reactions) × KeepsFront (trial_calls s.half ++ following (without_trial s.half) next r) s t
behind_trial next s m t made f = (
  f.0,
  front_after (trial_calls s.half) (following (without_trial s.half) next f.0) s m t made (subst (λ (a : AgentHalf). KeepsFront (following a next f.0) m t) made.1.0 f.1),
)

next_front : (may : CustomMessage → Option CustomMessage → Type 0) (next : Next) (s t : Stage) (end : AgentEnd) → DealsWithNext may next s t (Err end)
    → (r : Reactions) × KeepsFront (trial_calls s.half ++ following (without_trial s.half) next r) s t
next_front may next s t end (inl trial) =
    let r : Reactions = reacted None no_packages None in
    (r, front_more (trial_calls s.half) (following (without_trial s.half) next r) s t (front_calls (trial_calls s.half) s t end trial))
next_front may next s t end (inr (m1, (d1, (trial, inl config)))) =
    behind_trial next s m1 t (made_calls (trial_calls s.half) s m1 d1 trial) (config_ended may next m1 t end config)
next_front may next s t end (inr (m1, (d1, (trial, inr (m2, (d2, (config, inl packages))))))) =
    let configured = config_made next.config m1 m2 d2 config in
    behind_trial next s m1 t (made_calls (trial_calls s.half) s m1 d1 trial) (packages_ended may next m1 t end m2 configured.0 configured.1 packages)
next_front may next s t end (inr (m1, (d1, (trial, inr (m2, (d2, (config, inr (m3, (d3, (packages, inl handled)))))))))) =
    let configured = config_made next.config m1 m2 d2 config in
    let installed = packages_made next.packages m2 m3 d3 packages in
    behind_trial next s m1 t (made_calls (trial_calls s.half) s m1 d1 trial)
    (message_ended may next m1 t end m3 configured.0 installed.0
    (made_both (config_calls m1.half configured.0 next) (package_calls installed.0 next) m1 m2 m3 configured.1 installed.1) handled)
next_front may next s t end (inr (m1, (d1, (trial, inr (m2, (d2, (config, inr (m3, (d3, (packages, inr (m4, (d4, (handled, inl begun))))))))))))) =
    let configured = config_made next.config m1 m2 d2 config in
    let installed = packages_made next.packages m2 m3 d3 packages in
    let said = handles_made may next.message m3 m4 d4 handled in
    behind_trial next s m1 t (made_calls (trial_calls s.half) s m1 d1 trial)
    (trial_ended may next m1 t end m4 configured.0 installed.0 said.0
    (made_both (config_calls m1.half configured.0 next ++ package_calls installed.0 next) (message_calls said.0 next) m1 m3 m4
    (made_both (config_calls m1.half configured.0 next) (package_calls installed.0 next) m1 m2 m3 configured.1 installed.1) said.1) begun)
next_front may next s t end (inr (m1, (d1, (trial, inr (m2, (d2, (config, inr (m3, (d3, (packages, inr (m4, (d4, (handled, inr (m5, (d5, (begun, paused)))))))))))))))) = absurd (cc paused.1)

pub reply_front : (may : CustomMessage → Option CustomMessage → Type 0) (reply : ServerToAgent) (s t : Stage) (end : AgentEnd) → DealsWithReply may reply s t (Err end)
    → (r : Reactions) × KeepsFront (reply_calls s.half reply r) s t
reply_front may reply s t end (inl taken) =
    let r : Reactions = reacted None no_packages None in
    (r, front_call (TakeReply reply) (trial_calls (told reply s.half) ++ following (without_trial (told reply s.half)) (next_of reply s.half) r) s t end taken)
reply_front may reply s t end (inr (m, (done, (taken, dealt)))) =
    let half : m.half ≡ told reply s.half = ap (λ (u : Stage). u.half) taken.1 in
    let front = next_front may (next_of reply s.half) m t end dealt in (
      front.0,
      front_after (TakeReply reply ∷ []) (trial_calls (told reply s.half) ++ following (without_trial (told reply s.half)) (next_of reply s.half) front.0) s m t (made_one (TakeReply reply) s m taken)
          (subst (λ (a : AgentHalf). KeepsFront (trial_calls a ++ following (without_trial a) (next_of reply s.half) front.0) m t) half front.1),
    )

pub give_up_front : (s t : Stage) (end : AgentEnd) → GivesUpRound s t (Err end) → KeepsFront (GiveUp ∷ leaving_calls s.half) s t
give_up_front s t end (inl calls) =
    let f = front_calls (GiveUp ∷ leaving_calls s.half) (record s { held = without_link s.held }) t end calls in
    record { front = f.front; rest = f.rest; joined = f.joined; keeps = f.keeps }
give_up_front s t end (inr (m, (done, (calls, gives)))) = absurd (cc gives.1)
