-- What an offered configuration keeps.
use Rattle.std.proofs.Common.{◌≡◌, ◌∙◌, ◌⊎◌, ◌++◌, ◌<◌, ℕ, zero, suc, arith, List, [], ◌∷◌, Bool, true, false, Option, None, Some, Result, Ok, Err, inl, inr, refl, sym, subst, ap}
use Rattle.std.specs.Prelude.{codes, Contains, IsTrue, OnOk, slice_index_or}
use Rattle.std.specs.Option.{option_to_list}
use Rattle.std.proofs.lemmas.List.{append-nil, append_assoc}
use Rattle.std.proofs.lemmas.Bool.{false≢true}
use Rattle.agent_config.specs.Config.{first_bad}
use Rattle.agent_rounds.proofs.EventLemmas.{good_names, is_answer, names_told}
use Rattle.message_values.specs.declared.config.AgentRemoteConfig.{AgentRemoteConfig}
use Rattle.edge_devices.specs.declared.folders.FolderCall.{FolderCall}
use Rattle.edge_devices.specs.Folders.{FolderState}
use Rattle.agent_config.specs.declared.Outcome.{Outcome}
use Rattle.agent_config.specs.declared.Outcome.TheVariants as outcomes
use Rattle.agent_rules.specs.declared.saved.Saved.{Saved}
use Rattle.agent_rules.specs.Half.{AgentHalf}
use Rattle.agent_rules.specs.Keeping.{Call, fits, kept_by}
use Rattle.agent_rules.specs.Calls.{call_after}
use Rattle.agent_rules.specs.Offers.{applied_call, failed_call, offered_files}
use Rattle.agent_rounds.specs.declared.ends.AgentEnd.{AgentEnd}
use Rattle.agent_rounds.specs.declared.ends.AgentEnd.TheVariants as ends
use Rattle.agent_config.specs.declared.word.Said.{Said}
use Rattle.agent_config.specs.declared.word.Said.TheVariants.{Nothing, Taken, Refused}
use Rattle.agent_rounds.specs.Proving.{IsProvedBy, KeepsWhatIsProved, NamesTrial, Watches, name_of, quarters, refusal, refused_text}
use Rattle.agent_rounds.specs.declared.proving.Trial.{Trial}
use Rattle.agent_rounds.specs.Replies.{AppliesFiles, Brings, ConfigEnds, Configures, FailsBack, IsTriedFor, KeepsBy, KeepsProved, KeepsUnless, NeedsNone, TellsBadName, TriesBy, TriesFor, TriesNamed, unsettled}
use Rattle.agent_rounds.specs.Stages.{MakesCall, Stage}
use Rattle.agent_rounds.proofs.ProvingLemmas.{Beside, proved_on, watches_beside, watches_prove}

-- These parts, and no others, were kept; and so is what is in use behind a part that goes on.
pub record Adds {T : Type 0} (P : Saved → Type 0) (s t : Stage) (result : Result T AgentEnd) : Type 0 where
  pub more : List Saved
  pub joins : t.keeps ≡ s.keeps ++ more
  pub each : (part : Saved) → Contains more part → P part
  pub now : OnOk result (P t.half.saved)

pub none_among : (part : Saved) → Contains [] part → ⊥
none_among part among = omega (arith, among.1)

adds_none : (P : Saved → Type 0) (s t : Stage) (end : AgentEnd) → t.keeps ≡ s.keeps → Adds {T = Unit} P s t (Err end)
adds_none P s t end same = record { more = []; joins = same ∙ sym (append-nil s.keeps); each = λ part among. absurd (none_among part among); now = tt }

one_among : (o : Option Saved) (P : Saved → Type 0) → ((part : Saved) → o ≡ Some part → P part) → (part : Saved) → Contains (option_to_list o) part → P part
one_among None P each part among = absurd (omega (arith, among.1))
one_among (Some kept) P each part among = by_place among.0 among.1 among.2
  where
    by_place : (i : ℕ) → i < 1 → slice_index_or (kept ∷ []) i part ≡ part → P part
    by_place zero within is = each part (ap Some is)
    by_place (suc i) within is = absurd (omega (arith, within))

pub adds_call : (P : Saved → Type 0) (call : Call) (s t : Stage) (result : Result Unit AgentEnd) → ((part : Saved) → kept_by s.half call ≡ Some part → P part) → P (call_after s.half call).saved
    → MakesCall call s t result → Adds P s t result
adds_call P call s t (Ok done) each now made = record {
  more = option_to_list (kept_by s.half call);
  joins = ap (λ (u : Stage). u.keeps) made.1;
  each = one_among (kept_by s.half call) P each;
  now = subst (λ (h : AgentHalf). P h.saved) (sym (ap (λ (u : Stage). u.half) made.1)) now;
}
adds_call P call s t (Err ends.StoreFault) each now made = record {
  more = option_to_list (kept_by s.half call);
  joins = ap (λ (u : Stage). u.keeps) made.1;
  each = one_among (kept_by s.half call) P each;
  now = tt;
}
adds_call P call s t (Err ends.FolderFault) each now made = adds_none P s t ends.FolderFault (ap (λ (u : Stage). u.keeps) made.1)
adds_call P call s t (Err ends.ClockFault) each now made = adds_none P s t ends.ClockFault (ap (λ (u : Stage). u.keeps) made.1)
adds_call P call s t (Err ends.RoundsSpent) each now made = adds_none P s t ends.RoundsSpent (ap (λ (u : Stage). u.keeps) made.1)
adds_call P call s t (Err ends.NumbersSpent) each now made = adds_none P s t ends.NumbersSpent (ap (λ (u : Stage). u.keeps) made.1)
adds_call P call s t (Err ends.TooLarge) each now made = adds_none P s t ends.TooLarge (ap (λ (u : Stage). u.keeps) made.1)
adds_call P call s t (Err ends.NoMemory) each now made = adds_none P s t ends.NoMemory (ap (λ (u : Stage). u.keeps) made.1)

adds_behind : (P : Saved → Type 0) (s m t : Stage) (result : Result Unit AgentEnd) → m.keeps ≡ s.keeps → Adds P m t result → Adds P s t result
adds_behind P s m t result same adds = record { more = adds.more; joins = adds.joins ∙ ap (λ (k : List Saved). k ++ adds.more) same; each = adds.each; now = adds.now }

pub some_is : (kept part : Saved) → Some kept ≡ Some part → kept ≡ part
some_is kept part is = cc

pub made_folder : (call : Call) (s t : Stage) (result : Result Unit AgentEnd) → MakesCall call s t result → t.folder ≡ s.folder
made_folder call s t (Ok done) made = ap (λ (u : Stage). u.folder) made.1
made_folder call s t (Err ends.StoreFault) made = ap (λ (u : Stage). u.folder) made.1
made_folder call s t (Err ends.FolderFault) made = ap (λ (u : Stage). u.folder) made.1
made_folder call s t (Err ends.ClockFault) made = ap (λ (u : Stage). u.folder) made.1
made_folder call s t (Err ends.RoundsSpent) made = ap (λ (u : Stage). u.folder) made.1
made_folder call s t (Err ends.NumbersSpent) made = ap (λ (u : Stage). u.folder) made.1
made_folder call s t (Err ends.TooLarge) made = ap (λ (u : Stage). u.folder) made.1
made_folder call s t (Err ends.NoMemory) made = ap (λ (u : Stage). u.folder) made.1

module _ (P : Saved → Type 0) (offer : AgentRemoteConfig) where
  -- what holds of the part with its configuration as it was, and of that with the offered files
  abbrev Former : Stage → Type 0
  Former s = (part : Saved) → part.config ≡ s.half.saved.config → P part

  failed_adds : (text : List ℕ) (s t : Stage) (result : Result Unit AgentEnd) → Former s → MakesCall (failed_call offer text) s t result → Adds P s t result
  failed_adds text s t result former made =
      adds_call P (failed_call offer text) s t result (λ part is. former part (same part is)) (former (call_after s.half (failed_call offer text)).saved refl) made
    where
      same : (part : Saved) → kept_by s.half (failed_call offer text) ≡ Some part → part.config ≡ s.half.saved.config
      same part is = sym (ap (λ (p : Saved). p.config) (some_is _ part is))

  back_adds : (text : List ℕ) (s t : Stage) (result : Result Unit AgentEnd) → Former s → FailsBack offer text s t result → Adds P s t result
  back_adds text s t (Ok done) former (n, (back, (brought, made))) =
      adds_behind P s n t (Ok done) (ap (λ (u : Stage). u.keeps) brought.rest) (failed_adds text n t (Ok done) (λ part is. former part (is ∙ ap (λ (u : Stage). u.half.saved.config) brought.rest)) made)
  back_adds text s t (Err end) former (inl brought) = adds_none P s t end (ap (λ (u : Stage). u.keeps) brought.rest)
  back_adds text s t (Err end) former (inr (n, (back, (brought, made)))) =
      adds_behind P s n t (Err end) (ap (λ (u : Stage). u.keeps) brought.rest) (failed_adds text n t (Err end) (λ part is. former part (is ∙ ap (λ (u : Stage). u.half.saved.config) brought.rest)) made)

  keeps_adds : (fit : Bool) (s t : Stage) (result : Result Unit AgentEnd) → Former s → (t.folder ≡ s.folder → (part : Saved) → part.config ≡ offered_files offer → P part)
      → KeepsBy fit offer s t result → Adds P s t result
  keeps_adds true s t (Ok done) former proved made =
      let same = made_folder (applied_call offer) s t (Ok tt) made in
      let adds = adds_call P (applied_call offer) s t (Ok tt) (λ part is. proved same part (sym (ap (λ (p : Saved). p.config) (some_is _ part is))))
      (proved same (call_after s.half (applied_call offer)).saved refl) made in
      record { more = adds.more; joins = adds.joins; each = adds.each; now = adds.now }
  keeps_adds true s t (Err end) former proved made =
      let u : Stage = record s { held = unsettled s.held } in
      let same = made_folder (applied_call offer) u t (Err end) made in
      let adds = adds_call P (applied_call offer) u t (Err end) (λ part is. proved same part (sym (ap (λ (p : Saved). p.config) (some_is _ part is))))
      (proved same (call_after s.half (applied_call offer)).saved refl) made in
      record { more = adds.more; joins = adds.joins; each = adds.each; now = tt }
  keeps_adds false s t result former proved made = back_adds (codes "too large") s t result former made

abbrev pub Grows : FolderState → FolderState → Type 0
Grows a b = IsTrue b.told → (more : List FolderCall) × (b.calls ≡ a.calls ++ more)

pub grows_both : (a b c : FolderState) → c.told ≡ b.told → Grows a b → Grows b c → Grows a c
grows_both a b c same one two told =
    let first = one (subst IsTrue same told) in
    let second = two told in
    (first.0 ++ second.0, second.1 ∙ (ap (λ (calls : List FolderCall). calls ++ second.0) first.1 ∙ append_assoc a.calls first.0 second.0))

module _ (offer : AgentRemoteConfig) (s t : Stage) (seconds : ℕ) (result : Result Unit AgentEnd) where
  abbrev name : List ℕ
  name = name_of s.half offer

  abbrev trial : Trial
  trial = record { seconds = seconds; name = name }

  abbrev Right : Saved → Type 0
  Right part = (part.config ≡ s.half.saved.config) ⊎ ((part.config ≡ offered_files offer) × IsProvedBy name s.folder t.folder)

  module _ (m : Stage) (grows : Grows s.folder m.folder) (config : m.half.saved.config ≡ s.half.saved.config) (n : Stage) (beside : Beside m n) where
    former : (part : Saved) → part.config ≡ n.half.saved.config → Right part
    former part is = inl (is ∙ (ap (λ (u : Stage). u.half.saved.config) beside.rest ∙ config))

    said_adds : (said : Said) → Watches (quarters seconds) name m n (Ok said) → KeepsUnless (refusal said) offer n t result → Adds Right n t result
    said_adds Nothing watched kept = back_adds Right offer (codes "not taken") n t result former kept
    said_adds (Refused error) watched kept = back_adds Right offer (refused_text error) n t result former kept
    said_adds Taken watched kept = keeps_adds Right offer (fits n.half (applied_call offer)) n t result former proved kept
      where
        proved : t.folder ≡ n.folder → (part : Saved) → part.config ≡ offered_files offer → Right part
        proved same part is = inr (
          is,
          subst (λ (f : FolderState). IsProvedBy name s.folder f) (sym same)
              (proved_on name s.folder m.folder n.folder grows (watches_prove (quarters seconds) name m n watched) beside.told),
        )

  module _ (m : Stage) (grows : Grows s.folder m.folder) (config : m.half.saved.config ≡ s.half.saved.config) where
    watched_adds : (n : Stage) (said : Said) → Watches (quarters seconds) name m n (Ok said) → KeepsUnless (refusal said) offer n t result → Adds Right m t result
    watched_adds n said watched kept =
        let beside = watches_beside (quarters seconds) name m n (Ok said) watched in
        adds_behind Right m n t result (ap (λ (u : Stage). u.keeps) beside.rest) (said_adds m grows config n beside said watched kept)

    out_adds : (end : AgentEnd) → Watches (quarters seconds) name (record m { held = unsettled m.held }) t (Err end) → Adds {T = Unit} Right m t (Err end)
    out_adds end watched =
        adds_none Right m t end (ap (λ (u : Stage). u.keeps) (watches_beside (quarters seconds) name (record m { held = unsettled m.held }) t (Err end) watched).rest)

proved_adds : (offer : AgentRemoteConfig) (s t : Stage) (seconds : ℕ) (result : Result Unit AgentEnd) (m : Stage) → Grows s.folder m.folder → m.half.saved.config ≡ s.half.saved.config
    → KeepsProved (Some (trial offer s t seconds result)) offer m t result → Adds (Right offer s t seconds result) m t result
proved_adds offer s t seconds (Ok done) m grows config (n, (said, (watched, kept))) = watched_adds offer s t seconds (Ok done) m grows config n said watched kept
proved_adds offer s t seconds (Err end) m grows config (inl watched) = out_adds offer s t seconds (Err end) m grows config end watched
proved_adds offer s t seconds (Err end) m grows config (inr (n, (said, (watched, kept)))) = watched_adds offer s t seconds (Err end) m grows config n said watched kept

-- files that need no trial are the active ones, or none of them is kept
plain_adds : (offer : AgentRemoteConfig) (s t : Stage) (seconds : ℕ) (result : Result Unit AgentEnd) (m : Stage) → NeedsNone s.half.saved.config offer
    → first_bad (offered_files offer).config_map ≡ None → m.half.saved.config ≡ s.half.saved.config
    → KeepsProved None offer m t result → Adds (Right offer s t seconds result) m t result
plain_adds offer s t seconds result m (inl bad) good config kept = absurd (false≢true (sym bad ∙ good_names (offered_files offer).config_map good))
plain_adds offer s t seconds result m (inr active) good config kept =
    keeps_adds (Right offer s t seconds result) offer (fits m.half (applied_call offer)) m t result (λ part is. inl (is ∙ config)) (λ same part is. inl (is ∙ active)) kept

-- the files were brought, from a moment at which nothing was kept yet
module _ (offer : AgentRemoteConfig) (s t : Stage) (seconds : ℕ) (result : Result Unit AgentEnd) (k : Stage) (keeps : k.keeps ≡ s.keeps) (grows : Grows s.folder k.folder)
    (config : k.half.saved.config ≡ s.half.saved.config) where
  abbrev Kept : Saved → Type 0
  Kept = Right offer s t seconds result

  -- it is the trial of this moment, or none is needed
  abbrev IsOf : Option Trial → Type 0
  IsOf None = NeedsNone s.half.saved.config offer
  IsOf (Some other) = other ≡ trial offer s t seconds result

  outcome_adds : (watch : Option Trial) → IsOf watch → (m : Stage) (outcome : Outcome) → AppliesFiles offer k m (Ok outcome) → ConfigEnds watch offer outcome m t result → Adds Kept s t result
  outcome_adds watch is m outcome applied ended = adds_behind Kept s m t result (ap (λ (u : Stage). u.keeps) applied.rest ∙ keeps)
      (by_outcome outcome (names_told offer applied.answer outcome (is_answer applied.answer outcome applied.end) applied.names) ended)
    where
      config_too : m.half.saved.config ≡ s.half.saved.config
      config_too = ap (λ (u : Stage). u.half.saved.config) applied.rest ∙ config

      grows_too : Grows s.folder m.folder
      grows_too = grows_both s.folder k.folder m.folder applied.applies.calls.makes.told grows (λ told. (applied.applies.calls.seen, applied.applies.calls.makes.calls told))

      by_watch : (watch : Option Trial) → IsOf watch → first_bad (offered_files offer).config_map ≡ None → KeepsProved watch offer m t result → Adds Kept m t result
      by_watch None needs good kept = plain_adds offer s t seconds result m needs good config_too kept
      by_watch (Some other) same good kept =
          proved_adds offer s t seconds result m grows_too config_too (subst (λ (w : Trial). KeepsProved (Some w) offer m t result) same kept)

      by_outcome : (outcome : Outcome) → TellsBadName offer outcome → ConfigEnds watch offer outcome m t result → Adds Kept m t result
      by_outcome (outcomes.BadName bad) told ended = failed_adds Kept offer (codes "bad name") m t result (λ part is. inl (is ∙ config_too)) ended
      by_outcome (outcomes.FolderFault settled) told ended = failed_adds Kept offer (codes "folder fault") m t result (λ part is. inl (is ∙ config_too)) ended
      by_outcome outcomes.Applied told ended = by_watch watch is told ended

brought_adds : (offer : AgentRemoteConfig) (s t : Stage) (seconds : ℕ) (result : Result Unit AgentEnd) (k : Stage) (keeps : k.keeps ≡ s.keeps) (grows : Grows s.folder k.folder)
    (config : k.half.saved.config ≡ s.half.saved.config) (watch : Option Trial) → IsOf offer s t seconds result k keeps grows config watch → Brings watch offer k t result
    → Adds (Right offer s t seconds result) s t result
brought_adds offer s t seconds (Ok done) k keeps grows config watch is (m, (outcome, (applied, ended))) = outcome_adds offer s t seconds (Ok done) k keeps grows config watch is m outcome applied ended
brought_adds offer s t seconds (Err end) k keeps grows config watch is (inl applied) =
    adds_none (Right offer s t seconds (Err end)) s t end (ap (λ (u : Stage). u.keeps) applied.rest ∙ keeps)
brought_adds offer s t seconds (Err end) k keeps grows config watch is (inr (m, (outcome, (applied, ended)))) =
    outcome_adds offer s t seconds (Err end) k keeps grows config watch is m outcome applied ended

named_adds : (offer : AgentRemoteConfig) (s t : Stage) (seconds : ℕ) (result : Result Unit AgentEnd) (k : Stage) (named : Bool) → NamesTrial (name_of s.half offer) s k (Ok named)
    → TriesNamed (trial offer s t seconds result) offer named k t result → Adds (Right offer s t seconds result) s t result
named_adds offer s t seconds result k true names tried =
    brought_adds offer s t seconds result k (ap (λ (u : Stage). u.keeps) names.rest) (λ told. (_, names.call.calls told)) (ap (λ (u : Stage). u.half.saved.config) names.rest)
    (Some (trial offer s t seconds result)) refl tried
named_adds offer s t seconds result k false names failed =
    adds_behind (Right offer s t seconds result) s k t result (ap (λ (u : Stage). u.keeps) names.rest)
    (failed_adds (Right offer s t seconds result) offer (codes "folder fault") k t result (λ part is. inl (is ∙ ap (λ (u : Stage). u.half.saved.config) names.rest)) failed)

tried_adds : (offer : AgentRemoteConfig) (s t : Stage) (seconds : ℕ) (result : Result Unit AgentEnd) (fit : Bool) → TriesBy fit (trial offer s t seconds result) offer s t result
    → Adds (Right offer s t seconds result) s t result
tried_adds offer s t seconds result false made = failed_adds (Right offer s t seconds result) offer (codes "too large") s t result (λ part is. inl is) made
tried_adds offer s t seconds (Ok done) true (k, (named, (names, tried))) = named_adds offer s t seconds (Ok done) k named names tried
tried_adds offer s t seconds (Err end) true (inl names) = adds_none (Right offer s t seconds (Err end)) s t end (ap (λ (u : Stage). u.keeps) names.rest)
tried_adds offer s t seconds (Err end) true (inr (k, (named, (names, tried)))) = named_adds offer s t seconds (Err end) k named names tried

pub configured_keeps : (offer : AgentRemoteConfig) (s t : Stage) (seconds : ℕ) (result : Result Unit AgentEnd) → s.held.prove ≡ Some seconds → Configures (Some offer) s t result → KeepsWhatIsProved offer s t result
configured_keeps offer s t seconds result asked (tried, (is, run)) = record { more = adds.more; joins = adds.joins; each = adds.each; now = adds.now }
  where
    by_need : IsTriedFor s.held.prove s.half.saved.config offer tried → Adds (Right offer s t seconds result) s t result
    by_need (inl (needs, none)) =
        brought_adds offer s t seconds result s refl (λ told. ([], sym (append-nil s.folder.calls))) refl None needs (subst (λ (o : Option ℕ). TriesFor o offer s t result) none run)
    by_need (inr (not, prove)) = tried_adds offer s t seconds result (fits s.half (applied_call offer)) (subst (λ (o : Option ℕ). TriesFor o offer s t result) (prove ∙ asked) run)

    adds : Adds (Right offer s t seconds result) s t result
    adds = by_need is

-- without a word that is asked for, an offer is brought
pub plainly : (offer : AgentRemoteConfig) (s t : Stage) (result : Result Unit AgentEnd) → s.held.prove ≡ None → Configures (Some offer) s t result → Brings None offer s t result
plainly offer s t result none (tried, (inl (needs, is), run)) = subst (λ (o : Option ℕ). TriesFor o offer s t result) is run
plainly offer s t result none (tried, (inr (not, is), run)) = subst (λ (o : Option ℕ). TriesFor o offer s t result) (is ∙ none) run
