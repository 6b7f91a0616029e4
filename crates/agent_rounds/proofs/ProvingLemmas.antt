-- How the collector's word on a trial is watched for, and what the watching leaves.
use Rattle.std.proofs.Common.{◌≡◌, ◌∙◌, ◌<◌, ◌≤◌, ◌+◌, ◌-◌, ◌++◌, ℕ, zero, suc, List, [], ◌∷◌, Bool, true, false, Option, None, Some, Result, Ok, Err, inl, inr, refl, sym, subst, ap, arith}
use Rattle.std.specs.Prelude.{codes, IsTrue}
use Rattle.std.proofs.lemmas.List.{append_assoc, append-nil}
use Rattle.message_values.specs.declared.config.RemoteConfigStatus.{RemoteConfigStatus}
use Rattle.message_values.specs.declared.report.AgentToServer.{AgentToServer}
use Rattle.edge_devices.specs.declared.folders.Area.TheVariants as areas
use Rattle.edge_devices.specs.declared.folders.FolderCall.{FolderCall}
use Rattle.edge_devices.specs.declared.folders.FolderCall.TheVariants.{Read}
use Rattle.edge_devices.specs.declared.folders.FolderFail.{FolderFail}
use Rattle.edge_devices.specs.Folders.{Calls, FolderState, SameFiles, entry_of}
use Rattle.agent_rounds.specs.declared.ends.AgentEnd.{AgentEnd}
use Rattle.agent_config.specs.declared.word.Said.{Said}
use Rattle.agent_config.specs.declared.word.Said.TheVariants.{Nothing, Taken, Refused}
use Rattle.agent_rounds.specs.Proving.{IsProvedBy, ReadsWord, Tells, WaitsQuarter, Watches, WatchesAgain, WatchesOn}
use Rattle.agent_config.specs.Word.{SaysOfTrial, word_of}
use Rattle.agent_rounds.specs.Stages.{Stage, Then, Gives}
use Rattle.agent_rounds.proofs.RunLemmas.{goes_on}

-- each reading so far had no word: what the others lead to, all of them lead to
abbrev pub Watched : ℕ → ℕ → List ℕ → Stage → Stage → Type 0
Watched waits done name start now = (t : Stage) (result : Result Said AgentEnd) → Watches (waits - done) name now t result → Watches waits name start t result

pub watched_first : (waits : ℕ) (name : List ℕ) (start : Stage) → Watched waits 0 name start start
watched_first waits name start = let none : waits - 0 ≡ waits = omega arith in λ t result all. subst (λ left. Watches left name start t result) none all

module _ (waits done : ℕ) (name : List ℕ) (start now next : Stage) (within : done < waits) (so_far : Watched waits done name start now) where
  abbrev more : Stage → Stage → Result Said AgentEnd → Type 0
  more = Watches (waits - (done + 1)) name

  one_wait : waits - done ≡ suc (waits - (done + 1))
  one_wait = omega (arith, within)

  pub watched_taken : ReadsWord name now next (Ok Taken) → Watches waits name start next (Ok Taken)
  watched_taken word = so_far next (Ok Taken)
      (subst (λ left. Watches left name now next (Ok Taken)) (sym one_wait) (goes_on (ReadsWord name) (WatchesOn more) now next next Taken (Ok Taken) word (refl, refl)))

  pub watched_refused : (error : List ℕ) → ReadsWord name now next (Ok (Refused error)) → Watches waits name start next (Ok (Refused error))
  watched_refused error word = so_far next (Ok (Refused error))
      (subst (λ left. Watches left name now next (Ok (Refused error))) (sym one_wait)
      (goes_on (ReadsWord name) (WatchesOn more) now next next (Refused error) (Ok (Refused error)) word (refl, refl)))

  pub watched_out : (end : AgentEnd) → ReadsWord name now next (Err end) → Watches waits name start next (Err end)
  watched_out end word = so_far next (Err end) (subst (λ left. Watches left name now next (Err end)) (sym one_wait) (inl word))

  -- there was no word, and the clock waited, or failed
  module _ (last : Stage) (word : ReadsWord name now next (Ok Nothing)) where
    after : (waited : Bool) (t : Stage) (result : Result Said AgentEnd) → WaitsQuarter next last (Ok waited) → WatchesAgain more waited last t result → Watches waits name start t result
    after waited t result wait rest = so_far t result
        (subst (λ left. Watches left name now t result) (sym one_wait)
        (goes_on (ReadsWord name) (WatchesOn more) now next t Nothing result word (goes_on WaitsQuarter (WatchesAgain more) next last t waited result wait rest)))

    pub watched_on : WaitsQuarter next last (Ok true) → Watched waits (done + 1) name start last
    watched_on wait = λ t result rest. after true t result wait rest

    pub watched_failed : WaitsQuarter next last (Ok false) → Watches waits name start last (Ok Nothing)
    watched_failed wait = after false last (Ok Nothing) wait (refl, refl)

pub watched_last : (waits done : ℕ) (name : List ℕ) (start now t : Stage) (result : Result Said AgentEnd) → waits - done ≡ 0 → Watched waits done name start now → ReadsWord name now t result
    → Watches waits name start t result
watched_last waits done name start now t result none so_far word = so_far t result (subst (λ left. Watches left name now t result) (sym none) word)

-- ---- what it leaves

-- The files are as they were, the folder's calls are more, and nothing else changed but the clock.
pub record Beside (s t : Stage) : Type 0 where
  pub files : SameFiles s.folder.files t.folder.files
  pub told : t.folder.told ≡ s.folder.told
  pub count : s.folder.faults ≤ t.folder.faults
  pub grows : IsTrue t.folder.told → (more : List FolderCall) × (t.folder.calls ≡ s.folder.calls ++ more)
  pub rest : t ≡ record s { folder = t.folder; clock = t.clock }

beside_same : (s t : Stage) → t ≡ record s { clock = t.clock } → Beside s t
beside_same s t is =
    let same : t.folder ≡ s.folder = ap (λ (u : Stage). u.folder) is in record {
      files = λ area file. ap (λ (f : FolderState). f.files area file) same;
      told = ap (λ (f : FolderState). f.told) same;
      count = subst (λ (f : FolderState). s.folder.faults ≤ f.faults) (sym same) (omega arith);
      grows = λ told. ([], ap (λ (f : FolderState). f.calls) same ∙ sym (append-nil s.folder.calls));
      rest = is ∙ ap (λ (f : FolderState). record s { folder = f; clock = t.clock }) (sym same);
    }

beside_both : (s m t : Stage) → Beside s m → Beside m t → Beside s t
beside_both s m t first second = record {
  files = λ area file. second.files area file ∙ first.files area file;
  told = second.told ∙ first.told;
  count = omega (arith, first.count, second.count);
  grows = λ told.
      let one = first.grows (subst IsTrue second.told told) in
      let two = second.grows told in
      (one.0 ++ two.0, two.1 ∙ (ap (λ c. c ++ two.0) one.1 ∙ append_assoc s.folder.calls one.0 two.0));
  rest = second.rest ∙ ap (λ (u : Stage). record u { folder = t.folder; clock = t.clock }) first.rest;
}

reads_beside : (name : List ℕ) (s t : Stage) (result : Result Said AgentEnd) → ReadsWord name s t result → Beside s t
reads_beside name s t result word = record {
  files = word.same;
  told = word.call.told;
  count = word.call.count;
  grows = λ told. (entry_of (Read areas.Status (codes "status.pb")) word.answer, word.call.calls told);
  rest = word.rest ∙ ap (λ c. record s { folder = t.folder; clock = c }) (sym (ap (λ (u : Stage). u.clock) word.rest));
}

waits_beside : (s t : Stage) (result : Result Bool AgentEnd) → WaitsQuarter s t result → Beside s t
waits_beside s t result wait = beside_same s t wait.rest

gives_beside : {T : Type 0} (value : T) (s t : Stage) (result : Result T AgentEnd) → Gives value s t result → Beside s t
gives_beside value s t result gives = beside_same s t (gives.0 ∙ ap (λ c. record s { clock = c }) (sym (ap (λ (u : Stage). u.clock) gives.0)))

abbrev LeavesBeside : {T : Type 0} → (Stage → Stage → Result T AgentEnd → Type 0) → Type 0
LeavesBeside {T = T} P = (s t : Stage) (result : Result T AgentEnd) → P s t result → Beside s t

then_beside : {A B : Type 0} (P : Stage → Stage → Result A AgentEnd → Type 0) (Q : A → Stage → Stage → Result B AgentEnd → Type 0) → LeavesBeside P → ((a : A) → LeavesBeside (Q a)) → LeavesBeside (Then P Q)
then_beside P Q one two s t (Ok value) (m, (a, (first, second))) = beside_both s m t (one s m (Ok a) first) (two a m t (Ok value) second)
then_beside P Q one two s t (Err end) (inl first) = one s t (Err end) first
then_beside P Q one two s t (Err end) (inr (m, (a, (first, second)))) = beside_both s m t (one s m (Ok a) first) (two a m t (Err end) second)

on_beside : (more : Stage → Stage → Result Said AgentEnd → Type 0) → LeavesBeside more → (said : Said) → LeavesBeside (WatchesOn more said)
on_beside more rest Nothing = then_beside WaitsQuarter (WatchesAgain more) waits_beside again
  where
    again : (waited : Bool) → LeavesBeside (WatchesAgain more waited)
    again true = rest
    again false = gives_beside Nothing
on_beside more rest Taken = gives_beside Taken
on_beside more rest (Refused error) = gives_beside (Refused error)

pub watches_beside : (waits : ℕ) (name : List ℕ) → LeavesBeside (Watches waits name)
watches_beside zero name = reads_beside name
watches_beside (suc waits) name =
    then_beside (ReadsWord name) (WatchesOn (Watches waits name)) (reads_beside name) (on_beside (Watches waits name) (watches_beside waits name))

-- ---- what it proves

pub proved_on : (name : List ℕ) (a b c : FolderState) → (IsTrue b.told → (more : List FolderCall) × (b.calls ≡ a.calls ++ more)) → IsProvedBy name b c → c.told ≡ b.told → IsProvedBy name a c
proved_on name a b c grows proved same = record {
  body = proved.body;
  status = proved.status;
  means = proved.means;
  word = proved.word;
  read = λ told.
      let one = grows (subst IsTrue same told) in
      let two = proved.read told in
      let call : FolderCall = Read areas.Status (codes "status.pb") (Some (Some proved.body)) in
      (one.0 ++ two.0, (two.1.0, two.1.1 ∙ ap (λ (calls : List FolderCall). calls ++ call ∷ two.1.0) (ap (λ (calls : List FolderCall). calls ++ two.0) one.1 ∙ append_assoc a.calls one.0 two.0)));
}

told_proves : (name : List ℕ) (old new : FolderState) (answer : Result (Option (List ℕ)) FolderFail) → Calls old new (Read areas.Status (codes "status.pb")) answer → Tells name answer Taken
    → IsProvedBy name old new
told_proves name old new (Ok (Some body)) call (inl (status, means, word)) = record {
  body = body;
  status = status;
  means = means;
  word = word;
  read = λ told. ([], ([], call.calls told ∙ ap (λ (calls : List FolderCall). calls ++ Read areas.Status (codes "status.pb") (Some (Some body)) ∷ []) (sym (append-nil old.calls))));
}
told_proves name old new (Ok (Some body)) call (inr (at, why, fault, is)) = absurd (let e : Taken ≡ Nothing = is in cc)
told_proves name old new (Ok None) call is = absurd (let e : Taken ≡ Nothing = is in cc)
told_proves name old new (Err fail) call is = absurd (let e : Taken ≡ Nothing = is in cc)

reads_prove : (name : List ℕ) (s t : Stage) → ReadsWord name s t (Ok Taken) → IsProvedBy name s.folder t.folder
reads_prove name s t word = told_proves name s.folder t.folder word.answer word.call word.told.1

no_other : (said : Said) → said ≡ Taken → (let other : Result Said AgentEnd = Ok Nothing in (let word : Result Said AgentEnd = Ok said in word ≡ other)) → ⊥
no_other said taken nothing = let e : said ≡ Nothing = cc in let f : Taken ≡ Nothing = sym taken ∙ e in cc

pub watches_prove : (waits : ℕ) (name : List ℕ) (s t : Stage) → Watches waits name s t (Ok Taken) → IsProvedBy name s.folder t.folder
watches_prove zero name s t word = reads_prove name s t word
watches_prove (suc waits) name s t (m, (Nothing, (word, (k, (true, (wait, rest)))))) =
    let before = beside_both s m k (reads_beside name s m (Ok Nothing) word) (waits_beside m k (Ok true) wait) in
    proved_on name s.folder k.folder t.folder before.grows (watches_prove waits name k t rest) (watches_beside waits name k t (Ok Taken) rest).told
watches_prove (suc waits) name s t (m, (Nothing, (word, (k, (false, (wait, gives)))))) = absurd (no_other Taken refl gives.1)
watches_prove (suc waits) name s t (m, (Taken, (word, gives))) = subst (λ (u : Stage). IsProvedBy name s.folder u.folder) (sym gives.0) (reads_prove name s m word)
watches_prove (suc waits) name s t (m, (Refused error, (word, gives))) =
    absurd (let ok : Said → Result Said AgentEnd = λ said. Ok said in let e : ok Taken ≡ ok (Refused error) = gives.1 in cc)

-- ---- a status has one word on a trial

some_remote : (a b : RemoteConfigStatus) → Some a ≡ Some b → a ≡ b
some_remote a b is = cc

pub says_one : (name : List ℕ) (status : AgentToServer) (one other : Said) → SaysOfTrial name status one → SaysOfTrial name status other → one ≡ other
says_one name status one other (inl (a, (is, (named, said)))) (inl (b, (is_too, (named_too, said_too)))) = said ∙ (ap word_of (some_remote a b (sym is ∙ is_too)) ∙ sym said_too)
says_one name status one other (inl (a, (is, (named, said)))) (inr (apart, said_too)) = absurd (apart a is named)
says_one name status one other (inr (apart, said)) (inl (a, (is, (named, said_too)))) = absurd (apart a is named)
says_one name status one other (inr (apart, said)) (inr (apart_too, said_too)) = said ∙ sym said_too
