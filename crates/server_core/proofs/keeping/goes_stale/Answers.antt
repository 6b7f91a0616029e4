use Rattle.std.proofs.Common.{◌≡◌, ℕ, List, [], ◌∷◌, Bool, true, false, cond, not, Option, Some, None, refl, sym, ◌∙◌, ap}
use Rattle.std.specs.Prelude.{is_some}
use Rattle.std.specs.Option.{option_or}
use Rattle.std.specs.Str.{bytes_eq}
use Rattle.std.proofs.lemmas.Bool.{false≢true}
use Rattle.message_values.specs.declared.components.AvailableComponents.{AvailableComponents}
use Rattle.message_values.specs.declared.report.AgentToServer.{AgentToServer}
use Rattle.message_deltas.specs.Merging.{hash_in, merged_state, state_of}
use Rattle.message_deltas.specs.Obligations.{is_full}
use Rattle.server_core.specs.declared.rows.Record.{Record}
use Rattle.server_core.specs.Components.{Details, stale_under, told_in, told_last, where_any}
use Rattle.server_core.specs.Table.{state_after, told_after}
use Rattle.server_core.proofs.RowLemmas.{bytes_eq_same}
use Rattle.server_core.proofs.keeping.goes_stale.Goals as goal

-- the hash that a report carries is kept
hash_carried : (r : Record) (m : AgentToServer) (told : AvailableComponents) → m.available_components ≡ Some told → (state_after (Some r) m).components ≡ Some told.hash
hash_carried r m told carried = by_case (is_full m)
  where
    by_case : (b : Bool) → (cond b (state_of m) (merged_state r.state m)).components ≡ Some told.hash
    by_case true = ap (λ o. option_or (hash_in o) None) carried
    by_case false = ap (λ o. option_or (hash_in o) r.state.components) carried

-- components that are told don't go stale
some_told : (told : AvailableComponents) (last : Option AvailableComponents) (cs : Details) → (cs ≡ [] → is_some (stale_under (Some told.hash) last) ≡ false)
    → false ≡ is_some (stale_under (Some told.hash) (option_or (where_any told cs) last))
some_told told last [] none = sym (none refl)
some_told told last (c ∷ cs) none = ap (λ b. is_some (cond b None (Some told))) (sym (bytes_eq_same told.hash))

some_carried : (r : Record) (m : AgentToServer) (told : AvailableComponents) → m.available_components ≡ Some told
    → (told.components ≡ [] → is_some (stale_under (Some told.hash) (told_last r.details r.state.components None)) ≡ false)
    → false ≡ is_some (stale_under (state_after (Some r) m).components (told_after (Some r) None m))
some_carried r m told carried none =
    some_told told (told_last r.details r.state.components None) told.components none
    ∙ (λ i. is_some (stale_under (sym (hash_carried r m told carried) i) (option_or (told_in (sym carried i)) (told_last r.details r.state.components None))))

-- where none were told before
none_before : (r : Record) (m : AgentToServer) → told_last r.details r.state.components None ≡ None → false ≡ is_some (stale_under (state_after (Some r) m).components (told_after (Some r) None m))
none_before r m none = by_case m.available_components refl
  where
    by_case : (o : Option AvailableComponents) → m.available_components ≡ o → false ≡ is_some (stale_under (state_after (Some r) m).components (told_after (Some r) None m))
    by_case None e = λ i. is_some (stale_under (state_after (Some r) m).components (option_or (told_in (sym e i)) (sym none i)))
    by_case (Some told) e = some_carried r m told e (λ _. ap (λ last. is_some (stale_under (Some told.hash) last)) none)

no_details : (details : Option Details) (hash : Option (List ℕ)) → is_some details ≡ false → told_last details hash None ≡ None
no_details None hash none = refl
no_details (Some details) hash none = absurd (false≢true (sym none))

no_hash : (details : Option Details) → told_last details None None ≡ None
no_hash None = refl
no_hash (Some details) = refl

abbrev told_under : List ℕ → Details → AvailableComponents
told_under hash details = record { components = details; hash = hash }

-- where none are carried the hash stays, unless the report is full
none_carried : (r : Record) (m : AgentToServer) (hash : List ℕ) → r.state.components ≡ Some hash → m.available_components ≡ None → is_some r.details ≡ true
    → is_full m ≡ is_some (stale_under (state_after (Some r) m).components (told_after (Some r) None m))
none_carried r m hash kept none some =
    by_details r.details some
    ∙ (λ i. is_some (stale_under (cond (is_full m) (record (state_of m) { components = option_or (hash_in (sym none i)) None }) (record (merged_state r.state m) { components = option_or (hash_in (sym none i)) (sym kept i) })).components (option_or (told_in (sym none i)) (told_last r.details (sym kept i) None))))
  where
    by_full : (b : Bool) (details : Details) → b ≡ is_some (stale_under (cond b (record (state_of m) { components = None }) (record (merged_state r.state m) { components = Some hash })).components (Some (told_under hash details)))
    by_full true details = refl
    by_full false details = ap (λ b. is_some (cond b None (Some (told_under hash details)))) (sym (bytes_eq_same hash))

    by_details : (details : Option Details) → is_some details ≡ true
        → is_full m ≡ is_some (stale_under (cond (is_full m) (record (state_of m) { components = None }) (record (merged_state r.state m) { components = Some hash })).components (told_last details (Some hash) None))
    by_details None some = absurd (false≢true some)
    by_details (Some details) some = by_full (is_full m) details

-- where another hash is carried alone
hash_alone : (r : Record) (m : AgentToServer) (hash : List ℕ) (told : AvailableComponents) → r.state.components ≡ Some hash → m.available_components ≡ Some told → told.components ≡ [] → is_some r.details ≡ true
    → not (bytes_eq told.hash hash) ≡ is_some (stale_under (state_after (Some r) m).components (told_after (Some r) None m))
hash_alone r m hash told kept carried none some =
    by_details r.details some
    ∙ (λ i. is_some (stale_under (Some told.hash) (option_or (where_any told (sym none i)) (told_last r.details (sym kept i) None))))
    ∙ (λ i. is_some (stale_under (sym (hash_carried r m told carried) i) (option_or (told_in (sym carried i)) (told_last r.details r.state.components None))))
  where
    by_test : (b : Bool) (last : AvailableComponents) → not b ≡ is_some (cond b None (Some last))
    by_test true last = refl
    by_test false last = refl

    by_details : (details : Option Details) → is_some details ≡ true → not (bytes_eq told.hash hash) ≡ is_some (stale_under (Some told.hash) (told_last details (Some hash) None))
    by_details None some = absurd (false≢true some)
    by_details (Some details) some = by_test (bytes_eq told.hash hash) (told_under hash details)

pub returns-then-is_none : goal.returns-then-is_none
returns-then-is_none c =
    let r = c.args.kept.now in
    record { stale = none_before r c.args.report.now (no_details r.details r.state.components (c.is_none.ensures ∙ ap not c.if-is_none.true)) }

pub returns-in-None-default : goal.returns-in-None-default
returns-in-None-default c =
    let r = c.args.kept.now in
    record { stale = none_before r c.args.report.now (ap (λ hash. told_last r.details hash None) c.in-None-default.is-0 ∙ no_hash r.details) }

pub returns-in-Some-None : goal.returns-in-Some-None
returns-in-Some-None c =
    record {
      stale = c.is_full.ensures.full
          ∙ none_carried c.args.kept.now c.args.report.now c.in-Some-None.field-0-0 c.in-Some-None.is-0 c.in-Some-None.is-1 (c.is_none.ensures ∙ ap not c.if-is_none.false);
    }

pub returns-then-is_empty : goal.returns-then-is_empty
returns-then-is_empty c =
    record {
      stale = c.ne.ensures
          ∙ (λ i. not (bytes_eq (c.as_slice.ensures.value i) (c.as_slice-then-is_empty.ensures.value i)))
          ∙ hash_alone c.args.kept.now c.args.report.now c.in-Some-Some.hash c.in-Some-Some.told c.in-Some-Some.is-0 c.in-Some-Some.is-1 (c.is_empty.ensures.empty.0 c.if-is_empty.true) (c.is_none.ensures ∙ ap not c.if-is_none.false);
    }

pub returns-else-is_empty : goal.returns-else-is_empty
returns-else-is_empty c =
    record {
      stale = c.if-is_empty.false
          ∙ some_carried c.args.kept.now c.args.report.now c.in-Some-Some.told c.in-Some-Some.is-1
          (λ none. absurd (false≢true (sym c.if-is_empty.false ∙ c.is_empty.ensures.empty.1 none)));
    }
