-- The details that a server knows are those of one entry.
use Rattle.std.proofs.Common.{◌≡◌, ℕ, List, Bool, true, false, cond, Option, None, Some, slice_get, refl, sym, ◌∙◌, ap}
use Rattle.std.specs.Option.{option_and_then, option_map}
use Rattle.std.specs.Str.{bytes_eq}
use Rattle.message_values.specs.declared.components.AvailableComponents.{AvailableComponents}
use Rattle.agent_rules.specs.Reports.{Entry}
use Rattle.server_core.specs.declared.rows.Record.{Record}
use Rattle.server_core.specs.Components.{Details, is_kept, details_under}
use Rattle.world_model.specs.World.{World, Holding, server_to, components_at, record_at, entry_in, record_in_world}
use Rattle.world_model.proofs.Places.{none≢some, some_same, bytes_same}
use Rattle.world_model.proofs.Kept.{IsHolding, IsSound}

-- one entry told the details, under the hash of the entry held
abbrev pub IsTold : (List ℕ → List ℕ) → List Entry → List ℕ → List ℕ → Option Holding → Details → Type 0
IsTold server_of sent server uid found details =
    (place : ℕ) × ((e : Entry) × ((told : AvailableComponents)
    × ((slice_get sent place ≡ Some e) × ((server_of e.server ≡ server) × ((e.uid ≡ uid)
    × ((e.details ≡ Some told) × ((told.components ≡ details)
    × (option_map (λ h. h.state.components) (entry_in sent found) ≡ Some (Some told.hash)))))))))

kept_under : (kept : Option (List ℕ)) (told : AvailableComponents) (details : Details) → cond (is_kept kept told.hash) (Some told.components) None ≡ Some details
    → (told.components ≡ details) × (kept ≡ Some told.hash)
kept_under None told details is = absurd (none≢some is)
kept_under (Some hash) told details is = by_test (bytes_eq hash told.hash) refl is
  where
    by_test : (t : Bool) → bytes_eq hash told.hash ≡ t → cond t (Some told.components) None ≡ Some details → (told.components ≡ details) × (Some hash ≡ Some told.hash)
    by_test true so it = (some_same it, ap (λ x. Some x) (bytes_same hash told.hash so))
    by_test false so it = absurd (none≢some it)

pub details_told : (w : World) (server uid : List ℕ) (details : Details) (found : Option Holding) → IsSound w → w.held server uid ≡ found
    → option_and_then (λ r. r.details) (record_in_world w.sent found) ≡ Some details → IsTold w.server_of w.sent server uid found details
details_told w server uid details None s is it = absurd (none≢some it)
details_told w server uid details (Some h) s is it =
    by_told h.told refl (sym (ap (λ o. option_and_then (λ (r : Record). r.details) (option_map (record_at w.sent h.told) o)) x.1) ∙ it)
  where
    holding : IsHolding w.server_of w.sent server uid h
    holding = s.held server uid h is

    x : (e : Entry) × (slice_get w.sent h.place ≡ Some e) × (server_to w e ≡ server) × (e.uid ≡ uid)
    x = holding.held

    by_details : (k : ℕ) (y : Entry) → slice_get w.sent k ≡ Some y → server_to w y ≡ server → y.uid ≡ uid → (o : Option AvailableComponents) → y.details ≡ o
        → details_under x.0.state.components o ≡ Some details → IsTold w.server_of w.sent server uid (Some h) details
    by_details k y at there his None is_o so = absurd (none≢some so)
    by_details k y at there his (Some told) is_o so =
        let kept = kept_under x.0.state.components told details so in
        (k, (y, (told, (at, (there, (his, (is_o, (kept.0, ap (option_map (λ (e : Entry). e.state.components)) x.1 ∙ ap (λ c. Some c) kept.1))))))))

    by_told : (o : Option ℕ) → h.told ≡ o → details_under x.0.state.components (components_at w.sent o) ≡ Some details → IsTold w.server_of w.sent server uid (Some h) details
    by_told None is_told so = absurd (none≢some so)
    by_told (Some k) is_told so =
        let y = holding.told k is_told in
        by_details k y.0 y.1 y.2 y.3 y.0.details refl (sym (ap (λ o. details_under x.0.state.components (option_and_then (λ (e : Entry). e.details) o)) y.1) ∙ so)
