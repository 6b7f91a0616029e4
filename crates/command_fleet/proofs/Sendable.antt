-- Each reply of a history is short enough.
use Rattle.std.proofs.Common.{◌≡◌, ℕ, suc, ◌≤◌, List, [], ◌∷◌, length, take, Option, None, Some, sym, subst, refl}
use Rattle.std.specs.Prelude.{IfSome, slice_get}
use Rattle.std.specs.List.{AllByRecursion}
use Rattle.message_values.specs.declared.reply.ServerToAgent.{ServerToAgent}
use Rattle.message_values.specs.declared.report.AgentToServer.{AgentToServer}
use Rattle.message_replies.specs.Canonical.{canonical_reply}
use Rattle.server_core.specs.declared.replies.Profile.{Profile}
use Rattle.server_core.specs.History.{Event, due_reply}
use Rattle.server_core.specs.Lengths.{FitsList}
use Rattle.shard_journals.specs.declared.rows.Row.{Row}
use Rattle.shard_journals.specs.Histories.{IsHistory, fleet_profile, reported}
use Rattle.command_fleet.specs.Output.{AreSendable}

all_from : {X : Type 0} (P : X → Type 0) (xs : List X) → ((k : ℕ) (x : X) → slice_get xs k ≡ Some x → P x) → AllByRecursion P xs
all_from P [] each = tt
all_from P (x ∷ xs) each = (each 0 x refl, all_from P xs (λ k y at. each (suc k) y at))

pub sendable : ((server : Profile) (history : List Event) (m : AgentToServer) (fresh : Option (List ℕ)) → FitsList server.custom → IfSome fresh (λ uid. length uid ≡ 16) → length (canonical_reply (due_reply server history m fresh)) ≤ 4194304)
    → FitsList fleet_profile.custom → (rows : List Row) → IsHistory rows → AreSendable rows
sendable fit list rows history =
    all_from (λ (r : Row). length (canonical_reply r.reply) ≤ 4194304) rows
    (λ place row at. subst (λ (reply : ServerToAgent). length (canonical_reply reply) ≤ 4194304) (sym (history place row at)) (fit fleet_profile (reported (take place rows)) row.report None list tt))
