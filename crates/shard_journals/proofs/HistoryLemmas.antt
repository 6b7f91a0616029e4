-- A history with one row more.
use Rattle.std.proofs.Common.{◌≡◌, ℕ, List, [], ◌∷◌, ◌++◌, length, take, Option, None, Some, ◌⊎◌, inl, inr, sym, ◌∙◌, ap, arith}
use Rattle.std.specs.Prelude.{slice_get}
use Rattle.std.proofs.Math.Seq.{take-append_seam}
use Rattle.std.proofs.lemmas.List.{map-append, take-append-le}
use Rattle.std.proofs.lemmas.Option.{none-some, slice_get_within}
use Rattle.message_values.specs.declared.reply.ServerToAgent.{ServerToAgent}
use Rattle.message_values.specs.declared.report.AgentToServer.{AgentToServer}
use Rattle.server_core.specs.declared.replies.Profile.{Profile}
use Rattle.server_core.specs.History.{Event, Reported, due_reply}
use Rattle.server_core.specs.Served.{Served}
use Rattle.server_core.specs.Table.{table_after, table_of, table_reply}
use Rattle.shard_journals.specs.declared.rows.Row.{Row}
use Rattle.shard_journals.specs.Histories.{IsHistory, IsKeptBy, due_after, fleet_profile, reported}
use Rattle.shard_journals.proofs.Places.{one_of}

pub reported-push : (rows : List Row) (r : Row) → reported (rows ++ r ∷ []) ≡ reported rows ++ Reported r.report ∷ []
reported-push rows r = map-append (λ (t : Row). Reported t.report) rows (r ∷ [])

pub empty_history : IsHistory []
empty_history place row at = absurd (none-some row at)

pub history_push : (rows : List Row) (r : Row) → IsHistory rows → r.reply ≡ due_after rows r.report → IsHistory (rows ++ r ∷ [])
history_push rows r history due place row at = by_place (one_of rows r place row at)
  where
    by_place : ((slice_get rows place ≡ Some row) ⊎ ((place ≡ length rows) × (r ≡ row))) → row.reply ≡ due_after (take place (rows ++ r ∷ [])) row.report
    by_place (inl before) =
        history place row before
        ∙ ap (λ rs. due_after rs row.report) (sym (take-append-le place rows (r ∷ []) (let within = slice_get_within rows place row before in omega (arith, within))))
    by_place (inr last) =
        ap (λ (t : Row). t.reply) (sym last.1)
        ∙ due
        ∙ ap (λ (t : Row). due_after rows t.report) last.1
        ∙ ap (λ rs. due_after rs row.report) (sym (take-append_seam rows (r ∷ [])) ∙ ap (λ n. take n (rows ++ r ∷ [])) (sym last.0))

-- ---- a server and its rows

abbrev Follows : Type 0
Follows = (history : List Event) (e : Event) → table_after (table_of history) e ≡ table_of (history ++ e ∷ [])

abbrev RepliesSo : Type 0
RepliesSo = (server : Profile) (history : List Event) (m : AgentToServer) (fresh : Option (List ℕ)) → table_reply server (table_of history) m fresh ≡ due_reply server history m fresh

-- the reply that the server's table gives is the one that is due after the rows
pub due_is : RepliesSo → (server : Served) (rows : List Row) (m : AgentToServer) (reply : ServerToAgent) → IsKeptBy server rows
    → reply ≡ table_reply server.profile server.table m None → reply ≡ due_after rows m
due_is law server rows m reply kept is =
    is ∙ (λ i. table_reply (kept.profile i) (kept.table i) m None) ∙ law fleet_profile (reported rows) m None

-- the server after one more report
pub kept_push : Follows → (server after : Served) (rows : List Row) (row : Row) → IsKeptBy server rows
    → after ≡ record server { table = table_after server.table (Reported row.report) } → row.reply ≡ due_after rows row.report
    → IsKeptBy after (rows ++ row ∷ [])
kept_push law server after rows row kept is due = record {
  profile = ap (λ (s : Served). s.profile) is ∙ kept.profile;
  table =
      ap (λ (s : Served). s.table) is
      ∙ ap (λ t. table_after t (Reported row.report)) kept.table
      ∙ law (reported rows) (Reported row.report)
      ∙ ap table_of (sym (reported-push rows row));
  history = history_push rows row kept.history due;
}

-- the server and its rows after a report was handled
pub handled : Follows → RepliesSo → (server after : Served) (rows : List Row) (desk item : ℕ) (m : AgentToServer) (reply : ServerToAgent) (row : Row) → IsKeptBy server rows
    → reply ≡ table_reply server.profile server.table m None
    → after ≡ record server { table = table_after server.table (Reported m) }
    → row ≡ record { desk = desk; item = item; report = m; reply = reply }
    → IsKeptBy after (rows ++ row ∷ [])
handled follows replies server after rows desk item m reply row kept reply_is after_is row_is =
    let report_is : row.report ≡ m = ap (λ (r : Row). r.report) row_is in
    kept_push follows server after rows row kept
    (after_is ∙ ap (λ (x : AgentToServer). record server { table = table_after server.table (Reported x) }) (sym report_is))
    (ap (λ (r : Row). r.reply) row_is ∙ due_is replies server rows m reply kept reply_is ∙ ap (due_after rows) (sym report_is))
