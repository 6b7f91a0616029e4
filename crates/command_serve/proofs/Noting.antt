-- What `serve` notes, from where it listens to its end.
use Rattle.std.proofs.Common.{◌≡◌, ◌∙◌, ◌⊎◌, ℕ, Option, inl, inr, refl, subst, sym}
use Rattle.std.specs.Prelude.{Ok, Err}
use Rattle.message_values.specs.declared.custom.CustomMessage.{CustomMessage}
use Rattle.edge_devices.specs.Streams.{SinkView}
use Rattle.edge_notes.specs.Noted.{IsNoted, NotedIf}
use Rattle.edge_notes.specs.Texts.{text_of}
use Rattle.edge_notes.specs.declared.notes.Note.{Note}
use Rattle.command_words.specs.declared.commands.ServeOptions.{ServeOptions}
use Rattle.server_sessions.specs.Wiring.{WireView}
use Rattle.server_sessions.specs.declared.serving.ServeEnd.TheVariants as end
use Rattle.command_serve.specs.declared.status.RolloutStatus.{RolloutStatus}
use Rattle.command_serve.specs.declared.status.RolloutStatus.TheVariants as rolling
use Rattle.command_serve.specs.declared.status.ServeStatus.{ServeStatus}
use Rattle.command_serve.specs.declared.status.ServeStatus.TheVariants.{NoMemory, Stopped, TurnsSpent, WireFault, WriteFault}
use Rattle.command_serve.specs.Notes.{NotesAddress, NotesListening, NotesOf, RollingNotes, RunNotes, ServeNotes, ServingNotes, end_note, note_of, rollout_note, wire_note}
use Rattle.command_serve.specs.Statuses.{rollout_status_of}

none_noted : (s : ServeStatus) (before after : SinkView) → (s ≡ WireFault → ⊥) → after ≡ before → NotedIf (wire_note s) before after
none_noted Stopped before after no_wire same = same
none_noted WriteFault before after no_wire same = same
none_noted NoMemory before after no_wire same = same
none_noted WireFault before after no_wire same = absurd (no_wire refl)
none_noted TurnsSpent before after no_wire same = same

module _ (answers : CustomMessage → Option CustomMessage → Type 0) (options : ServeOptions) (old new : WireView) (before after : SinkView) where
  -- what ended the run of events
  pub served_noted : (n : ℕ) (s : ServeStatus) → (s ≡ WireFault → ⊥) → RunNotes answers options old new (Ok n) before after → ServingNotes answers options old new s before after
  served_noted n s no_wire (inl l) = inl (record { wire = l.wire; listens = l.listens; between = l.between; listening = l.listening; later = l.later; run = l.run; last = none_noted s l.later after no_wire l.last })
  served_noted n s no_wire (inr failed) = absurd (cc failed.0)

  pub spent_noted : (s : ServeStatus) → (s ≡ WireFault → ⊥) → RunNotes answers options old new (Err end.TurnsSpent) before after → ServingNotes answers options old new s before after
  spent_noted s no_wire (inl l) = inl (record { wire = l.wire; listens = l.listens; between = l.between; listening = l.listening; later = l.later; run = l.run; last = none_noted s l.later after no_wire l.last })
  spent_noted s no_wire (inr failed) = absurd (cc failed.0)

  pub failed_noted : RunNotes answers options old new (Err end.WireFault) before after → ServingNotes answers options old new WireFault before after
  failed_noted (inl l) = inl l
  failed_noted (inr failed) = inr (inl (refl, failed.1))

  pub wanting_noted : RunNotes answers options old new (Err end.NoMemory) before after → ServingNotes answers options old new NoMemory before after
  wanting_noted (inl l) = inl l
  wanting_noted (inr failed) = absurd (cc failed.0)

-- ---- the end

both_noted : (s : ServeStatus) (a b c : SinkView) → NotedIf (wire_note s) a b → NotedIf (end_note s) b c → NotedIf (note_of s) a c
both_noted Stopped a b c first second = second ∙ first
both_noted WriteFault a b c first second = subst (λ (x : SinkView). NotedIf (end_note WriteFault) x c) first second
both_noted NoMemory a b c first second = subst (λ (x : SinkView). NotedIf (end_note NoMemory) x c) first second
both_noted WireFault a b c first second = subst (λ (x : SinkView). NotedIf (wire_note WireFault) a x) (sym second) first
both_noted TurnsSpent a b c first second = subst (λ (x : SinkView). NotedIf (end_note TurnsSpent) x c) first second

module _ (answers : CustomMessage → Option CustomMessage → Type 0) (options : ServeOptions) (old new : WireView) (a b c : SinkView) where
  address_noted : (s : ServeStatus) → s ≡ WireFault → NotedIf (end_note s) b c → NotesAddress options old new a b → NotesAddress options old new a c
  address_noted s is said address =
      let same : c ≡ b = subst (λ (x : ServeStatus). NotedIf (end_note x) b c) is said in
      subst (λ (x : SinkView). NotesAddress options old new a x) (sym same) address

  memory_noted : (s : ServeStatus) → s ≡ NoMemory → NotedIf (end_note s) b c → b ≡ a → NotedIf (end_note NoMemory) a c
  memory_noted s is said same = subst (λ (x : SinkView). NotedIf (end_note NoMemory) x c) same (subst (λ (x : ServeStatus). NotedIf (end_note x) b c) is said)

  ended_noted : (s : ServeStatus) → ServingNotes answers options old new s a b → NotedIf (end_note s) b c → NotesOf answers options old new (rolling.Served s) a c
  ended_noted s (inl l) said = inl (record { wire = l.wire; listens = l.listens; between = l.between; listening = l.listening; later = l.later; run = l.run; last = both_noted s l.later b c l.last said })
  ended_noted s (inr (inl failed)) said = inr (inl (failed.0, address_noted s failed.0 said failed.1))
  ended_noted s (inr (inr wanting)) said = inr (inr (wanting.0, memory_noted s wanting.0 said wanting.1))

  -- of `serve`
  pub serve_noted : (s : ServeStatus) (status : ℕ) → status ≡ rollout_status_of (rolling.Served s) → ServingNotes answers options old new s a b → NotedIf (end_note s) b c → ServeNotes answers options old new status a c
  serve_noted s status is before said = (rolling.Served s, is, ended_noted s before said)

  -- and with a rollout
  pub rollout_noted : (s : RolloutStatus) (status : ℕ) → status ≡ rollout_status_of s → RollingNotes answers options old new s a b → NotedIf (rollout_note s) b c → ServeNotes answers options old new status a c
  rollout_noted (rolling.Served s) status is before said = (rolling.Served s, is, ended_noted s before said)
  rollout_noted rolling.TooLarge status is before said = (rolling.TooLarge, is, subst (λ (x : SinkView). NotedIf (rollout_note rolling.TooLarge) x c) before said)
