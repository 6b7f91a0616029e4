-- The parts that deal with what a reply asked, as far as each goes.
use Rattle.std.proofs.Common.{◌≡◌, Option, Result, Ok, refl, sym, ap, subst}
use Rattle.message_values.specs.declared.custom.CustomMessage.{CustomMessage}
use Rattle.edge_devices.specs.Clocks.{ClockState}
use Rattle.edge_devices.specs.Dialers.{DialerState}
use Rattle.edge_devices.specs.Disks.{DiskState}
use Rattle.edge_devices.specs.Folders.{FolderState}
use Rattle.agent_store.specs.Store.{StoreState}
use Rattle.agent_rules.specs.declared.saved.Saved.{Saved}
use Rattle.agent_rules.specs.declared.rules.parts.Next.{Next}
use Rattle.agent_rules.specs.Half.{kept_part}
use Rattle.agent_state.specs.View.{AgentView, FitsDisk}
use Rattle.agent_rounds.specs.declared.ends.AgentEnd.{AgentEnd}
use Rattle.agent_rounds.specs.declared.ends.Pause.{Pause}
use Rattle.agent_rounds.specs.Status.{HeldView, pause_after}
use Rattle.agent_rounds.specs.Stages.{Stage, Then}
use Rattle.agent_rounds.specs.Replies.{BeginsTrial, Configures, Handles, Installs, PausesAfter}
use Rattle.agent_rounds.specs.Moments.{RunsPart, with_agent, with_clock, with_dialer, with_folder, with_held}
use Rattle.agent_rounds.proofs.FollowLemmas.{follow}
use Rattle.agent_rounds.proofs.RunLemmas.{run_beside}

-- a stage with all that a reply's parts are lent
abbrev pub at : AgentView → HeldView → FolderState → DialerState → Stage → Stage
at agent held folder dialer s = with_agent agent (with_held held (with_folder folder (with_dialer dialer s)))

-- with the clock too
abbrev pub at_clock : AgentView → HeldView → FolderState → DialerState → ClockState → Stage → Stage
at_clock agent held folder dialer clock s = at agent held folder dialer (with_clock clock s)

-- the disk still fits an agent whose store and kept part are the same
pub fits_on : (disk : DiskState) (a b : AgentView) → FitsDisk disk a.store (kept_part a.half) → b.store ≡ a.store → kept_part b.half ≡ kept_part a.half → FitsDisk disk b.store (kept_part b.half)
fits_on disk a b fits store part =
    subst (λ (s : StoreState). FitsDisk disk s (kept_part b.half)) (sym store) (subst (λ (p : Option Saved). FitsDisk disk a.store p) (sym part) fits)

module _ (may : CustomMessage → Option CustomMessage → Type 0) (next : Next) where
  -- what follows the message, the packages, the configuration and the trial
  abbrev pub after_message : Stage → Stage → Result Pause AgentEnd → Type 0
  after_message = Then (BeginsTrial next.connection) (λ _. PausesAfter next)

  abbrev pub after_packages : Stage → Stage → Result Pause AgentEnd → Type 0
  after_packages = Then (Handles may next.message) (λ _. after_message)

  abbrev pub after_config : Stage → Stage → Result Pause AgentEnd → Type 0
  after_config = Then (Installs next.packages) (λ _. after_packages)

  abbrev pub after_trial : Stage → Stage → Result Pause AgentEnd → Type 0
  after_trial = Then (Configures next.config) (λ _. after_config)

  -- a trial is begun, and the round pauses
  pub begun : (disk : DiskState) (a b : AgentView) (held : HeldView) (folder : FolderState) (dialer : DialerState) (pause : Pause) → FitsDisk disk a.store (kept_part a.half)
      → b.store ≡ a.store → kept_part b.half ≡ kept_part a.half → pause ≡ pause_after next b.half.saved.settings.interval
      → ((s : Stage) → BeginsTrial next.connection (with_agent a s) (with_agent b s) (Ok tt))
      → (s : Stage) → RunsPart after_message disk disk (at a held folder dialer s) (at b held folder dialer s) (Ok pause)
  begun disk a b held folder dialer pause fits store part is begins =
      follow (BeginsTrial next.connection) (λ _. PausesAfter next) disk disk disk (at a held folder dialer) (at b held folder dialer) (at b held folder dialer) tt (Ok pause) (λ saves s. refl) (λ saves s. refl)
      (λ s. run_beside (BeginsTrial next.connection) disk (at a held folder dialer s) (at b held folder dialer s) (Ok tt) fits store part refl (begins (with_held held (with_folder folder (with_dialer dialer s)))))
      (λ s. run_beside (PausesAfter next) disk (at b held folder dialer s) (at b held folder dialer s) (Ok pause) (fits_on disk a b fits store part) refl refl refl (refl, ap (λ (p : Pause). Ok p) is))

  -- the message was handled first
  pub handled : (disk : DiskState) (a b e : AgentView) (held : HeldView) (folder : FolderState) (dialer : DialerState) (r : Result Pause AgentEnd) → FitsDisk disk a.store (kept_part a.half)
      → b.store ≡ a.store → kept_part b.half ≡ kept_part a.half
      → ((s : Stage) → Handles may next.message (with_agent a s) (with_agent b s) (Ok tt))
      → ((s : Stage) → RunsPart after_message disk disk (at b held folder dialer s) (at e held folder dialer s) r)
      → (s : Stage) → RunsPart after_packages disk disk (at a held folder dialer s) (at e held folder dialer s) r
  handled disk a b e held folder dialer r fits store part handles rest =
      follow (Handles may next.message) (λ _. after_message) disk disk disk (at a held folder dialer) (at b held folder dialer) (at e held folder dialer) tt r (λ saves s. refl) (λ saves s. refl)
      (λ s. run_beside (Handles may next.message) disk (at a held folder dialer s) (at b held folder dialer s) (Ok tt) fits store part refl (handles (with_held held (with_folder folder (with_dialer dialer s)))))
      rest
