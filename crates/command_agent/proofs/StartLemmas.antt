-- The disk that a store was loaded from fits the agent that starts on it.
use Rattle.std.proofs.Common.{◌≡◌, ℕ, List, IsTrue, false, refl, sym, ◌∙◌, ap, subst}
use Rattle.message_values.specs.declared.custom.CustomCapabilities.{CustomCapabilities}
use Rattle.edge_devices.specs.Disks.{DiskState, disk_bytes}
use Rattle.agent_store.specs.declared.opened.Opened.{Opened}
use Rattle.agent_store.specs.declared.opened.Opened.TheVariants.{Fresh, Kept}
use Rattle.agent_store.specs.declared.slots.Layout.{Layout}
use Rattle.agent_store.specs.Found.{reading_of}
use Rattle.agent_store.specs.Slots.{reading}
use Rattle.agent_store.specs.Store.{StoreState, Fits}
use Rattle.agent_rules.specs.declared.saved.Saved.{Saved}
use Rattle.agent_rules.specs.Codec.{codec}
use Rattle.agent_rules.specs.Payloads.{canonical_saved}
use Rattle.agent_rules.specs.Half.{AgentHalf, kept_part}
use Rattle.agent_state.specs.View.{AgentView, FitsDisk, HasPart}
use Rattle.command_words.specs.declared.commands.AgentOptions.{AgentOptions}
use Rattle.command_agent.specs.Starting.{Loads, first_half, store_layout}

module _ (options : AgentOptions) (names : CustomCapabilities) (uid : List ℕ) (old new : DiskState) (bytes : disk_bytes new ≡ disk_bytes old) where
  stands : (opened : Opened Saved) → reading_of canonical_saved opened ≡ reading codec store_layout (disk_bytes old) → HasPart store_layout (kept_part (first_half options names opened uid)) (disk_bytes new)
  stands Fresh found = ap (reading codec store_layout) bytes ∙ sym found
  stands (Kept saved) found = ap (reading codec store_layout) bytes ∙ sym found

pub fits_start : (options : AgentOptions) (names : CustomCapabilities) (uid : List ℕ) (old new : DiskState) (opened : Opened Saved) (store : StoreState) (agent : AgentView)
    → Loads old new opened store → agent.store ≡ store → agent.half ≡ first_half options names opened uid → FitsDisk new agent.store (kept_part agent.half)
fits_start options names uid old new opened store agent loads same half = record {
  store_fits = subst (λ (s : StoreState). Fits codec new s) (sym same) loads.fits;
  stands = λ told.
      let before : IsTrue old.told = sym loads.unwritten.moments.told ∙ told in
      let layout : store_layout ≡ agent.store.layout = sym (ap (λ (s : StoreState). s.layout) same ∙ loads.layout) in
      subst (λ (l : Layout). HasPart l (kept_part agent.half) (disk_bytes new)) layout
      (subst (λ (h : AgentHalf). HasPart store_layout (kept_part h) (disk_bytes new)) (sym half) (stands options names uid old new loads.unwritten.bytes opened (loads.found before)));
}

-- an agent that starts awaits no answer
pub awaits_none : (options : AgentOptions) (names : CustomCapabilities) (opened : Opened Saved) (uid : List ℕ) → (first_half options names opened uid).awaits ≡ false
awaits_none options names Fresh uid = refl
awaits_none options names (Kept saved) uid = refl
