-- How an agent starts.
use Rattle.std.specs.Prelude.{ℕ, List, Bool, true, false}
use Rattle.message_values.specs.declared.state.Settings.{Settings}
use Rattle.agent_store.specs.declared.opened.Opened.{Opened}
use Rattle.agent_store.specs.declared.opened.Opened.TheVariants.{Fresh, Kept}
use Rattle.agent_rules.specs.declared.saved.Saved.{Saved}
use Rattle.agent_rules.specs.declared.rules.parts.LocalState.{LocalState}
use Rattle.agent_rules.specs.Half.{AgentHalf, first_saved, started}

-- the half of an agent that starts so: a fresh store gives it this identifier and these settings
abbrev pub started_with : Opened Saved → LocalState → List ℕ → Settings → ℕ → Bool → AgentHalf
started_with Fresh local fresh first room asks_uid = started local (first_saved fresh first) false room asks_uid
started_with (Kept saved) local fresh first room asks_uid = started local saved true room asks_uid
