-- Statuses that a command doesn't end with.
use Rattle.std.proofs.Common.{◌≡◌, ◌⊎◌, ℕ, List, Option, inl, inr, arith}
use Rattle.message_values.specs.declared.custom.CustomMessage.{CustomMessage}
use Rattle.edge_devices.specs.Faults.{HasRisen}
use Rattle.command_words.specs.declared.commands.AgentOptions.{AgentOptions}
use Rattle.command_scripts.specs.Storming.{IsStormStatus}
use Rattle.command_serve.specs.Statuses.{IsServeStatus}
use Rattle.command_agent.specs.Running.{FailsOutside, Surroundings}
use Rattle.command_agent.specs.Statuses.{IsAgentStatus}

pub storm_not_2 : (n : ℕ) → IsStormStatus n → n ≡ 2 → ⊥
storm_not_2 n (inl is) two = omega (arith, is, two)
storm_not_2 n (inr (inl is)) two = omega (arith, is, two)
storm_not_2 n (inr (inr is)) two = omega (arith, is, two)

pub storm_not_3 : (n : ℕ) → IsStormStatus n → n ≡ 3 → ⊥
storm_not_3 n (inl is) three = omega (arith, is, three)
storm_not_3 n (inr (inl is)) three = omega (arith, is, three)
storm_not_3 n (inr (inr is)) three = omega (arith, is, three)

pub storm_not_6 : (n : ℕ) → IsStormStatus n → n ≡ 6 → ⊥
storm_not_6 n (inl is) six = omega (arith, is, six)
storm_not_6 n (inr (inl is)) six = omega (arith, is, six)
storm_not_6 n (inr (inr is)) six = omega (arith, is, six)

pub storm_not_8 : (n : ℕ) → IsStormStatus n → n ≡ 8 → ⊥
storm_not_8 n (inl is) eight = omega (arith, is, eight)
storm_not_8 n (inr (inl is)) eight = omega (arith, is, eight)
storm_not_8 n (inr (inr is)) eight = omega (arith, is, eight)

pub serve_not_2 : (n : ℕ) → IsServeStatus n → n ≡ 2 → ⊥
serve_not_2 n (inl is) two = omega (arith, is, two)
serve_not_2 n (inr (inl is)) two = omega (arith, is, two)
serve_not_2 n (inr (inr (inl is))) two = omega (arith, is, two)
serve_not_2 n (inr (inr (inr (inl is)))) two = omega (arith, is, two)
serve_not_2 n (inr (inr (inr (inr is)))) two = omega (arith, is, two)

pub serve_not_3 : (n : ℕ) → IsServeStatus n → n ≡ 3 → ⊥
serve_not_3 n (inl is) three = omega (arith, is, three)
serve_not_3 n (inr (inl is)) three = omega (arith, is, three)
serve_not_3 n (inr (inr (inl is))) three = omega (arith, is, three)
serve_not_3 n (inr (inr (inr (inl is)))) three = omega (arith, is, three)
serve_not_3 n (inr (inr (inr (inr is)))) three = omega (arith, is, three)

pub serve_not_6 : (n : ℕ) → IsServeStatus n → n ≡ 6 → ⊥
serve_not_6 n (inl is) six = omega (arith, is, six)
serve_not_6 n (inr (inl is)) six = omega (arith, is, six)
serve_not_6 n (inr (inr (inl is))) six = omega (arith, is, six)
serve_not_6 n (inr (inr (inr (inl is)))) six = omega (arith, is, six)
serve_not_6 n (inr (inr (inr (inr is)))) six = omega (arith, is, six)

pub rollout_not_2 : (n : ℕ) → (n ≡ 11) ⊎ IsServeStatus n → n ≡ 2 → ⊥
rollout_not_2 n (inl is) two = omega (arith, is, two)
rollout_not_2 n (inr is) two = serve_not_2 n is two

pub rollout_not_3 : (n : ℕ) → (n ≡ 11) ⊎ IsServeStatus n → n ≡ 3 → ⊥
rollout_not_3 n (inl is) three = omega (arith, is, three)
rollout_not_3 n (inr is) three = serve_not_3 n is three

pub rollout_not_6 : (n : ℕ) → (n ≡ 11) ⊎ IsServeStatus n → n ≡ 6 → ⊥
rollout_not_6 n (inl is) six = omega (arith, is, six)
rollout_not_6 n (inr is) six = serve_not_6 n is six

pub agent_not_2 : (n : ℕ) → IsAgentStatus n → n ≡ 2 → ⊥
agent_not_2 n (inl is) two = omega (arith, is, two)
agent_not_2 n (inr (inl is)) two = omega (arith, is, two)
agent_not_2 n (inr (inr (inl is))) two = omega (arith, is, two)
agent_not_2 n (inr (inr (inr (inl is)))) two = omega (arith, is, two)
agent_not_2 n (inr (inr (inr (inr (inl is))))) two = omega (arith, is, two)
agent_not_2 n (inr (inr (inr (inr (inr (inl is)))))) two = omega (arith, is, two)
agent_not_2 n (inr (inr (inr (inr (inr (inr (inl is))))))) two = omega (arith, is, two)
agent_not_2 n (inr (inr (inr (inr (inr (inr (inr (inl is)))))))) two = omega (arith, is, two)
agent_not_2 n (inr (inr (inr (inr (inr (inr (inr (inr is)))))))) two = omega (arith, is, two)

pub agent_not_3 : (n : ℕ) → IsAgentStatus n → n ≡ 3 → ⊥
agent_not_3 n (inl is) three = omega (arith, is, three)
agent_not_3 n (inr (inl is)) three = omega (arith, is, three)
agent_not_3 n (inr (inr (inl is))) three = omega (arith, is, three)
agent_not_3 n (inr (inr (inr (inl is)))) three = omega (arith, is, three)
agent_not_3 n (inr (inr (inr (inr (inl is))))) three = omega (arith, is, three)
agent_not_3 n (inr (inr (inr (inr (inr (inl is)))))) three = omega (arith, is, three)
agent_not_3 n (inr (inr (inr (inr (inr (inr (inl is))))))) three = omega (arith, is, three)
agent_not_3 n (inr (inr (inr (inr (inr (inr (inr (inl is)))))))) three = omega (arith, is, three)
agent_not_3 n (inr (inr (inr (inr (inr (inr (inr (inr is)))))))) three = omega (arith, is, three)

-- which counts rose, beside the wire's
pub fault_outside : (names : List (List ℕ)) (may : CustomMessage → Option CustomMessage → Type 0) (options : AgentOptions) (old new : Surroundings) (wire : Type 0) → FailsOutside names may options old new
    → wire ⊎ (HasRisen old.folder.faults new.folder.faults ⊎ (HasRisen old.clock.faults new.clock.faults ⊎ HasRisen old.entropy.faults new.entropy.faults))
fault_outside names may options old new wire (inl drawn) = inr (inr (inr drawn.1))
fault_outside names may options old new wire (inr (inl settled)) = inr (inl settled.1)
fault_outside names may options old new wire (inr (inr waited)) = inr (inr (inl waited.1))
