-- Which entry a report makes.
use Rattle.std.proofs.Common.{◌≡◌, Bool, true, false, Option, None, refl, sym, ◌∙◌, ap, subst}
use Rattle.std.specs.Prelude.{if◌then◌else◌, is_none}
use Rattle.message_values.specs.declared.state.State.{State}
use Rattle.message_values.specs.declared.custom.CustomMessage.{CustomMessage}
use Rattle.agent_rules.specs.Reports.{message_of, fits_bytes}
use Rattle.agent_rules.specs.Half.{AgentHalf, entry_of, entry_with}
use Rattle.agent_state.specs.View.{AgentView}

-- with the waiting message, where the report isn't too long with it
pub told_with : (x v : AgentView) (message : Option CustomMessage) → x ≡ v → x.half.message ≡ message
    → fits_bytes (message_of (entry_with v.half message)) ≡ true → message_of (entry_with v.half message) ≡ message_of (entry_of v.half)
told_with x v message is same small =
    let waits : message ≡ v.half.message = sym same ∙ ap (λ (w : AgentView). w.half.message) is in
    let short : fits_bytes (message_of (entry_with v.half v.half.message)) ≡ true = subst (λ (m : Option CustomMessage). fits_bytes (message_of (entry_with v.half m)) ≡ true) waits small in
    ap (λ (m : Option CustomMessage). message_of (entry_with v.half m)) waits
    ∙ ap (λ (fits : Bool). message_of (if fits then entry_with v.half v.half.message else entry_with v.half None)) (sym short)

-- and else without it
pub told_without : (x v : AgentView) (message : Option CustomMessage) → x ≡ v → x.half.message ≡ message
    → fits_bytes (message_of (entry_with v.half message)) ≡ false → message_of (entry_with v.half None) ≡ message_of (entry_of v.half)
told_without x v message is same large =
    let waits : message ≡ v.half.message = sym same ∙ ap (λ (w : AgentView). w.half.message) is in
    let long : fits_bytes (message_of (entry_with v.half v.half.message)) ≡ false = subst (λ (m : Option CustomMessage). fits_bytes (message_of (entry_with v.half m)) ≡ false) waits large in
    ap (λ (fits : Bool). message_of (if fits then entry_with v.half v.half.message else entry_with v.half None)) (sym long)

-- the waiting message has no part in what a report stands on
basis_by : (a : AgentHalf) (fits : Bool) → (if fits then entry_with a a.message else entry_with a None).basis ≡ (entry_with a None).basis
basis_by a true = refl
basis_by a false = refl

pub alone_by : (a : AgentHalf) → is_none (entry_with a None).basis ≡ is_none (entry_of a).basis
alone_by a = ap (λ (b : Option State). is_none b) (sym (basis_by a (fits_bytes (message_of (entry_with a a.message)))))
