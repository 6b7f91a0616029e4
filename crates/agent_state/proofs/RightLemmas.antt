-- What may be kept after one of its parts changed, and why a call is refused.
use Rattle.std.proofs.Common.{◌≡◌, ℕ, List, Bool, true, false, Some, Result, Ok, Err, IsTrue, refl, sym, subst}
use Rattle.std.specs.Prelude.{IfErr, IfSome, IsSome, ◌&&◌, not, nat_eq}
use Rattle.std.proofs.lemmas.Bool.{false≢true}
use Rattle.plain_values.specs.declared.files.AgentConfigMap.{AgentConfigMap}
use Rattle.message_values.specs.declared.config.RemoteConfigStatus.{RemoteConfigStatus}
use Rattle.message_values.specs.declared.state.Settings.{Settings}
use Rattle.edge_devices.specs.Endpoints.{is_endpoint}
use Rattle.edge_devices.specs.Names.{are_good_names}
use Rattle.agent_rules.specs.declared.saved.Saved.{Saved}
use Rattle.agent_rules.specs.Right.{is_right}
use Rattle.agent_rules.specs.declared.rules.parts.AgentFail.{AgentFail}
use Rattle.agent_rules.specs.declared.rules.parts.AgentFail.TheVariants.{StoreFault, NumbersSpent, WrongUid, TooLarge, NoMemory}
use Rattle.agent_rules.specs.Keeping.{Call, kept_by}
use Rattle.agent_state.specs.View.{AgentView, KeepRefusal, CallRefusal}

middle : (x y z : Bool) → (x && y && z) ≡ true → y ≡ true
middle true true z all = refl
middle true false z all = absurd (false≢true all)
middle false y z all = absurd (false≢true all)

last : (x y z : Bool) → (x && y && z) ≡ true → z ≡ true
last true true z all = all
last true false z all = absurd (false≢true all)
last false y z all = absurd (false≢true all)

with_others : (x y z y' z' : Bool) → (x && y && z) ≡ true → y' ≡ true → z' ≡ true → (x && y' && z') ≡ true
with_others true y z true true all p q = refl
with_others true y z true false all p q = absurd (false≢true q)
with_others true y z false z' all p q = absurd (false≢true p)
with_others false y z y' z' all p q = absurd (false≢true all)

-- other settings of a good endpoint
pub right_settings : (s : Saved) (settings : Settings) → IsTrue (is_right s) → IsTrue (is_endpoint settings.endpoint) → IsTrue (is_right (record s { settings = settings }))
right_settings s settings right endpoint =
    with_others (not (nat_eq s.limit 0)) (is_endpoint s.settings.endpoint) (are_good_names s.config.config_map) (is_endpoint settings.endpoint) (are_good_names s.config.config_map)
    right endpoint (last (not (nat_eq s.limit 0)) (is_endpoint s.settings.endpoint) (are_good_names s.config.config_map) right)

-- another configuration of good names
pub right_config : (s : Saved) (config : AgentConfigMap) (hash : List ℕ) (remote : RemoteConfigStatus) → IsTrue (is_right s) → IsTrue (are_good_names config.config_map)
    → IsTrue (is_right (record s { config = config; config_hash = hash; remote = remote }))
right_config s config hash remote right names =
    with_others (not (nat_eq s.limit 0)) (is_endpoint s.settings.endpoint) (are_good_names s.config.config_map) (is_endpoint s.settings.endpoint) (are_good_names config.config_map)
    right (middle (not (nat_eq s.limit 0)) (is_endpoint s.settings.endpoint) (are_good_names s.config.config_map) right) names

-- why a call that keeps this part is refused
pub call_refused : (a : AgentView) (call : Call) (part : Saved) (fail : AgentFail) → kept_by a.half call ≡ Some part → KeepRefusal a.store part fail → CallRefusal a call fail
call_refused a call part TooLarge keeps why = (subst (λ p. IfSome p (λ s. KeepRefusal a.store s TooLarge)) (sym keeps) why, subst (λ p. IsSome p) (sym keeps) refl)
call_refused a call part NumbersSpent keeps why = (subst (λ p. IfSome p (λ s. KeepRefusal a.store s NumbersSpent)) (sym keeps) why, subst (λ p. IsSome p) (sym keeps) refl)
call_refused a call part StoreFault keeps why = (subst (λ p. IfSome p (λ s. KeepRefusal a.store s StoreFault)) (sym keeps) why, subst (λ p. IsSome p) (sym keeps) refl)
call_refused a call part NoMemory keeps why = tt
call_refused a call part WrongUid keeps why = why

pub keep_refused : (a : AgentView) (call : Call) (part : Saved) (result : Result (Unit {0}) AgentFail) → kept_by a.half call ≡ Some part
    → IfErr result (KeepRefusal a.store part) → IfErr result (CallRefusal a call)
keep_refused a call part (Ok value) keeps why = tt
keep_refused a call part (Err fail) keeps why = call_refused a call part fail keeps why
