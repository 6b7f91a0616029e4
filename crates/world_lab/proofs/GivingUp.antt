-- An agent that waits no longer.
use Rattle.std.proofs.Common.{◌≡◌, ◌∙◌, ℕ, List, [], ◌∷◌, Bool, true, false, cond, Option, Some, None, ap, sym, refl}
use Rattle.std.specs.Prelude.{is_none, is_some, unwrap_or}
use Rattle.std.specs.Option.{option_map}
use Rattle.message_values.specs.declared.state.Settings.{Settings}
use Rattle.agent_rules.specs.Half.{AgentHalf, target}
use Rattle.agent_rules.specs.Keeping.{GiveUp, AbandonTry}
use Rattle.agent_rules.specs.Calls.{calls_after, given_up, trial_left}
use Rattle.agent_rules.specs.Events.{GivesUp, agent_after, leaving_calls}
use Rattle.world_lab.specs.declared.written.Written.TheVariants.{Nothing, GaveUp}
use Rattle.world_lab.specs.Mirrors.{IsAgent}
use Rattle.world_lab.specs.Transcripts.{given_up_line}
use Rattle.world_lab.proofs.ScriptAgents.{agent_given_up, agent_left_trial}

-- a script's agent that keeps and tells what it did
pub record IsAsBefore (a b : AgentHalf) : Type 0 where
  pub agent : IsAgent a → IsAgent b
  pub saved : b.saved ≡ a.saved
  pub is_kept : b.is_kept ≡ a.is_kept
  pub local : b.local ≡ a.local

by_tests : (waits none : Bool) (a : AgentHalf) → IsAsBefore a (calls_after a (cond waits (GiveUp ∷ cond none [] (AbandonTry ∷ [])) []))
by_tests false none a = record { agent = λ i. i; saved = refl; is_kept = refl; local = refl }
by_tests true true a = record { agent = agent_given_up a; saved = refl; is_kept = refl; local = refl }
by_tests true false a = record { agent = λ i. agent_left_trial (given_up a) (agent_given_up a i); saved = refl; is_kept = refl; local = refl }

pub gives_up : (a : AgentHalf) → IsAsBefore a (agent_after a GivesUp)
gives_up a = by_tests a.awaits (is_none a.trial) a

some_isnt_none : {T : Type 0} (o : Option T) → is_some o ≡ true → is_none o ≡ false
some_isnt_none None some = absurd (cc some)
some_isnt_none (Some x) some = refl

none_is_none : {T : Type 0} (o : Option T) → is_some o ≡ false → is_none o ≡ true
none_is_none None none = refl
none_is_none (Some x) none = absurd (cc none)

awaited : (a : AgentHalf) → a.awaits ≡ true → agent_after a GivesUp ≡ calls_after (given_up a) (leaving_calls a)
awaited a waits = ap (λ (b : Bool). calls_after a (cond b (GiveUp ∷ leaving_calls a) [])) waits

-- with a trial
pub leaves_trial : (a mid b : AgentHalf) → a.awaits ≡ true → is_some a.trial ≡ true → mid ≡ given_up a → b ≡ trial_left mid → b ≡ agent_after a GivesUp
leaves_trial a mid b waits some first second =
    second
    ∙ ap trial_left first
    ∙ sym (awaited a waits ∙ ap (λ (n : Bool). calls_after (given_up a) (cond n [] (AbandonTry ∷ []))) (some_isnt_none a.trial some))

-- without one
pub waits_no_longer : (a b : AgentHalf) → a.awaits ≡ true → is_some a.trial ≡ false → b ≡ given_up a → b ≡ agent_after a GivesUp
waits_no_longer a b waits none step = step ∙ sym (awaited a waits ∙ ap (λ (n : Bool). calls_after (given_up a) (cond n [] (AbandonTry ∷ []))) (none_is_none a.trial none))

-- none is awaited
pub never_waited : (a : AgentHalf) → a.awaits ≡ false → a ≡ agent_after a GivesUp
never_waited a idle = sym (ap (λ (b : Bool). calls_after a (cond b (GiveUp ∷ leaving_calls a) [])) idle)

pub nothing_given_up : (a : AgentHalf) → a.awaits ≡ false → Nothing ≡ given_up_line a
nothing_given_up a idle = sym (ap (λ (b : Bool). cond b (GaveUp (option_map (λ tried. tried.endpoint) a.trial)) Nothing) idle)

pub line_given_up : (a : AgentHalf) (abandoned : Option (List ℕ)) → a.awaits ≡ true → abandoned ≡ option_map (λ tried. tried.endpoint) a.trial → GaveUp abandoned ≡ given_up_line a
line_given_up a abandoned waits is =
    ap (λ (o : Option (List ℕ)). GaveUp o) is
    ∙ sym (ap (λ (b : Bool). cond b (GaveUp (option_map (λ tried. tried.endpoint) a.trial)) Nothing) waits)

-- the endpoint of the settings under trial
pub tried_endpoint : (a : AgentHalf) (endpoint : List ℕ) → is_some a.trial ≡ true → endpoint ≡ (target a).endpoint → Some endpoint ≡ option_map (λ tried. tried.endpoint) a.trial
tried_endpoint a endpoint some is = of_trial a.trial some is
  where
    of_trial : (t : Option Settings) → is_some t ≡ true → endpoint ≡ (unwrap_or t a.saved.settings).endpoint → Some endpoint ≡ option_map (λ tried. tried.endpoint) t
    of_trial None some is = absurd (cc some)
    of_trial (Some tried) some is = ap (λ (e : List ℕ). Some e) is

pub no_trial : (a : AgentHalf) → is_some a.trial ≡ false → None ≡ option_map (λ (tried : Settings). tried.endpoint) a.trial
no_trial a none = of_trial a.trial none
  where
    of_trial : (t : Option Settings) → is_some t ≡ false → None ≡ option_map (λ tried. tried.endpoint) t
    of_trial None none = refl
    of_trial (Some tried) none = absurd (cc none)
