-- The moments of a round, and how its parts follow one another.
use Rattle.std.specs.Prelude.{◌≡◌, ◌⊎◌, ◌++◌, ◌^◌, ◌-◌, true, false, List, [], ◌∷◌, Some, IsSome, Result, Ok, Err}
use Rattle.std.specs.Option.{option_to_list}
use Rattle.edge_devices.specs.Clocks.{ClockState}
use Rattle.edge_devices.specs.Dialers.{DialerState}
use Rattle.edge_devices.specs.Folders.{FolderState}
use Rattle.agent_store.specs.Store.{StoreState, entry_fits}
use Rattle.agent_rules.specs.declared.saved.Saved.{Saved}
use Rattle.agent_rules.specs.Codec.{codec}
use Rattle.agent_rules.specs.Payloads.{canonical_saved}
use Rattle.agent_rules.specs.Half.{AgentHalf}
use Rattle.agent_rules.specs.Keeping.{Call, kept_by, fits}
use Rattle.agent_rules.specs.Calls.{call_after}
use Rattle.agent_state.specs.View.{AgentView}
use Rattle.agent_rounds.specs.declared.ends.AgentEnd.{AgentEnd}
use Rattle.agent_rounds.specs.declared.ends.AgentEnd.TheVariants.{StoreFault, FolderFault, ClockFault, RoundsSpent, NumbersSpent, TooLarge, NoMemory}
use Rattle.agent_rounds.specs.Status.{HeldView}

-- the agent's half and its store, what the supervisor holds, the outside, and what was kept so far in this round, in order
pub record Stage : Type 0 where
  pub half : AgentHalf
  pub store : StoreState
  pub held : HeldView
  pub folder : FolderState
  pub dialer : DialerState
  pub clock : ClockState
  pub keeps : List Saved

-- One part and then another, which is given what the first gave; where the first ends the round the second is left out.
abbrev pub Then : {A B : Type 0} → (Stage → Stage → Result A AgentEnd → Type 0) → (A → Stage → Stage → Result B AgentEnd → Type 0) → Stage → Stage → Result B AgentEnd → Type 0
Then {A = A} P Q s t (Ok b) = (m : Stage) × ((a : A) × (P s m (Ok a) × Q a m t (Ok b)))
Then {A = A} P Q s t (Err end) = P s t (Err end) ⊎ ((m : Stage) × ((a : A) × (P s m (Ok a) × Q a m t (Err end))))

-- Nothing is done, and this is given.
abbrev pub Gives : {A : Type 0} → A → Stage → Stage → Result A AgentEnd → Type 0
Gives a s t result = (t ≡ s) × (result ≡ Ok a)

-- What the call keeps has room, but its entry doesn't fit in the store's log, and no generation is left for a new slot.
abbrev pub IsSpentOf : AgentView → Call → Type 0
IsSpentOf agent call = (part : Saved) × (kept_by agent.half call ≡ Some part) × (fits agent.half call ≡ true) × (agent.store.generation ≡ 2 ^ 64 - 1)
    × (entry_fits codec agent.store (canonical_saved part) ≡ false)

abbrev pub IsSpent : Stage → Call → Type 0
IsSpent s call = IsSpentOf (record { half = s.half; store = s.store }) call

-- why a call of the agent ends the round
abbrev pub EndsCall : Stage → Call → AgentEnd → Type 0
EndsCall s call StoreFault = IsSome (kept_by s.half call) × (fits s.half call ≡ true)
EndsCall s call NumbersSpent = IsSpent s call
EndsCall s call TooLarge = fits s.half call ≡ false
EndsCall s call NoMemory = Unit {0}
EndsCall s call FolderFault = ⊥
EndsCall s call ClockFault = ⊥
EndsCall s call RoundsSpent = ⊥

-- what the call keeps counts among what is kept
abbrev pub keeps_with : Stage → Call → List Saved
keeps_with s call = s.keeps ++ option_to_list (kept_by s.half call)

-- The agent's call is made, and what it keeps has room; after a fault of its disk nothing is said of the agent, and what it was to keep, which has room too,
-- counts among what is kept.
abbrev pub MakesCall : Call → Stage → Stage → Result Unit AgentEnd → Type 0
MakesCall call s t (Ok _) = (fits s.half call ≡ true) × (t ≡ record s { half = call_after s.half call; store = t.store; keeps = keeps_with s call })
MakesCall call s t (Err StoreFault) = EndsCall s call StoreFault × (t ≡ record s { half = t.half; store = t.store; keeps = keeps_with s call })
MakesCall call s t (Err end) = EndsCall s call end × (t ≡ s)

-- The calls are made, one after the other.
abbrev pub MakesCalls : List Call → Stage → Stage → Result Unit AgentEnd → Type 0
MakesCalls [] = Gives tt
MakesCalls (call ∷ calls) = Then (MakesCall call) (λ done. MakesCalls calls)
