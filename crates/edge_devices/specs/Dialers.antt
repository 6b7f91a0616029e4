-- What contracts see of a dialer and of its links.
use Rattle.std.specs.Prelude.{◌≡◌, ℕ, ◌≤◌, ◌++◌, List, [], ◌∷◌, Bool, Option, Some, None, Result, Ok, Err, IsTrue, true, false, is_none, not}
use Rattle.std.specs.List.{list_any}
use Rattle.edge_devices.specs.Faults.{HasRisen}
use Rattle.edge_devices.specs.declared.dialers.DialFail.{DialFail}
use Rattle.edge_devices.specs.declared.dialers.DialFail.TheVariants.{Fault, NoMemory}
use Rattle.edge_devices.specs.declared.dialers.LinkFail.{LinkFail}
use Rattle.edge_devices.specs.declared.dialers.LinkFail.TheVariants.{Fault as LinkFaulted, NoMemory as LinkNoMemory}
use Rattle.edge_devices.specs.declared.dialers.DialerCall.{DialerCall}
use Rattle.edge_devices.specs.declared.dialers.DialerCall.TheVariants.{Dial, Exchange, Fetch, Arrived}
use Rattle.edge_devices.specs.declared.links.DeadCause.{DeadCause}
use Rattle.edge_devices.specs.declared.links.DeadCause.TheVariants.{LinkFault as DeadFault, NoMemory as DeadNoMemory}

-- Whether the dialer tells its calls; the calls, each with its answer; how many calls answered a fault; and how many
-- answered want of memory, which are not among the calls that are told.
pub record DialerState : Type 0 where
  pub told : Bool
  pub calls : List DialerCall
  pub faults : ℕ
  pub wants : ℕ

-- The call as the list of calls has it: with its value, with none where it answered a fault, and not at all where
-- memory was wanting.
abbrev pub dial_entry : {T : Type 0} → (Option T → DialerCall) → Result T DialFail → List DialerCall
dial_entry call (Ok value) = call (Some value) ∷ []
dial_entry call (Err Fault) = call None ∷ []
dial_entry call (Err NoMemory) = []

-- the same of an exchange
abbrev pub link_entry : {T : Type 0} → (Option T → DialerCall) → Result T LinkFail → List DialerCall
link_entry call (Ok value) = call (Some value) ∷ []
link_entry call (Err LinkFaulted) = call None ∷ []
link_entry call (Err LinkNoMemory) = []

-- what the one call on a link answered, which gives the link back or is dead
abbrev pub exchange_of : {L T : Type 0} → Result (L × T) DeadCause → Result T LinkFail
exchange_of (Ok given) = Ok given.1
exchange_of (Err DeadFault) = Err LinkFaulted
exchange_of (Err DeadNoMemory) = Err LinkNoMemory

-- the answer is a fault
abbrev pub is_dial_fault : {T : Type 0} → Result T DialFail → Bool
is_dial_fault (Err Fault) = true
is_dial_fault _ = false

abbrev pub is_link_fault : {T : Type 0} → Result T LinkFail → Bool
is_link_fault (Err LinkFaulted) = true
is_link_fault _ = false

-- the answer is want of memory
abbrev pub is_dial_want : {T : Type 0} → Result T DialFail → Bool
is_dial_want (Err NoMemory) = true
is_dial_want _ = false

abbrev pub is_link_want : {T : Type 0} → Result T LinkFail → Bool
is_link_want (Err LinkNoMemory) = true
is_link_want _ = false

-- The dialer made this one call. Want of memory is counted where it is the answer, and nowhere else, so that no call
-- that was never made is told as one.
pub record Dials {T : Type 0} (old new : DialerState) (call : Option T → DialerCall) (result : Result T DialFail) : Type 0 where
  pub told : new.told ≡ old.told
  pub calls : IsTrue new.told → new.calls ≡ old.calls ++ dial_entry call result
  pub count : old.faults ≤ new.faults
  pub fault : result ≡ Err Fault → HasRisen old.faults new.faults
  pub want_count : old.wants ≤ new.wants
  pub want : result ≡ Err NoMemory → HasRisen old.wants new.wants
  pub no_want : is_dial_want result ≡ false → new.wants ≡ old.wants

-- The dialer made this one exchange. Want of memory is counted in the same way.
pub record Exchanges {T : Type 0} (old new : DialerState) (call : Option T → DialerCall) (result : Result T LinkFail) : Type 0 where
  pub told : new.told ≡ old.told
  pub calls : IsTrue new.told → new.calls ≡ old.calls ++ link_entry call result
  pub count : old.faults ≤ new.faults
  pub fault : result ≡ Err LinkFaulted → HasRisen old.faults new.faults
  pub want_count : old.wants ≤ new.wants
  pub want : result ≡ Err LinkNoMemory → HasRisen old.wants new.wants
  pub no_want : is_link_want result ≡ false → new.wants ≡ old.wants

-- the call answered a fault
abbrev pub is_failed : DialerCall → Bool
is_failed (Dial to headers done) = not done
is_failed (Exchange number question answer) = is_none answer
is_failed (Fetch url answer) = is_none answer
is_failed (Arrived number answer) = is_none answer

-- The dialer made these calls, one after the other, and no other: one that answered want of memory would be counted.
pub record Asks (old new : DialerState) (seen : List DialerCall) : Type 0 where
  pub told : new.told ≡ old.told
  pub calls : IsTrue new.told → new.calls ≡ old.calls ++ seen
  pub count : old.faults ≤ new.faults
  pub fault : list_any is_failed seen ≡ true → HasRisen old.faults new.faults
  pub no_want : new.wants ≡ old.wants
