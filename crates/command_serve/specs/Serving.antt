-- What a server does at its three addresses.
use Rattle.std.specs.Prelude.{◌≡◌, ℕ, ◌<◌, ◌≤◌, ◌⊎◌, List, [], ◌∷◌, ◌++◌, Bool, true, false, Option, None, Result, Ok, Err}
use Rattle.message_values.specs.declared.custom.CustomMessage.{CustomMessage}
use Rattle.edge_devices.specs.declared.wires.Kind.TheVariants.{Http, Ws, Operator}
use Rattle.edge_devices.specs.declared.wires.WireCall.{WireCall}
use Rattle.edge_devices.specs.declared.wires.WireCall.TheVariants.{Listened}
use Rattle.edge_devices.specs.Clocks.{EntropyState}
use Rattle.edge_devices.specs.Wires.{Grows}
use Rattle.command_words.specs.declared.commands.ServeOptions.{ServeOptions}
use Rattle.message_handlers.specs.Names.{IsOrdered}
use Rattle.server_core.specs.declared.replies.Profile.{Profile}
use Rattle.server_core.specs.Table.{Table, empty_within}
use Rattle.server_sessions.specs.Reports.{Host, desk_of}
use Rattle.server_sessions.specs.Wiring.{WireView, IsFailed}
use Rattle.server_sessions.specs.declared.serving.ServeEnd.{ServeEnd}
use Rattle.server_sessions.specs.declared.serving.ServeEnd.TheVariants as end
use Rattle.server_sessions.specs.Runs.{IsLostLast}
use Rattle.server_sessions.specs.Sessions.{FailsBy, Following, ServesBy, Site, WantsAfterBy, site_of}
use Rattle.server_deliveries.specs.Deliveries.{Delivered, Delivers, DeliversInPart, NoRollouts, SessionsKeepWidth}
use Rattle.server_waves.specs.Points.{AreWithin}
use Rattle.server_waves.specs.Register.{Rolling}
use Rattle.command_serve.specs.declared.serving.TheConstants.{SERVER_CAPABILITIES}

-- what the server says of itself: its capabilities, and the names of its handlers' capabilities in ascending order (OpAMP
-- specification, "ServerToAgent.capabilities", "CustomCapabilities Message"); and how many connections it knows at one time
pub record IsProfileWith (names : List (List ℕ)) (limit : ℕ) (profile : Profile) : Type 0 where
  pub capabilities : profile.capabilities ≡ SERVER_CAPABILITIES
  pub custom : IsOrdered names profile.custom.capabilities
  pub connections : profile.connections ≡ limit

-- the calls by which the three addresses are listened to, in their order
abbrev pub listenings : ServeOptions → List WireCall
listenings options = Listened Http options.http ∷ Listened Ws options.ws ∷ Listened Operator options.operator ∷ []

-- These calls and no others were made.
pub record Listens (calls : List WireCall) (old new : WireView) : Type 0 where
  pub told : Grows old.calls new.calls calls
  pub count : old.faults ≤ new.faults

-- At an address no connections could be taken; those before it were listened to, and nothing more was done.
pub record FailsToListen (options : ServeOptions) (old new : WireView) : Type 0 where
  pub before : List WireCall
  pub failed : WireCall
  pub after : List WireCall
  pub parts : listenings options ≡ before ++ failed ∷ after
  pub mid : WireView
  pub listens : Listens before old mid
  pub fails : IsFailed mid new

-- a server of this profile, whose handlers may answer so
abbrev pub host_with : Profile → (CustomMessage → Option CustomMessage → Type 0) → Host
host_with profile answers = record { profile = profile; answers = answers }

-- by what offers are made and delivered: the rollouts; and whom the judge finds fine and which connections reach which agents
pub record Dispatch : Type 0 where
  pub rollouts : List Rolling
  pub delivered : Delivered

-- what is seen of the server there, with this table
abbrev pub site_with : WireView → EntropyState → Table → Dispatch → Site Delivered
site_with wire entropy table at = site_of wire (desk_of entropy table at.rollouts) at.delivered

-- The three addresses were listened to, and then so many events were served by a server that held no agent and is made for as many agents and connections as the options say, with what
-- follows them: from where it begins to where it stands. The run ended at the last event exactly where that was `stop`. Of every session of such a host, and so of this one and of each front of it, it is known that its rollouts keep their widths.
pub record ServesBehind (follows : Following Delivered) (names : List (List ℕ)) (answers : CustomMessage → Option CustomMessage → Type 0) (options : ServeOptions) (first : Dispatch) (n : ℕ) (old new : WireView) (entropy entropy' : EntropyState) (last : Dispatch) (stop : Bool) : Type 0 where
  pub profile : Profile
  pub says : IsProfileWith names options.connections profile
  pub mid : WireView
  pub listens : Listens (listenings options) old mid
  pub table : Table
  pub keeps : SessionsKeepWidth (host_with profile answers)
  pub serves : ServesBy follows (host_with profile answers) n (site_with mid entropy (empty_within options.agents) first) (site_with new entropy' table last) stop

-- The rollouts come to their points behind each event, and offers are pushed, where they are.
abbrev pub Serves : List (List ℕ) → (CustomMessage → Option CustomMessage → Type 0) → ServeOptions → Dispatch → ℕ → WireView → WireView → EntropyState → EntropyState → Dispatch → Bool → Type 0
Serves names answers options first n old new entropy entropy' last stop = ServesBehind Delivers names answers options first n old new entropy entropy' last stop

-- The same, and there is no rollout behind any event.
abbrev pub ServesPlainly : List (List ℕ) → (CustomMessage → Option CustomMessage → Type 0) → ServeOptions → Dispatch → ℕ → WireView → WireView → EntropyState → EntropyState → Dispatch → Bool → Type 0
ServesPlainly names answers options first n old new entropy entropy' last stop = ServesBehind (NoRollouts Delivers) names answers options first n old new entropy entropy' last stop

-- The same, but that behind so many events, none of them `stop`, the wire failed where it was asked for the next.
pub record ServesAndFails (names : List (List ℕ)) (answers : CustomMessage → Option CustomMessage → Type 0) (options : ServeOptions) (first : Dispatch) (n : ℕ) (old new : WireView) (entropy entropy' : EntropyState) : Type 0 where
  pub profile : Profile
  pub says : IsProfileWith names options.connections profile
  pub mid : WireView
  pub listens : Listens (listenings options) old mid
  pub table : Table
  pub last : Dispatch
  pub keeps : SessionsKeepWidth (host_with profile answers)
  pub fails : FailsBy Delivers (host_with profile answers) n (site_with mid entropy (empty_within options.agents) first) (site_with new entropy' table last)

-- The wire failed at an address, or where it was asked for one of the events that were to be taken.
abbrev pub FailsOnWire : List (List ℕ) → (CustomMessage → Option CustomMessage → Type 0) → ServeOptions → Dispatch → WireView → WireView → EntropyState → EntropyState → Type 0
FailsOnWire names answers options first old new entropy entropy' =
    (FailsToListen options old new × (entropy' ≡ entropy))
    ⊎ ((n : ℕ) × (n < options.turns) × ServesAndFails names answers options first n old new entropy entropy')

-- The same, but that behind so many events, none of them `stop`, memory was wanting; what was left then keeps the widths too.
pub record ServesAndWants (names : List (List ℕ)) (answers : CustomMessage → Option CustomMessage → Type 0) (options : ServeOptions) (first : Dispatch) (n : ℕ) (old new : WireView) (entropy entropy' : EntropyState) : Type 0 where
  pub profile : Profile
  pub says : IsProfileWith names options.connections profile
  pub mid : WireView
  pub listens : Listens (listenings options) old mid
  pub table : Table
  pub last : Dispatch
  pub keeps : SessionsKeepWidth (host_with profile answers)
  pub left : AreWithin first.rollouts → AreWithin last.rollouts
  pub wants : WantsAfterBy Delivers DeliversInPart (host_with profile answers) n (site_with mid entropy (empty_within options.agents) first) (site_with new entropy' table last)

-- Memory was wanting before an address was listened to, and nothing was done; or where an event was asked for or served.
abbrev pub WantsToServe : List (List ℕ) → (CustomMessage → Option CustomMessage → Type 0) → ServeOptions → Dispatch → WireView → WireView → EntropyState → EntropyState → Type 0
WantsToServe names answers options first old new entropy entropy' =
    ((new ≡ old) × (entropy' ≡ entropy))
    ⊎ ((n : ℕ) × (n < options.turns) × ServesAndWants names answers options first n old new entropy entropy')

-- The same; or events were served to `stop` or to the last turn, and it was wanting for the lines that say how it went.
abbrev pub WantsOnWire : List (List ℕ) → (CustomMessage → Option CustomMessage → Type 0) → ServeOptions → Dispatch → WireView → WireView → EntropyState → EntropyState → Type 0
WantsOnWire names answers options first old new entropy entropy' =
    WantsToServe names answers options first old new entropy entropy'
    ⊎ ((n : ℕ) × (n ≤ options.turns) × (stop : Bool) × (last : Dispatch) × Serves names answers options first n old new entropy entropy' last stop)

-- How a run ends: by `stop`; or all turns were taken, and none was `stop`; or the wire failed; or memory was wanting.
abbrev pub RunEnds : List (List ℕ) → (CustomMessage → Option CustomMessage → Type 0) → ServeOptions → Dispatch → WireView → WireView → EntropyState → EntropyState → Dispatch → Result ℕ ServeEnd → Type 0
RunEnds names answers options first old new entropy entropy' last (Ok n) = (n ≤ options.turns) × Serves names answers options first n old new entropy entropy' last true
RunEnds names answers options first old new entropy entropy' last (Err end.TurnsSpent) = Serves names answers options first options.turns old new entropy entropy' last false
RunEnds names answers options first old new entropy entropy' last (Err end.WireFault) = FailsOnWire names answers options first old new entropy entropy'
RunEnds names answers options first old new entropy entropy' last (Err end.NoMemory) = WantsToServe names answers options first old new entropy entropy'

-- Where offers aren't pushed, a run whose last event is `stop` and one without `stop`, with no rollout behind any event of either, are told alike only where the last call is an answer that was lost.
abbrev pub IsLostWherePlain : List (List ℕ) → (CustomMessage → Option CustomMessage → Type 0) → ServeOptions → Dispatch → WireView → WireView → EntropyState → EntropyState → Type 0
IsLostWherePlain names answers options first old new entropy entropy' =
    first.delivered.routes ≡ None → (last other : Dispatch) → ServesPlainly names answers options first options.turns old new entropy entropy' last true
    → ServesPlainly names answers options first options.turns old new entropy entropy' other false → IsLostLast new.calls

-- All turns were taken, and `stop` was the last. That such a run is told as one without `stop`, too, comes seldom.
abbrev pub StopsLast : List (List ℕ) → (CustomMessage → Option CustomMessage → Type 0) → ServeOptions → Dispatch → WireView → WireView → EntropyState → EntropyState → Type 0
StopsLast names answers options first old new entropy entropy' =
    (last : Dispatch) × Serves names answers options first options.turns old new entropy entropy' last true × IsLostWherePlain names answers options first old new entropy entropy'
