-- Which connections are open.
use Rattle.std.proofs.Common.{◌≡◌, ◌≢◌, ℕ, List, Bool, true, false, ◌==◌, if◌then◌else◌, Option, None, Some, IsTrue, ◌⊎◌, sym, subst, inl, inr, arith}
use Rattle.std.proofs.lemmas.Bool.{cases_eq}
use Rattle.std.proofs.lemmas.List.Sums.{fold-append}
use Rattle.edge_devices.specs.declared.wires.WireEvent.{WireEvent}
use Rattle.edge_devices.specs.declared.wires.WireEvent.TheVariants as event
use Rattle.edge_devices.specs.declared.wires.WireCall.{WireCall}
use Rattle.edge_devices.specs.declared.wires.WireCall.TheVariants.{Gave, Sent, LostOn, Closed}
use Rattle.edge_devices.specs.Wires.{Tells, open_after, is_open, IsOpen}
use Rattle.server_sessions.specs.Answers.{Says, GoesOut}
use Rattle.server_sessions.specs.Wiring.{WireView, IsDone}
use Rattle.server_sessions.specs.Connections.{Known, AreOpen, AreOpenBut, Forgets, KeepsOpen}

-- what a call that is told does to an open connection
pub open_told : (old new : Option (List WireCall)) (call : WireCall) (conn : ℕ) → Tells old new call → ((b : Bool) → IsTrue b → IsTrue (open_after conn b call)) → IsOpen old conn → IsOpen new conn
open_told None None call conn told stays was = tt
open_told None (Some calls) call conn told stays was = absurd (cc told)
open_told (Some calls) None call conn told stays was = absurd told
open_told (Some calls) (Some more) call conn told stays was =
    let P : List WireCall → Type 0 = λ cs. IsTrue (is_open cs conn) in
    subst P (sym told) (rw fold-append (stays (is_open calls conn) was))

-- a call that opens it
pub opened_told : (old new : Option (List WireCall)) (call : WireCall) (conn : ℕ) → Tells old new call → ((b : Bool) → IsTrue (open_after conn b call)) → IsOpen new conn
opened_told None None call conn told opens = tt
opened_told None (Some calls) call conn told opens = absurd (cc told)
opened_told (Some calls) None call conn told opens = absurd told
opened_told (Some calls) (Some more) call conn told opens =
    let P : List WireCall → Type 0 = λ cs. IsTrue (is_open cs conn) in
    subst P (sym told) (rw fold-append (opens (is_open calls conn)))

-- a call that ends another connection
pub ends_other : (c other : ℕ) → other ≢ c → (b : Bool) → IsTrue b → IsTrue (if c == other then false else b)
ends_other c other apart b was = grind arith

pub said_open : (conn other : ℕ) (bytes : Option (List ℕ)) (old new : WireView) → Says conn bytes old new → IsOpen old.calls other → IsOpen new.calls other
said_open conn other None old new said was = rw said was
said_open conn other (Some bytes) old new said was = open_told old.calls new.calls (Sent conn bytes) other said.told (λ b h. h) was

pub kept_open : (conn : ℕ) (bytes : Option (List ℕ)) (closes : Bool) (old new : WireView) (stays : Bool)
    → GoesOut conn bytes closes old new stays → IsOpen old.calls conn → KeepsOpen conn old.calls new.calls stays
kept_open conn bytes closes old new true out was =
    (λ other apart h. said_open conn other bytes old new out.1 h, λ _. said_open conn conn bytes old new out.1 was)
kept_open conn bytes closes old new false out was = (λ other apart h. others other apart h out, λ e. absurd (cc e))
  where
    others : (other : ℕ) → other ≢ conn → IsOpen old.calls other → GoesOut conn bytes closes old new false → IsOpen new.calls other
    others other apart h (inl lost) = open_told old.calls new.calls (LostOn conn) other lost.1.told (ends_other conn other apart) h
    others other apart h (inr closed) =
        open_told closed.1.0.calls new.calls (Closed conn) other closed.1.2.told (ends_other conn other apart) (said_open conn other bytes old closed.1.0 closed.1.1 h)

-- a connection that is closed
pub done_open : (conn : ℕ) (old new : WireView) → IsDone (Closed conn) old new → KeepsOpen conn old.calls new.calls false
done_open conn old new done = (λ other apart h. open_told old.calls new.calls (Closed conn) other done.told (ends_other conn other apart) h, λ e. absurd (cc e))

-- an event that the wire gives
pub given_open : (old new : Option (List WireCall)) (at : ℕ) (e : WireEvent) (known : Known) → Tells old new (Gave at e) → AreOpen old known → AreOpenBut new e known
given_open old new at (event.Opened conn kind) known told was = (
  λ other is. open_told old new (Gave at (event.Opened conn kind)) other told (λ b h. still conn other b h) (was other is),
  opened_told old new (Gave at (event.Opened conn kind)) conn told (λ b. grind arith),
)
  where
    still : (c other : ℕ) (b : Bool) → IsTrue b → IsTrue (if c == other then true else b)
    still c other b h = grind arith
given_open old new at (event.Piece conn bytes) known told was = λ other is. open_told old new (Gave at (event.Piece conn bytes)) other told (λ b h. h) (was other is)
given_open old new at (event.Closed conn) known told was = λ other apart is. open_told old new (Gave at (event.Closed conn)) other told (ends_other conn other apart) (was other is)

-- what is sent leaves them open
pub sent_open : (old new : Option (List WireCall)) (conn : ℕ) (bytes : List ℕ) (known : Known) → Tells old new (Sent conn bytes) → AreOpen old known → AreOpen new known
sent_open old new conn bytes known told was = λ other is. open_told old new (Sent conn bytes) other told (λ b h. h) (was other is)

-- a send that is lost ends its connection
pub lost_open : (old new : Option (List WireCall)) (conn : ℕ) (known : Known) → Tells old new (LostOn conn) → AreOpen old known → AreOpenBut new (event.Closed conn) known
lost_open old new conn known told was = λ other apart is. open_told old new (LostOn conn) other told (ends_other conn other apart) (was other is)

-- a connection that ended is forgotten
pub forgotten_open : (calls : Option (List WireCall)) (conn : ℕ) (known known' : Known) → AreOpenBut calls (event.Closed conn) known → Forgets conn known known' → AreOpen calls known'
forgotten_open calls conn known known' was forgets other is = by_same (cases_eq other conn)
  where
    by_same : (other ≡ conn) ⊎ (other ≢ conn) → IsOpen calls other
    by_same (inl same) = absurd (cc (rw (same, forgets.gone) at is))
    by_same (inr apart) = was other apart (rw (forgets.others other apart) at is)
