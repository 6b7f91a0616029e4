-- What a message of the protocol is to a link.
use Rattle.std.specs.Prelude.{◌≡◌, ◌≢◌, ◌<◌, ◌⊎◌, ℕ, List, [], ◌∷◌, length, Option, Ok, Err, Bool, true, false, ⊤}
use Rattle.tungstenite.specs.Socket.{Reads, Socket, Writes}
use Rattle.tungstenite.specs.declared.error.Error.{Error}
use Rattle.tungstenite.specs.declared.message.Message.{Message}
use Rattle.tungstenite.specs.declared.message.Message.TheVariants as Kind
use Rattle.websocket.specs.Connection.{write_step}
use Rattle.websocket.specs.Content.{binary}
use Rattle.edge_dialer.specs.Failures.{IsWaiting}
use Rattle.edge_dialer.specs.declared.messages.Got.{Got}
use Rattle.edge_dialer.specs.declared.messages.Got.TheVariants as got

-- A binary message is taken and a close ends the link; a text, a ping and a pong are passed over.
abbrev pub got_of : Message → Got
got_of (Kind.Binary payload) = got.Binary payload
got_of (Kind.Close frame) = got.Ended
got_of _ = got.Other

abbrev pub is_binary : Got → Bool
is_binary (got.Binary payload) = true
is_binary _ = false

-- This holds of the payload, where a binary message was read.
abbrev pub IfBinary : Got → (List ℕ → Type 0) → Type 0
IfBinary (got.Binary payload) P = P payload
IfBinary _ P = ⊤

-- A text, a ping or a pong.
abbrev pub IsOther : Message → Type 0
IsOther message = got_of message ≡ got.Other

-- No close.
abbrev pub IsNoClose : Message → Type 0
IsNoClose message = got_of message ≢ got.Ended

-- Messages were read one behind the other, from one state of the socket to the next, and each of them was such a one.
abbrev pub Passes : {S : Type 0} → (Message → Type 0) → (S → Option (List ℕ)) → Socket S → List (Message × Socket S) → Socket S → Type 0
Passes Is remaining old [] new = new ≡ old
Passes Is remaining old (one ∷ later) new = Reads remaining old one.1 (Ok one.0) × Is one.0 × Passes Is remaining one.1 later new

-- Fewer than 1,024 such messages were read, from one state of the socket to another.
pub record PassesFew {S : Type 0} (Is : Message → Type 0) (remaining : S → Option (List ℕ)) (old new : Socket S) : Type 0 where
  pub passed : List (Message × Socket S)
  pub each : Passes Is remaining old passed new
  pub few : length passed < 1024

-- The payload is that of the first binary message that was read: the few that were read before it were others.
pub record TakesBinary {S : Type 0} (remaining : S → Option (List ℕ)) (old new : Socket S) (payload : List ℕ) : Type 0 where
  pub before : Socket S
  pub others : PassesFew IsOther remaining old before
  pub read : Reads remaining before new (Ok (Kind.Binary payload))

-- All that is there was read, few messages and each of them such a one: behind them a read would have waited.
pub record PassesAll {S : Type 0} (Is : Message → Type 0) (remaining : S → Option (List ℕ)) (old new : Socket S) : Type 0 where
  pub before : Socket S
  pub passed : PassesFew Is remaining old before
  pub error : Error
  pub read : Reads remaining before new (Err error)
  pub waits : IsWaiting error

-- No binary message is there: others alone were read, all that are there or 1,024 of them.
abbrev pub FindsNone : {S : Type 0} → (S → Option (List ℕ)) → Socket S → Socket S → Type 0
FindsNone {S} remaining old new =
    PassesAll IsOther remaining old new ⊎ ((passed : List (Message × Socket S)) × Passes IsOther remaining old passed new × (length passed ≡ 1024))

-- The question was written as one binary message, and the answer is the first one that was read behind it.
pub record Answers {S : Type 0} (contents remaining : S → Option (List ℕ)) (old new : Socket S) (question answer : List ℕ) : Type 0 where
  pub asked : Socket S
  pub written : Writes contents old asked (write_step old.conn (binary question))
  pub taken : TakesBinary remaining asked new answer
