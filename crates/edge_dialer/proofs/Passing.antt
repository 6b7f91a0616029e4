-- Messages that are passed over, one behind the other.
use Rattle.std.proofs.Common.{◌≡◌, ◌<◌, ℕ, ◌+◌, List, [], ◌∷◌, ◌++◌, length, Option, Ok, Err, refl, sym, ap, ◌∙◌, subst, length-append, ◌⊎◌, inl, inr}
use Rattle.std.specs.Prelude.{IfOk, Result}
use Rattle.tungstenite.specs.Socket.{Reads, Socket, Writes}
use Rattle.tungstenite.specs.declared.error.Error.{Error}
use Rattle.tungstenite.specs.declared.message.Message.{Message}
use Rattle.tungstenite.specs.declared.message.Message.TheVariants as Kind
use Rattle.websocket.specs.Connection.{write_step}
use Rattle.websocket.specs.Content.{binary}
use Rattle.edge_dialer.specs.Failures.{IsWaiting}
use Rattle.edge_dialer.specs.Messages.{Answers, FindsNone, IfBinary, IsNoClose, IsOther, Passes, PassesAll, PassesFew, TakesBinary, got_of}
use Rattle.edge_dialer.specs.declared.messages.Got.{Got}
use Rattle.edge_dialer.specs.declared.messages.Got.TheVariants as got

-- A socket of which so many messages were read, each of them such a one.
pub record IsPassing {S : Type 0} (Is : Message → Type 0) (remaining : S → Option (List ℕ)) (old now : Socket S) (count : ℕ) : Type 0 where
  pub passed : List (Message × Socket S)
  pub each : Passes Is remaining old passed now
  pub many : length passed ≡ count

-- none was read
pub passing-first : {S : Type 0} (Is : Message → Type 0) (remaining : S → Option (List ℕ)) (old : Socket S) → IsPassing Is remaining old old 0
passing-first Is remaining old = record { passed = []; each = refl; many = refl }

passes-on : {S : Type 0} (Is : Message → Type 0) (remaining : S → Option (List ℕ)) (old now : Socket S) (passed : List (Message × Socket S))
    → Passes Is remaining old passed now → (message : Message) (new : Socket S) → Reads remaining now new (Ok message) → Is message
    → Passes Is remaining old (passed ++ ((message, new) ∷ [])) new
passes-on {S} Is remaining old now [] same message new read such =
    (subst (λ (s : Socket S). Reads remaining s new (Ok message)) same read, such, refl)
passes-on Is remaining old now (one ∷ later) each message new read such =
    (each.0, each.1, passes-on Is remaining one.1 now later each.2 message new read such)

-- one more was read
pub passing-on : {S : Type 0} (Is : Message → Type 0) (remaining : S → Option (List ℕ)) (old now new : Socket S) (count : ℕ)
    → IsPassing Is remaining old now count → (message : Message) → Reads remaining now new (Ok message) → Is message → IsPassing Is remaining old new (count + 1)
passing-on Is remaining old now new count was message read such = record {
  passed = was.passed ++ ((message, new) ∷ []);
  each = passes-on Is remaining old now was.passed was.each message new read such;
  many = length-append was.passed ((message, new) ∷ []) ∙ ap (λ (n : ℕ). n + 1) was.many;
}

-- What was read was a binary message or another, and so no close.
pub no-close : {S : Type 0} (remaining : S → Option (List ℕ)) (now new : Socket S) (result : Got)
    → IfBinary result (λ payload. Reads remaining now new (Ok (Kind.Binary payload)))
    → (result ≡ got.Other → (message : Message) × Reads remaining now new (Ok message) × IsOther message)
    → ((payload : List ℕ) × (result ≡ got.Binary payload)) ⊎ (result ≡ got.Other) → (message : Message) × Reads remaining now new (Ok message) × IsNoClose message
no-close remaining now new result taken other (inl told) = (
  Kind.Binary told.0,
  subst (λ (g : Got). IfBinary g (λ payload. Reads remaining now new (Ok (Kind.Binary payload)))) told.1 taken,
  λ (is : got.Binary told.0 ≡ got.Ended). cc,
)
no-close remaining now new result taken other (inr told) =
    let read = other told in (read.0, read.1, λ (is : got_of read.0 ≡ got.Ended). cc read.2)

few-of : {S : Type 0} (Is : Message → Type 0) (remaining : S → Option (List ℕ)) (old now : Socket S) (count : ℕ) → IsPassing Is remaining old now count
    → count < 1024 → PassesFew Is remaining old now
few-of Is remaining old now count was few = record { passed = was.passed; each = was.each; few = subst (λ (n : ℕ). n < 1024) (sym was.many) few }

-- a binary message behind them
pub takes-binary : {S : Type 0} (remaining : S → Option (List ℕ)) (old now new : Socket S) (payload : List ℕ) (count : ℕ)
    → IsPassing IsOther remaining old now count → count < 1024 → Reads remaining now new (Ok (Kind.Binary payload)) → TakesBinary remaining old new payload
takes-binary remaining old now new payload count was few read =
    record { before = now; others = few-of IsOther remaining old now count was few; read = read }

-- nothing behind them
pub passes-all : {S : Type 0} (Is : Message → Type 0) (remaining : S → Option (List ℕ)) (old now new : Socket S) (count : ℕ)
    → IsPassing Is remaining old now count → count < 1024 → (error : Error) × Reads remaining now new (Err error) × IsWaiting error
    → PassesAll Is remaining old new
passes-all Is remaining old now new count was few out =
    record { before = now; passed = few-of Is remaining old now count was few; error = out.0; read = out.1; waits = out.2 }

-- all of them that may be passed over
pub passes-most : {S : Type 0} (remaining : S → Option (List ℕ)) (old now : Socket S) (count : ℕ) → IsPassing IsOther remaining old now count
    → count ≡ 1024 → FindsNone remaining old now
passes-most remaining old now count was most = inr (was.passed, was.each, was.many ∙ most)

-- what is taken behind the question is its answer
pub answered-by : {S E : Type 0} (contents remaining : S → Option (List ℕ)) (old asked new : Socket S) (question : List ℕ)
    → Writes contents old asked (write_step old.conn (binary question)) → (result : Result (List ℕ) E) → IfOk result (TakesBinary remaining asked new)
    → IfOk result (Answers contents remaining old new question)
answered-by contents remaining old asked new question written (Ok answer) taken = record { asked = asked; written = written; taken = taken }
answered-by contents remaining old asked new question written (Err fail) taken = tt
