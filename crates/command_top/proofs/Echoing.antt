-- The program's own handler: what handlers may answer of which one alone is there, that answers each question with the question, is the message itself.
use Rattle.std.proofs.Common.{arith, ℕ, ◌≤◌, List, [], ◌∷◌, length, Option, None, Some, Bool, true, false}
use Rattle.std.specs.Prelude.{MatchBool, OnOk, Result, Ok, Err, is_err, nat_le, position, slice_get, option_and_then, option_map, if◌then◌else◌}
use Rattle.std.proofs.lemmas.Bool.{leb-true}
use Rattle.std.specs.Coded.{Coded-set, coded_option, codes}
use Rattle.std.specs.Str.{bytes_eq}
use Rattle.std.specs.declared.alloc.Global.{Global}
use Rattle.std.specs.declared.dyn_box.DynBox.{DynBox}
use mathlib.Core.Path.{PathP, ◌≡◌, Cosingl, ap, ap₂, contract', fun_ext, refl, subst, subst⁻¹, sym, transport, transport⁻¹, ◌∙◌}
use mathlib.Core.HLevel.{is_prop→PathP}
use mathlib.Core.HProp.{h_prop_ext}
use native.Mathlib.Bridge.{le_prop}
use Rattle.command_words.specs.declared.commands.Command.{Command}
use Rattle.message_values.specs.contracts.custom.CustomMessage as message_
use Rattle.message_values.specs.declared.custom.CustomMessage.{CustomMessage}
use Rattle.message_handlers.specs.Answers.{IsShort}
use Rattle.message_handlers.specs.Asking.{Answering, MayAnswer, boxed}
use Rattle.message_handlers.specs.Handling.{IsAnswered, IsHandled, handler_at, reply_with}
use Rattle.message_handlers.specs.Names.{names_of}
use Rattle.message_handlers.specs.declared.handler.CustomAnswer.{CustomAnswer}
use Rattle.message_handlers.specs.declared.stored.Handlers.{Handlers}
use Rattle.server_core.specs.declared.rows.Record.{Record}
use Rattle.command_top.specs.Judging.{is_fine}
use Rattle.edge_devices.specs.Streams.{SinkView}
use Rattle.server_sessions.specs.Wiring.{WireView}
use Rattle.command_top.specs.Notes.{Noted}
use Rattle.command_top.specs.Outcomes.{Outcome}
use Rattle.command_top.specs.Own.{echo_capability, echo_of, own}
use Rattle.command_top.specs.Seen.{HandlersView, Seen, Unchanged}

abbrev echo_answer : CustomMessage → CustomAnswer
echo_answer message = record { kind = message.kind; body = message.body }

outs_set : IsSet (Option CustomMessage)
outs_set = hlevel (Coded-set, coded_option, codes, message_.the_row.coded)

-- ---- one handler that gives this answer alone

module _ {H : Type 0} (answers : H → List ℕ → List ℕ → Option CustomAnswer → Type 0) (handler : H) (message : CustomMessage) (out : Option CustomMessage)
    (allows : (answer : Option CustomAnswer) → answers handler message.kind message.body answer ≡ (answer ≡ Some (echo_answer message))) where
  abbrev Allowed : (Option CustomAnswer → Type 0) → Type 0
  Allowed may = (answer : Option CustomAnswer) × may answer

  only_one : (x y : Cosingl (Some (echo_answer message))) → x ≡ y
  only_one x y = sym (contract' x.1) ∙ contract' y.1

  one_allowed : IsProp (Allowed (answers handler message.kind message.body))
  one_allowed = subst⁻¹ (λ (may : Option CustomAnswer → Type 0). IsProp (Allowed may)) (fun_ext allows) only_one

  answered_prop : IsProp (IsAnswered answers handler message out)
  answered_prop x y =
      let p : ◌≡◌ {A = Allowed (answers handler message.kind message.body)} (x.answer, x.allowed) (y.answer, y.allowed) = one_allowed (x.answer, x.allowed) (y.answer, y.allowed) in
      let short : PathP (λ i. IsShort (p i).0) x.short y.short = is_prop→PathP (λ i. IsShort (p i).0) (λ i. le_prop) x.short y.short in
      let sent : PathP (λ i. out ≡ option_map (reply_with message.capability) (p i).0) x.sent y.sent =
      is_prop→PathP (λ i. out ≡ option_map (reply_with message.capability) (p i).0) (λ i. outs_set out (option_map (reply_with message.capability) (p i).0)) x.sent y.sent in
      λ i. record { answer = (p i).0; allowed = (p i).1; short = short i; sent = sent i }

  answered_is : length message.body ≤ 65536 → IsAnswered answers handler message out ≡ (out ≡ Some message)
  answered_is fits = h_prop_ext answered_prop (outs_set out (Some message))
      (λ is. is.sent ∙ ap (option_map (reply_with message.capability)) (transport (allows is.answer) is.allowed))
      (λ same. record {
        answer = Some (echo_answer message);
        allowed = transport⁻¹ (allows (Some (echo_answer message))) refl;
        short = fits;
        sent = same;
      })

  by_length : (b : Bool) → nat_le (length message.body) 65536 ≡ b → MatchBool b (IsAnswered answers handler message out) (out ≡ None) ≡ (out ≡ (if b then Some message else None))
  by_length true fits = answered_is (leb-true (length message.body) 65536 fits)
  by_length false long = refl

  by_name : (b : Bool) → IsHandled answers (option_and_then (slice_get (handler ∷ [])) (position (λ (name : List ℕ). b) (echo_capability ∷ []))) message out
      ≡ (out ≡ (if b then (if nat_le (length message.body) 65536 then Some message else None) else None))
  by_name true = by_length (nat_le (length message.body) 65536) refl
  by_name false = refl

  echoed : IsHandled answers (handler_at (echo_capability ∷ []) (handler ∷ []) message.capability) message out ≡ (out ≡ echo_of message)
  echoed = by_name (bytes_eq echo_capability message.capability)

-- ---- a boxed one

-- a box of this kind of value answers so, whatever the value is
box_echoes : {V : Type 0} {P : V → Type 0} (answers : Answering V P) (at : V)
    → ((value : P at) (kind body : List ℕ) (answer : Option CustomAnswer) → answers (at, value) kind body answer ≡ (answer ≡ Some (record { kind = kind; body = body })))
    → (box : DynBox V Global P) → box.vtable ≡ at → (kind body : List ℕ) (answer : Option CustomAnswer) → boxed answers box kind body answer ≡ (answer ≡ Some (record { kind = kind; body = body }))
box_echoes {V} {P} answers at here box is kind body answer =
    subst⁻¹ (λ (v : V). (value : P v) → answers (v, value) kind body answer ≡ (answer ≡ Some (record { kind = kind; body = body }))) is (λ value. here value kind body answer) box.value

may_echo : {V : Type 0} {P : V → Type 0} (answers : Answering V P) (handlers : Handlers V P) (box : DynBox V Global P) → names_of handlers ≡ echo_capability ∷ [] → handlers.handlers.items ≡ box ∷ []
    → ((kind body : List ℕ) (answer : Option CustomAnswer) → boxed answers box kind body answer ≡ (answer ≡ Some (record { kind = kind; body = body })))
    → (message : CustomMessage) (out : Option CustomMessage) → MayAnswer answers handlers message out ≡ (out ≡ echo_of message)
may_echo {V} {P} answers handlers box named alone echoes message out =
    ap₂ (λ (names : List (List ℕ)) (items : List (DynBox V Global P)). IsHandled (boxed answers) (handler_at names items message.capability) message out) named alone
    ∙ echoed (boxed answers) box message out (echoes message.kind message.body)

-- ---- handlers that were made

-- what was answered without an error
pub on_ok : {T E : Type 0} {X : Type 0} (r : Result T E) → is_err r ≡ false → OnOk r X → X
on_ok (Ok value) is x = x
on_ok (Err fail) is x = cc

no_items : {A : Type 0} (items : List A) → length items ≡ 0 → items ≡ []
no_items [] is = refl
no_items (x ∷ items) is = absurd (omega (arith, is))

pub none_kept : {V : Type 0} {P : V → Type 0} (handlers : Handlers V P) → names_of handlers ≡ [] → handlers.handlers.items ≡ []
none_kept handlers none = no_items handlers.handlers.items (sym handlers.handlers.ok.0 ∙ sym handlers.paired ∙ handlers.names.ok.0 ∙ ap length none)

-- ---- the outcome with the program's own

own_view : {V : Type 0} {P : V → Type 0} (answers : Answering V P) (handlers : Handlers V P) (box : DynBox V Global P) (fine : Record → Bool) → names_of handlers ≡ echo_capability ∷ [] → handlers.handlers.items ≡ box ∷ []
    → ((kind body : List ℕ) (answer : Option CustomAnswer) → boxed answers box kind body answer ≡ (answer ≡ Some (record { kind = kind; body = body }))) → fine ≡ is_fine
    → ◌≡◌ {A = HandlersView} (record { names = names_of handlers; answers = MayAnswer answers handlers; fine = fine }) own
own_view answers handlers box fine named alone echoes same =
    let may : (message : CustomMessage) (out : Option CustomMessage) → MayAnswer answers handlers message out ≡ (out ≡ echo_of message) = may_echo answers handlers box named alone echoes in
    λ i. record { names = named i; answers = λ message out. may message out i; fine = same i }

pub own_outcome : {V : Type 0} {P : V → Type 0} (answers : Answering V P) (fine : Record → Bool) (command : Command) (before after : Seen) (unchanged : Unchanged) (status : ℕ) (handlers : Handlers V P)
    → Outcome (record { names = names_of handlers; answers = MayAnswer answers handlers; fine = fine }) command before after unchanged status
    → (box : DynBox V Global P) → names_of handlers ≡ echo_capability ∷ [] → handlers.handlers.items ≡ box ∷ [] → (at : V) → box.vtable ≡ at
    → ((value : P at) (kind body : List ℕ) (answer : Option CustomAnswer) → answers (at, value) kind body answer ≡ (answer ≡ Some (record { kind = kind; body = body })))
    → fine ≡ is_fine → Outcome own command before after unchanged status
own_outcome answers fine command before after unchanged status handlers ran box named alone at is here same =
    subst (λ (view : HandlersView). Outcome view command before after unchanged status) (own_view answers handlers box fine named alone (box_echoes answers at here box is) same) ran

-- the same of what is noted
pub own_noted : {V : Type 0} {P : V → Type 0} (answers : Answering V P) (command : Command) (old new : WireView) (status : ℕ) (before after : SinkView) (handlers : Handlers V P)
    → Noted (MayAnswer answers handlers) command old new status before after
    → (box : DynBox V Global P) → names_of handlers ≡ echo_capability ∷ [] → handlers.handlers.items ≡ box ∷ [] → (at : V) → box.vtable ≡ at
    → ((value : P at) (kind body : List ℕ) (answer : Option CustomAnswer) → answers (at, value) kind body answer ≡ (answer ≡ Some (record { kind = kind; body = body })))
    → Noted own.answers command old new status before after
own_noted answers command old new status before after handlers noted box named alone at is here =
    subst (λ (view : HandlersView). Noted view.answers command old new status before after) (own_view answers handlers box is_fine named alone (box_echoes answers at here box is) refl) noted
