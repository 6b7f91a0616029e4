-- Links that are found, dialled and asked.
use Rattle.std.proofs.Common.{◌≡◌, ℕ, List, [], ◌∷◌, ◌++◌, length, true, false, Option, None, Some, Result, Ok, Err, IsTrue, IsSome, IfOk, if◌then◌else◌, inr, refl, sym, ◌∙◌, ap, subst}
use Rattle.std.specs.Prelude.{is_some}
use Rattle.std.specs.Option.{option_map}
use Rattle.std.proofs.lemmas.Bool.{false≢true}
use Rattle.plain_values.specs.declared.headers.Headers.{Headers}
use Rattle.message_values.specs.declared.state.Settings.{Settings}
use Rattle.message_values.specs.declared.reply.ServerToAgent.{ServerToAgent}
use Rattle.edge_devices.specs.declared.dialers.DialerCall.TheVariants.{Dial, Exchange}
use Rattle.edge_devices.specs.declared.dialers.DialFail.{DialFail}
use Rattle.edge_devices.specs.declared.dialers.DialFail.TheVariants.{Fault, NoMemory}
use Rattle.edge_devices.specs.declared.dialers.LinkFail.TheVariants as links
use Rattle.edge_devices.specs.declared.links.DeadCause.{DeadCause}
use Rattle.edge_devices.specs.declared.links.DeadCause.TheVariants as causes
use Rattle.edge_devices.specs.declared.endpoints.Endpoint.{Endpoint}
use Rattle.edge_devices.specs.Dialers.{DialerState, Dials, Exchanges, exchange_of}
use Rattle.edge_devices.specs.Endpoints.{endpoint_of, is_endpoint, reading_of}
use Rattle.agent_rules.specs.Half.{target}
use Rattle.agent_state.specs.View.{AgentView}
use Rattle.agent_rounds.specs.declared.held.Dialled.{Dialled}
use Rattle.agent_rounds.specs.declared.held.Held.{Held}
use Rattle.agent_rounds.specs.declared.ends.AgentEnd.TheVariants as ends
use Rattle.agent_rounds.specs.Identifying.{dialled_headers}
use Rattle.agent_rounds.specs.Status.{HeldLink, HeldView, is_to, without_link}
use Rattle.agent_rounds.specs.Stages.{Stage}
use Rattle.agent_rounds.specs.Parts.{AsksReport, DialsTarget, HasLink, IsReplyTo, LinksBy, carried, idle_link, idle_to, question_of, value_of}
use Rattle.agent_rounds.specs.Moments.{DialsTo, held_view, link_view, number_held, with_agent, with_dialer, with_held}

some≢none : {A : Type 0} {x : A} → Some x ≡ None → ⊥
some≢none is = cc

-- an endpoint that was read of a text of the grammar is the one that the text says
pub read_as : (to : Endpoint) (text good : List ℕ) → Some to ≡ reading_of text → text ≡ good → is_endpoint good ≡ true → to ≡ endpoint_of good
read_as to text good read same right =
    let is : Some to ≡ Some (endpoint_of good) =
    read ∙ (ap reading_of same ∙ ap (λ b. if b then Some (endpoint_of good) else None) right)
    in
    cc

module _ {L : Type 0} (number : L → ℕ) (uid : List ℕ) (to : Settings) (old new : DialerState) (reached : Endpoint) (told : Headers) (reached_is : reached ≡ endpoint_of to.endpoint)
    (told_is : told ≡ dialled_headers uid to.headers) where
  pub dial_done : (link kept : L) (named endpoint : List ℕ) (headers : Headers) → kept ≡ link → named ≡ uid → endpoint ≡ to.endpoint → headers ≡ to.headers → (IsTrue new.told → number link ≡ length old.calls)
      → Dials {T = L} old new (λ link. Dial reached told (is_some link)) (Ok link)
      → DialsTo number uid to old new (Some (record { link = kept; uid = named; endpoint = endpoint; headers = headers }))
  dial_done link kept named endpoint headers kept_is named_is endpoint_is headers_is numbered dials = record {
    answer = Ok (number link);
    numbered = numbered;
    call = record {
      told = dials.told;
      calls = λ told. dials.calls told ∙ (λ i. old.calls ++ (Dial (reached_is i) (told_is i) true ∷ []));
      count = dials.count;
      fault = λ is. cc;
      want_count = dials.want_count;
      want = λ is. cc;
      no_want = λ is. dials.no_want refl;
    };
    given = λ i. Some (record { number = number (kept_is i); uid = named_is i; endpoint = endpoint_is i; headers = headers_is i });
  }

  pub dial_refused : (fail : DialFail) → Dials {T = L} old new (λ link. Dial reached told (is_some link)) (Err fail) → DialsTo number uid to old new None
  dial_refused Fault dials = record {
    answer = Err Fault;
    numbered = tt;
    call = record {
      told = dials.told;
      calls = λ told. dials.calls told ∙ (λ i. old.calls ++ (Dial (reached_is i) (told_is i) false ∷ []));
      count = dials.count;
      fault = λ is. dials.fault refl;
      want_count = dials.want_count;
      want = λ is. cc;
      no_want = λ is. dials.no_want refl;
    };
    given = refl;
  }
  dial_refused NoMemory dials = record {
    answer = Err NoMemory;
    numbered = tt;
    call = record {
      told = dials.told;
      calls = dials.calls;
      count = dials.count;
      fault = λ is. cc;
      want_count = dials.want_count;
      want = λ is. dials.want refl;
      no_want = λ is. absurd (false≢true (sym is));
    };
    given = refl;
  }

-- the link held is to the target, or it isn't
module _ {L : Type 0} (number : L → ℕ) (uid : List ℕ) (to : Settings) (held : Held L) (dialled : Dialled L) (is : held.link ≡ Some dialled) where
  pub holds_found : is_to uid to (link_view number dialled) ≡ true → idle_to uid to (held_view number held) ≡ number_held (held_view number held)
  holds_found right =
      let P : Option (Dialled L) → Type 0 = λ l. idle_to uid to (held_view number (record held { link = l })) ≡ number_held (held_view number (record held { link = l })) in
      subst P (sym is) (ap (λ b. if b then Some (number dialled.link) else None) right)

  pub holds_none : is_to uid to (link_view number dialled) ≡ false → idle_to uid to (held_view number held) ≡ None
  holds_none wrong =
      let P : Option (Dialled L) → Type 0 = λ l. idle_to uid to (held_view number (record held { link = l })) ≡ None in
      subst P (sym is) (ap (λ b. if b then Some (number dialled.link) else None) wrong)

-- the link of the same identifier and settings
pub idle_same : (uid named : List ℕ) (to is : Settings) (held : HeldView) (found : Option ℕ) → uid ≡ named → to ≡ is → idle_to uid to held ≡ found → idle_to named is held ≡ found
idle_same uid named to is held found same_uid same_to idle =
    subst (λ u. idle_to u is held ≡ found) same_uid (subst (λ t. idle_to uid t held ≡ found) same_to idle)

-- the link that was found
pub link_found : (s : Stage) (found : Option ℕ) → IsSome found → idle_link s ≡ found → HasLink s s (Ok found)
link_found s None some is = absurd (false≢true some)
link_found s (Some number) some is = subst (λ k. LinksBy k s s (Ok (Some number))) (sym is) (refl, refl)

-- without one the target was dialled, or memory was wanting
pub link_dialled_now : (s t : Stage) (link : Option ℕ) → idle_link s ≡ None → DialsTarget s t link → HasLink s t (Ok link)
link_dialled_now s t link none dials = subst (λ k. LinksBy k s t (Ok link)) (sym none) dials

pub link_wanting : (s t : Stage) → idle_link s ≡ None → t ≡ s → HasLink s t (Err ends.NoMemory)
link_wanting s t none same = subst (λ k. LinksBy k s t (Err ends.NoMemory)) (sym none) (refl, same)

module _ {L : Type 0} (number : L → ℕ) (agent : AgentView) (s : Stage) (held : HeldView) (old new : DialerState) where
  abbrev at : HeldView → DialerState → Stage
  at h d = with_agent agent (with_held h (with_dialer d s))

  abbrev target_link : ℕ → HeldLink
  target_link n = record { number = n; uid = agent.half.saved.uid; endpoint = (target agent.half).endpoint; headers = (target agent.half).headers }

  dialled_by : (dialled : Dialled L) (answer : Result ℕ DialFail) → IfOk answer (λ number. IsTrue new.told → number ≡ length old.calls)
      → Dials old new (λ number. Dial (endpoint_of (target agent.half).endpoint) (dialled_headers agent.half.saved.uid (target agent.half).headers) (is_some number)) answer
      → Some (link_view number dialled) ≡ option_map target_link (value_of answer)
      → DialsTarget (at held old) (at (record held { link = Some (link_view number dialled) }) new) (Some (number dialled.link))
  dialled_by dialled (Ok n) numbered call given = record {
    answer = Ok n;
    numbered = numbered;
    call = call;
    rest = ap (λ link. at (record held { link = link }) new) given;
    given = ap (λ link. option_map (λ (l : HeldLink). l.number) link) given;
  }
  dialled_by dialled (Err fail) numbered call given = absurd (some≢none given)

  refused_by : (answer : Result ℕ DialFail) → IfOk answer (λ number. IsTrue new.told → number ≡ length old.calls)
      → Dials old new (λ number. Dial (endpoint_of (target agent.half).endpoint) (dialled_headers agent.half.saved.uid (target agent.half).headers) (is_some number)) answer
      → None ≡ option_map target_link (value_of answer)
      → DialsTarget (at held old) (at held new) None
  refused_by (Ok n) numbered call given = absurd (some≢none (sym given))
  refused_by (Err fail) numbered call given = record { answer = Err fail; numbered = numbered; call = call; rest = refl; given = refl }

  pub target_dialled : (uid : List ℕ) (to : Settings) (dialled : Dialled L) → uid ≡ agent.half.saved.uid → to ≡ target agent.half → DialsTo number uid to old new (Some dialled)
      → DialsTarget (at held old) (at (record held { link = Some (link_view number dialled) }) new) (Some (number dialled.link))
  target_dialled uid to dialled named is dials =
      let d : DialsTo number agent.half.saved.uid (target agent.half) old new (Some dialled) =
      subst (λ u. DialsTo number u (target agent.half) old new (Some dialled)) named (subst (λ t. DialsTo number uid t old new (Some dialled)) is dials)
      in
      dialled_by dialled d.answer d.numbered d.call d.given

  pub target_refused : (uid : List ℕ) (to : Settings) → uid ≡ agent.half.saved.uid → to ≡ target agent.half → DialsTo number uid to old new None → DialsTarget (at held old) (at held new) None
  target_refused uid to named is dials =
      let d : DialsTo number agent.half.saved.uid (target agent.half) old new None =
      subst (λ u. DialsTo number u (target agent.half) old new None) named (subst (λ t. DialsTo number uid t old new None) is dials)
      in
      refused_by d.answer d.numbered d.call d.given

module _ (agent : AgentView) (s : Stage) (bytes question : List ℕ) (old new : DialerState) (held : HeldView) (n : ℕ) (linked : number_held held ≡ Some n)
    (asked : question ≡ question_of (target agent.half) bytes) where
  abbrev then_at : HeldView → DialerState → Stage
  then_at h d = with_agent agent (with_held h (with_dialer d s))

  -- the link died
  pub asked_dead : (L : Type 0) (cause : DeadCause) → Exchanges old new (Exchange n question) (exchange_of {L = L} (Err cause))
      → AsksReport bytes (number_held held) (then_at held old) (then_at (without_link held) new) (Ok None)
  asked_dead L causes.LinkFault call =
      subst (λ k. AsksReport bytes k (then_at held old) (then_at (without_link held) new) (Ok None)) (sym linked)
      (record { answer = Err links.Fault; call = subst (λ q. Exchanges old new (Exchange n q) (Err links.Fault)) asked call; rest = refl; hears = refl })
  asked_dead L causes.NoMemory call =
      subst (λ k. AsksReport bytes k (then_at held old) (then_at (without_link held) new) (Ok None)) (sym linked)
      (record { answer = Err links.NoMemory; call = subst (λ q. Exchanges old new (Exchange n q) (Err links.NoMemory)) asked call; rest = refl; hears = refl })

  -- the link answered
  pub asked_live : (answer : List ℕ) (reply : Option ServerToAgent) (after : HeldView) → after ≡ held → Exchanges old new (Exchange n question) (Ok answer)
      → IsReplyTo agent.half.saved.uid (carried (target agent.half) answer) reply
      → AsksReport bytes (number_held held) (then_at held old) (then_at after new) (Ok reply)
  asked_live answer reply after same call hears =
      subst (λ k. AsksReport bytes k (then_at held old) (then_at after new) (Ok reply)) (sym linked)
      (record {
        answer = Ok answer;
        call = subst (λ q. Exchanges old new (Exchange n q) (Ok answer)) asked call;
        rest = ap (λ h. then_at h new) same;
        hears = hears;
      })

  -- it answered, and there was no memory to read the answer
  pub asked_wanting : (answer : List ℕ) (after : HeldView) → after ≡ held → Exchanges old new (Exchange n question) (Ok answer)
      → AsksReport bytes (number_held held) (then_at held old) (then_at after new) (Err ends.NoMemory)
  asked_wanting answer after same call =
      subst (λ k. AsksReport bytes k (then_at held old) (then_at after new) (Err ends.NoMemory)) (sym linked)
      (inr (record {
        answer = Ok answer;
        call = subst (λ q. Exchanges old new (Exchange n q) (Ok answer)) asked call;
        rest = ap (λ h. then_at h new) same;
        hears = refl;
      }))
