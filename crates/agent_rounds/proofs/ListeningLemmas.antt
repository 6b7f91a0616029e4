-- Looks for messages that came unasked, one after another.
use Rattle.std.proofs.Common.{◌≡◌, ◌∙◌, ◌<◌, ◌+◌, ◌-◌, ℕ, zero, suc, List, Bool, true, false, Option, None, Some, Result, Ok, Err, inl, refl, sym, subst, ap, arith}
use Rattle.std.specs.Prelude.{IsSome, if◌then◌else◌}
use Rattle.std.specs.Option.{option_map}
use Rattle.std.proofs.lemmas.Bool.{false≢true}
use Rattle.message_values.specs.declared.reply.ServerToAgent.{ServerToAgent}
use Rattle.agent_rounds.specs.declared.held.Dialled.{Dialled}
use Rattle.agent_rounds.specs.declared.held.Held.{Held}
use Rattle.edge_devices.specs.declared.dialers.DialerCall.TheVariants.{Arrived}
use Rattle.edge_devices.specs.declared.dialers.LinkFail.TheVariants as links
use Rattle.edge_devices.specs.declared.links.DeadCause.{DeadCause}
use Rattle.edge_devices.specs.declared.links.DeadCause.TheVariants as causes
use Rattle.edge_devices.specs.Dialers.{DialerState, Exchanges, exchange_of}
use Rattle.agent_rounds.specs.declared.ends.AgentEnd.{AgentEnd}
use Rattle.agent_rounds.specs.declared.ends.Pause.{Pause}
use Rattle.agent_rounds.specs.declared.listening.Arrival.{Arrival}
use Rattle.agent_rounds.specs.declared.listening.Arrival.TheVariants.{Quiet, Came, Gone}
use Rattle.agent_rounds.specs.Listening.{AsksQuietServer, Drains, DrainsLink, DrainsOn, Listens, ListensBy, ListensWith, Looks, LooksOn, WaitsInParts, WaitsOn, arrival_of, arrival_of_message, longest_part, most_looks}
use Rattle.agent_rounds.specs.Moments.{held_view, link_view, number_held, with_dialer, with_held}
use Rattle.agent_rounds.specs.Parts.{AsksReport, HasLink, idle_link}
use Rattle.agent_rounds.specs.Replies.{WaitsFor}
use Rattle.agent_rounds.specs.Stages.{Stage, Then, Gives}
use Rattle.agent_rounds.specs.Status.{HeldLink, HeldView, without_link}
use Rattle.agent_rounds.proofs.AreaLemmas.{Keeps, asked_settling, asks_keep, at_either, ends_keep, gives_keep, links_keep, no_fewer, same_of, then_keeps}
use Rattle.agent_rounds.proofs.CauseLemmas.{EndsOutside, asked_outside, gives_outside, links_outside, never_ok, then_outside, waits_outside}
use Rattle.agent_rounds.proofs.RunLemmas.{goes_on}

-- ---- one look

module _ (s : Stage) (held : HeldView) (old new : DialerState) where
  abbrev at : HeldView → DialerState → Stage
  at h d = with_held h (with_dialer d s)

  -- no link is held
  pub listened_to_none : number_held held ≡ None → Listens (at held old) (at held old) (Ok Quiet)
  listened_to_none none = subst (λ k. LooksOn k (at held old) (at held old) (Ok Quiet)) (sym none) (refl, refl)

  -- the link is dead
  pub listened_dead : (n : ℕ) → number_held held ≡ Some n → (L : Type 0) (cause : DeadCause) → Exchanges old new (Arrived n) (exchange_of {L = L} {T = Option (List ℕ)} (Err cause))
      → Listens (at held old) (at (without_link held) new) (Ok Gone)
  listened_dead n linked L causes.LinkFault call =
      subst (λ k. LooksOn k (at held old) (at (without_link held) new) (Ok Gone)) (sym linked) (record { answer = Err links.Fault; call = call; rest = refl; given = refl })
  listened_dead n linked L causes.NoMemory call =
      subst (λ k. LooksOn k (at held old) (at (without_link held) new) (Ok Gone)) (sym linked) (record { answer = Err links.NoMemory; call = call; rest = refl; given = refl })

  -- a message had come, or none
  pub listened_live : (n : ℕ) → number_held held ≡ Some n → (message : Option (List ℕ)) (arrival : Arrival) → arrival ≡ arrival_of_message message → (after : HeldView) → after ≡ held
      → Exchanges old new (Arrived n) (Ok message) → Listens (at held old) (at after new) (Ok arrival)
  listened_live n linked message arrival is after same call =
      subst (λ k. LooksOn k (at held old) (at after new) (Ok arrival)) (sym linked)
      (record { answer = Ok message; call = call; rest = ap (λ h. at h new) same; given = ap (λ (a : Arrival). Ok a) is })

-- ---- looks before a report

-- so many looks found a message each: what the others lead to, all of them lead to
abbrev pub Drained : ℕ → ℕ → Stage → Stage → Type 0
Drained looks done start now = (t : Stage) (result : Result Bool AgentEnd) → Drains (looks - done) now t result → Drains looks start t result

pub drained_first : (looks : ℕ) (start : Stage) → Drained looks 0 start start
drained_first looks start = let none : looks - 0 ≡ looks = omega arith in λ t result all. subst (λ left. Drains left start t result) none all

module _ (looks done : ℕ) (start now next : Stage) (within : done < looks) (so_far : Drained looks done start now) where
  one_look : looks - done ≡ suc (looks - (done + 1))
  one_look = omega (arith, within)

  pub drained_on : Listens now next (Ok Came) → Drained looks (done + 1) start next
  drained_on came = λ t result more. so_far t result
      (subst (λ left. Drains left now t result) (sym one_look)
      (goes_on Listens (DrainsOn (Drains (looks - (done + 1)))) now next t Came result came more))

  pub drained_quiet : Listens now next (Ok Quiet) → Drains looks start next (Ok true)
  drained_quiet quiet = so_far next (Ok true)
      (subst (λ left. Drains left now next (Ok true)) (sym one_look)
      (goes_on Listens (DrainsOn (Drains (looks - (done + 1)))) now next next Quiet (Ok true) quiet (refl, refl)))

  pub drained_gone : Listens now next (Ok Gone) → Drains looks start next (Ok false)
  drained_gone gone = so_far next (Ok false)
      (subst (λ left. Drains left now next (Ok false)) (sym one_look)
      (goes_on Listens (DrainsOn (Drains (looks - (done + 1)))) now next next Gone (Ok false) gone (refl, refl)))

pub drained_spent : (looks done : ℕ) (start now : Stage) → looks - done ≡ 0 → Drained looks done start now → Drains looks start now (Ok false)
drained_spent looks done start now none so_far = so_far now (Ok false) (subst (λ left. Drains left now now (Ok false)) (sym none) (refl, refl))

-- ---- a report behind them

pub some_number : {L : Type 0} (number : L → ℕ) (held : Held L) → IsSome held.link → IsSome (number_held (held_view number held))
some_number {L} number held some = by_link held.link some
  where
    by_link : (o : Option (Dialled L)) → IsSome o → IsSome (option_map (λ (link : HeldLink). link.number) (option_map (link_view number) o))
    by_link None none = none
    by_link (Some dialled) some = refl

module _ (bytes : List ℕ) (s m n t : Stage) (found : Option ℕ) where
  -- the link is quiet, and the report is asked
  pub asked_quiet : (result : Result (Option ServerToAgent) AgentEnd) → IsSome found → HasLink s m (Ok found) → Drains most_looks m n (Ok true) → AsksReport bytes found n t result
      → AsksQuietServer bytes s t result
  asked_quiet result some linked drained asked =
      goes_on HasLink (λ link. Then (DrainsLink link) (AsksReport bytes)) s m t found result linked (by_link found some asked)
    where
      by_link : (link : Option ℕ) → IsSome link → AsksReport bytes link n t result → Then (DrainsLink link) (AsksReport bytes) m t result
      by_link None none asked = absurd (false≢true none)
      by_link (Some number) some asked =
          goes_on (DrainsLink (Some number)) (AsksReport bytes) m n t (Some number) result
          (goes_on (Drains most_looks) (λ quiet. Gives (if quiet then Some number else None)) m n n true (Ok (Some number)) drained (refl, refl)) asked

  -- it isn't, and the report is given up
  pub unasked_loud : IsSome found → HasLink s m (Ok found) → Drains most_looks m n (Ok false) → AsksQuietServer bytes s n (Ok None)
  unasked_loud some linked drained =
      goes_on HasLink (λ link. Then (DrainsLink link) (AsksReport bytes)) s m n found (Ok None) linked (by_link found some)
    where
      by_link : (link : Option ℕ) → IsSome link → Then (DrainsLink link) (AsksReport bytes) m n (Ok None)
      by_link None none = absurd (false≢true none)
      by_link (Some number) some =
          goes_on (DrainsLink (Some number)) (AsksReport bytes) m n n None (Ok None)
          (goes_on (Drains most_looks) (λ quiet. Gives (if quiet then Some number else None)) m n n false (Ok None) drained (refl, refl)) (refl, refl)

-- no link was dialled
pub unasked : (bytes : List ℕ) (s m : Stage) → HasLink s m (Ok None) → AsksQuietServer bytes s m (Ok None)
unasked bytes s m linked =
    goes_on HasLink (λ link. Then (DrainsLink link) (AsksReport bytes)) s m m None (Ok None) linked
    (goes_on (DrainsLink None) (AsksReport bytes) m m m None (Ok None) (refl, refl) (refl, refl))

-- ---- parts of a wait

-- so many parts were waited, and no message came
abbrev pub Waited : ℕ → ℕ → ℕ → Bool → Stage → Stage → Type 0
Waited parts last done restart start now =
    (t : Stage) (result : Result Bool AgentEnd) → WaitsInParts (parts - done) last restart now t result → WaitsInParts parts last restart start t result

pub waited_first : (parts last : ℕ) (restart : Bool) (start : Stage) → Waited parts last 0 restart start start
waited_first parts last restart start =
    let none : parts - 0 ≡ parts = omega arith in λ t result all. subst (λ left. WaitsInParts left last restart start t result) none all

module _ (parts last done : ℕ) (restart : Bool) (start now mid next : Stage) (within : done < parts) (so_far : Waited parts last done restart start now) where
  one_part : parts - done ≡ suc (parts - (done + 1))
  one_part = omega (arith, within)

  abbrev Rest : Bool → Stage → Stage → Result Bool AgentEnd → Type 0
  Rest waited = Then Listens (WaitsOn restart (WaitsInParts (parts - (done + 1)) last restart))

  part_done : (waited : Bool) (arrival : Arrival) (t : Stage) (result : Result Bool AgentEnd) → WaitsFor longest_part restart now mid (Ok waited) → Listens mid next (Ok arrival)
      → WaitsOn restart (WaitsInParts (parts - (done + 1)) last restart) arrival next t result → WaitsInParts parts last restart start t result
  part_done waited arrival t result wait looked more = so_far t result
      (subst (λ left. WaitsInParts left last restart now t result) (sym one_part)
      (goes_on (WaitsFor longest_part restart) Rest now mid t waited result wait
      (goes_on Listens (WaitsOn restart (WaitsInParts (parts - (done + 1)) last restart)) mid next t arrival result looked more)))

  -- a message ended the wait
  pub waited_came : WaitsFor longest_part restart now mid (Ok restart) → Listens mid next (Ok Came) → WaitsInParts parts last restart start next (Ok restart)
  waited_came wait looked = part_done restart Came next (Ok restart) wait looked (refl, refl)

  -- none came
  pub waited_quiet : WaitsFor longest_part restart now mid (Ok restart) → Listens mid next (Ok Quiet) → Waited parts last (done + 1) restart start next
  waited_quiet wait looked = λ t result more. part_done restart Quiet t result wait looked more

  pub waited_gone : WaitsFor longest_part restart now mid (Ok restart) → Listens mid next (Ok Gone) → Waited parts last (done + 1) restart start next
  waited_gone wait looked = λ t result more. part_done restart Gone t result wait looked more

module _ (parts last done : ℕ) (restart : Bool) (start now : Stage) (within : done < parts) (so_far : Waited parts last done restart start now) where
  part_next : parts - done ≡ suc (parts - (done + 1))
  part_next = omega (arith, within)

  -- the clock failed
  pub waited_out : (next : Stage) (end : AgentEnd) → WaitsFor longest_part restart now next (Err end) → WaitsInParts parts last restart start next (Err end)
  waited_out next end wait = so_far next (Err end) (subst (λ left. WaitsInParts left last restart now next (Err end)) (sym part_next) (inl wait))

-- the last part
module _ (parts last done : ℕ) (restart : Bool) (start now : Stage) (none : parts - done ≡ 0) (so_far : Waited parts last done restart start now) where
  pub waited_last : (mid next : Stage) (arrival : Arrival) → WaitsFor last restart now mid (Ok restart) → Listens mid next (Ok arrival)
      → WaitsInParts parts last restart start next (Ok restart)
  waited_last mid next arrival wait looked = so_far next (Ok restart)
      (subst (λ left. WaitsInParts left last restart now next (Ok restart)) (sym none)
      (goes_on (WaitsFor last restart) (λ _. Then Listens (λ _. Gives restart)) now mid next restart (Ok restart) wait
      (goes_on Listens (λ _. Gives restart) mid next next arrival (Ok restart) looked (refl, refl))))

  pub waited_last_out : (next : Stage) (end : AgentEnd) → WaitsFor last restart now next (Err end) → WaitsInParts parts last restart start next (Err end)
  waited_last_out next end wait = so_far next (Err end) (subst (λ left. WaitsInParts left last restart now next (Err end)) (sym none) (inl wait))

-- ---- how they end

looks_outside : (number : ℕ) → EndsOutside (Looks number)
looks_outside number s t end looked = absurd (never_ok end (arrival_of looked.answer) looked.given)

on_outside : (link : Option ℕ) → EndsOutside (LooksOn link)
on_outside None = gives_outside Quiet
on_outside (Some number) = looks_outside number

listens_outside : EndsOutside Listens
listens_outside s t end looked = on_outside (number_held s.held) s t end looked

drains_on_outside : (more : Stage → Stage → Result Bool AgentEnd → Type 0) → EndsOutside more → (arrival : Arrival) → EndsOutside (DrainsOn more arrival)
drains_on_outside more out Quiet = gives_outside true
drains_on_outside more out Came = out
drains_on_outside more out Gone = gives_outside false

drains_outside : (looks : ℕ) → EndsOutside (Drains looks)
drains_outside zero = gives_outside false
drains_outside (suc looks) = then_outside Listens (DrainsOn (Drains looks)) listens_outside (drains_on_outside (Drains looks) (drains_outside looks))

link_outside : (link : Option ℕ) → EndsOutside (DrainsLink link)
link_outside None = gives_outside None
link_outside (Some number) =
    then_outside (Drains most_looks) (λ quiet. Gives (if quiet then Some number else None)) (drains_outside most_looks)
    (λ quiet. gives_outside (if quiet then Some number else None))

pub quiet_outside : (bytes : List ℕ) → EndsOutside (AsksQuietServer bytes)
quiet_outside bytes =
    then_outside HasLink (λ link. Then (DrainsLink link) (AsksReport bytes)) (λ s t end linked. links_outside (idle_link s) s t end linked)
    (λ link. then_outside (DrainsLink link) (AsksReport bytes) (link_outside link) (asked_outside bytes))

waits_on_outside : (restart : Bool) (more : Stage → Stage → Result Bool AgentEnd → Type 0) → EndsOutside more → (arrival : Arrival) → EndsOutside (WaitsOn restart more arrival)
waits_on_outside restart more out Quiet = out
waits_on_outside restart more out Came = gives_outside restart
waits_on_outside restart more out Gone = out

parts_outside : (parts last : ℕ) (restart : Bool) → EndsOutside (WaitsInParts parts last restart)
parts_outside zero last restart =
    then_outside (WaitsFor last restart) (λ _. Then Listens (λ _. Gives restart)) (waits_outside (Some last) restart)
    (λ _. then_outside Listens (λ _. Gives restart) listens_outside (λ _. gives_outside restart))
parts_outside (suc parts) last restart =
    then_outside (WaitsFor longest_part restart) (λ _. Then Listens (WaitsOn restart (WaitsInParts parts last restart))) (waits_outside (Some longest_part) restart)
    (λ _. then_outside Listens (WaitsOn restart (WaitsInParts parts last restart)) listens_outside
    (waits_on_outside restart (WaitsInParts parts last restart) (parts_outside parts last restart)))

by_nanos_outside : (nanos : Option ℕ) (restart : Bool) → EndsOutside (ListensBy nanos restart)
by_nanos_outside None restart = gives_outside restart
by_nanos_outside (Some nanos) restart = parts_outside _ _ restart

pub heeded_outside : (pause : Pause) → EndsOutside (ListensWith pause)
heeded_outside pause = by_nanos_outside pause.nanos pause.restart

-- ---- what they leave of the area

module _ (early : Bool) (from : Stage) where
  looks_keep : (number : ℕ) → Keeps early early from (Looks number)
  looks_keep number s t result stands looked =
      at_either early from s t result stands (ap (λ (u : Stage). u.folder.told) looked.rest) (no_fewer s.folder t.folder (ap (λ (u : Stage). u.folder) looked.rest))
      (same_of s t (ap (λ (u : Stage). u.folder) looked.rest) (ap (λ (u : Stage). u.held.settling) looked.rest ∙ asked_settling looked.answer s.held) (ap (λ (u : Stage). u.half.saved.config) looked.rest))

  on_keep : (link : Option ℕ) → Keeps early early from (LooksOn link)
  on_keep None = gives_keep early from Quiet
  on_keep (Some number) = looks_keep number

  listens_keep : Keeps early early from Listens
  listens_keep s t result stands looked = on_keep (number_held s.held) s t result stands looked

  drains_on_keep : (more : Stage → Stage → Result Bool AgentEnd → Type 0) → Keeps early early from more → (arrival : Arrival) → Keeps early early from (DrainsOn more arrival)
  drains_on_keep more keeps Quiet = gives_keep early from true
  drains_on_keep more keeps Came = keeps
  drains_on_keep more keeps Gone = gives_keep early from false

  drains_keep : (looks : ℕ) → Keeps early early from (Drains looks)
  drains_keep zero = gives_keep early from false
  drains_keep (suc looks) = then_keeps early early early from Listens (DrainsOn (Drains looks)) listens_keep (drains_on_keep (Drains looks) (drains_keep looks))

  link_keep : (link : Option ℕ) → Keeps early early from (DrainsLink link)
  link_keep None = gives_keep early from None
  link_keep (Some number) =
      then_keeps early early early from (Drains most_looks) (λ quiet. Gives (if quiet then Some number else None)) (drains_keep most_looks)
      (λ quiet. gives_keep early from (if quiet then Some number else None))

  quiet_keep : (bytes : List ℕ) → Keeps early early from (AsksQuietServer bytes)
  quiet_keep bytes =
      then_keeps early early early from HasLink (λ link. Then (DrainsLink link) (AsksReport bytes))
      (λ s t result stands linked. links_keep early from (idle_link s) s t result stands linked)
      (λ link. then_keeps early early early from (DrainsLink link) (AsksReport bytes) (link_keep link) (asks_keep early from bytes))

pub quiet_stands : (from : Stage) (bytes : List ℕ) → Keeps true true from (AsksQuietServer bytes)
quiet_stands from bytes = quiet_keep true from bytes

module _ (from : Stage) where
  waits_on_keep : (restart : Bool) (more : Stage → Stage → Result Bool AgentEnd → Type 0) → Keeps false false from more → (arrival : Arrival)
      → Keeps false false from (WaitsOn restart more arrival)
  waits_on_keep restart more keeps Quiet = keeps
  waits_on_keep restart more keeps Came = gives_keep false from restart
  waits_on_keep restart more keeps Gone = keeps

  parts_keep : (parts last : ℕ) (restart : Bool) → Keeps false false from (WaitsInParts parts last restart)
  parts_keep zero last restart =
      then_keeps false false false from (WaitsFor last restart) (λ _. Then Listens (λ _. Gives restart)) (ends_keep from (Some last) restart)
      (λ _. then_keeps false false false from Listens (λ _. Gives restart) (listens_keep false from) (λ _. gives_keep false from restart))
  parts_keep (suc parts) last restart =
      then_keeps false false false from (WaitsFor longest_part restart) (λ _. Then Listens (WaitsOn restart (WaitsInParts parts last restart)))
      (ends_keep from (Some longest_part) restart)
      (λ _. then_keeps false false false from Listens (WaitsOn restart (WaitsInParts parts last restart)) (listens_keep false from)
      (waits_on_keep restart (WaitsInParts parts last restart) (parts_keep parts last restart)))

  by_nanos_keep : (nanos : Option ℕ) (restart : Bool) → Keeps false false from (ListensBy nanos restart)
  by_nanos_keep None restart = gives_keep false from restart
  by_nanos_keep (Some nanos) restart = parts_keep _ _ restart

pub heeded_stands : (from : Stage) (pause : Pause) → Keeps false false from (ListensWith pause)
heeded_stands from pause = by_nanos_keep from pause.nanos pause.restart
