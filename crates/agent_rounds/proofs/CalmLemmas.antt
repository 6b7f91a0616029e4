-- The parts of a round that ask and wait: they leave the agent, what is kept, the folder and the way of proving as they were.
use Rattle.std.proofs.Common.{◌≡◌, ◌∙◌, ℕ, zero, suc, ◌*◌, ◌-◌, List, Bool, true, false, Option, None, Some, Result, Ok, Err, inl, inr, refl, ap}
use Rattle.std.specs.Prelude.{if◌then◌else◌}
use Rattle.message_values.specs.declared.reply.ServerToAgent.{ServerToAgent}
use Rattle.edge_devices.specs.Folders.{FolderState}
use Rattle.edge_devices.specs.declared.dialers.LinkFail.{LinkFail}
use Rattle.agent_rules.specs.declared.saved.Saved.{Saved}
use Rattle.agent_rules.specs.Half.{AgentHalf}
use Rattle.agent_rounds.specs.declared.ends.AgentEnd.{AgentEnd}
use Rattle.agent_rounds.specs.declared.ends.Pause.{Pause}
use Rattle.agent_rounds.specs.declared.listening.Arrival.{Arrival}
use Rattle.agent_rounds.specs.declared.listening.Arrival.TheVariants.{Quiet, Came, Gone}
use Rattle.agent_rounds.specs.Listening.{AsksQuietServer, Drains, DrainsLink, DrainsOn, Listens, ListensBy, ListensWith, Looks, LooksOn, WaitsInParts, WaitsOn, longest_part, most_looks, parts_before}
use Rattle.agent_rounds.specs.Moments.{number_held}
use Rattle.agent_rounds.specs.Parts.{AsksLink, AsksReport, HasLink, LinksBy, held_asked, idle_link}
use Rattle.agent_rounds.specs.Replies.{EndsBy, EndsWith, WaitsFor}
use Rattle.agent_rounds.specs.Rounds.{AsksServer}
use Rattle.agent_rounds.specs.Stages.{Gives, Stage, Then}
use Rattle.agent_rounds.specs.Status.{HeldView}

pub record Calm (s t : Stage) : Type 0 where
  pub half : t.half ≡ s.half
  pub keeps : t.keeps ≡ s.keeps
  pub folder : t.folder ≡ s.folder
  pub prove : t.held.prove ≡ s.held.prove

abbrev pub IsCalm : {T : Type 0} → (Stage → Stage → Result T AgentEnd → Type 0) → Type 0
IsCalm {T = T} P = (s t : Stage) (result : Result T AgentEnd) → P s t result → Calm s t

pub calm_still : (s t : Stage) → t ≡ s → Calm s t
calm_still s t is = record {
  half = ap (λ (u : Stage). u.half) is;
  keeps = ap (λ (u : Stage). u.keeps) is;
  folder = ap (λ (u : Stage). u.folder) is;
  prove = ap (λ (u : Stage). u.held.prove) is;
}

calm_both : (s m t : Stage) → Calm s m → Calm m t → Calm s t
calm_both s m t one two = record {
  half = two.half ∙ one.half;
  keeps = two.keeps ∙ one.keeps;
  folder = two.folder ∙ one.folder;
  prove = two.prove ∙ one.prove;
}

module _ {A B : Type 0} (P : Stage → Stage → Result A AgentEnd → Type 0) (Q : A → Stage → Stage → Result B AgentEnd → Type 0) where
  then_calm : IsCalm P → ((a : A) → IsCalm (Q a)) → IsCalm (Then P Q)
  then_calm one two s t (Ok value) (m, (a, (begun, done))) = calm_both s m t (one s m (Ok a) begun) (two a m t (Ok value) done)
  then_calm one two s t (Err end) (inl ended) = one s t (Err end) ended
  then_calm one two s t (Err end) (inr (m, (a, (begun, ended)))) = calm_both s m t (one s m (Ok a) begun) (two a m t (Err end) ended)

pub gives_calm : {T : Type 0} (value : T) → IsCalm (Gives value)
gives_calm value s t result gives = calm_still s t gives.0

-- ---- a report is asked

asked_prove : {T : Type 0} (answer : Result T LinkFail) (held : HeldView) → (held_asked answer held).prove ≡ held.prove
asked_prove (Ok value) held = refl
asked_prove (Err fail) held = refl

dials_calm : IsCalm (LinksBy None)
dials_calm s t (Ok link) dialled = record {
  half = ap (λ (u : Stage). u.half) dialled.rest;
  keeps = ap (λ (u : Stage). u.keeps) dialled.rest;
  folder = ap (λ (u : Stage). u.folder) dialled.rest;
  prove = ap (λ (u : Stage). u.held.prove) dialled.rest;
}
dials_calm s t (Err end) wanted = calm_still s t wanted.1

links_calm : (link : Option ℕ) → IsCalm (LinksBy link)
links_calm (Some number) s t result given = gives_calm (Some number) s t result given
links_calm None s t result linked = dials_calm s t result linked

has_calm : IsCalm HasLink
has_calm s t result linked = links_calm (idle_link s) s t result linked

link_calm : (bytes : List ℕ) (number : ℕ) → IsCalm (AsksLink bytes number)
link_calm bytes number s t result asked = record {
  half = ap (λ (u : Stage). u.half) asked.rest;
  keeps = ap (λ (u : Stage). u.keeps) asked.rest;
  folder = ap (λ (u : Stage). u.folder) asked.rest;
  prove = ap (λ (u : Stage). u.held.prove) asked.rest ∙ asked_prove asked.answer s.held;
}

report_calm : (bytes : List ℕ) (link : Option ℕ) → IsCalm (AsksReport bytes link)
report_calm bytes None s t result asked = gives_calm None s t result asked
report_calm bytes (Some number) s t (Ok reply) asked = link_calm bytes number s t (Ok reply) asked
report_calm bytes (Some number) s t (Err end) (inl wanted) = calm_still s t wanted.1
report_calm bytes (Some number) s t (Err end) (inr asked) = link_calm bytes number s t (Err end) asked

pub server_calm : (bytes : List ℕ) → IsCalm (AsksServer bytes)
server_calm bytes = then_calm HasLink (AsksReport bytes) has_calm (report_calm bytes)

-- ---- what came unasked

looks_calm : (number : ℕ) → IsCalm (Looks number)
looks_calm number s t result looked = record {
  half = ap (λ (u : Stage). u.half) looked.rest;
  keeps = ap (λ (u : Stage). u.keeps) looked.rest;
  folder = ap (λ (u : Stage). u.folder) looked.rest;
  prove = ap (λ (u : Stage). u.held.prove) looked.rest ∙ asked_prove looked.answer s.held;
}

on_calm : (link : Option ℕ) → IsCalm (LooksOn link)
on_calm None = gives_calm Quiet
on_calm (Some number) = looks_calm number

listens_calm : IsCalm Listens
listens_calm s t result looked = on_calm (number_held s.held) s t result looked

drains_on_calm : (more : Stage → Stage → Result Bool AgentEnd → Type 0) → IsCalm more → (arrival : Arrival) → IsCalm (DrainsOn more arrival)
drains_on_calm more rest Quiet = gives_calm true
drains_on_calm more rest Came = rest
drains_on_calm more rest Gone = gives_calm false

drains_calm : (looks : ℕ) → IsCalm (Drains looks)
drains_calm zero = gives_calm false
drains_calm (suc looks) = then_calm Listens (DrainsOn (Drains looks)) listens_calm (drains_on_calm (Drains looks) (drains_calm looks))

drained_calm : (link : Option ℕ) → IsCalm (DrainsLink link)
drained_calm None = gives_calm None
drained_calm (Some number) =
    then_calm (Drains most_looks) (λ quiet. Gives (if quiet then Some number else None)) (drains_calm most_looks) (λ quiet. gives_calm (if quiet then Some number else None))

pub quiet_calm : (bytes : List ℕ) → IsCalm (AsksQuietServer bytes)
quiet_calm bytes =
    then_calm HasLink (λ link. Then (DrainsLink link) (AsksReport bytes)) has_calm
    (λ link. then_calm (DrainsLink link) (AsksReport bytes) (drained_calm link) (report_calm bytes))

-- ---- a round waits

waits_calm : (nanos : ℕ) (restart : Bool) → IsCalm (WaitsFor nanos restart)
waits_calm nanos restart s t result waited = record {
  half = ap (λ (u : Stage). u.half) waited.rest;
  keeps = ap (λ (u : Stage). u.keeps) waited.rest;
  folder = ap (λ (u : Stage). u.folder) waited.rest;
  prove = ap (λ (u : Stage). u.held.prove) waited.rest;
}

by_calm : (nanos : Option ℕ) (restart : Bool) → IsCalm (EndsBy nanos restart)
by_calm None restart = gives_calm restart
by_calm (Some nanos) restart = waits_calm nanos restart

pub ends_calm : (pause : Pause) → IsCalm (EndsWith pause)
ends_calm pause = by_calm pause.nanos pause.restart

waits_on_calm : (restart : Bool) (more : Stage → Stage → Result Bool AgentEnd → Type 0) → IsCalm more → (arrival : Arrival) → IsCalm (WaitsOn restart more arrival)
waits_on_calm restart more rest Quiet = rest
waits_on_calm restart more rest Came = gives_calm restart
waits_on_calm restart more rest Gone = rest

parts_calm : (parts last : ℕ) (restart : Bool) → IsCalm (WaitsInParts parts last restart)
parts_calm zero last restart =
    then_calm (WaitsFor last restart) (λ _. Then Listens (λ _. Gives restart)) (waits_calm last restart)
    (λ _. then_calm Listens (λ _. Gives restart) listens_calm (λ _. gives_calm restart))
parts_calm (suc parts) last restart =
    then_calm (WaitsFor longest_part restart) (λ _. Then Listens (WaitsOn restart (WaitsInParts parts last restart))) (waits_calm longest_part restart)
    (λ _. then_calm Listens (WaitsOn restart (WaitsInParts parts last restart)) listens_calm
    (waits_on_calm restart (WaitsInParts parts last restart) (parts_calm parts last restart)))

listens_by_calm : (nanos : Option ℕ) (restart : Bool) → IsCalm (ListensBy nanos restart)
listens_by_calm None restart = gives_calm restart
listens_by_calm (Some nanos) restart = parts_calm (parts_before nanos) (nanos - parts_before nanos * longest_part) restart

pub heeds_calm : (pause : Pause) → IsCalm (ListensWith pause)
heeds_calm pause = listens_by_calm pause.nanos pause.restart
