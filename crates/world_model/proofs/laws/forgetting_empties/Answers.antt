use Rattle.std.proofs.Common.{◌≡◌, ◌≢◌, ◌⊎◌, inl, inr, ℕ, List, [], ◌∷◌, ◌++◌, Bool, true, false, cond, ◌&&◌, None, refl, ◌∙◌, ap}
use Rattle.std.specs.Str.{bytes_eq}
use Rattle.server_core.specs.declared.rows.TheConstants.{AGENT_LIMIT}
use Rattle.server_core.specs.History.{Event as ServerEvent, Forgotten as AgentForgotten}
use Rattle.server_core.specs.Table.{find_record, pending_at, table_of}
use Rattle.world_model.specs.World.{World, Event, Forgotten, Start, opening, after}
use Rattle.world_model.specs.Servers.{arrivals}
use Rattle.world_model.proofs.Places.{bytes_self}
use Rattle.world_model.proofs.Rows.{bytes_other}
use Rattle.world_model.proofs.Runs.{arrived-append}
use Rattle.world_model.proofs.laws.forgetting_empties.Goals as goal

-- what has reached the server then
arrived_there : (start : Start) (events : List Event) (server uid : List ℕ) → arrivals start (events ++ Forgotten server uid ∷ []) server ≡ arrivals start events server ++ AgentForgotten uid ∷ []
arrived_there start events server uid =
    arrived-append server events (Forgotten server uid ∷ []) (opening start) []
    ∙ ap (λ b. cond b (arrivals start events server ++ AgentForgotten uid ∷ []) (arrivals start events server)) (bytes_self server)

-- an agent that isn't the one, or at another server
apart_held : (w : World) (server uid other u : List ℕ) → (server ≢ other) ⊎ (uid ≢ u) → (after w (Forgotten server uid)).held other u ≡ w.held other u
apart_held w server uid other u (inl apart) = ap (λ b. cond (b && bytes_eq uid u) None (w.held other u)) (bytes_other server other apart)
apart_held w server uid other u (inr apart) = ap (λ b. cond (bytes_eq server other && b) None (w.held other u)) (bytes_other uid u apart) ∙ neither (bytes_eq server other)
  where
    neither : (t : Bool) → cond (t && false) None (w.held other u) ≡ w.held other u
    neither true = refl
    neither false = refl

pub returns-clause-held : goal.returns-clause-held
returns-clause-held c = λ w server uid. λ i. cond (bytes_self server i && bytes_self uid i) None (w.held server uid)

pub returns-clause-known : goal.returns-clause-known
returns-clause-known c = λ start events server uid.
    ap (λ (h : List ServerEvent). find_record (table_of h).records uid) (arrived_there start events server uid)
    ∙ c.forgotten_agents_are_new.ensures.known AGENT_LIMIT (arrivals start events server) uid

pub returns-clause-waiting : goal.returns-clause-waiting
returns-clause-waiting c = λ start events server uid.
    ap (λ (h : List ServerEvent). pending_at (table_of h).pendings uid) (arrived_there start events server uid)
    ∙ c.forgotten_agents_are_new.ensures.waiting AGENT_LIMIT (arrivals start events server) uid

pub returns-clause-others : goal.returns-clause-others
returns-clause-others c = apart_held

pub returns-clause-agent : goal.returns-clause-agent
returns-clause-agent c = λ w server uid. refl
