-- Which connections reach an agent.
use Rattle.std.specs.Prelude.{ℕ, List, [], ◌∷◌, not, ◌&&◌, ◌==◌, filter, if◌then◌else◌, Option, None, Some}
use Rattle.std.specs.Str.{bytes_eq}
use Rattle.server_sessions.specs.declared.answers.stepped.Handled.{Handled}

-- The known connections of WebSocket on which reports of an agent were answered without error, the latest first.
abbrev pub Reach : Type 0
Reach = List ℕ → List ℕ

abbrev pub no_routes : Reach
no_routes = λ uid. []

-- the connections but this one
abbrev pub without : ℕ → List ℕ → List ℕ
without conn conns = filter (λ c. not (c == conn)) conns

-- a connection that isn't known any more reaches nobody
abbrev pub routes_without : ℕ → Reach → Reach
routes_without conn routes = λ uid. without conn (routes uid)

abbrev pub routes_ended : List ℕ → Reach → Reach
routes_ended [] routes = routes
routes_ended (conn ∷ ended) routes = routes_ended ended (routes_without conn routes)

-- a report was answered without error
abbrev pub routes_with : Handled → Reach → Reach
routes_with h routes = λ uid. if h.ws && bytes_eq h.uid uid then h.conn ∷ without h.conn (routes uid) else routes uid

abbrev pub routes_noted : List Handled → Reach → Reach
routes_noted [] routes = routes
routes_noted (h ∷ handled) routes = routes_noted handled (routes_with h routes)

-- the one that last had a report of the agent
abbrev pub first_of : List ℕ → Option ℕ
first_of [] = None
first_of (conn ∷ conns) = Some conn

abbrev pub route_to : Reach → List ℕ → Option ℕ
route_to routes uid = first_of (routes uid)
