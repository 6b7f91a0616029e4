-- The servers of a lab, by their numbers.
use Rattle.std.proofs.Common.{◌≡◌, ℕ, zero, suc, ◌+◌, ◌-◌, ◌<◌, List, map, set, cond, Some, slice_get, refl, arith}
use Rattle.std.specs.Str.{bytes_eq}
use Rattle.server_core.specs.Served.{Served}
use Rattle.server_core.specs.History.{Event as ServerEvent}
use Rattle.world_lab.specs.Playing.{endpoint_of, server_at}
use Rattle.world_lab.specs.Histories.{server_after, server_numbers}

-- the servers after these histories, by endpoint
abbrev pub servers_after : (List ℕ → List ServerEvent) → List Served
servers_after history = map (λ server. server_after (history (endpoint_of server))) server_numbers

pub server_there : (history : List ℕ → List ServerEvent) (server : ℕ) → server < 10 → slice_get (servers_after history) server ≡ Some (server_after (history (endpoint_of server)))
server_there history zero digit = refl
server_there history (suc zero) digit = refl
server_there history (suc (suc zero)) digit = refl
server_there history (suc (suc (suc zero))) digit = refl
server_there history (suc (suc (suc (suc zero)))) digit = refl
server_there history (suc (suc (suc (suc (suc zero))))) digit = refl
server_there history (suc (suc (suc (suc (suc (suc zero)))))) digit = refl
server_there history (suc (suc (suc (suc (suc (suc (suc zero))))))) digit = refl
server_there history (suc (suc (suc (suc (suc (suc (suc (suc zero)))))))) digit = refl
server_there history (suc (suc (suc (suc (suc (suc (suc (suc (suc zero))))))))) digit = refl
server_there history (suc (suc (suc (suc (suc (suc (suc (suc (suc (suc server)))))))))) digit = absurd (omega (arith, digit))

-- one server's history changes
pub server_set : (history changed : List ℕ → List ServerEvent) (server : ℕ) → server < 10
    → set (servers_after history) server (server_after (changed (endpoint_of server))) ≡ servers_after (λ endpoint. cond (bytes_eq (endpoint_of server) endpoint) (changed endpoint) (history endpoint))
server_set history changed zero digit = refl
server_set history changed (suc zero) digit = refl
server_set history changed (suc (suc zero)) digit = refl
server_set history changed (suc (suc (suc zero))) digit = refl
server_set history changed (suc (suc (suc (suc zero)))) digit = refl
server_set history changed (suc (suc (suc (suc (suc zero))))) digit = refl
server_set history changed (suc (suc (suc (suc (suc (suc zero)))))) digit = refl
server_set history changed (suc (suc (suc (suc (suc (suc (suc zero))))))) digit = refl
server_set history changed (suc (suc (suc (suc (suc (suc (suc (suc zero)))))))) digit = refl
server_set history changed (suc (suc (suc (suc (suc (suc (suc (suc (suc zero))))))))) digit = refl
server_set history changed (suc (suc (suc (suc (suc (suc (suc (suc (suc (suc server)))))))))) digit = absurd (omega (arith, digit))

-- the digit behind `http://s`
pub server_is : (server : ℕ) → server_at (endpoint_of server) ≡ server
server_is server = let digit : 48 + server - 48 ≡ server = omega arith in digit
