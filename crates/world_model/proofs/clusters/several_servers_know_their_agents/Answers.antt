use Rattle.std.proofs.Common.{◌++◌, ◌∷◌, []}
use Rattle.world_model.specs.Exchanges.{changes}
use Rattle.world_model.specs.World.{Delivered}
use Rattle.world_model.specs.Clusters.{At, cluster, all_at, and_exchange}
use Rattle.world_model.proofs.NamedThere.{nobody_at-append, nobody_at-exchange, nobody_at-changes}
use Rattle.world_model.proofs.clusters.several_servers_know_their_agents.Goals as goal

pub returns-clause-one_report : goal.returns-clause-one_report
returns-clause-one_report c = λ start es s uid known nobody.
    c.any_server_of_an_endpoint.ensures.one_report start es s uid known (c.one_agent_has_room_at_each.ensures.room start es s nobody)

pub returns-clause-just_reported : goal.returns-clause-just_reported
returns-clause-just_reported c = λ start es s place given e reply nobody at there.
    c.any_server_of_an_endpoint.ensures.just_reported start es s place given e reply at there
    (c.one_agent_has_room_at_each.ensures.room start (es ++ At s (Delivered place given) ∷ []) s (nobody_at-append es (At s (Delivered place given) ∷ []) nobody (tt, tt)))

pub returns-clause-one_of_two : goal.returns-clause-one_of_two
returns-clause-one_of_two c = λ start es s t first second between nobody reach again.
    let once = and_exchange start es s first in
    let middle = once ++ all_at s (changes between) in
    let early = nobody_at-exchange es s (cluster start es) first nobody in
    c.any_server_of_an_endpoint.ensures.one_of_two start es s t first second between reach again
    (c.one_agent_has_room_at_each.ensures.room start once s early)
    (c.one_agent_has_room_at_each.ensures.room start (and_exchange start middle t second) t (nobody_at-exchange middle t (cluster start middle) second (nobody_at-changes once s between early)))

pub returns-clause-after_asked : goal.returns-clause-after_asked
returns-clause-after_asked c = λ start es s t first second between reply nobody reach again.
    let once = and_exchange start es s first in
    let middle = once ++ all_at s (changes between) in
    c.any_server_of_an_endpoint.ensures.after_asked start es s t first second between reply reach again
    (c.one_agent_has_room_at_each.ensures.room start (and_exchange start middle t second) t
    (nobody_at-exchange middle t (cluster start middle) second (nobody_at-changes once s between (nobody_at-exchange es s (cluster start es) first nobody))))

pub returns-clause-one_server : goal.returns-clause-one_server
returns-clause-one_server c = λ start es s first second between nobody reach again.
    let once = and_exchange start es s first in
    let middle = once ++ all_at s (changes between) in
    c.any_server_of_an_endpoint.ensures.one_server start es s first second between reach again
    (c.one_agent_has_room_at_each.ensures.room start (and_exchange start middle s second) s
    (nobody_at-exchange middle s (cluster start middle) second (nobody_at-changes once s between (nobody_at-exchange es s (cluster start es) first nobody))))

pub returns-clause-settings : goal.returns-clause-settings
returns-clause-settings c = c.any_server_of_an_endpoint.ensures.settings

pub returns-clause-configuration : goal.returns-clause-configuration
returns-clause-configuration c = c.any_server_of_an_endpoint.ensures.configuration

pub returns-clause-other_endpoint : goal.returns-clause-other_endpoint
returns-clause-other_endpoint c = λ start es s t first second between nobody reach again.
    let once = and_exchange start es s first in
    let middle = once ++ all_at s (changes between) in
    c.any_server_of_an_endpoint.ensures.other_endpoint start es s t first second between reach again
    (c.one_agent_has_room_at_each.ensures.room start (and_exchange start middle t second) t
    (nobody_at-exchange middle t (cluster start middle) second (nobody_at-changes once s between (nobody_at-exchange es s (cluster start es) first nobody))))
