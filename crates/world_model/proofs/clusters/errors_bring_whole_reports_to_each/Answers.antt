use Rattle.std.proofs.Common.{◌++◌}
use Rattle.world_model.specs.Exchanges.{changes}
use Rattle.world_model.specs.Clusters.{cluster, all_at, and_exchange, and_error}
use Rattle.world_model.proofs.NamedThere.{nobody_at-error, nobody_at-exchange, nobody_at-changes}
use Rattle.world_model.proofs.Several.{alone_after_error}
use Rattle.world_model.proofs.clusters.errors_bring_whole_reports_to_each.Goals as goal

pub returns : goal.returns
returns c = record {
  answered = λ start es s t first second error between nobody reach again.
      let once = and_error start es s first error in
      let middle = once ++ all_at s (changes between) in
      c.any_server_of_an_endpoint.ensures.whole start middle t second again
      (c.one_agent_has_room_at_each.ensures.room start (and_exchange start middle t second) t
      (nobody_at-exchange middle t (cluster start middle) second (nobody_at-changes once s between (nobody_at-error start es s first error nobody))))
      (alone_after_error start es s first error between reach);
}
