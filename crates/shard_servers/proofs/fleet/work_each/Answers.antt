use mir.Syntax.{named, w64}
use denote.Ref.{NamedLft}
use denote.Param.{param}
use denote.Plain.{UInt}
use denote.Param.Send.{IsSync, arg_send, given_sync, param_send, sendable, shr_slice_sync}
use Rattle.message_values.specs.contracts.report.AgentToServer as report
use Rattle.shard_servers.proofs.Sending.{DesksSent, ResultsSent, ShardsShared, desk_send, result_send, shards_sync}
use Rattle.shard_servers.proofs.fleet.work_each.Goals as goal

pub map_vec-requires-send-J : goal.map_vec-requires-send-J
map_vec-requires-send-J g c κs within =
    let desk : DesksSent = desk_send c.journals_cross_threads.ensures.rows_sent in
    search (desk, param_send, arg_send) depth 20

pub map_vec-requires-send-X : goal.map_vec-requires-send-X
map_vec-requires-send-X g c κs within =
    let result : ResultsSent = result_send c.journals_cross_threads.ensures.rows_sent in
    search (result, param_send, arg_send) depth 20

-- the closure captures the runtime, the shards, the reports, the number of desks and the gate, each by reference
pub map_vec-requires-sync-F : goal.map_vec-requires-sync-F
map_vec-requires-sync-F g c κs within =
    let shards : ShardsShared = shards_sync c.journals_cross_threads.ensures.journals_sent in
    let reports : IsSync report.the_row = c.journals_cross_threads.ensures.reports_shared in
    let runtime : IsSync g.row.R = given_sync 4 g.row.R c.type_bounds.sync-R in
    let gate : IsSync g.row.G = given_sync 5 g.row.G c.type_bounds.sync-G in
    let lent : NamedLft = record { mir = named 8; lft = κs.1.1.1.1.1.1.1.1.0 } in
    let number : IsSync (UInt w64) = search sendable in
    record {
      shared = λ x b o κ. (
        (
          ((λ q. tt), runtime.shared x.0.now x.0.ref_ptr.0 x.0.ref_ptr.1 _),
          (
            ((λ q. tt), (shards lent (param 0 g.row.A) (param 1 g.row.B) (param 2 g.row.C) (param 3 g.row.D) g.A.Ledger g.B.Ledger g.C.Ledger g.D.Ledger).shared x.1.now x.1.ref_ptr.0 x.1.ref_ptr.1 _),
            (
              (shr_slice_sync (named 11) κs.1.1.1.1.1.1.1.1.1.1.1.0 report.the_row reports).shared x.2 b o κ,
              (((λ q. tt), number.shared x.3.now x.3.ref_ptr.0 x.3.ref_ptr.1 κ), (((λ q. tt), gate.shared x.4.now x.4.ref_ptr.0 x.4.ref_ptr.1 _), tt)),
            ),
          ),
        ),
        (λ q. tt),
      );
    }
