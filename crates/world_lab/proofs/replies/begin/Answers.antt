use Rattle.world_lab.proofs.Hosts.{goes_nowhere}
use Rattle.world_lab.proofs.Heard.{is_begun}
use Rattle.world_lab.proofs.Urls.{server_is_endpoint}
use Rattle.world_lab.proofs.replies.begin.Goals as goal

pub begin_try-requires-clause-endpoint : goal.begin_try-requires-clause-endpoint
begin_try-requires-clause-endpoint c = server_is_endpoint _ (rw c.in-Some.is at c.requires.server)

pub returns-in_ok-endpoint-in-Some-clause-goes : goal.returns-in_ok-endpoint-in-Some-clause-goes
returns-in_ok-endpoint-in-Some-clause-goes c =
    rw c.in-Some.is
    (is_begun c.calls_beside_disk.ensures.leads c.calls_beside_disk.ensures.at_rest c.args.host.now c.begin_try.new.self c.in-Some.settings c.requires.hosted
    (rw c.in-Some.is at c.requires.server) c.begin_try.ensures.begun c.begin_try.ensures.store)

pub returns-in-None : goal.returns-in-None
returns-in-None c = record { goes = rw c.in-None.is (goes_nowhere c.args.host.now 0 c.requires.hosted); attempt = rw c.in-None.is c.refused_one.ensures.refused }
