use Rattle.std.proofs.Common.{◌+◌, [], ◌∷◌, IsTrue, ◌∙◌}
use Rattle.edge_devices.specs.Disks.{disk_bytes}
use Rattle.edge_devices.proofs.DiskCalls.{amid-later, passed-on}
use Rattle.agent_store.specs.Plans.{put_plan, entry_plan}
use Rattle.agent_store.proofs.Moments.{while-staging, while-joining, joined-is, byte-is}
use Rattle.agent_store.proofs.joining.append.Goals as goal

pub returns-in_err-put-clause-any_moment : goal.returns-in_err-put-clause-any_moment
returns-in_err-put-clause-any_moment g c = λ told.
    let S = g.D.Disk.state in
    while-staging c.args.tail c.args.entry.now (S c.args.disk.now) (c.requires.gate told) (S c.put.new.disk) c.put.ensures.any_moment

pub returns-in_err-put-2-clause-any_moment : goal.returns-in_err-put-2-clause-any_moment
returns-in_err-put-2-clause-any_moment g c = λ told.
    let S = g.D.Disk.state in
    let before = while-staging c.args.tail c.args.entry.now (S c.args.disk.now) (c.requires.gate told) (S c.put.new.disk) c.put.ensures.any_moment in
    while-joining c.args.tail c.args.entry.now (S c.args.disk.now) (c.requires.gate told) (S c.put.new.disk) (S c.put-2.new.disk) c.put.ensures.elsewhere (c.in_ok-put.ensures.written told) before c.put-2.ensures.any_moment

pub returns-clause-any_moment : goal.returns-clause-any_moment
returns-clause-any_moment g c = λ told.
    let S = g.D.Disk.state in
    let before = while-staging c.args.tail c.args.entry.now (S c.args.disk.now) (c.requires.gate told) (S c.put.new.disk) c.put.ensures.any_moment in
    while-joining c.args.tail c.args.entry.now (S c.args.disk.now) (c.requires.gate told) (S c.put.new.disk) (S c.put-2.new.disk) c.put.ensures.elsewhere (c.in_ok-put.ensures.written told) before c.put-2.ensures.any_moment

pub returns-clause-joined : goal.returns-clause-joined
returns-clause-joined g c = λ told.
    let S = g.D.Disk.state in
    let told1 : IsTrue (S c.put.new.disk).told = c.put.ensures.any_moment.told ∙ told in
    joined-is c.args.tail c.args.entry.now (S c.args.disk.now) (c.requires.gate told) (disk_bytes (S c.put.new.disk)) (disk_bytes (S c.put-2.new.disk)) c.put.ensures.elsewhere (c.in_ok-put.ensures.written told) c.put-2.ensures.elsewhere
    (byte-is (disk_bytes (S c.put-2.new.disk)) c.args.tail 1 (c.in_ok-put-2.ensures.written told1))

pub returns-in_err-put-2-clause-made : goal.returns-in_err-put-2-clause-made
returns-in_err-put-2-clause-made g c = λ told.
    let S = g.D.Disk.state in
    let C = g.D.Disk.countdown in
    let old = S c.args.disk.now in
    let mid = S c.put.new.disk in
    let new = S c.put-2.new.disk in
    let a = C c.args.disk.now in
    let m = C c.put.new.disk in
    let b = C c.put-2.new.disk in
    let tail = c.args.tail in
    let entry = c.args.entry.now in
    passed-on (entry_plan tail entry) old new a b c.from_residual-in_err-put-2.result c.from_residual-in_err-put-2.ensures
    (amid-later (put_plan (tail + 1) entry) (put_plan tail (1 ∷ [])) old mid new a m b (c.in_ok-put.ensures.made told) (c.in_err-put-2.ensures.made (c.put.ensures.any_moment.told ∙ told)))
