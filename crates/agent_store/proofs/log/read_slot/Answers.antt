use Rattle.std.proofs.Common.{◌≡◌, ℕ, ◌+◌, ◌≤◌, ◌++◌, length, take, drop, Some, None, IsTrue, ◌⊎◌, inl, inr, refl, sym, ◌∙◌, ap, subst, arith}
use Rattle.std.proofs.lemmas.Result.{IfOk-from_err}
use Rattle.std.proofs.lemmas.List.{take_at}
use Rattle.edge_devices.specs.Disks.{Medium, disk_bytes, HasBytes}
use Rattle.std.specs.Option.{option_map}
use Rattle.agent_store.specs.Slots.{slot_start, length_at, payload_at, by_form}
use Rattle.agent_store.specs.Headers.{TellsHeader}
use Rattle.agent_store.proofs.Standings.{long-wrong, payload-read, standing-wrong, standing-of}
use Rattle.agent_store.specs.declared.fail.StoreFail.{StoreFail}
use Rattle.agent_store.specs.declared.fail.StoreFail.TheVariants.{NoMemory, DiskFault}
use Rattle.agent_store.proofs.Results.{if-err-as, only-memory, same-fail, risen-since}
use Rattle.agent_store.proofs.Finding.{same-count, later-count, no-error}
use Rattle.agent_store.proofs.Reading.{no-reads, reads-then}
use Rattle.agent_store.proofs.log.read_slot.Goals as goal

pub returns-then-header-layout-clause-found : goal.returns-then-header-layout-clause-found
returns-then-header-layout-clause-found g c = λ told.
    sym (long-wrong g.P.Payload.codec c.args.layout (disk_bytes (g.D.Disk.state c.args.disk.now)) c.args.side c.args.header.length (c.requires told).size c.if-header-layout.true)

pub returns-in-None-clause-found : goal.returns-in-None-clause-found
returns-in-None-clause-found g c = λ told.
    let S = g.D.Disk.state in
    let P = g.P.Payload in
    let image = disk_bytes (S c.args.disk.now) in
    let layout = c.args.layout in
    let side = c.args.side in
    let at = slot_start layout side in
    let tells : TellsHeader image at c.args.header = c.requires told in
    let into = c.read.new.into in
    let size : length into ≡ c.in_ok-payload.payload.len = omega (arith, c.deref_mut.ensures.len) in
    let whole : take c.in_ok-payload.payload.len (into ++ drop (length into) c.in_ok-payload.payload.items) ≡ into = take_at into (drop (length into) c.in_ok-payload.payload.items) c.in_ok-payload.payload.len size in
    let bytes : c.deref.result.now ≡ into = c.deref.ensures.value ∙ whole in
    let has : HasBytes image (at + 16) into = subst (λ (a : ℕ). HasBytes image (a + 16) into) c.slot_start.ensures (c.in_ok-read.ensures.gives told) in
    let long : length into ≡ length_at image at = omega (arith, size, c.in_ok-payload.ensures.len, tells.size) in
    let payload : payload_at image at ≡ into = payload-read image at into long has in
    let none : P.codec.meaning into ≡ None = ap P.codec.meaning (sym bytes) ∙ sym c.in_ok-read-2.ensures.means ∙ ap (option_map P.canonical) c.in-None.is in
    sym (standing-wrong P.codec layout image side into payload none)

pub returns-clause-found : goal.returns-clause-found
returns-clause-found g c = λ told.
    let S = g.D.Disk.state in
    let P = g.P.Payload in
    let image = disk_bytes (S c.args.disk.now) in
    let layout = c.args.layout in
    let side = c.args.side in
    let at = slot_start layout side in
    let tells : TellsHeader image at c.args.header = c.requires told in
    let into = c.read.new.into in
    let size : length into ≡ c.in_ok-payload.payload.len = omega (arith, c.deref_mut.ensures.len) in
    let whole : take c.in_ok-payload.payload.len (into ++ drop (length into) c.in_ok-payload.payload.items) ≡ into = take_at into (drop (length into) c.in_ok-payload.payload.items) c.in_ok-payload.payload.len size in
    let bytes : c.deref.result.now ≡ into = c.deref.ensures.value ∙ whole in
    let has : HasBytes image (at + 16) into = subst (λ (a : ℕ). HasBytes image (a + 16) into) c.slot_start.ensures (c.in_ok-read.ensures.gives told) in
    let long : length into ≡ length_at image at = omega (arith, size, c.in_ok-payload.ensures.len, tells.size) in
    let payload : payload_at image at ≡ into = payload-read image at into long has in
    let some : P.codec.meaning into ≡ Some (P.canonical c.in-Some.part) = ap P.codec.meaning (sym bytes) ∙ sym c.in_ok-read-2.ensures.means ∙ ap (option_map P.canonical) c.in-Some.is in
    let told1 : IsTrue (S c.read.new.self).told = c.read.ensures.time.told ∙ told in
    let short : length_at image at ≤ layout.room = omega (arith, tells.size, c.if-header-layout.false) in
    c.in_ok-found-in-Some.ensures.found told1
    ∙ ap (λ (m : Medium). by_form P.codec layout m.seen side c.args.header.form (P.canonical c.in-Some.part)) c.read.ensures.same
    ∙ sym (standing-of P.codec layout image side c.args.header.form into (P.canonical c.in-Some.part) short payload some (sym tells.form))

pub returns-then-header-layout-clause-reads : goal.returns-then-header-layout-clause-reads
returns-then-header-layout-clause-reads g c = no-reads (g.D.Disk.state c.args.disk.now)

pub returns-in_err-payload-clause-reads : goal.returns-in_err-payload-clause-reads
returns-in_err-payload-clause-reads g c = no-reads (g.D.Disk.state c.args.disk.now)

pub returns-in_err-payload-clause-fault : goal.returns-in_err-payload-clause-fault
returns-in_err-payload-clause-fault g c = λ is. absurd (only-memory c.from_residual.result c.from_residual.ensures.1 is)

pub returns-in_err-payload-clause-memory : goal.returns-in_err-payload-clause-memory
returns-in_err-payload-clause-memory g c = if-err-as c.from_residual.result (λ e. e ≡ NoMemory) (λ e. (e ≡ DiskFault) ⊎ (e ≡ NoMemory)) (λ e is. inr is) c.from_residual.ensures.1

pub returns-in_err-read-clause-reads : goal.returns-in_err-read-clause-reads
returns-in_err-read-clause-reads g c = record { time = c.read.ensures.time; same = c.read.ensures.same; calls = c.read.ensures.calls }

pub returns-in_err-read-clause-fault : goal.returns-in_err-read-clause-fault
returns-in_err-read-clause-fault g c = λ _. c.in_err-read.ensures.cause.fault

pub returns-in_err-read-clause-memory : goal.returns-in_err-read-clause-memory
returns-in_err-read-clause-memory g c = if-err-as c.from_residual-in_err-read.result (λ e. e ≡ DiskFault) (λ e. (e ≡ DiskFault) ⊎ (e ≡ NoMemory)) (λ e is. inl is) c.from_residual-in_err-read.ensures.1

pub returns-in_err-read-2-clause-reads : goal.returns-in_err-read-2-clause-reads
returns-in_err-read-2-clause-reads g c = record { time = c.read.ensures.time; same = c.read.ensures.same; calls = c.read.ensures.calls }

pub returns-in_err-read-2-clause-fault : goal.returns-in_err-read-2-clause-fault
returns-in_err-read-2-clause-fault g c = λ is. absurd (only-memory c.from_residual-in_err-read-2.result c.from_residual-in_err-read-2.ensures.1 is)

pub returns-in_err-read-2-clause-memory : goal.returns-in_err-read-2-clause-memory
returns-in_err-read-2-clause-memory g c = if-err-as c.from_residual-in_err-read-2.result (λ e. e ≡ NoMemory) (λ e. (e ≡ DiskFault) ⊎ (e ≡ NoMemory)) (λ e is. inr is) c.from_residual-in_err-read-2.ensures.1

pub returns-in-None-clause-reads : goal.returns-in-None-clause-reads
returns-in-None-clause-reads g c = record { time = c.read.ensures.time; same = c.read.ensures.same; calls = c.read.ensures.calls }

pub returns-in_err-found-in-Some-clause-reads : goal.returns-in_err-found-in-Some-clause-reads
returns-in_err-found-in-Some-clause-reads g c = reads-then (g.D.Disk.state c.args.disk.now) (g.D.Disk.state c.read.new.self) (g.D.Disk.state c.read_log.new.disk) (record { time = c.read.ensures.time; same = c.read.ensures.same; calls = c.read.ensures.calls }) c.read_log.ensures.reads

pub returns-in_err-found-in-Some-clause-fault : goal.returns-in_err-found-in-Some-clause-fault
returns-in_err-found-in-Some-clause-fault g c = λ is. risen-since (g.D.Disk.state c.args.disk.now).faults (g.D.Disk.state c.read.new.self).faults (g.D.Disk.state c.read_log.new.disk).faults c.read.ensures.cause.later (c.in_err-found-in-Some.ensures.fault (same-fail c.from_residual-in_err-found-in-Some.result c.in_err-found-in-Some.field-0.0 c.from_residual-in_err-found-in-Some.ensures.1 is))

pub returns-in_err-found-in-Some-clause-memory : goal.returns-in_err-found-in-Some-clause-memory
returns-in_err-found-in-Some-clause-memory g c = if-err-as c.from_residual-in_err-found-in-Some.result (λ e. e ≡ c.in_err-found-in-Some.field-0.0) (λ e. (e ≡ DiskFault) ⊎ (e ≡ NoMemory)) (λ e is. subst (λ (x : StoreFail). (x ≡ DiskFault) ⊎ (x ≡ NoMemory)) (sym is) c.in_err-found-in-Some.ensures.memory) c.from_residual-in_err-found-in-Some.ensures.1

pub returns-clause-reads : goal.returns-clause-reads
returns-clause-reads g c = reads-then (g.D.Disk.state c.args.disk.now) (g.D.Disk.state c.read.new.self) (g.D.Disk.state c.read_log.new.disk) (record { time = c.read.ensures.time; same = c.read.ensures.same; calls = c.read.ensures.calls }) c.read_log.ensures.reads

pub returns-then-header-layout-clause-within : goal.returns-then-header-layout-clause-within
returns-then-header-layout-clause-within g c = tt

pub returns-then-header-layout-clause-right : goal.returns-then-header-layout-clause-right
returns-then-header-layout-clause-right g c = tt

pub returns-then-header-layout-clause-typed : goal.returns-then-header-layout-clause-typed
returns-then-header-layout-clause-typed g c = tt

pub returns-then-header-layout-clause-counts : goal.returns-then-header-layout-clause-counts
returns-then-header-layout-clause-counts g c = λ told. refl

pub returns-then-header-layout-clause-faults : goal.returns-then-header-layout-clause-faults
returns-then-header-layout-clause-faults g c = same-count _

pub returns-then-header-layout-clause-fault : goal.returns-then-header-layout-clause-fault
returns-then-header-layout-clause-fault g c = λ is. no-error _ _ is

pub returns-then-header-layout-clause-memory : goal.returns-then-header-layout-clause-memory
returns-then-header-layout-clause-memory g c = tt

pub returns-in_err-payload-clause-within : goal.returns-in_err-payload-clause-within
returns-in_err-payload-clause-within g c = IfOk-from_err _ _ c.from_residual.ensures.0

pub returns-in_err-payload-clause-right : goal.returns-in_err-payload-clause-right
returns-in_err-payload-clause-right g c = IfOk-from_err _ _ c.from_residual.ensures.0

pub returns-in_err-payload-clause-typed : goal.returns-in_err-payload-clause-typed
returns-in_err-payload-clause-typed g c = IfOk-from_err _ _ c.from_residual.ensures.0

pub returns-in_err-payload-clause-found : goal.returns-in_err-payload-clause-found
returns-in_err-payload-clause-found g c = IfOk-from_err _ _ c.from_residual.ensures.0

pub returns-in_err-payload-clause-counts : goal.returns-in_err-payload-clause-counts
returns-in_err-payload-clause-counts g c = λ told. refl

pub returns-in_err-payload-clause-faults : goal.returns-in_err-payload-clause-faults
returns-in_err-payload-clause-faults g c = same-count _

pub returns-in_err-read-clause-within : goal.returns-in_err-read-clause-within
returns-in_err-read-clause-within g c = IfOk-from_err _ _ c.from_residual-in_err-read.ensures.0

pub returns-in_err-read-clause-right : goal.returns-in_err-read-clause-right
returns-in_err-read-clause-right g c = IfOk-from_err _ _ c.from_residual-in_err-read.ensures.0

pub returns-in_err-read-clause-typed : goal.returns-in_err-read-clause-typed
returns-in_err-read-clause-typed g c = IfOk-from_err _ _ c.from_residual-in_err-read.ensures.0

pub returns-in_err-read-clause-found : goal.returns-in_err-read-clause-found
returns-in_err-read-clause-found g c = IfOk-from_err _ _ c.from_residual-in_err-read.ensures.0

pub returns-in_err-read-clause-counts : goal.returns-in_err-read-clause-counts
returns-in_err-read-clause-counts g c = c.read.ensures.counts

pub returns-in_err-read-clause-faults : goal.returns-in_err-read-clause-faults
returns-in_err-read-clause-faults g c = c.read.ensures.cause.later

pub returns-in_err-read-2-clause-within : goal.returns-in_err-read-2-clause-within
returns-in_err-read-2-clause-within g c = IfOk-from_err _ _ c.from_residual-in_err-read-2.ensures.0

pub returns-in_err-read-2-clause-right : goal.returns-in_err-read-2-clause-right
returns-in_err-read-2-clause-right g c = IfOk-from_err _ _ c.from_residual-in_err-read-2.ensures.0

pub returns-in_err-read-2-clause-typed : goal.returns-in_err-read-2-clause-typed
returns-in_err-read-2-clause-typed g c = IfOk-from_err _ _ c.from_residual-in_err-read-2.ensures.0

pub returns-in_err-read-2-clause-found : goal.returns-in_err-read-2-clause-found
returns-in_err-read-2-clause-found g c = IfOk-from_err _ _ c.from_residual-in_err-read-2.ensures.0

pub returns-in_err-read-2-clause-counts : goal.returns-in_err-read-2-clause-counts
returns-in_err-read-2-clause-counts g c = c.read.ensures.counts

pub returns-in_err-read-2-clause-faults : goal.returns-in_err-read-2-clause-faults
returns-in_err-read-2-clause-faults g c = c.read.ensures.cause.later

pub returns-in-None-clause-within : goal.returns-in-None-clause-within
returns-in-None-clause-within g c = tt

pub returns-in-None-clause-right : goal.returns-in-None-clause-right
returns-in-None-clause-right g c = tt

pub returns-in-None-clause-typed : goal.returns-in-None-clause-typed
returns-in-None-clause-typed g c = tt

pub returns-in-None-clause-counts : goal.returns-in-None-clause-counts
returns-in-None-clause-counts g c = c.read.ensures.counts

pub returns-in-None-clause-faults : goal.returns-in-None-clause-faults
returns-in-None-clause-faults g c = c.read.ensures.cause.later

pub returns-in-None-clause-fault : goal.returns-in-None-clause-fault
returns-in-None-clause-fault g c = λ is. no-error _ _ is

pub returns-in-None-clause-memory : goal.returns-in-None-clause-memory
returns-in-None-clause-memory g c = tt

pub returns-in_err-found-in-Some-clause-within : goal.returns-in_err-found-in-Some-clause-within
returns-in_err-found-in-Some-clause-within g c = IfOk-from_err _ _ c.from_residual-in_err-found-in-Some.ensures.0

pub returns-in_err-found-in-Some-clause-right : goal.returns-in_err-found-in-Some-clause-right
returns-in_err-found-in-Some-clause-right g c = IfOk-from_err _ _ c.from_residual-in_err-found-in-Some.ensures.0

pub returns-in_err-found-in-Some-clause-typed : goal.returns-in_err-found-in-Some-clause-typed
returns-in_err-found-in-Some-clause-typed g c = IfOk-from_err _ _ c.from_residual-in_err-found-in-Some.ensures.0

pub returns-in_err-found-in-Some-clause-found : goal.returns-in_err-found-in-Some-clause-found
returns-in_err-found-in-Some-clause-found g c = IfOk-from_err _ _ c.from_residual-in_err-found-in-Some.ensures.0

pub returns-in_err-found-in-Some-clause-counts : goal.returns-in_err-found-in-Some-clause-counts
returns-in_err-found-in-Some-clause-counts g c = λ told. c.read_log.ensures.counts (c.read.ensures.time.told ∙ told) ∙ c.read.ensures.counts told

pub returns-in_err-found-in-Some-clause-faults : goal.returns-in_err-found-in-Some-clause-faults
returns-in_err-found-in-Some-clause-faults g c = later-count _ _ _ c.read.ensures.cause.later c.read_log.ensures.faults

pub returns-clause-within : goal.returns-clause-within
returns-clause-within g c = c.in_ok-found-in-Some.ensures.within

pub returns-clause-right : goal.returns-clause-right
returns-clause-right g c = c.in_ok-found-in-Some.ensures.right

pub returns-clause-typed : goal.returns-clause-typed
returns-clause-typed g c = c.in_ok-found-in-Some.ensures.typed

pub returns-clause-counts : goal.returns-clause-counts
returns-clause-counts g c = λ told. c.read_log.ensures.counts (c.read.ensures.time.told ∙ told) ∙ c.read.ensures.counts told

pub returns-clause-faults : goal.returns-clause-faults
returns-clause-faults g c = later-count _ _ _ c.read.ensures.cause.later c.read_log.ensures.faults

pub returns-clause-fault : goal.returns-clause-fault
returns-clause-fault g c = λ is. no-error _ _ is

pub returns-clause-memory : goal.returns-clause-memory
returns-clause-memory g c = tt
