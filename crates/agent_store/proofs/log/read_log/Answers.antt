use Rattle.std.proofs.Common.{◌≡◌, ℕ, ◌⊎◌, ◌++◌, inl, inr, refl, sym, ◌∙◌, ap, subst, arith, length, take, drop}
use Rattle.std.proofs.lemmas.List.{take_at}
use Rattle.std.proofs.lemmas.Result.{IfOk-from_err}
use Rattle.edge_devices.specs.Disks.{disk_bytes, HasBytes}
use Rattle.agent_store.specs.declared.fail.StoreFail.TheVariants.{NoMemory, DiskFault}
use Rattle.agent_store.proofs.Results.{if-err-as, only-memory}
use Rattle.agent_store.specs.Log.{Ends}
use Rattle.agent_store.specs.Slots.{log_start}
use Rattle.agent_store.proofs.Finding.{same-count, no-error, ends-at-stop, within-log, by-log}
use Rattle.agent_store.proofs.Reading.{no-reads}
use Rattle.agent_store.proofs.Standings.{form-one, form-other}
use Rattle.agent_store.proofs.log.read_log.Goals as goal

pub returns-then-form-eq1-clause-reads : goal.returns-then-form-eq1-clause-reads
returns-then-form-eq1-clause-reads g c = no-reads (g.D.Disk.state c.args.disk.now)

pub returns-then-form-ne2-clause-reads : goal.returns-then-form-ne2-clause-reads
returns-then-form-ne2-clause-reads g c = no-reads (g.D.Disk.state c.args.disk.now)

pub returns-in_err-log-clause-reads : goal.returns-in_err-log-clause-reads
returns-in_err-log-clause-reads g c = no-reads (g.D.Disk.state c.args.disk.now)

pub returns-in_err-log-clause-fault : goal.returns-in_err-log-clause-fault
returns-in_err-log-clause-fault g c = λ is. absurd (only-memory c.from_residual.result c.from_residual.ensures.1 is)

pub returns-in_err-log-clause-memory : goal.returns-in_err-log-clause-memory
returns-in_err-log-clause-memory g c = if-err-as c.from_residual.result (λ e. e ≡ NoMemory) (λ e. (e ≡ DiskFault) ⊎ (e ≡ NoMemory)) (λ e is. inr is) c.from_residual.ensures.1

pub returns-in_err-read-clause-reads : goal.returns-in_err-read-clause-reads
returns-in_err-read-clause-reads g c = record { time = c.read.ensures.time; same = c.read.ensures.same; calls = c.read.ensures.calls }

pub returns-in_err-read-clause-fault : goal.returns-in_err-read-clause-fault
returns-in_err-read-clause-fault g c = λ _. c.in_err-read.ensures.cause.fault

pub returns-in_err-read-clause-memory : goal.returns-in_err-read-clause-memory
returns-in_err-read-clause-memory g c = if-err-as c.from_residual-in_err-read.result (λ e. e ≡ DiskFault) (λ e. (e ≡ DiskFault) ⊎ (e ≡ NoMemory)) (λ e is. inl is) c.from_residual-in_err-read.ensures.1

pub returns-in_err-found-clause-reads : goal.returns-in_err-found-clause-reads
returns-in_err-found-clause-reads g c = record { time = c.read.ensures.time; same = c.read.ensures.same; calls = c.read.ensures.calls }

pub returns-in_err-found-clause-fault : goal.returns-in_err-found-clause-fault
returns-in_err-found-clause-fault g c = λ is. absurd (only-memory c.from_residual-in_err-found.result c.from_residual-in_err-found.ensures.1 is)

pub returns-in_err-found-clause-memory : goal.returns-in_err-found-clause-memory
returns-in_err-found-clause-memory g c = if-err-as c.from_residual-in_err-found.result (λ e. e ≡ NoMemory) (λ e. (e ≡ DiskFault) ⊎ (e ≡ NoMemory)) (λ e is. inr is) c.from_residual-in_err-found.ensures.1

pub returns-clause-reads : goal.returns-clause-reads
returns-clause-reads g c = record { time = c.read.ensures.time; same = c.read.ensures.same; calls = c.read.ensures.calls }

pub returns-then-form-eq1-clause-within : goal.returns-then-form-eq1-clause-within
returns-then-form-eq1-clause-within g c = ends-at-stop (log_start c.args.layout c.args.side) c.args.layout.log c.log_stop.result c.log_stop.ensures

pub returns-then-form-eq1-clause-right : goal.returns-then-form-eq1-clause-right
returns-then-form-eq1-clause-right g c = c.requires.right

pub returns-then-form-eq1-clause-typed : goal.returns-then-form-eq1-clause-typed
returns-then-form-eq1-clause-typed g c = c.requires.typed

pub returns-then-form-eq1-clause-found : goal.returns-then-form-eq1-clause-found
returns-then-form-eq1-clause-found g c = λ told. ap (λ (tail : ℕ). Ends (g.P.Payload.canonical c.args.part) tail) c.log_stop.ensures ∙ sym (form-one g.P.Payload.codec c.args.layout (disk_bytes (g.D.Disk.state c.args.disk.now)) c.args.side c.args.form (g.P.Payload.canonical c.args.part) c.if-form-eq1.true)

pub returns-then-form-eq1-clause-counts : goal.returns-then-form-eq1-clause-counts
returns-then-form-eq1-clause-counts g c = λ told. refl

pub returns-then-form-eq1-clause-faults : goal.returns-then-form-eq1-clause-faults
returns-then-form-eq1-clause-faults g c = same-count _

pub returns-then-form-eq1-clause-fault : goal.returns-then-form-eq1-clause-fault
returns-then-form-eq1-clause-fault g c = λ is. no-error _ _ is

pub returns-then-form-eq1-clause-memory : goal.returns-then-form-eq1-clause-memory
returns-then-form-eq1-clause-memory g c = tt

pub returns-then-form-ne2-clause-within : goal.returns-then-form-ne2-clause-within
returns-then-form-ne2-clause-within g c = tt

pub returns-then-form-ne2-clause-right : goal.returns-then-form-ne2-clause-right
returns-then-form-ne2-clause-right g c = tt

pub returns-then-form-ne2-clause-typed : goal.returns-then-form-ne2-clause-typed
returns-then-form-ne2-clause-typed g c = tt

pub returns-then-form-ne2-clause-found : goal.returns-then-form-ne2-clause-found
returns-then-form-ne2-clause-found g c = λ told. sym (form-other g.P.Payload.codec c.args.layout (disk_bytes (g.D.Disk.state c.args.disk.now)) c.args.side c.args.form (g.P.Payload.canonical c.args.part) c.if-form-eq1.false c.if-form-ne2.true)

pub returns-then-form-ne2-clause-counts : goal.returns-then-form-ne2-clause-counts
returns-then-form-ne2-clause-counts g c = λ told. refl

pub returns-then-form-ne2-clause-faults : goal.returns-then-form-ne2-clause-faults
returns-then-form-ne2-clause-faults g c = same-count _

pub returns-then-form-ne2-clause-fault : goal.returns-then-form-ne2-clause-fault
returns-then-form-ne2-clause-fault g c = λ is. no-error _ _ is

pub returns-then-form-ne2-clause-memory : goal.returns-then-form-ne2-clause-memory
returns-then-form-ne2-clause-memory g c = tt

pub returns-in_err-log-clause-within : goal.returns-in_err-log-clause-within
returns-in_err-log-clause-within g c = IfOk-from_err _ _ c.from_residual.ensures.0

pub returns-in_err-log-clause-right : goal.returns-in_err-log-clause-right
returns-in_err-log-clause-right g c = IfOk-from_err _ _ c.from_residual.ensures.0

pub returns-in_err-log-clause-typed : goal.returns-in_err-log-clause-typed
returns-in_err-log-clause-typed g c = IfOk-from_err _ _ c.from_residual.ensures.0

pub returns-in_err-log-clause-found : goal.returns-in_err-log-clause-found
returns-in_err-log-clause-found g c = IfOk-from_err _ _ c.from_residual.ensures.0

pub returns-in_err-log-clause-counts : goal.returns-in_err-log-clause-counts
returns-in_err-log-clause-counts g c = λ told. refl

pub returns-in_err-log-clause-faults : goal.returns-in_err-log-clause-faults
returns-in_err-log-clause-faults g c = same-count _

pub returns-in_err-read-clause-within : goal.returns-in_err-read-clause-within
returns-in_err-read-clause-within g c = IfOk-from_err _ _ c.from_residual-in_err-read.ensures.0

pub returns-in_err-read-clause-right : goal.returns-in_err-read-clause-right
returns-in_err-read-clause-right g c = IfOk-from_err _ _ c.from_residual-in_err-read.ensures.0

pub returns-in_err-read-clause-typed : goal.returns-in_err-read-clause-typed
returns-in_err-read-clause-typed g c = IfOk-from_err _ _ c.from_residual-in_err-read.ensures.0

pub returns-in_err-read-clause-found : goal.returns-in_err-read-clause-found
returns-in_err-read-clause-found g c = IfOk-from_err _ _ c.from_residual-in_err-read.ensures.0

pub returns-in_err-read-clause-counts : goal.returns-in_err-read-clause-counts
returns-in_err-read-clause-counts g c = c.read.ensures.counts

pub returns-in_err-read-clause-faults : goal.returns-in_err-read-clause-faults
returns-in_err-read-clause-faults g c = c.read.ensures.cause.later

pub returns-in_err-found-clause-within : goal.returns-in_err-found-clause-within
returns-in_err-found-clause-within g c = IfOk-from_err _ _ c.from_residual-in_err-found.ensures.0

pub returns-in_err-found-clause-right : goal.returns-in_err-found-clause-right
returns-in_err-found-clause-right g c = IfOk-from_err _ _ c.from_residual-in_err-found.ensures.0

pub returns-in_err-found-clause-typed : goal.returns-in_err-found-clause-typed
returns-in_err-found-clause-typed g c = IfOk-from_err _ _ c.from_residual-in_err-found.ensures.0

pub returns-in_err-found-clause-found : goal.returns-in_err-found-clause-found
returns-in_err-found-clause-found g c = IfOk-from_err _ _ c.from_residual-in_err-found.ensures.0

pub returns-in_err-found-clause-counts : goal.returns-in_err-found-clause-counts
returns-in_err-found-clause-counts g c = c.read.ensures.counts

pub returns-in_err-found-clause-faults : goal.returns-in_err-found-clause-faults
returns-in_err-found-clause-faults g c = c.read.ensures.cause.later

pub returns-clause-within : goal.returns-clause-within
returns-clause-within g c =
    let into = c.read.new.into in
    let size : length into ≡ c.in_ok-log.log.len = omega (arith, c.deref_mut.ensures.len) in
    let whole : take c.in_ok-log.log.len (into ++ drop (length into) c.in_ok-log.log.items) ≡ into = take_at into (drop (length into) c.in_ok-log.log.items) c.in_ok-log.log.len size in
    let bytes : c.deref.result.now ≡ into = c.deref.ensures.value ∙ whole in
    let long : length c.deref.result.now ≡ c.args.layout.log = ap length bytes ∙ size ∙ c.in_ok-log.ensures.len in
    within-log c.log_start-start.result (log_start c.args.layout c.args.side) (length c.deref.result.now) c.args.layout.log c.in_ok-found.found c.log_start-start.ensures long c.in_ok-found.ensures.within

pub returns-clause-right : goal.returns-clause-right
returns-clause-right g c = c.in_ok-found.ensures.right

pub returns-clause-typed : goal.returns-clause-typed
returns-clause-typed g c = c.in_ok-found.ensures.typed

pub returns-clause-found : goal.returns-clause-found
returns-clause-found g c = λ told.
    let into = c.read.new.into in
    let size : length into ≡ c.in_ok-log.log.len = omega (arith, c.deref_mut.ensures.len) in
    let whole : take c.in_ok-log.log.len (into ++ drop (length into) c.in_ok-log.log.items) ≡ into = take_at into (drop (length into) c.in_ok-log.log.items) c.in_ok-log.log.len size in
    let bytes : c.deref.result.now ≡ into = c.deref.ensures.value ∙ whole in
    let long : length c.deref.result.now ≡ c.args.layout.log = ap length bytes ∙ size ∙ c.in_ok-log.ensures.len in
    let has : HasBytes (disk_bytes (g.D.Disk.state c.args.disk.now)) c.log_start-start.result c.deref.result.now = subst (HasBytes (disk_bytes (g.D.Disk.state c.args.disk.now)) c.log_start-start.result) (sym bytes) (c.in_ok-read.ensures.gives told) in
    by-log g.P.Payload.codec c.args.layout (disk_bytes (g.D.Disk.state c.args.disk.now)) c.args.side c.args.form (g.P.Payload.canonical c.args.part) c.log_start-start.result (length c.deref.result.now) _ c.log_start-start.ensures long c.if-form-ne2.false (c.in_ok-found.ensures.found (disk_bytes (g.D.Disk.state c.args.disk.now)) has)

pub returns-clause-counts : goal.returns-clause-counts
returns-clause-counts g c = c.read.ensures.counts

pub returns-clause-faults : goal.returns-clause-faults
returns-clause-faults g c = c.read.ensures.cause.later

pub returns-clause-fault : goal.returns-clause-fault
returns-clause-fault g c = λ is. no-error _ _ is

pub returns-clause-memory : goal.returns-clause-memory
returns-clause-memory g c = tt
