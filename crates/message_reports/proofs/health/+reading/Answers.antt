use Rattle.std.proofs.Common.{refl, suc, ◌-◌}
use Rattle.message_attributes.proofs.PartLaws.{on_ok}
use Rattle.message_codec.specs.Tables as tables
use Rattle.message_codec.proofs.ColumnLaws.{skips}
use Rattle.message_codec.proofs.Reading.{turn}
use Rattle.message_reports.proofs.PayloadLaws.{entry_payload, held_payload, no_payload}
use Rattle.message_reports.proofs.health.+reading.Goals as goal

pub read_health_into-loop-at-preserved : goal.read_health_into-loop-at-preserved
read_health_into-loop-at-preserved t c =
    let read = c.in_ok-item.ensures in
    let took = rw (← c.in_ok-in_message.ensures.same) at c.take_health-taken.ensures.ok in
    record { within = read.read.fits; reads = turn c.args.below tables.ComponentHealth c.args.bytes.now c.loop-at.at c.in_ok-item.item _ _ _ read.begins read.read took c.loop-at.invariant.reads }

pub read_health_part_into-loop-at-preserved : goal.read_health_part_into-loop-at-preserved
read_health_part_into-loop-at-preserved t c =
    let read = c.in_ok-item.ensures in
    let took = rw (← c.in_ok-in_message.ensures.same) at c.take_health_entry-taken.ensures.ok in
    record { within = read.read.fits; reads = turn c.args.below (tables.Entry tables.ComponentHealth) c.args.bytes.now c.loop-at.at c.in_ok-item.item _ _ _ read.begins read.read took c.loop-at.invariant.reads }

pub take_health-returns-in-6-clause-ok : goal.take_health-returns-in-6-clause-ok
take_health-returns-in-6-clause-ok t c = rw c.in-6.is (on_ok c.take_health_part.result _ _ (λ k. (refl, (refl, (refl, (refl, (refl, (k, tt))))))) c.take_health_part.ensures.ok)

pub take_health-returns-in_default-clause-ok : goal.take_health-returns-in_default-clause-ok
take_health-returns-in_default-clause-ok t c = c.take_plain.ensures.ok c.args.below

pub take_health-returns-in_default-clause-refused : goal.take_health-returns-in_default-clause-refused
take_health-returns-in_default-clause-refused t c = c.take_plain.ensures.refused c.args.below

pub take_health_entry-returns-in-1-clause-ok : goal.take_health_entry-returns-in-1-clause-ok
take_health_entry-returns-in-1-clause-ok t c = rw c.in-1.is (on_ok c.take_text.result _ _ (λ k. (k, (refl, tt))) c.take_text.ensures.ok)

pub take_health_entry-returns-in-2-clause-ok : goal.take_health_entry-returns-in-2-clause-ok
take_health_entry-returns-in-2-clause-ok t c = rw c.in-2.is (on_ok c.take_health_value.result _ _ (λ k. (refl, (k, tt))) c.take_health_value.ensures.ok)

pub take_health_part-returns-in_default-clause-ok : goal.take_health_part-returns-in_default-clause-ok
take_health_part-returns-in_default-clause-ok t c = skips c.args.below (tables.Keyed tables.ComponentHealth) _ _ (no_payload c.in_ok-payload.field-0 c.in_ok-payload.ensures.none c.in_default.not-Some)

pub take_health_part-around_payload-requires-clause-lies : goal.take_health_part-around_payload-requires-clause-lies
take_health_part-around_payload-requires-clause-lies t c = (rw c.in-Some.is at c.in_ok-payload.ensures.payload).1

pub take_health_part-around_payload-requires-clause-fails : goal.take_health_part-around_payload-requires-clause-fails
take_health_part-around_payload-requires-clause-fails t c = c.put_read_health-put.ensures.refused (suc (c.args.below - 1)) c.in-Some.payload.now c.read_health_part_into-read.ensures.refused

pub take_health_part-returns-clause-ok : goal.take_health_part-returns-clause-ok
take_health_part-returns-clause-ok t c =
    let found = rw c.in-Some.is at c.in_ok-payload.ensures.payload in
    let read = rw c.empty_health_entry-part.ensures.empty at c.read_health_part_into-read.ensures.ok in
    entry_payload c.args.below tables.ComponentHealth _ _ _ _ _ c.read_health_part_into-read.result c.put_read_health-put.result c.around_payload.result found c.around_payload.ensures.same c.put_read_health-put.ensures.read read c.put_read_health-put.ensures.closes

pub take_health_value-returns-in_default-clause-ok : goal.take_health_value-returns-in_default-clause-ok
take_health_value-returns-in_default-clause-ok t c = skips c.args.below (tables.Held tables.ComponentHealth) _ _ (no_payload c.in_ok-payload.field-0 c.in_ok-payload.ensures.none c.in_default.not-Some)

pub take_health_value-around_payload-requires-clause-lies : goal.take_health_value-around_payload-requires-clause-lies
take_health_value-around_payload-requires-clause-lies t c = (rw c.in-Some.is at c.in_ok-payload.ensures.payload).1

pub take_health_value-returns-clause-ok : goal.take_health_value-returns-clause-ok
take_health_value-returns-clause-ok t c =
    let found = rw c.in-Some.is at c.in_ok-payload.ensures.payload in
    held_payload c.args.below tables.ComponentHealth _ _ _ _ c.read_health_into-read.result c.around_payload.result found c.around_payload.ensures.same c.read_health_into-read.ensures.ok
