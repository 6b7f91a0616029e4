use Rattle.std.proofs.Common.{refl, ap}
use Rattle.std.proofs.KnownBytes.{Keeps-refl}
use Rattle.std.proofs.lemmas.Result.{IfOk-from_err, err_from_is_err_and}
use Rattle.command_streams.specs.declared.stop.RunFail.TheVariants.{ReadFault, NoMemory}
use Rattle.command_streams.specs.Held.{HeldState}
use Rattle.command_streams.proofs.Exits.{not_err, no_read, other_than_write, memory_other, read_other, same_count, at_within, bytes_within, bytes_below, held_and_room, spent, least_within, supply_ended, supply_more, holds_few, held_few}
use Rattle.command_streams.proofs.held.HeldBytes.take_more.Goals as goal

pub overflow_sub-allowed : goal.overflow_sub-allowed
overflow_sub-allowed g c = at_within c.args.self.now c.self.inside.at c.args.budget (ap (λ (s : HeldState). s.at) c.self.view_is) c.requires.within.0

pub overflow_sub-allowed-2 : goal.overflow_sub-allowed-2
overflow_sub-allowed-2 g c =
    bytes_within c.args.self.now c.self.inside.at c.args.budget c.bytes-held.result.now (ap (λ (s : HeldState). s.at) c.self.view_is) c.bytes-held.ensures.bytes c.requires.within.0

pub returns-then-allowed-eq0-clause-supply : goal.returns-then-allowed-eq0-clause-supply
returns-then-allowed-eq0-clause-supply g c = (
  (refl, refl),
  spent c.args.self.now c.self.inside.at c.args.budget c.bytes-held.result.now (ap (λ (s : HeldState). s.at) c.self.view_is) c.bytes-held.ensures.bytes c.requires.within.0 c.if-allowed-eq0.true,
  Keeps-refl (g.S.Source.left c.args.source.now),
)

pub returns-then-allowed-eq0-clause-few : goal.returns-then-allowed-eq0-clause-few
returns-then-allowed-eq0-clause-few g c = held_few c.args.self.now c.args.need c.requires.need.0

pub returns-then-allowed-eq0-clause-read_fault : goal.returns-then-allowed-eq0-clause-read_fault
returns-then-allowed-eq0-clause-read_fault g c = λ is. not_err _ _ is

pub returns-then-allowed-eq0-clause-kept : goal.returns-then-allowed-eq0-clause-kept
returns-then-allowed-eq0-clause-kept g c = tt

pub returns-then-allowed-eq0-clause-count : goal.returns-then-allowed-eq0-clause-count
returns-then-allowed-eq0-clause-count g c = same_count _

pub overflow_sub-room : goal.overflow_sub-room
overflow_sub-room g c = bytes_below c.args.self.now c.bytes-held.result.now c.args.need c.bytes-held.ensures.bytes c.requires.need.0

pub make_room-requires : goal.make_room-requires
make_room-requires g c = record {
  fits = held_and_room c.args.self.now c.bytes-held.result.now c.args.need c.bytes-held.ensures.bytes c.requires.need.0 c.requires.need.1;
}

pub returns-in_err-make_room-clause-supply : goal.returns-in_err-make_room-clause-supply
returns-in_err-make_room-clause-supply g c = IfOk-from_err c.from_residual.result _ c.from_residual.ensures.0

pub returns-in_err-make_room-clause-read_fault : goal.returns-in_err-make_room-clause-read_fault
returns-in_err-make_room-clause-read_fault g c = λ is.
    no_read c.from_residual.result (err_from_is_err_and c.from_residual.result c.from_residual.ensures.1) is

pub returns-in_err-make_room-clause-kept : goal.returns-in_err-make_room-clause-kept
returns-in_err-make_room-clause-kept g c =
    let p = err_from_is_err_and c.from_residual.result c.from_residual.ensures.1 in
    rw p.1 (Keeps-refl (g.S.Source.left c.args.source.now))

pub returns-in_err-make_room-clause-few : goal.returns-in_err-make_room-clause-few
returns-in_err-make_room-clause-few g c =
    let p = err_from_is_err_and c.from_residual.result c.from_residual.ensures.1 in
    rw p.1 tt

pub returns-in_err-make_room-clause-no_write : goal.returns-in_err-make_room-clause-no_write
returns-in_err-make_room-clause-no_write g c =
    other_than_write c.from_residual.result NoMemory (err_from_is_err_and c.from_residual.result c.from_residual.ensures.1) memory_other

pub returns-in_err-make_room-clause-count : goal.returns-in_err-make_room-clause-count
returns-in_err-make_room-clause-count g c = same_count _

pub take_once-requires : goal.take_once-requires
take_once-requires g c = record {
  room = least_within _ _ _ _ c.within_both.ensures.least c.in_ok-make_room.ensures.room;
}

pub returns-in_err-n-clause-supply : goal.returns-in_err-n-clause-supply
returns-in_err-n-clause-supply g c = IfOk-from_err c.from_residual-in_err-n.result _ c.from_residual-in_err-n.ensures.0

pub returns-in_err-n-clause-read_fault : goal.returns-in_err-n-clause-read_fault
returns-in_err-n-clause-read_fault g c = λ is. c.in_err-n.ensures.fault

pub returns-in_err-n-clause-kept : goal.returns-in_err-n-clause-kept
returns-in_err-n-clause-kept g c =
    let p = err_from_is_err_and c.from_residual-in_err-n.result c.from_residual-in_err-n.ensures.1 in
    rw p.1 c.in_err-n.ensures.kept

pub returns-in_err-n-clause-few : goal.returns-in_err-n-clause-few
returns-in_err-n-clause-few g c =
    let p = err_from_is_err_and c.from_residual-in_err-n.result c.from_residual-in_err-n.ensures.1 in
    rw p.1 tt

pub returns-in_err-n-clause-no_write : goal.returns-in_err-n-clause-no_write
returns-in_err-n-clause-no_write g c =
    other_than_write c.from_residual-in_err-n.result ReadFault (err_from_is_err_and c.from_residual-in_err-n.result c.from_residual-in_err-n.ensures.1) read_other

pub returns-in_err-n-clause-count : goal.returns-in_err-n-clause-count
returns-in_err-n-clause-count g c = c.take_once.ensures.count

pub returns-then-n-eq0-clause-supply : goal.returns-then-n-eq0-clause-supply
returns-then-n-eq0-clause-supply g c =
    supply_ended c.args.budget c.self.inside.at c.args.need c.in_ok-n.n c.within_both.result c.args.self.now c.make_room.new.self c.take_once.new.self (g.S.Source.left c.args.source.now) (g.S.Source.left c.take_once.new.source) c.bytes-held.result.now
    (ap (λ (s : HeldState). s.at) c.self.view_is) c.bytes-held.ensures.bytes c.requires.within.0 c.if-allowed-eq0.false c.in_ok-make_room.ensures.kept c.within_both.ensures.least c.in_ok-n.ensures.more c.in_ok-n.ensures.at_end c.if-n-eq0.true

pub returns-then-n-eq0-clause-read_fault : goal.returns-then-n-eq0-clause-read_fault
returns-then-n-eq0-clause-read_fault g c = λ is. not_err _ _ is

pub returns-then-n-eq0-clause-kept : goal.returns-then-n-eq0-clause-kept
returns-then-n-eq0-clause-kept g c = tt

pub returns-then-n-eq0-clause-few : goal.returns-then-n-eq0-clause-few
returns-then-n-eq0-clause-few g c =
    holds_few c.args.budget c.self.inside.at c.args.need c.in_ok-n.n c.within_both.result c.args.self.now c.make_room.new.self c.take_once.new.self (g.S.Source.left c.args.source.now) (g.S.Source.left c.take_once.new.source) c.bytes-held.result.now
    c.bytes-held.ensures.bytes c.requires.need.0 c.in_ok-make_room.ensures.kept c.within_both.ensures.least c.in_ok-n.ensures.more c.in_ok-n.ensures.within

pub returns-then-n-eq0-clause-count : goal.returns-then-n-eq0-clause-count
returns-then-n-eq0-clause-count g c = c.take_once.ensures.count

pub returns-else-n-eq0-clause-supply : goal.returns-else-n-eq0-clause-supply
returns-else-n-eq0-clause-supply g c =
    supply_more c.args.budget c.self.inside.at c.args.need c.in_ok-n.n c.within_both.result c.args.self.now c.make_room.new.self c.take_once.new.self (g.S.Source.left c.args.source.now) (g.S.Source.left c.take_once.new.source) c.bytes-held.result.now
    (ap (λ (s : HeldState). s.at) c.self.view_is) c.bytes-held.ensures.bytes c.requires.within.0 c.in_ok-make_room.ensures.kept c.within_both.ensures.least c.in_ok-n.ensures.more c.in_ok-n.ensures.within c.if-n-eq0.false

pub returns-else-n-eq0-clause-read_fault : goal.returns-else-n-eq0-clause-read_fault
returns-else-n-eq0-clause-read_fault g c = λ is. not_err _ _ is

pub returns-else-n-eq0-clause-kept : goal.returns-else-n-eq0-clause-kept
returns-else-n-eq0-clause-kept g c = tt

pub returns-else-n-eq0-clause-few : goal.returns-else-n-eq0-clause-few
returns-else-n-eq0-clause-few g c =
    holds_few c.args.budget c.self.inside.at c.args.need c.in_ok-n.n c.within_both.result c.args.self.now c.make_room.new.self c.take_once.new.self (g.S.Source.left c.args.source.now) (g.S.Source.left c.take_once.new.source) c.bytes-held.result.now
    c.bytes-held.ensures.bytes c.requires.need.0 c.in_ok-make_room.ensures.kept c.within_both.ensures.least c.in_ok-n.ensures.more c.in_ok-n.ensures.within

pub returns-else-n-eq0-clause-count : goal.returns-else-n-eq0-clause-count
returns-else-n-eq0-clause-count g c = c.take_once.ensures.count
