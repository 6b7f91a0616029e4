use Rattle.std.proofs.Common.{◌≡◌, ◌+◌, ◌<◌, [], ◌++◌, ◌∙◌, ap, refl, length, arith}
use Rattle.command_streams.specs.declared.TheConstants.{MESSAGE_LIMIT}
use Rattle.command_streams.specs.Held.{taken_of}
use Rattle.command_streams.specs.Supplies.{Fills}
use Rattle.command_fleet.proofs.Blocks.{filled_apart, holds_joined, read_behind, wants_short}
use Rattle.command_fleet.proofs.Taken.{ahead_of, within_ahead, within_none}
use Rattle.command_fleet.proofs.blockwise.read_on.Goals as goal

pub returns-in-Stops-clause-next : goal.returns-in-Stops-clause-next
returns-in-Stops-clause-next g c = λ input so_far.
    let halt = rw c.in-Stops.is at c.in_ok-handle_block.ensures.halts in
    let here = c.blocks_are_read.ensures.passed [] c.args.budget c.args.held.now c.handle_block.new.held c.args.reports.now halt.0 input (g.S.Source.left c.args.source.now) so_far halt.1 in
    c.blocks_are_one_input.ensures.stopped [] c.args.budget c.handle_block.new.held halt.0 c.handle_block.new.reports input (g.S.Source.left c.args.source.now) c.in-Stops.stop here halt.2.0 halt.2.1

pub returns-clause-next : goal.returns-clause-next
returns-clause-next g c = λ input so_far.
    let left = g.S.Source.left c.args.source.now in
    let left' = g.S.Source.left c.decode_and_fill-parts.new.source in
    let old = c.args.held.now in
    let held = c.handle_block.new.held in
    let joined = c.put_front.new.self in
    let halt = rw c.in-Wants.is at c.in_ok-handle_block.ensures.halts in
    let here = c.blocks_are_read.ensures.passed [] c.args.budget old held c.args.reports.now halt.0 input left so_far halt.1 in
    let taken : taken_of held ≡ taken_of old = c.frames_pass.ensures.taken c.args.reports.now halt.0 old held halt.1 in
    let behind : c.begin_at.new.self.at ≡ taken_of held = omega (arith, taken, c.in_ok-begin_at.ensures.begun.0, c.at.ensures.place, ap length c.bytes.ensures.bytes) in
    let fills : Fills c.args.budget c.begin_at.new.self c.decode_and_fill-parts.new.ahead left left' c.in_ok-supply.supply = rw c.in_ok-supply.was at c.decode_and_fill-parts.ensures.filled in
    let at_is : joined.at ≡ held.at = omega (arith, c.in_ok-put_front.ensures.place, ap length c.bytes-3.ensures.bytes, behind, fills.takes.2) in
    let bytes_are : joined.bytes ≡ held.bytes ++ c.decode_and_fill-parts.new.ahead.bytes = c.in_ok-put_front.ensures.bytes ∙ ap (λ t. t ++ c.decode_and_fill-parts.new.ahead.bytes) c.bytes-3.ensures.bytes in
    let on = filled_apart c.args.budget held c.begin_at.new.self c.decode_and_fill-parts.new.ahead joined left left' c.in_ok-supply.supply c.in_ok-begin_at.ensures.begun.1 behind fills at_is bytes_are in
    let filled = c.blocks_are_read.ensures.filled [] c.args.budget held joined halt.0 input left left' c.in_ok-supply.supply here on in
    let short : length held.bytes < 4 + MESSAGE_LIMIT = wants_short held.bytes _ halt.2.1 in
    rw c.swap.ensures.x_after (read_behind c.args.budget joined c.handle_block.new.reports halt.0 input on.last left' c.in_ok-supply.supply halt.2.0 filled (holds_joined _ held joined _ _ _ short on) on.by)

pub returns-in_err-begin_at-clause-few : goal.returns-in_err-begin_at-clause-few
returns-in_err-begin_at-clause-few g c = within_none c.args.budget c.args.held.now _ c.requires.within.0

pub returns-in_err-parts-clause-few : goal.returns-in_err-parts-clause-few
returns-in_err-parts-clause-few g c =
    within_ahead _ c.args.held.now c.begin_at.new.self _ _
    (ahead_of c.args.held.now c.begin_at.new.self c.at.result _ _ c.at.ensures.place (ap length c.bytes.ensures.bytes) refl c.in_ok-begin_at.ensures.begun)
    c.decode_and_fill-parts.ensures.few

pub returns-in_err-handle_block-clause-few : goal.returns-in_err-handle_block-clause-few
returns-in_err-handle_block-clause-few g c =
    within_ahead _ c.args.held.now c.begin_at.new.self _ _
    (ahead_of c.args.held.now c.begin_at.new.self c.at.result _ _ c.at.ensures.place (ap length c.bytes.ensures.bytes) refl c.in_ok-begin_at.ensures.begun)
    c.decode_and_fill-parts.ensures.few

pub returns-in-Stops-clause-few : goal.returns-in-Stops-clause-few
returns-in-Stops-clause-few g c =
    within_ahead _ c.args.held.now c.begin_at.new.self _ _
    (ahead_of c.args.held.now c.begin_at.new.self c.at.result _ _ c.at.ensures.place (ap length c.bytes.ensures.bytes) refl c.in_ok-begin_at.ensures.begun)
    c.decode_and_fill-parts.ensures.few

pub returns-in_err-supply-clause-few : goal.returns-in_err-supply-clause-few
returns-in_err-supply-clause-few g c =
    within_ahead _ c.args.held.now c.begin_at.new.self _ _
    (ahead_of c.args.held.now c.begin_at.new.self c.at.result _ _ c.at.ensures.place (ap length c.bytes.ensures.bytes) refl c.in_ok-begin_at.ensures.begun)
    c.decode_and_fill-parts.ensures.few

pub returns-in_err-put_front-clause-few : goal.returns-in_err-put_front-clause-few
returns-in_err-put_front-clause-few g c =
    within_ahead _ c.args.held.now c.begin_at.new.self _ _
    (ahead_of c.args.held.now c.begin_at.new.self c.at.result _ _ c.at.ensures.place (ap length c.bytes.ensures.bytes) refl c.in_ok-begin_at.ensures.begun)
    c.decode_and_fill-parts.ensures.few

pub returns-clause-few : goal.returns-clause-few
returns-clause-few g c =
    within_ahead _ c.args.held.now c.begin_at.new.self _ _
    (ahead_of c.args.held.now c.begin_at.new.self c.at.result _ _ c.at.ensures.place (ap length c.bytes.ensures.bytes) refl c.in_ok-begin_at.ensures.begun)
    c.decode_and_fill-parts.ensures.few
