use Rattle.std.proofs.Common.{refl}
use Rattle.command_fleet.proofs.Blocks.{decoded_between, decoded_more, decoded_none}
use Rattle.command_fleet.proofs.decoding.decode_from.Goals as goal

pub frames-init : goal.frames-init
frames-init c = decoded_none c.frames_pass.ensures.none c.args.block.now c.args.from c.new-reports.result.items c.requires.from c.new-reports.ensures.items

pub frames-preserved : goal.frames-preserved
frames-preserved c =
    let next = rw c.in-Some.is at c.in_ok-next.ensures.next in
    decoded_more c.frames_pass.ensures.behind c.args.block.now c.args.from c.frames.at c.in-Some.next c.frames.reports.items c.decode_next.new.reports.items c.frames.invariant next

pub returns-in-None : goal.returns-in-None
returns-in-None c =
    let same = rw c.in-None.is at c.in_ok-next.ensures.next in
    record { decoded = decoded_between c.args.block.now c.between.result c.args.from c.frames.at c.frames.reports.items c.decode_next.new.reports.items c.between.ensures.part.0 c.between.ensures.part.1 c.between.ensures.part.2 same c.frames.invariant }

pub returns : goal.returns
returns c = record { decoded = decoded_between c.args.block.now c.between-2.result c.args.from c.frames.at c.frames.reports.items c.frames.reports.items c.between-2.ensures.part.0 c.between-2.ensures.part.1 c.between-2.ensures.part.2 refl c.frames.invariant }
