use Rattle.std.proofs.Common.{◌≡◌, ◌+◌, ◌-◌, rules, arith}
use Rattle.command_streams.specs.declared.stop.Stop.TheVariants.{Refused, TooLong}
use Rattle.command_streams.specs.Reading.{behind_fault, behind_length}
use Rattle.command_streams.proofs.Answered.{IsAnswered-start, IsAnswered-next, IsAnswered-stops, IsAnswered-few, fault_in_held, length_in_held}
use Rattle.command_streams.proofs.answering.answer_frames.Goals as goal

pub frames-preserved : goal.frames-preserved
frames-preserved g c =
    let front = rw (c.in-Frame.is, c.bytes.ensures.bytes) at c.front_of.ensures.front in
    let less : 4 + c.in-Frame.len - 4 ≡ c.in-Frame.len = omega arith in
    let made = rw (c.in-Written.is, c.bytes-in-frames.ensures.bytes, less) at c.in_ok-handle.ensures.gives in
    IsAnswered-next g.H.Handler.gives c.args.handler.now c.frames.handler c.handle.new.self c.args.held.now c.frames.held c.pass.new.self c.args.pending.now.bytes c.frames.pending.bytes c.handle.new.output.bytes made.0 c.in-Frame.len
    c.frames.invariant front made.2 (search (rules, c.pass.ensures.passed)) (search (rules, c.pass.ensures.passed)) made.1

pub returns-in-Refused : goal.returns-in-Refused
returns-in-Refused g c =
    let front = rw (c.in-Frame.is, c.bytes.ensures.bytes) at c.front_of.ensures.front in
    let less : 4 + c.in-Frame.len - 4 ≡ c.in-Frame.len = omega arith in
    let made = rw (c.in-Refused.is, c.bytes-in-frames.ensures.bytes, less) at c.in_ok-handle.ensures.gives in
    let stops = fault_in_held g.H.Handler.gives c.frames.handler c.handle.new.self c.frames.held c.in-Frame.len c.in-Refused.offset c.in-Refused.why front made.1 in
    record {
      answers = rw (c.refused_in_frame.ensures.stop, c.at-in-Refused.ensures.place, made.0) (IsAnswered-stops g.H.Handler.gives c.args.handler.now c.frames.handler c.handle.new.self c.args.held.now c.frames.held c.args.pending.now.bytes c.frames.pending.bytes (Refused (c.frames.held.at + 4 + c.in-Refused.offset) c.in-Refused.why) c.frames.invariant stops (behind_fault _ _ _ made.1));
    }

pub returns-in-TooLong : goal.returns-in-TooLong
returns-in-TooLong g c =
    let front = rw (c.in-Frame.is, c.bytes.ensures.bytes) at c.front_of.ensures.front in
    let less : 4 + c.in-Frame.len - 4 ≡ c.in-Frame.len = omega arith in
    let made = rw (c.in-TooLong.is, c.bytes-in-frames.ensures.bytes, less) at c.in_ok-handle.ensures.gives in
    let stops = length_in_held g.H.Handler.gives c.frames.handler c.handle.new.self c.frames.held c.in-Frame.len front made.1 in
    record {
      answers = rw made.0 (IsAnswered-stops g.H.Handler.gives c.args.handler.now c.frames.handler c.handle.new.self c.args.held.now c.frames.held c.args.pending.now.bytes c.frames.pending.bytes TooLong c.frames.invariant stops (behind_length _ made.1));
    }

pub handle-requires : goal.handle-requires
handle-requires g c =
    let few = IsAnswered-few g.H.Handler.gives g.H.Handler.counted c.args.handler.now c.frames.handler c.args.held.now c.frames.held c.args.pending.now.bytes c.frames.pending.bytes g.met.H.Handler.counts c.frames.invariant in
    omega (arith, c.requires.few)

pub frames-init : goal.frames-init
frames-init g c = IsAnswered-start g.H.Handler.gives c.args.handler.now c.args.held.now c.args.pending.now.bytes

pub returns-in-Part : goal.returns-in-Part
returns-in-Part g c =
    let so_far = c.frames.invariant in
    record { answers = (so_far.steps, so_far.pass, so_far.outputs, (so_far.state_is, rw c.bytes.ensures.bytes at c.in-Part.ensures.front)) }
