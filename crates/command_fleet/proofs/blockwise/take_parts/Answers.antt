use Rattle.std.proofs.Common.{◌≡◌, ◌<◌, ◌∙◌, ◌++◌, Ok, arith, ap, length, rules}
use Rattle.command_fleet.proofs.Blocks.{first_part, other_parts, taken_more, taken_none}
use Rattle.command_fleet.proofs.blockwise.take_parts.Goals as goal

pub parts-init : goal.parts-init
parts-init c = (c.requires.decoded, taken_none c.frames_pass.ensures.none c.args.reports.now c.args.held.now)

pub parts-preserved : goal.parts-preserved
parts-preserved c =
    let block = c.args.held.now.bytes in
    let some : 0 < length c.parts.parts.items = omega (arith, c.remove.ensures.len) in
    let first = first_part block c.parts.parts.items (Ok c.in_ok-part.part) c.parts.invariant.0 some c.in_ok-part.ensures.value in
    let next : c.in_ok-part.part.from ≡ c.parts.passed = omega (arith, c.if-part-passed.false) in (
      other_parts block c.parts.parts.items c.remove.new.self.items c.parts.invariant.0 c.remove.ensures.by_index.2,
      taken_more c.frames_pass.ensures.behind c.args.reports.now c.args.held.now c.parts.held c.pass.new.self c.parts.passed c.parts.reports c.append.new.self c.in_ok-part.part
          c.parts.invariant.1 first next (search (rules, c.pass.ensures.passed)) (search (rules, c.pass.ensures.passed)) (c.in_ok-append.ensures.added ∙ ap (λ v. c.parts.reports ++ v.items) c.into_reports.ensures.reports),
    )
