use Rattle.std.specs.String.{string_bytes}
use Rattle.server_lines.specs.Answers.{member_line}
use Rattle.server_lines.proofs.ListLemmas.{each_more}
use Rattle.server_lines.proofs.telling.lines_of_members.Goals as goal

pub loop-member-preserved : goal.loop-member-preserved
loop-member-preserved c =
    each_more member_line (string_bytes c.loop-member.text) (string_bytes c.put_member.new.text) c.loop-member.member-index c.member-item.result c.args.members.now c.loop-member-test.true c.member-item.is c.in_ok-put_member.ensures.ok c.loop-member.invariant
