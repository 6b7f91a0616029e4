use Rattle.std.proofs.Common.{◌-◌, length, take, drop, []}
use Rattle.std.proofs.lemmas.List.{take_rest}
use Rattle.server_lines.proofs.ArgumentLemmas.{act_none, act_read, act_unread, act_unmeant}
use Rattle.server_lines.proofs.lines.act_of.Goals as goal

pub returns-in_default : goal.returns-in_default
returns-in_default c = record { read = act_none c.args.verb.now c.args.arguments.now c.in_default.len_below }

pub returns-in_default-uid_of : goal.returns-in_default-uid_of
returns-in_default-uid_of c =
    record { read = act_unread c.args.verb.now c.args.arguments.now (record { ref_ptr = (0, 0); now = [] }) _ c.in-len1-up.len_at_least c.uid_of.ensures.uid c.in_default-uid_of.is }

pub returns-in_default-2 : goal.returns-in_default-2
returns-in_default-2 c =
    let args = c.args.arguments.now in
    record {
      read = act_unmeant c.args.verb.now args (take (length args - 1) (drop 1 args)) (record { ref_ptr = (0, 0); now = [] }) _ _ c.in-len1-up.len_at_least (take_rest args 1)
          c.uid_of.ensures.uid c.in-Some.is (rw c.in_default-2.is at c.in_ok-action.ensures.read);
    }

pub returns : goal.returns
returns c =
    let args = c.args.arguments.now in
    record {
      read = act_read c.args.verb.now args (take (length args - 1) (drop 1 args)) (record { ref_ptr = (0, 0); now = [] }) _ _ _ c.in-len1-up.len_at_least (take_rest args 1)
          c.uid_of.ensures.uid c.in-Some.is (rw c.in-Some-2.is at c.in_ok-action.ensures.read);
    }
