use Rattle.std.proofs.Common.{◌-◌, length, take, drop, []}
use Rattle.std.proofs.lemmas.List.{take_rest}
use Rattle.server_lines.proofs.ArgumentLemmas.{steer_none, steer_read, steer_unread, steer_unmeant}
use Rattle.server_lines.proofs.steering.steer_of.Goals as goal

pub returns-in_default : goal.returns-in_default
returns-in_default c = record { read = steer_none c.args.verb.now c.args.arguments.now c.in_default.len_below }

pub returns-in_default-2 : goal.returns-in_default-2
returns-in_default-2 c =
    record { read = steer_unread c.args.verb.now c.args.arguments.now (record { ref_ptr = (0, 0); now = [] }) _ c.in-len1-up.len_at_least c.in_ok-id.ensures.id c.in_default-2.is }

pub returns-in_default-3 : goal.returns-in_default-3
returns-in_default-3 c =
    let args = c.args.arguments.now in
    record {
      read = steer_unmeant c.args.verb.now args (take (length args - 1) (drop 1 args)) (record { ref_ptr = (0, 0); now = [] }) _ _ c.in-len1-up.len_at_least (take_rest args 1)
          c.in_ok-id.ensures.id c.in-Some.is (rw c.in_default-3.is at c.in_ok-steering.ensures.read);
    }

pub returns : goal.returns
returns c =
    let args = c.args.arguments.now in
    record {
      read = steer_read c.args.verb.now args (take (length args - 1) (drop 1 args)) (record { ref_ptr = (0, 0); now = [] }) _ _ _ c.in-len1-up.len_at_least (take_rest args 1)
          c.in_ok-id.ensures.id c.in-Some.is (rw c.in-Some-2.is at c.in_ok-steering.ensures.read);
    }
