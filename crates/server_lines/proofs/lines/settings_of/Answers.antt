use Rattle.std.proofs.Common.{sym, ◌-◌, length, take, drop, []}
use Rattle.std.proofs.lemmas.List.{take_rest}
use Rattle.server_lines.proofs.ArgumentLemmas.{settings_of_few, settings_read, settings_unread, settings_unnamed}
use Rattle.server_lines.proofs.lines.settings_of.Goals as goal

pub returns-in_default : goal.returns-in_default
returns-in_default c = record { read = sym (settings_of_few c.args.words.now c.in_default.len_below) }

pub returns-in_default-number_in : goal.returns-in_default-number_in
returns-in_default-number_in c =
    record { read = settings_unread c.args.words.now (record { ref_ptr = (0, 0); now = [] }) _ c.in-len2-up.len_at_least c.number_in.ensures.number c.in_default-number_in.is }

pub returns-in_default-2 : goal.returns-in_default-2
returns-in_default-2 c =
    let args = c.args.words.now in
    record {
      read = settings_unnamed args (take (length args - 2) (drop 2 args)) (record { ref_ptr = (0, 0); now = [] }) _ _ c.in-len2-up.len_at_least (take_rest args 2)
          c.number_in.ensures.number c.in-Some.is (rw c.in_default-2.is at c.in_ok-headers.ensures.headers);
    }

pub returns : goal.returns
returns c =
    let args = c.args.words.now in
    record {
      read = settings_read args (take (length args - 2) (drop 2 args)) (record { ref_ptr = (0, 0); now = [] }) _ _ _ _ _ c.settings_with.ensures.settings c.in-len2-up.len_at_least (take_rest args 2)
          c.number_in.ensures.number c.in-Some.is (rw c.in-Some-2.is at c.in_ok-headers.ensures.headers) c.in_ok-url.ensures.text;
    }
