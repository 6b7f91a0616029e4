use Rattle.std.proofs.Common.{sym, ◌∙◌, refl}
use Rattle.server_lines.specs.Words.{files_in}
use Rattle.server_lines.proofs.ArgumentLemmas.{unfilled, is_filled}
use Rattle.server_lines.proofs.fields.files_of.Goals as goal

pub returns-then-is_empty : goal.returns-then-is_empty
returns-then-is_empty c =
    let none = unfilled files_in c.args.words.now (sym c.is_empty.ensures ∙ c.if-is_empty.true) in
    record { files = rw none refl }

pub returns-in_default : goal.returns-in_default
returns-in_default c =
    let there = is_filled files_in c.args.words.now (sym c.is_empty.ensures ∙ c.if-is_empty.false) in
    let none = sym (rw c.in_default.is at c.in_ok-files.ensures.files) in
    record { files = rw (there, none) refl }

pub returns : goal.returns
returns c =
    let there = is_filled files_in c.args.words.now (sym c.is_empty.ensures ∙ c.if-is_empty.false) in
    let some = sym (rw c.in-Some.is at c.in_ok-files.ensures.files) in
    record { files = rw (there, some, c.in_ok-config_map.ensures.value) refl }
