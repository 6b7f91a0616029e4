use Rattle.std.proofs.Common.{sym, ap, ◌∙◌, ◌∷◌, [], ◌++◌, ◌-◌, List, ℕ, Bor, length, take, drop, refl}
use Rattle.std.proofs.lemmas.Bool.{eqb-true}
use Rattle.server_lines.specs.Words.{files_in}
use Rattle.server_lines.proofs.FieldLemmas.{with_rest, file_more, file_refused, all_read, files_short, behind}
use Rattle.server_lines.proofs.fields.files_in.Goals as goal

pub loop-rest-preserved : goal.loop-rest-preserved
loop-rest-preserved c =
    let many = c.in-len3-up.len_at_least in
    let read = sym c.in-Some.is ∙ c.in_ok-file.ensures.file in
    let more = file_more c.loop-rest.files.items c.in-Some.file c.loop-rest.rest.now (record { ref_ptr = (0, 0); now = [] }) many read in
    let rest = ap (λ (ws : List (Bor (List ℕ))). with_rest files_in (c.loop-rest.files.items ++ c.in-Some.file ∷ []) ws) (sym (behind 3 c.loop-rest.rest.now)) in
    c.loop-rest.invariant ∙ more ∙ rest ∙ ap (λ es. with_rest files_in es (take (length c.loop-rest.rest.now - 3) (drop 3 c.loop-rest.rest.now))) (sym c.in_ok-push.ensures.items)

pub returns-else-is_empty : goal.returns-else-is_empty
returns-else-is_empty c =
    record { files = files_short c.loop-rest.files.items c.loop-rest.rest.now c.in_default.len_below (sym c.is_empty.ensures ∙ c.if-is_empty.false) ∙ sym c.loop-rest.invariant }

pub returns-in_default-2 : goal.returns-in_default-2
returns-in_default-2 c =
    let refused = sym c.in_default-2.is ∙ c.in_ok-file.ensures.file in
    record { files = file_refused c.loop-rest.files.items c.loop-rest.rest.now (record { ref_ptr = (0, 0); now = [] }) c.in-len3-up.len_at_least refused ∙ sym c.loop-rest.invariant }

pub returns-then-is_empty : goal.returns-then-is_empty
returns-then-is_empty c =
    let none = eqb-true (length c.loop-rest.rest.now) 0 (sym c.is_empty.ensures ∙ c.if-is_empty.true) in
    record { files = all_read files_in c.loop-rest.files.items c.loop-rest.rest.now refl none ∙ sym c.loop-rest.invariant }
