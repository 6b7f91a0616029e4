use Rattle.std.proofs.Common.{◌≡◌, sym, ap, ◌∙◌, ◌∷◌, [], ◌++◌, ◌-◌, List, ℕ, Bor, length, take, drop, refl, arith}
use Rattle.server_lines.specs.Words.{headers_in}
use Rattle.server_lines.proofs.FieldLemmas.{with_rest, header_more, header_refused, all_read, behind}
use Rattle.server_lines.proofs.fields.headers_in.Goals as goal

pub loop-rest-preserved : goal.loop-rest-preserved
loop-rest-preserved c =
    let many = c.in-len1-up.len_at_least in
    let read = sym c.in-Some.is ∙ c.in_ok-header.ensures.header in
    let more = header_more c.loop-rest.headers.items c.in-Some.header c.loop-rest.rest.now (record { ref_ptr = (0, 0); now = [] }) many read in
    let rest = ap (λ (ws : List (Bor (List ℕ))). with_rest headers_in (c.loop-rest.headers.items ++ c.in-Some.header ∷ []) ws) (sym (behind 1 c.loop-rest.rest.now)) in
    c.loop-rest.invariant ∙ more ∙ rest ∙ ap (λ es. with_rest headers_in es (take (length c.loop-rest.rest.now - 1) (drop 1 c.loop-rest.rest.now))) (sym c.in_ok-push.ensures.items)

pub returns-in_default-2 : goal.returns-in_default-2
returns-in_default-2 c =
    let refused = sym c.in_default-2.is ∙ c.in_ok-header.ensures.header in
    record { headers = header_refused c.loop-rest.headers.items c.loop-rest.rest.now (record { ref_ptr = (0, 0); now = [] }) c.in-len1-up.len_at_least refused ∙ sym c.loop-rest.invariant }

pub returns : goal.returns
returns c =
    let none : length c.loop-rest.rest.now ≡ 0 = omega (arith, c.in_default.len_below) in
    record { headers = all_read headers_in c.loop-rest.headers.items c.loop-rest.rest.now refl none ∙ sym c.loop-rest.invariant }
