use Rattle.std.proofs.Common.{◌≡◌, ℕ, ◌==◌, if◌then◌else◌, List, [], ◌++◌, length, append_assoc, codes, ap, ◌∙◌}
use Rattle.httparse.specs.Ascii.{crlf_bytes}
use Rattle.edge_http.specs.Writing.{response_text, status_line, type_line, length_line, line}
use Rattle.edge_http.proofs.Chains.{append2}
use Rattle.edge_http.proofs.writing.response_bytes.Goals as goal

regroup : (a b c d e f g : List ℕ) → (((((a ++ b) ++ c) ++ d) ++ e) ++ f) ++ g ≡ a ++ (b ++ (c ++ (d ++ (e ++ (f ++ g)))))
regroup a b c d e f g = simp append_assoc

pub returns : goal.returns
unfolding response_text
returns c =
    let status = c.args.status in
    let body = c.args.body.now in
    let a = status_line status in
    let b : List ℕ = if status == 405 then line (codes "Allow: POST") else [] in
    let d : List ℕ = if status == 200 then type_line else [] in
    let e = length_line (length body) in
    let f : List ℕ = if c.args.close then line (codes "Connection: close") else [] in
    let s1 = c.in_ok-put_status.ensures ∙ ap (λ (t : List ℕ). t ++ a) c.new-out.ensures.items in
    let s2 = append2 _ [] _ a b s1 c.in_ok-put_if.ensures in
    let s3 = append2 _ [] _ (a ++ b) d s2 c.in_ok-put_if-2.ensures in
    let s4 = append2 _ [] _ ((a ++ b) ++ d) e s3 c.in_ok-put_length.ensures in
    let s5 = append2 _ [] _ (((a ++ b) ++ d) ++ e) f s4 c.in_ok-put_if-3.ensures in
    let s6 = append2 _ [] _ ((((a ++ b) ++ d) ++ e) ++ f) crlf_bytes s5 c.in_ok-extend_from_slice.ensures.items in
    let s7 = append2 _ [] _ (((((a ++ b) ++ d) ++ e) ++ f) ++ crlf_bytes) body s6 c.in_ok-extend_from_slice-2.ensures.items in
    record { written = c.of.ensures.value ∙ s7 ∙ regroup a b d e f crlf_bytes body }
