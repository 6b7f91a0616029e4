use Rattle.std.proofs.Common.{◌≡◌, ℕ, List, [], ◌++◌, length, append_assoc, flat_map, codes, ap, ◌∙◌}
use Rattle.httparse.specs.Ascii.{crlf_bytes}
use Rattle.plain_values.specs.declared.headers.Header.{Header}
use Rattle.edge_http.specs.Writing.{request_text, first_line, host_line, type_line, length_line, header_line}
use Rattle.edge_http.proofs.Chains.{append2}
use Rattle.edge_http.proofs.writing.request_bytes.Goals as goal

regroup : (a b c d e f g : List ℕ) → (((((a ++ b) ++ c) ++ d) ++ e) ++ f) ++ g ≡ a ++ (b ++ (c ++ (d ++ (e ++ (f ++ g)))))
regroup a b c d e f g = simp append_assoc

pub returns : goal.returns
unfolding request_text
returns c =
    let to = c.args.to.now in
    let headers = c.args.headers.now.headers in
    let body = c.args.body.now in
    let a = first_line (codes "POST") to in
    let b = host_line to in
    let d = length_line (length body) in
    let e = flat_map header_line headers in
    let s1 = c.in_ok-put_first.ensures ∙ ap (λ (t : List ℕ). t ++ a) c.new-out.ensures.items in
    let s2 = append2 _ [] _ a b s1 c.in_ok-put_host.ensures in
    let s3 = append2 _ [] _ (a ++ b) type_line s2 c.in_ok-extend_from_slice.ensures.items in
    let s4 = append2 _ [] _ ((a ++ b) ++ type_line) d s3 c.in_ok-put_length.ensures in
    let s5 = append2 _ [] _ (((a ++ b) ++ type_line) ++ d) e s4 (c.in_ok-put_headers.ensures ∙ ap (λ (t : List Header). c.put_length.new.out.items ++ flat_map header_line t) c.as_slice.ensures.value) in
    let s6 = append2 _ [] _ ((((a ++ b) ++ type_line) ++ d) ++ e) crlf_bytes s5 c.in_ok-extend_from_slice-2.ensures.items in
    let s7 = append2 _ [] _ (((((a ++ b) ++ type_line) ++ d) ++ e) ++ crlf_bytes) body s6 c.in_ok-extend_from_slice-3.ensures.items in
    record { written = c.of.ensures.value ∙ s7 ∙ regroup a b type_line d e crlf_bytes body }
