use Rattle.std.proofs.Common.{ℕ, List, [], ◌++◌, append_assoc, codes, ap, ◌∙◌}
use Rattle.httparse.specs.Ascii.{crlf_bytes}
use Rattle.edge_http.specs.Writing.{get_text, first_line, host_line}
use Rattle.edge_http.proofs.Chains.{append2}
use Rattle.edge_http.proofs.writing.get_bytes.Goals as goal

pub returns : goal.returns
unfolding get_text
returns c =
    let to = c.args.to.now in
    let one = c.in_ok-put_first.ensures ∙ ap (λ (t : List ℕ). t ++ first_line (codes "GET") to) c.new-out.ensures.items in
    let two = append2 _ [] _ (first_line (codes "GET") to) (host_line to) one c.in_ok-put_host.ensures in
    record {
      written = c.of.ensures.value ∙ append2 _ [] _ (first_line (codes "GET") to ++ host_line to) crlf_bytes two c.in_ok-extend_from_slice.ensures.items
          ∙ append_assoc (first_line (codes "GET") to) (host_line to) crlf_bytes;
    }
