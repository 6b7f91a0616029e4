use Rattle.std.proofs.Common.{◌≡◌, ℕ, ◌+◌, sym, ◌∙◌, ap, arith, eqb}
use Rattle.agent_store.proofs.Headers.{generation-part, length-part}
use Rattle.agent_store.proofs.header.Header.of.Goals as goal

pub returns : goal.returns
returns c = λ image at has.
    let here : at ≡ at + 0 = omega arith in record {
      gate = ap (λ (b : ℕ). eqb b 1) (sym (ap image here ∙ has 0 (omega arith)));
      form = sym (has 13 (omega arith));
      generation = c.from_le_bytes.ensures ∙ generation-part image at c.args.bytes.now c.copy_from_slice.new.self c.requires has c.copy_from_slice.ensures.after;
      size = c.from_le_bytes-2.ensures ∙ length-part image at c.args.bytes.now c.copy_from_slice-2.new.self c.requires has c.copy_from_slice-2.ensures.after;
    }
