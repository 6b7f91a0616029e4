use Rattle.server_lines.proofs.WordLemmas.{is_text, is_no_text}
use Rattle.server_lines.proofs.fields.value_in.Goals as goal

pub returns-in-Ok : goal.returns-in-Ok
returns-in-Ok c = record {
  value = is_text c.args.hex.now _ _ _ _ _ c.in_ok-bytes.ensures.bytes c.in-Some.is c.as_slice.ensures.value c.in-Ok.ensures.cases.0 c.in-Ok.ensures.cases.1 c.in_ok-text_of-in-Ok.ensures.text;
}

pub returns : goal.returns
returns c = record { value = is_no_text c.args.hex.now _ _ _ c.in_ok-bytes.ensures.bytes c.in-Some.is c.as_slice.ensures.value c.in-Err.ensures.cases.0 }
