use Rattle.command_frames.proofs.Endings.{valid_has_no_fault, no_fault_is_valid}
use Rattle.command_frames.proofs.laws.valid_inputs.Goals as goal

pub returns : goal.returns
returns c = record {
  same = λ command budget bytes are. (
    valid_has_no_fault command budget bytes (c.one_reading.ensures.one command budget bytes),
    λ sound. let some = c.one_reading.ensures.some command budget bytes are in no_fault_is_valid command budget bytes some.0 some.1 some.2 sound,
  );
}
