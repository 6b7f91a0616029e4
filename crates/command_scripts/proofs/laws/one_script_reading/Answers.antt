use Rattle.command_scripts.proofs.Scripts.{ReadsOrBad, one_reading, some_reading}
use Rattle.command_scripts.proofs.laws.one_script_reading.Goals as goal

pub returns : goal.returns
returns c =
    let law : ReadsOrBad = record { either = c.read_or_bad.ensures.either; one = c.read_or_bad.ensures.one; apart = c.read_or_bad.ensures.apart } in
    record { some = some_reading law; one = one_reading law }
