use Rattle.command_serve.proofs.notes.note_address.Goals as goal

pub returns : goal.returns
returns g c = record { noted = rw (c.as_str.ensures.value, c.cause_of.ensures.cause) at c.put_address.ensures.noted }
