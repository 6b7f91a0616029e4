use Rattle.command_serve.proofs.notes.note_listening.Goals as goal

pub returns : goal.returns
returns g c = record { noted = rw (c.as_str-http.ensures.value, c.as_str-ws.ensures.value, c.as_str-operator.ensures.value) at c.put_parts.ensures.noted }
