use Rattle.command_streams.proofs.blocks.handle_held.Goals as goal

pub returns : goal.returns
returns g c =
    let answers = c.answer_frames.ensures.answers in
    record { handles = (answers.0, answers.1, answers.3) }
