use Rattle.std.proofs.Common.{◌≡◌, ℕ, List, [], ◌∷◌, ◌++◌, ◌∙◌, ap}
use Rattle.command_frames.proofs.PlainFrames.{framed}
use Rattle.command_frames.proofs.answer.plain_frame.Goals as goal

pub returns : goal.returns
returns c =
    let copied : c.copy_from_slice.new.self ≡ c.args.uid.now = c.copy_from_slice.ensures.after ∙ c.as_slice.ensures.value in
    record { frame = ap (λ (u : List ℕ). 0 ∷ 0 ∷ 0 ∷ 20 ∷ 10 ∷ 16 ∷ (u ++ 56 ∷ 5 ∷ [])) copied ∙ framed c.args.uid.now c.as_slice.ensures.len }
