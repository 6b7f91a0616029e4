-- The bytes of the frame of the plain reply.
use Rattle.std.proofs.Common.{◌≡◌, ℕ, List, [], ◌∷◌, ◌++◌, length, refl, arith}
use Rattle.message_codec.specs.Varint.{groups_of, varint}
use Rattle.command_streams.specs.Framing.{frame_of}
use Rattle.message_replies.specs.Canonical.{canonical_reply}
use Rattle.server_core.specs.Replies.{plain_reply}
use Rattle.command_frames.specs.Answering.{answering}

pub framed : (u : List ℕ) → length u ≡ 16 → (0 ∷ 0 ∷ 0 ∷ 20 ∷ 10 ∷ 16 ∷ (u ++ 56 ∷ 5 ∷ [])) ≡ frame_of (canonical_reply (plain_reply answering u))
unfolding canonical_reply frame_of groups_of varint
framed [] long = absurd (omega (arith, long))
framed (b0 ∷ []) long = absurd (omega (arith, long))
framed (b0 ∷ b1 ∷ []) long = absurd (omega (arith, long))
framed (b0 ∷ b1 ∷ b2 ∷ []) long = absurd (omega (arith, long))
framed (b0 ∷ b1 ∷ b2 ∷ b3 ∷ []) long = absurd (omega (arith, long))
framed (b0 ∷ b1 ∷ b2 ∷ b3 ∷ b4 ∷ []) long = absurd (omega (arith, long))
framed (b0 ∷ b1 ∷ b2 ∷ b3 ∷ b4 ∷ b5 ∷ []) long = absurd (omega (arith, long))
framed (b0 ∷ b1 ∷ b2 ∷ b3 ∷ b4 ∷ b5 ∷ b6 ∷ []) long = absurd (omega (arith, long))
framed (b0 ∷ b1 ∷ b2 ∷ b3 ∷ b4 ∷ b5 ∷ b6 ∷ b7 ∷ []) long = absurd (omega (arith, long))
framed (b0 ∷ b1 ∷ b2 ∷ b3 ∷ b4 ∷ b5 ∷ b6 ∷ b7 ∷ b8 ∷ []) long = absurd (omega (arith, long))
framed (b0 ∷ b1 ∷ b2 ∷ b3 ∷ b4 ∷ b5 ∷ b6 ∷ b7 ∷ b8 ∷ b9 ∷ []) long = absurd (omega (arith, long))
framed (b0 ∷ b1 ∷ b2 ∷ b3 ∷ b4 ∷ b5 ∷ b6 ∷ b7 ∷ b8 ∷ b9 ∷ b10 ∷ []) long = absurd (omega (arith, long))
framed (b0 ∷ b1 ∷ b2 ∷ b3 ∷ b4 ∷ b5 ∷ b6 ∷ b7 ∷ b8 ∷ b9 ∷ b10 ∷ b11 ∷ []) long = absurd (omega (arith, long))
framed (b0 ∷ b1 ∷ b2 ∷ b3 ∷ b4 ∷ b5 ∷ b6 ∷ b7 ∷ b8 ∷ b9 ∷ b10 ∷ b11 ∷ b12 ∷ []) long = absurd (omega (arith, long))
framed (b0 ∷ b1 ∷ b2 ∷ b3 ∷ b4 ∷ b5 ∷ b6 ∷ b7 ∷ b8 ∷ b9 ∷ b10 ∷ b11 ∷ b12 ∷ b13 ∷ []) long = absurd (omega (arith, long))
framed (b0 ∷ b1 ∷ b2 ∷ b3 ∷ b4 ∷ b5 ∷ b6 ∷ b7 ∷ b8 ∷ b9 ∷ b10 ∷ b11 ∷ b12 ∷ b13 ∷ b14 ∷ []) long = absurd (omega (arith, long))
framed (b0 ∷ b1 ∷ b2 ∷ b3 ∷ b4 ∷ b5 ∷ b6 ∷ b7 ∷ b8 ∷ b9 ∷ b10 ∷ b11 ∷ b12 ∷ b13 ∷ b14 ∷ b15 ∷ []) long = refl
framed (b0 ∷ b1 ∷ b2 ∷ b3 ∷ b4 ∷ b5 ∷ b6 ∷ b7 ∷ b8 ∷ b9 ∷ b10 ∷ b11 ∷ b12 ∷ b13 ∷ b14 ∷ b15 ∷ b16 ∷ more) long = absurd (omega (arith, long))
