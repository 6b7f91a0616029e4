-- What the bytes of a header tell. (The module is apart from the specs of headers, which have the same name there.)
use Rattle.std.proofs.Common.{◌≡◌, ℕ, List, length, take, drop, sym, ◌∙◌, ap, arith}
use Rattle.std.specs.Int.{w32, w64, from_le_bytes}
use Rattle.edge_devices.specs.Disks.{HasBytes}
use Rattle.agent_store.specs.Slots.{generation_at, length_at}
use Rattle.agent_store.proofs.Bytes.{bytes_at-part}

pub generation-part : (image : ℕ → ℕ) (at : ℕ) (bytes part : List ℕ) → length bytes ≡ 16 → HasBytes image at bytes → part ≡ take 8 (drop 1 bytes) → from_le_bytes w64 part ≡ generation_at image at
unfolding generation_at
generation-part image at bytes part long has is = ap (λ (l : List ℕ). from_le_bytes w64 l) (is ∙ sym (bytes_at-part image at 1 8 bytes (omega arith) has))

pub length-part : (image : ℕ → ℕ) (at : ℕ) (bytes part : List ℕ) → length bytes ≡ 16 → HasBytes image at bytes → part ≡ take 4 (drop 9 bytes) → from_le_bytes w32 part ≡ length_at image at
unfolding length_at
length-part image at bytes part long has is = ap (λ (l : List ℕ). from_le_bytes w32 l) (is ∙ sym (bytes_at-part image at 9 4 bytes (omega arith) has))
