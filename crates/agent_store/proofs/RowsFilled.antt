-- How a row is filled with an entry's bytes.
use Rattle.std.proofs.Common.{◌≡◌, ℕ, ◌+◌, ◌-◌, ◌^◌, ◌<◌, ◌≤◌, min, List, [], ◌∷◌, ◌++◌, length, Result, Ok, Err, ◌∙◌, ap, arith, append_assoc, length-append}
use Rattle.std.specs.Prelude.{OnOk, IsOk}
use Rattle.std.proofs.lemmas.Bool.{false≢true}
use Rattle.std.specs.Int.{w32, to_le_bytes}
use Rattle.message_codec.specs.Row.{Row, Appends}
use Rattle.agent_store.specs.Log.{entry_bytes}
use Rattle.agent_store.specs.Rooms.{room_of}

cleared-spare : (old row : Row) → row ≡ record { bytes = []; spare = old.spare + length old.bytes } → row.spare ≡ room_of old
cleared-spare old row cleared = omega (arith, ap (λ (row : Row). row.spare) cleared)

pub size-is : (size len : ℕ) → size ≡ min len (2 ^ 62) → len < 2 ^ 32 → size ≡ len
size-is size len least few = omega arith

four-bytes : (size : List ℕ) (len : ℕ) → size ≡ to_le_bytes w32 len → length size ≡ 4
four-bytes size len is = ap length is

module _ {E : Type 0} where
  -- there is no less room behind bytes that were appended
  pub room-kept : (old new : Row) (bytes : List ℕ) (r : Result Unit E) → Appends old new bytes r → room_of old ≤ room_of new
  room-kept old new bytes (Ok x) a = omega (arith, ap (λ (row : Row). length row.bytes) a.ok, length-append old.bytes bytes, ap (λ (row : Row). row.spare) a.ok)
  room-kept old new bytes (Err e) a = omega (arith, ap (λ (row : Row). length row.bytes) a.err, ap (λ (row : Row). row.spare) a.err)

  module _ (old r0 : Row) (cleared : r0 ≡ record { bytes = []; spare = old.spare + length old.bytes }) where
    module _ (r1 : Row) (size fields : List ℕ) (is : size ≡ to_le_bytes w32 (length fields)) where
      pub size-fails : (e : E) (T : Type 0) → Appends r0 r1 size (let r : Result Unit E = Err e in r) → 5 + length fields ≤ room_of old → T
      size-fails e T sized enough = absurd (false≢true (sized.within (omega (arith, four-bytes size (length fields) is, cleared-spare old r0 cleared, enough))))

      pub size-larger : (r : Result Unit E) → Appends r0 r1 size r → room_of old ≤ room_of r1
      size-larger r sized = omega (arith, cleared-spare old r0 cleared, room-kept r0 r1 size r sized)

      module _ (sized : Appends r0 r1 size (let r : Result Unit E = Ok tt in r)) where
        size-bytes : r1.bytes ≡ size
        size-bytes = ap (λ (row : Row). row.bytes) sized.ok ∙ ap (λ (row : Row). row.bytes ++ size) cleared

        size-spare : r1.spare ≡ room_of old - 4
        size-spare = omega (arith, ap (λ (row : Row). row.spare) sized.ok, four-bytes size (length fields) is, cleared-spare old r0 cleared)

        pub size-room : room_of old ≤ room_of r1
        size-room = omega (arith, cleared-spare old r0 cleared, room-kept r0 r1 size (Ok tt) sized)

        module _ (r2 : Row) where
          pub fields-fail : (e : E) (T : Type 0) → Appends r1 r2 fields (let r : Result Unit E = Err e in r) → 5 + length fields ≤ room_of old → T
          fields-fail e T changed enough = absurd (false≢true (changed.within (omega (arith, size-spare, enough))))

          pub fields-room : (r : Result Unit E) → Appends r1 r2 fields r → room_of old ≤ room_of r2
          fields-room r changed = omega (arith, size-room, room-kept r1 r2 fields r changed)

          module _ (changed : Appends r1 r2 fields (let r : Result Unit E = Ok tt in r)) (r3 : Row) where
            pub entry-room : (r : Result Unit E) → Appends r2 r3 (0 ∷ []) r → room_of old ≤ room_of r3
            entry-room r ended = omega (arith, fields-room (Ok tt) changed, room-kept r2 r3 (0 ∷ []) r ended)

            pub entry-ends : (r : Result Unit E) → Appends r2 r3 (0 ∷ []) r → 5 + length fields ≤ room_of old → IsOk r
            entry-ends r ended enough = ended.within (omega (arith, size-spare, ap (λ (row : Row). row.spare) changed.ok, enough))

            pub entry-filled : (r : Result Unit E) → Appends r2 r3 (0 ∷ []) r → OnOk r (r3.bytes ≡ entry_bytes fields)
            unfolding entry_bytes
            entry-filled (Ok x) ended =
                ap (λ (row : Row). row.bytes) ended.ok ∙ ap (λ (row : Row). row.bytes ++ 0 ∷ []) changed.ok ∙ ap (λ (bytes : List ℕ). (bytes ++ fields) ++ 0 ∷ []) (size-bytes ∙ is)
                ∙ append_assoc (to_le_bytes w32 (length fields)) fields (0 ∷ [])
            entry-filled (Err e) ended = tt
