-- A payload that was read, for the message around it.
use Rattle.std.proofs.Common.{◌≡◌, ℕ, suc, ◌-◌, ◌<◌, List, true, refl}
use Rattle.std.specs.Prelude.{Option, Some, None, Result, Ok, Err, OnOk}
use Rattle.std.specs.Result.{is_ok}
use Rattle.message_codec.specs.Fields.{Payload, Bytes}
use Rattle.message_codec.specs.Tables.{Name, Entry, Keyed, Held}
use Rattle.message_codec.specs.Values.{Value, Values, Present}
use Rattle.message_codec.specs.Means.{empty_of}
use Rattle.message_codec.specs.Reads.{Reads, Takes}
use Rattle.message_codec.proofs.Reading.{held_takes}
use Rattle.message_codec.specs.Openings.{ClosesColumn}
use Rattle.message_reports.proofs.PieceLaws.{map_takes}

-- what was read into a map's value was taken
pub held_payload : {A B E : Type 0} (below : ℕ) (name : Name) (p : Payload) (payload : List ℕ) (v w : Values) (read : Result A E) (result : Result B E) → (0 < below) × (p ≡ Bytes payload) → is_ok result ≡ is_ok read → OnOk read (Reads (suc (below - 1)) name payload v w) → OnOk result (Takes below (Held name) p (Present v) (Present w))
held_payload below name p payload v w (Ok x) (Ok y) h same r = rw h.1 (held_takes below name payload v w h.0 r)
held_payload below name p payload v w (Err x) (Ok y) h same r = absurd cc
held_payload below name p payload v w read (Err y) h same r = tt

-- an entry that was read, and put behind the others, was taken
pub entry_payload : {A B C E : Type 0} (below : ℕ) (name : Name) (p : Payload) (payload : List ℕ) (old : Value) (entry : Values) (new : Value) (read : Result A E) (put : Result B E) (result : Result C E) → (0 < below) × (p ≡ Bytes payload) → is_ok result ≡ is_ok put → OnOk put (is_ok read ≡ true) → OnOk read (Reads (suc (below - 1)) (Entry name) payload (empty_of (Entry name)) entry) → OnOk put (ClosesColumn (Keyed name) old entry new) → OnOk result (Takes below (Keyed name) p old new)
entry_payload below name p payload old entry new (Ok x) (Ok y) (Ok z) h same ok r c = rw h.1 (map_takes below name payload old entry new h.0 r c)
entry_payload below name p payload old entry new (Err x) (Ok y) (Ok z) h same ok r c = absurd cc
entry_payload below name p payload old entry new read (Err y) (Ok z) h same ok r c = absurd cc
entry_payload below name p payload old entry new read put (Err z) h same ok r c = tt

-- what is known where there is no payload
pub no_payload : {A B : Type 0} (found : Option A) → (found ≡ None → B) → ((x : A) → found ≡ Some x → ⊥) → B
no_payload None f other = f refl
no_payload (Some x) f other = absurd (other x refl)
