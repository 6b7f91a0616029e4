-- What a header tells of a slot.
use Rattle.std.specs.Prelude.{◌≡◌, ℕ, ◌+◌, ◌==◌, nat_lt}
use Rattle.agent_store.specs.Slots.{is_open_at, generation_at, length_at, choice_by}
use Rattle.agent_store.specs.declared.slots.Side.{Side}
use Rattle.agent_store.specs.declared.slots.Side.TheVariants.{First, Second}
use Rattle.agent_store.specs.declared.slots.Choice.{Choice}
use Rattle.agent_store.specs.declared.header.Header.{Header}

-- the header is that of the slot that begins here
pub record TellsHeader (image : ℕ → ℕ) (at : ℕ) (header : Header) : Type 0 where
  pub gate : header.is_open ≡ is_open_at image at
  pub form : header.form ≡ image (at + 13)
  pub generation : header.generation ≡ generation_at image at
  pub size : header.length ≡ length_at image at

abbrev pub header_of : Header → Header → Side → Header
header_of first second First = first
header_of first second Second = second

-- the slot that counts by the two headers
abbrev pub header_choice : Header → Header → Choice
header_choice first second = choice_by first.is_open second.is_open (first.generation == second.generation) (nat_lt first.generation second.generation)
