-- Parts joined to messages.
use Rattle.std.specs.Prelude.{ℕ, List, [], ◌∷◌, ◌++◌, Option, Some, None}
use Rattle.edge_http.specs.declared.messages.HttpMessage.{HttpMessage}
use Rattle.edge_http.specs.declared.messages.Part.{Part}
use Rattle.edge_http.specs.declared.messages.Part.TheVariants.{Head, Body, Done}
use Rattle.edge_http.specs.Streams.{with_body}

-- whole messages, and the one under way
pub record Joined : Type 0 where
  pub whole : List HttpMessage
  pub under_way : Option HttpMessage

abbrev pub nothing_joined : Joined
nothing_joined = record { whole = []; under_way = None }

abbrev pub with_bytes : Option HttpMessage → List ℕ → Option HttpMessage
with_bytes None bytes = None
with_bytes (Some message) bytes = Some (record message { body = message.body ++ bytes })

abbrev pub with_message : List HttpMessage → Option HttpMessage → List HttpMessage
with_message whole None = whole
with_message whole (Some message) = whole ++ message ∷ []

-- one more part
abbrev pub with_part : Joined → Part → Joined
with_part joined (Head head) = record { whole = joined.whole; under_way = Some (with_body head []) }
with_part joined (Body bytes) = record { whole = joined.whole; under_way = with_bytes joined.under_way bytes }
with_part joined Done = record { whole = with_message joined.whole joined.under_way; under_way = None }

unfoldable pub with_parts : Joined → List Part → Joined
with_parts joined [] = joined
with_parts joined (part ∷ parts) = with_parts (with_part joined part) parts

-- what the parts of a stream are together
abbrev pub join : List Part → Joined
join parts = with_parts nothing_joined parts
