-- The file of an agent: its name, and its body.
use Rattle.std.specs.Prelude.{◌≡◌, ℕ, List, length, Bool, true, ◌||◌, None, Some, is_some}
use Rattle.hex.specs.Hex.{IsBytes, encode_lower}
use Rattle.message_values.specs.declared.reply.ServerToAgent.{ServerToAgent}
use Rattle.message_replies.specs.Canonical.{canonical_reply}
use Rattle.message_replies.specs.Replies.{MeansReply}
use Rattle.server_core.specs.declared.offers.Offers.{Offers}
use Rattle.server_core.specs.Offers.{no_offers}
use Rattle.edge_shelf.specs.Shelves.{Body}

-- an identifier is 16 bytes
pub record IsUid (uid : List ℕ) : Type 0 where
  pub len : length uid ≡ 16
  pub bytes : IsBytes uid

-- 32 lower-case hexadecimal digits
abbrev pub file_name : List ℕ → List ℕ
file_name uid = encode_lower uid

-- an offer of some kind stands
abbrev pub has_offer : Offers → Bool
has_offer offers = is_some offers.config || (is_some offers.packages || is_some offers.connection)

-- the message that has the identifier and the offers, and nothing else
abbrev pub kept_reply : List ℕ → Offers → ServerToAgent
kept_reply uid offers = record {
  instance_uid = uid;
  error_response = None;
  remote_config = offers.config;
  connection_settings = offers.connection;
  packages_available = offers.packages;
  flags = 0;
  capabilities = 0;
  agent_identification = None;
  command = None;
  custom_capabilities = None;
  custom_message = None;
}

-- the body keeps these offers, at least one: it is the canonical form of their message, and means it
pub record Holds (uid : List ℕ) (offers : Offers) (body : List ℕ) : Type 0 where
  pub some : has_offer offers ≡ true
  pub means : MeansReply body (kept_reply uid offers)
  pub canonical : body ≡ canonical_reply (kept_reply uid offers)

-- the agent's file stands for these offers: there is none where none stands
abbrev pub StandsFor : List ℕ → Offers → Body → Type 0
StandsFor uid offers None = offers ≡ no_offers
StandsFor uid offers (Some body) = Holds uid offers body
