-- Which values may be kept.
use Rattle.std.specs.Prelude.{ℕ, Bool, List, [], length, nat_eq, not, ◌&&◌}
use Rattle.message_codec.specs.Values.{Value, Number, Content, Present, Several, Values, End, And}
use Rattle.message_codec.specs.Fits.{pairs_of}
use Rattle.edge_devices.specs.Endpoints.{is_endpoint}
use Rattle.edge_devices.specs.Names.{are_good_names}
use Rattle.agent_rules.specs.declared.saved.Saved.{Saved}
use Rattle.agent_rules.specs.Columns.{column_at}

-- the limit isn't 0, the endpoint is of the grammar of endpoints, and the names of the configuration are good
abbrev pub is_right : Saved → Bool
is_right s = not (nat_eq s.limit 0) && is_endpoint s.settings.endpoint && are_good_names s.config.config_map

abbrev pub content_of : Value → List ℕ
content_of (Content bytes) = bytes
content_of _ = []

abbrev pub number_of : Value → ℕ
number_of (Number n) = n
number_of _ = 0

-- the entries of a message that has a map alone
abbrev pub entries_in : Value → Values
entries_in (Present (And (Several entries) vs)) = entries
entries_in _ = End

-- the same of columns, of which the identifier has 16 bytes
unfoldable pub are_right : Values → Bool
are_right vs =
    nat_eq (length (content_of (column_at 0 vs))) 16
    && (not (nat_eq (number_of (column_at 1 vs)) 0) && is_endpoint (content_of (column_at 3 vs)) && are_good_names (pairs_of (entries_in (column_at 7 vs))))
