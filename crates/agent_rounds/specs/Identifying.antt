-- How requests tell the agent's identifier.
use Rattle.std.specs.Prelude.{ℕ, List, ◌∷◌, codes}
use Rattle.uuid.specs.Text.{hyphenated_text, lower}
use Rattle.plain_values.specs.declared.headers.Header.{Header}
use Rattle.plain_values.specs.declared.headers.Headers.{Headers}

-- the header that tells it: hyphenated, in lower case (RFC 9562, section 4)
unfoldable pub identifier_header : List ℕ → Header
identifier_header uid = record { key = codes "OpAMP-Instance-UID"; value = hyphenated_text lower uid }

-- the headers that are dialled: that one, and then those of the settings
unfoldable pub dialled_headers : List ℕ → Headers → Headers
dialled_headers uid headers = record { headers = identifier_header uid ∷ headers.headers }
