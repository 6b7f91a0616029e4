-- A message as readable text, which no public standard gives: one line for each leaf, in the order of the rows of the tables. What the canonical form
-- leaves out has no line, but the key of a map's value stands in the paths of its lines. A message that has no line of its own has the line
-- `PATH = {}`; only the outermost message never has it, so that the text of an empty report is empty.
use Rattle.std.specs.Prelude.{ℕ, ◌+◌, List, [], ◌∷◌, ◌++◌, nat_eq, cond, codes}
use Rattle.std.specs.Int.{w64, to_be_bytes}
use Rattle.std.specs.Fmt.{decimal, signed_decimal}
use Rattle.hex.specs.Hex.{encode_lower}
use Rattle.message_values.specs.declared.report.AgentToServer.{AgentToServer}
use Rattle.message_values.specs.declared.reply.ServerToAgent.{ServerToAgent}
use Rattle.message_codec.specs.Tables as tables
use Rattle.message_codec.specs.Tables.{Name, AnyValue, Kind, Double, Text, Keyed, Held, Row, rows_of, kind_at}
use Rattle.message_codec.specs.Values.{Value, Number, Integer, Flag, Content, Contents, Absent, Present, Several, Chosen, Values, End, And}
use Rattle.message_codec.specs.Canonical.{is_default, kind_or, part_of}
use Rattle.message_reports.specs.ReportColumns.{agent_to_server_columns}
use Rattle.message_replies.specs.ReplyColumns.{server_to_agent_columns}
use Rattle.message_texts.specs.Words.{line, under, item_path, key_path, quoted, hexadecimal}

-- the bits of a double as a number of sixteen hexadecimal digits
unfoldable pub bits : ℕ → List ℕ
bits x = codes "bits " ++ encode_lower (to_be_bytes w64 x)

abbrev pub name_at : ℕ → List Row → List ℕ
name_at number [] = []
name_at number (r ∷ rows) = cond (nat_eq number r.number) r.name (name_at number rows)

-- the wire name of a column: that of the member chosen, or of the row
abbrev pub name_for : List ℕ → Value → List ℕ
name_for name (Chosen n v) = name_at n (rows_of AnyValue)
name_for name v = name

-- the lines of a message within another
abbrev pub part_lines : List ℕ → List ℕ → List ℕ
part_lines path [] = line path (codes "{}")
part_lines path (c ∷ lines) = c ∷ lines

-- the lines of the items of a list of texts
abbrev pub text_lines : List ℕ → ℕ → List (List ℕ) → List ℕ
text_lines path i [] = []
text_lines path i (text ∷ texts) = line (item_path path i) (quoted text) ++ text_lines path (i + 1) texts

abbrev mutual
  -- the lines of a value at this path, also where it is at its default
  pub whole_lines : List ℕ → Kind → Value → List ℕ
  whole_lines path Double (Number x) = line path (bits x)
  whole_lines path kind (Number x) = line path (decimal x)
  whole_lines path kind (Integer z) = line path (signed_decimal z)
  whole_lines path kind (Flag b) = line path (cond b (codes "true") (codes "false"))
  whole_lines path Text (Content bytes) = line path (quoted bytes)
  whole_lines path kind (Content bytes) = line path (hexadecimal bytes)
  whole_lines path kind (Contents texts) = text_lines path 0 texts
  whole_lines path kind Absent = []
  whole_lines path kind (Present vs) = part_lines path (message_lines path (rows_of (part_of kind)) vs)
  whole_lines path (Keyed t) (Several vs) = entry_lines path t vs
  whole_lines path kind (Several vs) = item_lines path kind 0 vs
  whole_lines path kind (Chosen n v) = whole_lines path (kind_or (kind_at n (rows_of AnyValue))) v

  -- the lines of the items of a repeated field, the first of which has this index
  pub item_lines : List ℕ → Kind → ℕ → Values → List ℕ
  item_lines path kind i End = []
  item_lines path kind i (And v vs) = whole_lines (item_path path i) kind v ++ item_lines path kind (i + 1) vs

  -- the lines of the entries of a map
  pub entry_lines : List ℕ → Name → Values → List ℕ
  entry_lines path t End = []
  entry_lines path t (And v vs) = one_entry_lines path t v ++ entry_lines path t vs

  pub one_entry_lines : List ℕ → Name → Value → List ℕ
  one_entry_lines path t (Present (And (Content key) (And v End))) = whole_lines (key_path path key) (Held t) v
  one_entry_lines path t _ = []

  -- the lines of the columns of a message at this path, one column after the other: `column_lines` of each
  pub message_lines : List ℕ → List Row → Values → List ℕ
  message_lines path rows End = []
  message_lines path [] (And v vs) = []
  message_lines path (r ∷ rows) (And v vs) = cond (is_default r.kind v) [] (whole_lines (under path (name_for r.name v)) r.kind v) ++ message_lines path rows vs

-- the lines of one column of a message at this path
abbrev pub column_lines : List ℕ → List ℕ → Kind → Value → List ℕ
column_lines path name kind v = cond (is_default kind v) [] (whole_lines (under path (name_for name v)) kind v)

-- the columns of a message, each with its row
abbrev pub columns_of : List Row → Values → List (Row × Value)
columns_of rows End = []
columns_of [] (And v vs) = []
columns_of (r ∷ rows) (And v vs) = (r, v) ∷ columns_of rows vs

-- these lines, and behind them those of the message of this name at this path
unfoldable pub shown : List ℕ → List ℕ → Name → Values → List ℕ
shown lines path name vs = lines ++ message_lines path (rows_of name) vs

-- the lines of a message of this name within another
unfoldable pub part_text : List ℕ → Name → Values → List ℕ
part_text path name vs = part_lines path (message_lines path (rows_of name) vs)

-- the text of a report, and of a reply
unfoldable pub text_of_report : AgentToServer → List ℕ
text_of_report report = shown [] [] tables.AgentToServer (agent_to_server_columns report)

unfoldable pub text_of_reply : ServerToAgent → List ℕ
text_of_reply reply = shown [] [] tables.ServerToAgent (server_to_agent_columns reply)
