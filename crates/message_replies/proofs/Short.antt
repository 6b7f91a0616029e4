-- Replies of few bytes.
use Rattle.std.proofs.Common.{◌≡◌, ℕ, ℤ, ◌+◌, ◌*◌, ◌<◌, ◌≤◌, ◌^◌, Bool, true, false, List, [], ◌∷◌, ◌++◌, length, Option, Some, None, refl, ap, arith, length-append}
use Rattle.std.specs.Prelude.{nat_eq, nat_le}
use Rattle.std.specs.Option.{IfSome}
use Rattle.std.specs.Int.{w64, cast_unsigned}
use Rattle.std.proofs.lemmas.Bool.Decides.{nat_tests}
use Rattle.message_codec.specs.Varint as wire
use Rattle.message_codec.specs.Varint.{varint}
use Rattle.message_codec.proofs.Shortest.{groups-last, length-varint}
use Rattle.message_values.specs.declared.reply.RetryInfo.{RetryInfo}
use Rattle.message_values.specs.declared.reply.ServerErrorResponse.{ServerErrorResponse}
use Rattle.message_values.specs.declared.reply.ServerToAgent.{ServerToAgent}
use Rattle.message_codec.specs.Tables as tables
use Rattle.message_codec.specs.Tables.{Kind, Name, One, rows_of}
use Rattle.message_codec.specs.Values.{Values, Number, Integer, Content}
use Rattle.message_codec.specs.Read.{one_of}
use Rattle.message_codec.specs.Canonical.{canonical, column_bytes, part_spelling, capped}
use Rattle.message_codec.proofs.Canonical.{needed_is, part_length}
use Rattle.message_attributes.specs.PartColumns.{custom_capabilities_columns, custom_message_columns}
use Rattle.message_replies.specs.ReplyColumns.{retry_info_columns, error_response_columns, remote_config_columns, connection_offers_columns, packages_available_columns, identification_columns, command_columns, server_to_agent_columns}
use Rattle.message_replies.specs.Canonical.{canonical_reply}

-- a number below 128 is spelled in one byte
pub varint_small : (n : ℕ) → n < 128 → length (varint n) ≡ 1
unfolding wire.varint
varint_small n small = ap length (groups-last 9 n small)

-- the field of these bytes, where its number is below 16
part_short : (number : ℕ) (bytes : List ℕ) → number < 15 → length bytes < 128 → length (part_spelling number bytes) ≡ 2 + length bytes
part_short number bytes few small = omega (arith, part_length number bytes, varint_small (number * 8 + 2) (omega arith), varint_small (length bytes) small)

number_short : (number : ℕ) (n : ℕ) → number < 15 → length (column_bytes number tables.Unsigned (Number n)) ≤ 11
number_short number n few = either (nat_eq n 0) refl
  where
    either : (b : Bool) → nat_eq n 0 ≡ b → length (column_bytes number tables.Unsigned (Number n)) ≤ 11
    either true e = rw e (omega arith)
    either false e = rw e (omega (arith, length-append (varint (number * 8 + 0) ++ varint n) [], length-append (varint (number * 8 + 0)) (varint n), varint_small (number * 8 + 0) (omega arith), length-varint n))

content_short : (number most : ℕ) (bytes : List ℕ) → number < 15 → length bytes ≤ most → most < 128 → length (column_bytes number tables.Blob (Content bytes)) ≤ 2 + most
content_short number most [] few small least = omega arith
content_short number most (b ∷ bytes) few small least =
    omega (arith, length-append (part_spelling number (b ∷ bytes)) [], part_short number (b ∷ bytes) few (omega arith))

text_short : (number most : ℕ) (bytes : List ℕ) → number < 15 → length bytes ≤ most → most < 128 → length (column_bytes number tables.Text (Content bytes)) ≤ 2 + most
text_short number most [] few small least = omega arith
text_short number most (b ∷ bytes) few small least =
    omega (arith, length-append (part_spelling number (b ∷ bytes)) [], part_short number (b ∷ bytes) few (omega arith))

enum_short : (number : ℕ) (z : ℤ) → number < 15 → length (column_bytes number tables.Enum (Integer z)) ≤ 11
enum_short number z few = either (nat_eq (cast_unsigned w64 z) 0) refl
  where
    either : (b : Bool) → nat_eq (cast_unsigned w64 z) 0 ≡ b → length (column_bytes number tables.Enum (Integer z)) ≤ 11
    either true e = rw e (omega arith)
    either false e = rw e (omega (arith, length-append (varint (number * 8 + 0) ++ varint (cast_unsigned w64 z)) [], length-append (varint (number * 8 + 0)) (varint (cast_unsigned w64 z)), varint_small (number * 8 + 0) (omega arith), length-varint (cast_unsigned w64 z)))

-- a message that is absent, or has few bytes
one_short : {T : Type 0} (columns : T → Values) (number most : ℕ) (name : Name) (o : Option T) → number < 15 → most < 128 → IfSome o (λ t. length (canonical name (columns t)) ≤ most) → length (column_bytes number (One name) (one_of columns o)) ≤ 2 + most
one_short columns number most name None few least h = omega arith
one_short columns number most name (Some t) few least h =
    omega (arith, length-append (part_spelling number (canonical name (columns t))) [], part_short number (canonical name (columns t)) few (omega (arith, h)), h)

one_absent : {T : Type 0} (columns : T → Values) (number : ℕ) (name : Name) (o : Option T) → o ≡ None → length (column_bytes number (One name) (one_of columns o)) ≡ 0
one_absent columns number name o e = rw e refl

retry_short : (r : RetryInfo) → length (canonical tables.RetryInfo (retry_info_columns r)) ≤ 11
retry_short r = omega (arith, needed_is (rows_of tables.RetryInfo) (retry_info_columns r), number_short 1 r.retry_after_nanoseconds (omega arith))

any_retry_short : (o : Option RetryInfo) → IfSome o (λ r. length (canonical tables.RetryInfo (retry_info_columns r)) ≤ 11)
any_retry_short None = tt
any_retry_short (Some r) = retry_short r

error_short : (e : ServerErrorResponse) → length e.error_message ≤ 20 → length (canonical tables.ServerErrorResponse (error_response_columns e)) ≤ 46
error_short e small =
    omega (
      arith,
      needed_is (rows_of tables.ServerErrorResponse) (error_response_columns e),
      enum_short 1 e.kind (omega arith),
      text_short 2 20 e.error_message (omega arith) small (omega arith),
      one_short retry_info_columns 3 11 tables.RetryInfo e.retry_info (omega arith) (omega arith) (any_retry_short e.retry_info),
    )

-- A reply that has no other parts than an identifier of at most 16 bytes, flags, capabilities, and maybe an error of a
-- short text.
pub record IsShort (r : ServerToAgent) : Type 0 where
  pub uid : length r.instance_uid ≤ 16
  pub text : IfSome r.error_response (λ e. length e.error_message ≤ 20)
  pub no_config : r.remote_config ≡ None
  pub no_connection : r.connection_settings ≡ None
  pub no_packages : r.packages_available ≡ None
  pub no_identification : r.agent_identification ≡ None
  pub no_command : r.command ≡ None
  pub no_capabilities : r.custom_capabilities ≡ None
  pub no_message : r.custom_message ≡ None

reply_length : (r : ServerToAgent) (most : ℕ) → IsShort r → length (column_bytes 2 (One tables.ServerErrorResponse) (one_of error_response_columns r.error_response)) ≤ most → length (canonical_reply r) ≤ 40 + most
unfolding canonical_reply
reply_length r most short error =
    omega (
      arith,
      needed_is (rows_of tables.ServerToAgent) (server_to_agent_columns r),
      error,
      content_short 1 16 r.instance_uid (omega arith) short.uid (omega arith),
      one_absent remote_config_columns 3 tables.AgentRemoteConfig r.remote_config short.no_config,
      one_absent connection_offers_columns 4 tables.ConnectionSettingsOffers r.connection_settings short.no_connection,
      one_absent packages_available_columns 5 tables.PackagesAvailable r.packages_available short.no_packages,
      number_short 6 r.flags (omega arith),
      number_short 7 r.capabilities (omega arith),
      one_absent identification_columns 8 tables.AgentIdentification r.agent_identification short.no_identification,
      one_absent command_columns 9 tables.ServerToAgentCommand r.command short.no_command,
      one_absent custom_capabilities_columns 10 tables.CustomCapabilities r.custom_capabilities short.no_capabilities,
      one_absent custom_message_columns 11 tables.CustomMessage r.custom_message short.no_message,
    )

-- it has at most 88 canonical bytes
pub short_reply : (r : ServerToAgent) → IsShort r → length (canonical_reply r) ≤ 88
short_reply r short = omega (arith, reply_length r 48 short (one_short error_response_columns 2 46 tables.ServerErrorResponse r.error_response (omega arith) (omega arith) (any_error r.error_response short.text)))
  where
    any_error : (o : Option ServerErrorResponse) → IfSome o (λ e. length e.error_message ≤ 20) → IfSome o (λ e. length (canonical tables.ServerErrorResponse (error_response_columns e)) ≤ 46)
    any_error None small = tt
    any_error (Some e) small = error_short e small

-- and at most 40 where it has no error
pub plain_reply : (r : ServerToAgent) → IsShort r → r.error_response ≡ None → length (canonical_reply r) ≤ 40
plain_reply r short none = omega (arith, reply_length r 0 short (omega (arith, one_absent error_response_columns 2 tables.ServerErrorResponse r.error_response none)))

-- a reply's counted length passes a limit exactly where its canonical bytes do
pub counted_fits : (r : ServerToAgent) (len most : ℕ) → len ≡ capped (canonical_reply r) → most < 2 ^ 62 → nat_le len most ≡ nat_le (length (canonical_reply r)) most
unfolding capped
counted_fits r len most e small = either (nat_le (length (canonical_reply r)) most) refl
  where
    either : (b : Bool) → nat_le (length (canonical_reply r)) most ≡ b → nat_le len most ≡ b
    either true h = grind (arith, nat_tests)
    either false h = grind (arith, nat_tests)
