-- How deep the messages of a reply nest.
use Rattle.std.proofs.Common.{◌≡◌, ℕ, ◌+◌, ◌≤◌, min, max, List, [], ◌∷◌, Option, Some, None, refl, arith}
use Rattle.std.specs.Prelude.{Result, Ok, Err, IfErr}
use Rattle.plain_values.specs.declared.files.AgentConfigMap.{AgentConfigMap}
use Rattle.message_values.specs.declared.config.AgentRemoteConfig.{AgentRemoteConfig}
use Rattle.message_values.specs.declared.connection.ConnectionSettingsOffers.{ConnectionSettingsOffers}
use Rattle.plain_values.specs.declared.headers.Headers.{Headers}
use Rattle.message_values.specs.declared.connection.OpAMPConnectionSettings.{OpAMPConnectionSettings}
use Rattle.plain_values.specs.declared.maps.Pair.{Pair}
use Rattle.message_values.specs.declared.packages.PackageAvailable.{PackageAvailable}
use Rattle.message_values.specs.declared.packages.PackagesAvailable.{PackagesAvailable}
use Rattle.message_values.specs.declared.reply.ServerErrorResponse.{ServerErrorResponse}
use Rattle.message_values.specs.declared.reply.ServerToAgent.{ServerToAgent}
use Rattle.message_codec.specs.Tables as tables
use Rattle.message_codec.specs.Values.{Values, Several}
use Rattle.message_codec.specs.Means.{entry_of, entries_of}
use Rattle.message_codec.specs.Read.{one_of, raw_of, each_of}
use Rattle.message_codec.specs.declared.writer.encoding.WriteFail.{WriteFail}
use Rattle.message_codec.specs.declared.writer.encoding.WriteFail.TheVariants.{TooLarge, TooDeep, NoMemory}
use Rattle.message_codec.specs.Levels.{depth, deepest, levels, WriteFails}
use Rattle.message_attributes.specs.PartColumns.{config_map_columns, custom_capabilities_columns, custom_message_columns}
use Rattle.message_attributes.proofs.Shallow.{both, one_shallow, each_shallow, entries_shallow, config_map_shallow}
use Rattle.message_replies.specs.ReplyColumns.{header_columns, headers_columns, connection_settings_columns, connection_offers_columns, downloadable_file_columns, package_available_columns, packages_available_columns, remote_config_columns, retry_info_columns, error_response_columns, identification_columns, command_columns, server_to_agent_columns}
use Rattle.message_replies.specs.Canonical.{ReplyFails, canonical_reply}

-- ---- levels counted up to 100

pub deeper : (a b m n : ℕ) → m ≡ min a 100 → n ≡ min b 100 → max m n ≡ min (max a b) 100
deeper a b m n e f = omega arith

max_assoc : (a b c : ℕ) → max (max a b) c ≡ max a (max b c)
max_assoc a b c = omega arith

zero_max : (a : ℕ) → max 0 a ≡ a
zero_max a = omega arith

max_zero : (a : ℕ) → max a 0 ≡ a
max_zero a = omega arith

-- the order in which the columns of a reply are gone over
pub all_columns : (a b c d e f g h : ℕ) → max (max (max (max (max (max (max a b) c) d) e) f) g) h ≡ max 0 (max a (max b (max c (max d (max 0 (max 0 (max e (max f (max g (max h 0))))))))))
all_columns a b c d e f g h = simp (max_assoc, zero_max, max_zero)

-- ---- bounds

raw_shallow : (o : Option (List ℕ)) → depth (raw_of o) ≡ 0
raw_shallow None = refl
raw_shallow (Some bytes) = refl

remote_config_shallow : (c : AgentRemoteConfig) → deepest (remote_config_columns c) ≤ 3
remote_config_shallow c = both 3 _ _ (one_shallow config_map_columns 2 config_map_shallow c.config) (omega arith)

headers_shallow : (h : Headers) → deepest (headers_columns h) ≤ 1
headers_shallow h = both 1 _ 0 (each_shallow header_columns 0 (λ x. omega arith) h.headers) (omega arith)

connection_settings_shallow : (s : OpAMPConnectionSettings) → deepest (connection_settings_columns s) ≤ 2
connection_settings_shallow s =
    both 2 0 _ (omega arith) (both 2 _ _ (one_shallow headers_columns 1 headers_shallow s.headers) (both 2 _ _ (omega (arith, raw_shallow s.certificate)) (omega arith)))

connection_offers_shallow : (o : ConnectionSettingsOffers) → deepest (connection_offers_columns o) ≤ 3
connection_offers_shallow o = both 3 0 _ (omega arith) (both 3 _ 0 (one_shallow connection_settings_columns 2 connection_settings_shallow o.opamp) (omega arith))

package_shallow : (p : PackageAvailable) → deepest (package_available_columns p) ≤ 1
package_shallow p =
    both 1 0 _ (omega arith) (both 1 0 _ (omega arith) (both 1 _ _ (one_shallow downloadable_file_columns 0 (λ f. omega arith) p.file) (omega arith)))

packages_shallow : (p : PackagesAvailable) → deepest (packages_available_columns p) ≤ 3
packages_shallow p = both 3 _ _ (entries_shallow package_available_columns 1 package_shallow p.packages) (omega arith)

error_shallow : (e : ServerErrorResponse) → deepest (error_response_columns e) ≤ 1
error_shallow e = both 1 0 _ (omega arith) (both 1 0 _ (omega arith) (both 1 _ 0 (one_shallow retry_info_columns 0 (λ r. omega arith) e.retry_info) (omega arith)))

-- ---- the levels of parts

pub headers_levels : (h : Headers) → levels (headers_columns h) ≤ 2
headers_levels h = omega (arith, headers_shallow h)

pub remote_config_levels : (c : AgentRemoteConfig) → levels (remote_config_columns c) ≤ 4
remote_config_levels c = omega (arith, remote_config_shallow c)

pub package_levels : (p : PackageAvailable) → levels (package_available_columns p) ≤ 2
package_levels p = omega (arith, package_shallow p)

pub packages_levels : (p : PackagesAvailable) → levels (packages_available_columns p) ≤ 4
packages_levels p = omega (arith, packages_shallow p)

pub connection_offers_levels : (o : ConnectionSettingsOffers) → levels (connection_offers_columns o) ≤ 4
connection_offers_levels o = omega (arith, connection_offers_shallow o)

-- A reply has at most five levels: itself, an offer of connection settings or a configuration, and what they hold.
pub reply_shallow : (r : ServerToAgent) → deepest (server_to_agent_columns r) ≤ 4
reply_shallow r =
    let error : depth (one_of error_response_columns r.error_response) ≤ 4 = omega (arith, one_shallow error_response_columns 1 error_shallow r.error_response) in
    let remote : depth (one_of remote_config_columns r.remote_config) ≤ 4 = omega (arith, one_shallow remote_config_columns 3 remote_config_shallow r.remote_config) in
    let connection : depth (one_of connection_offers_columns r.connection_settings) ≤ 4 = omega (arith, one_shallow connection_offers_columns 3 connection_offers_shallow r.connection_settings) in
    let packages : depth (one_of packages_available_columns r.packages_available) ≤ 4 = omega (arith, one_shallow packages_available_columns 3 packages_shallow r.packages_available) in
    let identification : depth (one_of identification_columns r.agent_identification) ≤ 4 = omega (arith, one_shallow identification_columns 0 (λ i. omega arith) r.agent_identification) in
    let command : depth (one_of command_columns r.command) ≤ 4 = omega (arith, one_shallow command_columns 0 (λ c. omega arith) r.command) in
    let capabilities : depth (one_of custom_capabilities_columns r.custom_capabilities) ≤ 4 = omega (arith, one_shallow custom_capabilities_columns 0 (λ c. omega arith) r.custom_capabilities) in
    let message : depth (one_of custom_message_columns r.custom_message) ≤ 4 = omega (arith, one_shallow custom_message_columns 0 (λ m. omega arith) r.custom_message) in
    let none : 0 ≤ 4 = omega arith in
    both 4 0 _ none (both 4 _ _ error (both 4 _ _ remote (both 4 _ _ connection (both 4 _ _ packages (both 4 0 _ none (both 4 0 _ none (both 4 _ _ identification (both 4 _ _ command (both 4 _ _ capabilities (both 4 _ 0 message none))))))))))

-- so a reply is never too deep
pub never_deep : {T : Type 0} (r : ServerToAgent) (result : Result T WriteFail) → IfErr result (WriteFails tables.ServerToAgent (server_to_agent_columns r)) → IfErr result (ReplyFails r)
unfolding canonical_reply
never_deep r (Ok bytes) h = tt
never_deep r (Err TooLarge) h = h
never_deep r (Err TooDeep) h = absurd (omega (arith, h.1, reply_shallow r))
never_deep r (Err NoMemory) h = tt
