-- The words of an order as a journal tells them: those of its line, but for what files hold and what headers say, in whose place the SHA-256
-- (FIPS 180-4) of the bytes stands, since these may be secrets. A question changes nothing, and isn't told.
use Rattle.std.specs.Prelude.{ℕ, List, [], ◌∷◌, ◌++◌, Option, None, Some, codes}
use Rattle.std.specs.Fmt.{decimal}
use Rattle.std.specs.List.{flat_map}
use Rattle.hex.specs.Hex.{encode_lower}
use Rattle.sha2.specs.Sha256.{sha256}
use Rattle.uuid.specs.Text.{hyphenated_text, lower}
use Rattle.plain_values.specs.declared.files.AgentConfigFile.{AgentConfigFile}
use Rattle.plain_values.specs.declared.headers.Header.{Header}
use Rattle.plain_values.specs.declared.headers.Headers.{Headers}
use Rattle.plain_values.specs.declared.maps.Pair.{Pair}
use Rattle.message_values.specs.declared.packages.DownloadableFile.{DownloadableFile}
use Rattle.message_values.specs.declared.packages.PackageAvailable.{PackageAvailable}
use Rattle.message_values.specs.declared.connection.OpAMPConnectionSettings.{OpAMPConnectionSettings}
use Rattle.server_core.specs.declared.offers.Offer.{Offer}
use Rattle.server_core.specs.declared.offers.Offer.TheVariants.{Config as ConfigOffer, Packages as PackagesOffer, Connection as ConnectionOffer}
use Rattle.server_waves.specs.declared.finders.Finder.{Finder}
use Rattle.server_lines.specs.declared.orders.Action.{Action}
use Rattle.server_lines.specs.declared.orders.Action.TheVariants as action
use Rattle.server_lines.specs.declared.orders.Order.{Order}
use Rattle.server_lines.specs.declared.orders.Order.TheVariants as order
use Rattle.server_lines.specs.declared.orders.Steering.{Steering}
use Rattle.server_lines.specs.declared.orders.Steering.TheVariants as steering

-- a text, or `-` for the empty one
abbrev pub text_word : List ℕ → List ℕ
text_word [] = codes "-"
text_word (byte ∷ bytes) = byte ∷ bytes

-- NAME TYPE HASH
unfoldable pub file_words : Pair AgentConfigFile → List ℕ
file_words file = codes " " ++ (text_word file.key ++ (codes " " ++ (text_word file.value.content_type ++ (codes " " ++ encode_lower (sha256 file.value.body)))))

-- NAME VERSION URL HASH, where HASH is that of the line
unfoldable pub package_words : List ℕ → List ℕ → List ℕ → List ℕ → List ℕ
package_words name version url hash = codes " " ++ (name ++ (codes " " ++ (version ++ (codes " " ++ (url ++ (codes " " ++ text_word (encode_lower hash)))))))

abbrev pub words_by_file : List ℕ → List ℕ → Option DownloadableFile → List ℕ
words_by_file name version None = package_words name version [] []
words_by_file name version (Some file) = package_words name version file.download_url file.content_hash

abbrev pub words_of_package : Pair PackageAvailable → List ℕ
words_of_package entry = words_by_file entry.key entry.value.version entry.value.file

-- NAME:HASH
unfoldable pub header_words : Header → List ℕ
header_words header = codes " " ++ (header.key ++ (codes ":" ++ encode_lower (sha256 header.value)))

abbrev pub words_of_headers : Option Headers → List ℕ
words_of_headers None = []
words_of_headers (Some headers) = flat_map header_words headers.headers

-- URL SECONDS, and NAME:HASH for each header; `connect` is told as settings of no interval and no headers
unfoldable pub settings_words : List ℕ → ℕ → List ℕ → List ℕ
settings_words url seconds headers = codes " " ++ (text_word url ++ (codes " " ++ (decimal seconds ++ headers)))

abbrev pub words_of_settings : OpAMPConnectionSettings → List ℕ
words_of_settings settings = settings_words settings.destination_endpoint settings.heartbeat_interval_seconds (words_of_headers settings.headers)

-- VERB UID, and what stands behind it
unfoldable pub action_words : List ℕ → List ℕ → List ℕ → List ℕ
action_words verb uid behind = verb ++ (codes " " ++ (hyphenated_text lower uid ++ behind))

abbrev pub words_of_offer : List ℕ → Offer → List ℕ
words_of_offer uid (ConfigOffer files) = action_words (codes "config") uid (flat_map file_words files.config_map)
words_of_offer uid (PackagesOffer packages) = action_words (codes "packages") uid (flat_map words_of_package packages)
words_of_offer uid (ConnectionOffer settings) = action_words (codes "settings") uid (words_of_settings settings)

abbrev pub words_of_action : List ℕ → Action → List ℕ
words_of_action uid (action.Offer offer) = words_of_offer uid offer
words_of_action uid action.Restart = action_words (codes "restart") uid []
words_of_action uid action.Withdraw = action_words (codes "withdraw") uid []
words_of_action uid action.Forget = action_words (codes "forget") uid []

-- nothing, or ` where KEY=VALUE`
unfoldable pub finder_words : List ℕ → List ℕ → List ℕ
finder_words key value = codes " where " ++ (key ++ (codes "=" ++ value))

abbrev pub words_of_finder : Option Finder → List ℕ
words_of_finder None = []
words_of_finder (Some finder) = finder_words finder.key finder.value

-- `rollout ID WIDTH/ALLOWED`, and what stands behind it
unfoldable pub begin_words : List ℕ → ℕ → ℕ → List ℕ → List ℕ → List ℕ
begin_words id width allowed finder files =
    codes "rollout " ++ (id ++ (codes " " ++ (decimal width ++ (codes "/" ++ (decimal allowed ++ (finder ++ files))))))

-- VERB ID
unfoldable pub rollout_words : List ℕ → List ℕ → List ℕ
rollout_words verb id = verb ++ (codes " " ++ id)

abbrev pub words_of_steering : List ℕ → Steering → List ℕ
words_of_steering id (steering.Begin width allowed finder files) = begin_words id width allowed (words_of_finder finder) (flat_map file_words files.config_map)
words_of_steering id steering.Halt = rollout_words (codes "halt") id
words_of_steering id steering.Resume = rollout_words (codes "resume") id
words_of_steering id steering.Finish = rollout_words (codes "finish") id

-- the words of an order, none of a question
abbrev pub journal_words : Order → Option (List ℕ)
journal_words (order.Ask asked) = None
journal_words (order.Act uid act) = Some (words_of_action uid act)
journal_words (order.Steer id done) = Some (words_of_steering id done)
journal_words order.ForgetLeft = Some (codes "forget left")
journal_words order.Stop = Some (codes "stop")
