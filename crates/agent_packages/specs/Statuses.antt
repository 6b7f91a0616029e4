-- The statuses of packages after an offer.
use Rattle.std.specs.Prelude.{ℕ, pos, List, [], codes, Option, Some, None}
use Rattle.message_values.specs.declared.packages.PackageStatus.{PackageStatus}
use Rattle.message_values.specs.declared.packages.PackageAvailable.{PackageAvailable}
use Rattle.agent_packages.specs.declared.install.Ended.{Ended}
use Rattle.agent_packages.specs.declared.install.Ended.TheVariants.{Installed, BadName, NoFile, FetchFault, HashDiffers, FolderFault}

-- what went wrong
abbrev pub message_of : Ended → List ℕ
message_of Installed = []
message_of BadName = codes "bad name"
message_of NoFile = codes "no file"
message_of FetchFault = codes "fetch fault"
message_of HashDiffers = codes "content hash differs"
message_of FolderFault = codes "folder fault"

-- the version and the hash that the agent has
abbrev pub version_had : Option PackageStatus → List ℕ
version_had None = []
version_had (Some status) = status.agent_has_version

abbrev pub hash_had : Option PackageStatus → List ℕ
hash_had None = []
hash_had (Some status) = status.agent_has_hash

abbrev pub status_installed : List ℕ → PackageAvailable → PackageStatus
status_installed name item = record {
  name = name;
  agent_has_version = item.version;
  agent_has_hash = item.hash;
  server_offered_version = item.version;
  server_offered_hash = item.hash;
  status = pos 0;
  error_message = [];
}

-- the agent has what it had
abbrev pub status_failed : List ℕ → PackageAvailable → Option PackageStatus → List ℕ → PackageStatus
status_failed name item had message = record {
  name = name;
  agent_has_version = version_had had;
  agent_has_hash = hash_had had;
  server_offered_version = item.version;
  server_offered_hash = item.hash;
  status = pos 3;
  error_message = message;
}

-- the status of a package that was to be fetched
abbrev pub status_after : List ℕ → PackageAvailable → Option PackageStatus → Ended → PackageStatus
status_after name item had Installed = status_installed name item
status_after name item had ended = status_failed name item had (message_of ended)

-- the status of a package that is not offered any more, and whose file could not be removed
abbrev pub status_left : PackageStatus → PackageStatus
status_left status = record status { status = pos 3; error_message = codes "folder fault" }
