use Rattle.edge_devices.proofs.Shelving.{puts_config, puts_packages, puts_status}
use Rattle.edge_devices.proofs.shelves.Shelves.put.Goals as goal

pub returns-in_ok-put-in-Config-clause-ok : goal.returns-in_ok-put-in-Config-clause-ok
returns-in_ok-put-in-Config-clause-ok c = puts_config _ _ _ _ _ c.in-Config.is c.requires c.in_ok-put-in-Config.ensures.found

pub returns-in_ok-put-in-Packages-clause-ok : goal.returns-in_ok-put-in-Packages-clause-ok
returns-in_ok-put-in-Packages-clause-ok c = puts_packages _ _ _ _ _ c.in-Packages.is c.requires c.in_ok-put-in-Packages.ensures.found

pub returns-in_ok-put-in-Status-clause-ok : goal.returns-in_ok-put-in-Status-clause-ok
returns-in_ok-put-in-Status-clause-ok c = puts_status _ _ _ _ _ c.in-Status.is c.requires c.in_ok-put-in-Status.ensures.found
