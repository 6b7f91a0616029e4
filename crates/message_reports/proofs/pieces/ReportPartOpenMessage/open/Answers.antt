use Rattle.message_reports.proofs.pieces.ReportPartOpenMessage.open.Goals as goal

pub returns-in-Description-clause-enters : goal.returns-in-Description-clause-enters
returns-in-Description-clause-enters c = rw c.in-Description.is (c.open_description.ensures.enters c.in-Description.field-0)

pub returns-in-Health-clause-enters : goal.returns-in-Health-clause-enters
returns-in-Health-clause-enters c = rw c.in-Health.is (c.open_health.ensures.enters c.in-Health.field-0)

pub returns-in-ConfigMap-clause-enters : goal.returns-in-ConfigMap-clause-enters
returns-in-ConfigMap-clause-enters c = rw c.in-ConfigMap.is (c.open_config_map.ensures.enters c.in-ConfigMap.field-0)

pub returns-in-ConfigFile-clause-enters : goal.returns-in-ConfigFile-clause-enters
returns-in-ConfigFile-clause-enters c = rw c.in-ConfigFile.is (c.open_config_file.ensures.enters c.in-ConfigFile.field-0)

pub returns-in-RemoteStatus-clause-enters : goal.returns-in-RemoteStatus-clause-enters
returns-in-RemoteStatus-clause-enters c = rw c.in-RemoteStatus.is (c.open_remote.ensures.enters c.in-RemoteStatus.field-0)

pub returns-in-Packages-clause-enters : goal.returns-in-Packages-clause-enters
returns-in-Packages-clause-enters c = rw c.in-Packages.is (c.open_packages.ensures.enters c.in-Packages.field-0)

pub returns-in-Package-clause-enters : goal.returns-in-Package-clause-enters
returns-in-Package-clause-enters c = rw c.in-Package.is (c.open_package.ensures.enters c.in-Package.field-0)

pub returns-in-CustomCapabilities-clause-enters : goal.returns-in-CustomCapabilities-clause-enters
returns-in-CustomCapabilities-clause-enters c = rw c.in-CustomCapabilities.is (c.open_custom_capabilities.ensures.enters c.in-CustomCapabilities.field-0)

pub returns-in-CustomMessage-clause-enters : goal.returns-in-CustomMessage-clause-enters
returns-in-CustomMessage-clause-enters c = rw c.in-CustomMessage.is (c.open_custom_message.ensures.enters c.in-CustomMessage.field-0)

pub returns-in-Components-clause-enters : goal.returns-in-Components-clause-enters
returns-in-Components-clause-enters c = rw c.in-Components.is (c.open_components.ensures.enters c.in-Components.field-0)

pub returns-in-Details-clause-enters : goal.returns-in-Details-clause-enters
returns-in-Details-clause-enters c = rw c.in-Details.is (c.open_details.ensures.enters c.in-Details.field-0)
