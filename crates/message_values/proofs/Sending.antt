-- That values may go from thread to thread and be shared by threads, part by part: the check's own search doesn't reach so far at once.
use denote.Param.Send.{IsSend, IsSync, sendable}
use Rattle.std.proofs.Crossing.{crosses}
use Rattle.message_values.proofs.attributes.AnyValue.TheLaws.TheKnot.{crosses as any_crosses}
use Rattle.message_values.proofs.health.ComponentHealth.TheLaws.TheKnot.{crosses as health_crosses}
use Rattle.message_values.proofs.components.ComponentDetails.TheLaws.TheKnot.{crosses as details_crosses}
use Rattle.plain_values.proofs.lists.List.TheSendSync.{the_send as list_send, the_sync as list_sync}
use Rattle.plain_values.proofs.maps.Map.TheSendSync.{the_send as map_send, the_sync as map_sync}
use Rattle.plain_values.proofs.texts.Text.TheSendSync.{the_send as text_send, the_sync as text_sync}
use Rattle.plain_values.proofs.texts.Blob.TheSendSync.{the_send as blob_send, the_sync as blob_sync}
use Rattle.message_values.specs.contracts.attributes.AgentDescription as description
use Rattle.message_values.specs.contracts.health.ComponentHealth as health
use Rattle.message_values.specs.contracts.config.EffectiveConfig as effective
use Rattle.message_values.specs.contracts.config.RemoteConfigStatus as remote
use Rattle.message_values.specs.contracts.packages.PackageStatuses as packages
use Rattle.message_values.specs.contracts.custom.CustomCapabilities as custom
use Rattle.message_values.specs.contracts.custom.CustomMessage as message
use Rattle.message_values.specs.contracts.components.AvailableComponents as components
use Rattle.message_values.specs.contracts.components.ComponentDetails as details
use Rattle.message_values.specs.contracts.report.AgentToServer as report
use Rattle.message_values.specs.contracts.state.State as state

pub ruleset values_cross = (sendable, crosses, any_crosses, health_crosses, details_crosses, list_send, list_sync, map_send, map_sync, text_send, text_sync, blob_send, blob_sync)

-- ---- to be moved

pub description_send : IsSend description.the_row
description_send = search values_cross depth 30

pub health_send : IsSend health.the_row
health_send = search values_cross depth 30

pub effective_send : IsSend effective.the_row
effective_send = search values_cross depth 30

pub remote_send : IsSend remote.the_row
remote_send = search values_cross depth 30

pub packages_send : IsSend packages.the_row
packages_send = search values_cross depth 30

pub custom_send : IsSend custom.the_row
custom_send = search values_cross depth 30

pub message_send : IsSend message.the_row
message_send = search values_cross depth 30

pub components_send : IsSend components.the_row
components_send = search values_cross depth 30

pub details_send : IsSend details.the_row
details_send = search values_cross depth 30

pub ruleset parts_send = (description_send, health_send, effective_send, remote_send, packages_send, custom_send, message_send, components_send, details_send)

pub report_send : IsSend report.the_row
report_send = search (values_cross, parts_send) depth 30

pub state_send : IsSend state.the_row
state_send = search (values_cross, parts_send) depth 30

-- ---- to be shared

pub description_sync : IsSync description.the_row
description_sync = search values_cross depth 30

pub health_sync : IsSync health.the_row
health_sync = search values_cross depth 30

pub effective_sync : IsSync effective.the_row
effective_sync = search values_cross depth 30

pub remote_sync : IsSync remote.the_row
remote_sync = search values_cross depth 30

pub packages_sync : IsSync packages.the_row
packages_sync = search values_cross depth 30

pub custom_sync : IsSync custom.the_row
custom_sync = search values_cross depth 30

pub message_sync : IsSync message.the_row
message_sync = search values_cross depth 30

pub components_sync : IsSync components.the_row
components_sync = search values_cross depth 30

pub report_sync : IsSync report.the_row
report_sync = search (values_cross, description_sync, health_sync, effective_sync, remote_sync, packages_sync, custom_sync, message_sync, components_sync) depth 30
