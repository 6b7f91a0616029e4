use Rattle.world_model.specs.Proofs.{settings_part, config_part}
use Rattle.world_model.proofs.Several.{held_at, one_report_at, just_reported_at, asks_at, due_at, one_of_two_at, after_asked_at, one_server_at, other_endpoint_at, whole_at, earned_at, first_or_earned_at}
use Rattle.world_model.proofs.clusters.any_server_of_an_endpoint.Goals as goal

pub returns-clause-held : goal.returns-clause-held
returns-clause-held c = held_at c.records_are_entries.ensures.held

pub returns-clause-one_report : goal.returns-clause-one_report
returns-clause-one_report c = one_report_at c.records_are_entries.ensures.held

pub returns-clause-just_reported : goal.returns-clause-just_reported
returns-clause-just_reported c = just_reported_at c.records_are_entries.ensures.held

pub returns-clause-asks : goal.returns-clause-asks
returns-clause-asks c = asks_at

pub returns-clause-one_of_two : goal.returns-clause-one_of_two
returns-clause-one_of_two c = one_of_two_at c.records_are_entries.ensures.held

pub returns-clause-after_asked : goal.returns-clause-after_asked
returns-clause-after_asked c = after_asked_at c.records_are_entries.ensures.held

pub returns-clause-one_server : goal.returns-clause-one_server
returns-clause-one_server c = one_server_at c.records_are_entries.ensures.held

pub returns-clause-settings : goal.returns-clause-settings
returns-clause-settings c = earned_at settings_part c.former_settings_stand.ensures.settings

pub returns-clause-configuration : goal.returns-clause-configuration
returns-clause-configuration c = earned_at config_part c.former_settings_stand.ensures.configuration

pub returns-clause-whole : goal.returns-clause-whole
returns-clause-whole c = whole_at c.records_are_entries.ensures.held

pub returns-clause-first_settings : goal.returns-clause-first_settings
returns-clause-first_settings c = first_or_earned_at settings_part c.former_settings_stand.ensures.settings

pub returns-clause-first_configuration : goal.returns-clause-first_configuration
returns-clause-first_configuration c = first_or_earned_at config_part c.former_settings_stand.ensures.configuration

pub returns-clause-other_endpoint : goal.returns-clause-other_endpoint
returns-clause-other_endpoint c = other_endpoint_at c.records_are_entries.ensures.held

pub returns-clause-due : goal.returns-clause-due
returns-clause-due c = due_at c.plain_reply_means_held.ensures.due
