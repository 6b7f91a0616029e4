use Rattle.world_model.specs.Proofs.{settings_part, config_part}
use Rattle.world_model.specs.World.{world}
use Rattle.world_model.proofs.Kept.{world_sound}
use Rattle.world_model.proofs.Earned.{settings_stand, config_stands, first_or_earned}
use Rattle.world_model.proofs.laws.former_settings_stand.Goals as goal

pub returns-clause-settings : goal.returns-clause-settings
returns-clause-settings c = λ start events e. settings_stand (world start events) e (world_sound start events)

pub returns-clause-configuration : goal.returns-clause-configuration
returns-clause-configuration c = λ start events e. config_stands (world start events) e (world_sound start events)

pub returns-clause-first_settings : goal.returns-clause-first_settings
returns-clause-first_settings c = first_or_earned settings_part settings_stand

pub returns-clause-first_configuration : goal.returns-clause-first_configuration
returns-clause-first_configuration c = first_or_earned config_part config_stands
