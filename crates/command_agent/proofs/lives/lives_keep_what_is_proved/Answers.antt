use Rattle.message_handlers.specs.Asking.{MayAnswer}
use Rattle.message_handlers.specs.Names.{names_of}
use Rattle.command_agent.proofs.ProvedLives.{life_leaves}
use Rattle.command_agent.proofs.lives.lives_keep_what_is_proved.Goals as goal

pub returns : goal.returns
returns g c = record {
  configuration =
      life_leaves (names_of c.args.handlers.now) (MayAnswer (λ b. (goal.Handler-dyn g b).answers b.1) c.args.handlers.now)
      c.proved_configuration_stays.ensures.rounds c.proved_configuration_stays.ensures.pushed_rounds;
}
