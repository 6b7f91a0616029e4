use Rattle.std.proofs.Common.{ℕ, subst, arith}
use Rattle.world_scripts.specs.declared.lines.Line.TheVariants as lines
use Rattle.world_lab.specs.Mirrors.{Plays}
use Rattle.world_lab.proofs.Lines.{if_ok}
use Rattle.world_lab.proofs.Opening.{ten_servers}
use Rattle.world_lab.proofs.playing.play_line.Goals as goal

pub returns-in-Caps : goal.returns-in-Caps
returns-in-Caps c = record { played = rw c.in-Caps.is (if_ok c.set_capabilities.result (λ written plays. plays c.args.servers.now) c.set_capabilities.ensures.played) }

pub returns-in-Attr : goal.returns-in-Attr
returns-in-Attr c = record { played = rw c.in-Attr.is (if_ok c.set_attribute.result (λ written plays. plays c.args.servers.now) c.set_attribute.ensures.played) }

pub returns-in-HealthOk : goal.returns-in-HealthOk
returns-in-HealthOk c = record { played = rw c.in-HealthOk.is (if_ok c.set_healthy.result (λ written plays. plays c.args.servers.now) c.set_healthy.ensures.played) }

pub returns-in-HealthBad : goal.returns-in-HealthBad
returns-in-HealthBad c = record { played = rw c.in-HealthBad.is (if_ok c.set_unhealthy.result (λ written plays. plays c.args.servers.now) c.set_unhealthy.ensures.played) }

pub returns-in-Effective : goal.returns-in-Effective
returns-in-Effective c = record { played = rw c.in-Effective.is (if_ok c.set_file.result (λ written plays. plays c.args.servers.now) c.set_file.ensures.played) }

pub returns-in-Custom : goal.returns-in-Custom
returns-in-Custom c = record { played = rw c.in-Custom.is (if_ok c.add_custom.result (λ written plays. plays c.args.servers.now) c.add_custom.ensures.played) }

pub returns-in-Component : goal.returns-in-Component
returns-in-Component c = record { played = rw c.in-Component.is (if_ok c.add_component.result (λ written plays. plays c.args.servers.now) c.add_component.ensures.played) }

pub returns-in-Send : goal.returns-in-Send
returns-in-Send c = record { played = rw c.in-Send.is (if_ok c.send.result (λ written plays. plays c.args.servers.now) c.send.ensures.played) }

pub returns-in-Reply : goal.returns-in-Reply
returns-in-Reply c = record { played = rw c.in-Reply.is (if_ok c.hear.result (λ written plays. plays c.args.servers.now) c.hear.ensures.played) }

pub returns-in-GiveUp : goal.returns-in-GiveUp
returns-in-GiveUp c = record { played = rw c.in-GiveUp.is (if_ok c.give_up.result (λ written plays. plays c.args.servers.now) c.give_up.ensures.played) }

pub returns-in-Restart : goal.returns-in-Restart
returns-in-Restart c = record { played = rw c.in-Restart.is (if_ok c.restart.result (λ written plays. plays c.args.servers.now) c.restart.ensures.played) }

pub returns-in-Deliver : goal.returns-in-Deliver
returns-in-Deliver c = record { played = rw c.in-Deliver.is (c.deliver.ensures.played) }

pub returns-in-Active : goal.returns-in-Active
returns-in-Active c = record { played = rw c.in-Active.is (if_ok c.show_active.result (λ written plays. plays c.args.servers.now) c.show_active.ensures.played) }

pub returns-in-Stop : goal.returns-in-Stop
returns-in-Stop c = record { played = rw c.in-Stop.is (c.arm.ensures.played c.args.servers.now) }

pub send-requires : goal.send-requires
send-requires c = record { mirror = (c.args.servers.now, c.requires.mirror); generations = omega (arith, c.requires.generations) }

pub hear-requires : goal.hear-requires
hear-requires c = record { mirror = (c.args.servers.now, c.requires.mirror); generations = c.requires.generations }

pub restart-requires : goal.restart-requires
restart-requires c = record { mirror = (c.args.servers.now, c.requires.mirror) }

pub deliver-requires : goal.deliver-requires
deliver-requires c = record { mirror = c.requires.mirror }

pub restart_server-requires : goal.restart_server-requires
restart_server-requires c = record { digit = c.number.ensures.below; all = ten_servers c.args.play.now c.args.servers.now c.requires.mirror }

pub offer_config-requires : goal.offer_config-requires
offer_config-requires c = record { digit = c.number-in-OfferConfig.ensures.below; all = ten_servers c.args.play.now c.args.servers.now c.requires.mirror }

pub offer_connection-requires : goal.offer_connection-requires
offer_connection-requires c = record { digit = c.number-in-OfferConnection.ensures.below; all = ten_servers c.args.play.now c.args.servers.now c.requires.mirror }

pub show_record-requires : goal.show_record-requires
show_record-requires c = record { digit = c.number-in-Record.ensures.below; all = ten_servers c.args.play.now c.args.servers.now c.requires.mirror }

pub returns-in-ServerRestart : goal.returns-in-ServerRestart
returns-in-ServerRestart c = record {
  played = rw c.in-ServerRestart.is
      (if_ok c.restart_server.result
      (λ written plays. subst (λ (n : ℕ). Plays (lines.ServerRestart n) c.args.play.now c.args.servers.now c.args.play.now c.restart_server.new.servers written) c.number.ensures.value (plays c.args.play.now))
      c.restart_server.ensures.played);
}

pub returns-in-OfferConfig : goal.returns-in-OfferConfig
returns-in-OfferConfig c = record {
  played = rw c.in-OfferConfig.is
      (if_ok c.offer_config.result
      (λ written plays. subst (λ (n : ℕ). Plays (lines.OfferConfig n c.in-OfferConfig.name c.in-OfferConfig.text) c.args.play.now c.args.servers.now c.args.play.now c.offer_config.new.servers written) c.number-in-OfferConfig.ensures.value plays)
      c.offer_config.ensures.played);
}

pub returns-in-OfferConnection : goal.returns-in-OfferConnection
returns-in-OfferConnection c = record {
  played = rw c.in-OfferConnection.is
      (if_ok c.offer_connection.result
      (λ written plays. subst (λ (n : ℕ). Plays (lines.OfferConnection n c.in-OfferConnection.url) c.args.play.now c.args.servers.now c.args.play.now c.offer_connection.new.servers written) c.number-in-OfferConnection.ensures.value plays)
      c.offer_connection.ensures.played);
}

pub returns-in-Record : goal.returns-in-Record
returns-in-Record c = record {
  played = rw c.in-Record.is
      (if_ok c.show_record.result
      (λ written plays. subst (λ (n : ℕ). Plays (lines.Record n) c.args.play.now c.args.servers.now c.args.play.now c.args.servers.now written) c.number-in-Record.ensures.value plays)
      c.show_record.ensures.played);
}

pub push-requires : goal.push-requires
push-requires c = record { digit = c.number-in-Push.ensures.below; all = ten_servers c.args.play.now c.args.servers.now c.requires.mirror }

pub take_push-requires : goal.take_push-requires
take_push-requires c = record { mirror = (c.args.servers.now, c.requires.mirror); generations = c.requires.generations }

pub returns-in-Push : goal.returns-in-Push
returns-in-Push c = record {
  played = rw c.in-Push.is
      (if_ok c.push.result
      (λ written plays. subst (λ (n : ℕ). Plays (lines.Push n) c.args.play.now c.args.servers.now c.push.new.play c.args.servers.now written) c.number-in-Push.ensures.value plays)
      c.push.ensures.played);
}

pub returns-in-TakePush : goal.returns-in-TakePush
returns-in-TakePush c = record { played = rw c.in-TakePush.is (if_ok c.take_push.result (λ written plays. plays c.args.servers.now) c.take_push.ensures.played) }
