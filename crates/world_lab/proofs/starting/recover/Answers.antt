use Rattle.std.proofs.Common.{◌≡◌, ◌∙◌, ap, sym, subst, refl, arith}
use Rattle.edge_devices.specs.Disks.{disk_bytes}
use Rattle.edge_devices.specs.MemoryDisks.{memory_disk}
use Rattle.agent_store.specs.Loads.{store_of}
use Rattle.agent_rules.specs.Codec.{codec}
use Rattle.agent_stopped.specs.Stages.{left_on}
use Rattle.world_lab.specs.Hosts.{IsAgent, lab_opening}
use Rattle.world_lab.proofs.Restarts.{always, good_endpoint, rests, starts_left}
use Rattle.world_lab.proofs.starting.recover.Goals as goal

pub recover-requires : goal.recover-requires
recover-requires c =
    let stopped = c.requires.stopped in
    record {
      endpoint = good_endpoint c.args.play.now.opening c.requires.opening;
      whole = (stopped.3.stopped.half c.args.mode, starts_left stopped.0 c.args.play.now.host stopped.1 stopped.2 stopped.3 c.args.mode c.args.play.now.opening c.in_ok-local.local c.requires.opening (c.in_ok-local.ensures.copied ∙ stopped.4));
    }

pub bring_back-requires : goal.bring_back-requires
bring_back-requires c =
    let stopped = c.requires.stopped in
    let s = stopped.3 in
    let half = c.in_ok-agent.ensures.started (s.stopped.half c.args.mode) (starts_left stopped.0 c.args.play.now.host stopped.1 stopped.2 s c.args.mode c.args.play.now.opening c.in_ok-local.local c.requires.opening (c.in_ok-local.ensures.copied ∙ stopped.4)) in
    record {
      seated = record {
        agent = subst IsAgent (sym half) (s.agents c.args.mode);
        rest = rests c.args.play.now.opening c.in_ok-agent.agent c.recover.new.disk c.requires.opening c.in_ok-agent.ensures.at_rest;
      };
      others = record { packages = s.others.packages; status = s.others.status };
    }

pub returns : goal.returns
returns c =
    let mode = c.args.mode in
    let host = c.args.play.now.host in
    let generation : c.bring_back.new.host.agent.store.generation ≡ (store_of codec lab_opening.layout (left_on host.disk mode)).generation =
    ap (λ a. a.store.generation) c.bring_back.ensures.agent ∙ c.in_ok-agent.ensures.generation ∙ ap (λ o. (store_of codec o.layout (left_on host.disk mode)).generation) c.requires.opening in
    record {
      half = always c.crashed.result (λ before calls most s local. ap (λ a. a.half) c.bring_back.ensures.agent
          ∙ c.in_ok-agent.ensures.started (s.stopped.half mode) (starts_left before host calls most s mode c.args.play.now.opening c.in_ok-local.local c.requires.opening (c.in_ok-local.ensures.copied ∙ local)));
      hosted = always c.crashed.result c.in_ok-bring_back.ensures.hosted;
      image = always c.crashed.result (ap (λ d. disk_bytes (memory_disk d)) c.bring_back.ensures.disk ∙ c.recover.ensures.left);
      generation = always c.crashed.result (λ before calls most s. let few = s.saves mode in omega (arith, generation, few));
      stop = refl;
      opening = refl;
      local = refl;
      sent = refl;
      pushes = c.clear.ensures.items;
      written = c.crashed.ensures.line;
    }
