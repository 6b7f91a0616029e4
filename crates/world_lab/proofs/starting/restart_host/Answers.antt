use Rattle.std.proofs.Common.{◌≡◌, ◌∙◌, ℕ, ap, sym, subst, arith}
use Rattle.edge_devices.specs.Disks.{disk_bytes}
use Rattle.edge_devices.specs.MemoryDisks.{memory_disk}
use Rattle.agent_store.specs.Plans.{load_plan}
use Rattle.agent_rules.specs.Codec.{codec}
use Rattle.agent_rules.specs.Half.{restarted}
use Rattle.agent_stopped.specs.Endings.{stops_in}
use Rattle.world_lab.specs.Hosts.{IsAgent}
use Rattle.world_lab.proofs.Restarts.{good_endpoint, rests, starts_whole, told_generation}
use Rattle.world_lab.proofs.ScriptAgents.{agent_restarted}
use Rattle.world_lab.proofs.starting.restart_host.Goals as goal

pub restart-requires : goal.restart-requires
restart-requires c =
    let host = c.args.host.now in
    record {
      endpoint = good_endpoint c.args.opening.now c.requires.opening;
      whole = (restarted host.agent.half, starts_whole c.rest_starts_again.ensures.starts c.args.opening.now c.args.local host c.requires.opening c.requires.local c.requires.hosted);
      settled = c.requires.hosted.seated.rest.fits.store_fits.settled;
    }

pub bring_back-requires : goal.bring_back-requires
bring_back-requires c =
    let host = c.args.host.now in
    let half = c.in_ok-agent.ensures.started (restarted host.agent.half) (starts_whole c.rest_starts_again.ensures.starts c.args.opening.now c.args.local host c.requires.opening c.requires.local c.requires.hosted) in
    record {
      seated = record {
        agent = subst IsAgent (sym half) (agent_restarted host.agent.half c.requires.hosted.seated.agent);
        rest = rests c.args.opening.now c.in_ok-agent.agent c.restart.new.disk c.requires.opening c.in_ok-agent.ensures.at_rest;
      };
      others = record { packages = c.requires.hosted.files.packages; status = c.requires.hosted.files.status };
    }

pub returns : goal.returns
returns c =
    let host = c.args.host.now in
    let half = c.in_ok-agent.ensures.started (restarted host.agent.half) (starts_whole c.rest_starts_again.ensures.starts c.args.opening.now c.args.local host c.requires.opening c.requires.local c.requires.hosted) in
    let generation : c.bring_back.new.host.agent.store.generation ≡ host.agent.store.generation =
    ap (λ a. a.store.generation) c.bring_back.ensures.agent ∙ c.in_ok-agent.ensures.generation ∙ told_generation (c.bytes_tell_store.ensures.store codec) c.args.opening.now host c.requires.opening c.requires.hosted in
    record {
      half = ap (λ a. a.half) c.bring_back.ensures.agent ∙ half;
      stopped = c.in_ok-agent.ensures.stopped ∙ ap (λ (n : ℕ). stops_in n load_plan) c.call_of.ensures.call;
      hosted = c.in_ok-bring_back.ensures.hosted;
      image = ap (λ d. disk_bytes (memory_disk d)) c.bring_back.ensures.disk ∙ c.restart.ensures.same;
      generation = omega (arith, generation);
    }
