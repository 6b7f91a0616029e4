use Rattle.std.proofs.Common.{◌≡◌, ◌∙◌, [], ◌∷◌, ap, sym, refl, subst, arith}
use Rattle.agent_rules.specs.Calls.{changed}
use Rattle.world_model.specs.World.{Changed}
use Rattle.world_model.specs.Servers.{arrivals}
use Rattle.world_lab.specs.Playing.{happens, script_start, world_of}
use Rattle.world_lab.specs.Mirrors.{IsAgent}
use Rattle.world_lab.proofs.ScriptAgents.{agent_changed}
use Rattle.world_lab.proofs.Hosts.{hosted_beside}
use Rattle.world_lab.proofs.Mirroring.{mirrors_next, world_changed}
use Rattle.world_lab.proofs.changes.change.Goals as goal

pub returns : goal.returns
returns c =
    let play = c.args.play.now in
    let agent = c.change.new.self in
    let step = c.change.ensures.changed ∙ ap (λ l. changed l play.host.agent.half) c.in_ok-copy.ensures.copied in
    record {
      mirrors = λ p servers m. mirrors_next c.runs_go_on.ensures.world c.runs_go_on.ensures.arrivals p (happens p (Changed c.args.now ∷ [])) (Changed c.args.now) play _ servers servers m (record {
        events = refl;
        world = world_changed (world_of p) (arrivals script_start p.events) play.host.agent.half agent.half c.args.now play.sent.items servers m.world step;
        image = m.image;
        stop = m.stop;
        local = sym (ap (λ a. a.local) step);
        opening = refl;
        hosted = hosted_beside play.host agent m.hosted (subst IsAgent (sym step) (agent_changed c.args.now play.host.agent.half m.hosted.seated.agent)) c.change.ensures.store (ap (λ a. a.saved) step) (ap (λ a. a.is_kept) step);
        saves = let same : agent.store.generation ≡ play.host.agent.store.generation = ap (λ s. s.generation) c.change.ensures.store in omega arith;
        pushes = m.pushes;
        pushed = m.pushed;
        nobody = tt;
      });
      written = refl;
    }
