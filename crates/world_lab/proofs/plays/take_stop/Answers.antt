use Rattle.std.proofs.Common.{◌∙◌, ℕ, ap, refl}
use Rattle.world_lab.specs.Hosts.{lab_opening, stage_at}
use Rattle.world_lab.proofs.plays.take_stop.Goals as goal

pub returns : goal.returns
returns c =
    let host = c.args.play.now.host in
    record {
      agent = refl;
      folder = refl;
      stage = c.arm.ensures.stage host.agent ∙ ap (λ (n : ℕ). record (stage_at host) { left = n }) c.call_of.ensures.call;
      hosted = λ h. record {
        seated = record { agent = h.seated.agent; rest = c.arm.ensures.at_rest lab_opening host.agent h.seated.rest };
        files = record { config = h.files.config; packages = h.files.packages; status = h.files.status };
      };
      mode = c.mode_of.ensures.mode;
      taken = refl;
      opening = refl;
      local = refl;
      sent = refl;
      pushes = refl;
    }
