use Rattle.std.proofs.Common.{None, refl, arith}
use Rattle.agent_rules.specs.Keeping.{ConfigDone}
use Rattle.agent_state.proofs.SaveLemmas.{keeps_call}
use Rattle.agent_state.proofs.agent.Agent.config_failed.Goals as goal

pub keep_changed-requires : goal.keep_changed-requires
keep_changed-requires g c = record { fits = c.requires.fits; right = λ right. right; reserved = omega arith }

pub returns : goal.returns
returns g c =
    let k = keeps_call _ _ _ _ c.args.self.now c.keep_changed.new.self c.requires.fits _ (ConfigDone None c.args.status) c.keep_changed.result refl c.keep_changed.ensures.keeps in
    record { kept = k.kept; room = k.room; one_save = k.one_save; refused = k.refused }
