use Rattle.std.proofs.Common.{◌≡◌, List, ℕ, IsTrue, Some, sym, refl, ap, subst, arith}
use Rattle.agent_rules.specs.Keeping.{ConfigDone, kept_by}
use Rattle.agent_rules.specs.declared.saved.Saved.{Saved}
use Rattle.agent_state.proofs.RightLemmas.{right_config}
use Rattle.agent_state.specs.declared.changes.Change.TheVariants.{Files}
use Rattle.agent_state.specs.Changes.{with_change}
use Rattle.agent_state.proofs.SaveLemmas.{nothing_tried, keeps_call}
use Rattle.agent_state.proofs.agent.Agent.config_applied.Goals as goal

pub keep_changed-requires : goal.keep_changed-requires
keep_changed-requires g c = record {
  fits = c.requires.fits;
  right = λ right. right_config c.args.self.now.half.saved c.args.files c.in-Ok.hash c.args.status right c.requires.names;
  reserved = omega arith;
}

pub returns-in-Err-clause-one_save : goal.returns-in-Err-clause-one_save
returns-in-Err-clause-one_save g c = nothing_tried _ (g.D.Disk.state c.args.disk.now) _ (g.D.Disk.countdown c.args.disk.now) c.self.inside _ c.self.view_is c.requires.fits _ (ConfigDone (Some c.args.files) c.args.status) _ (λ is. cc)

pub returns : goal.returns
returns g c =
    let keeps : kept_by c.args.self.now.half (ConfigDone (Some c.args.files) c.args.status) ≡ Some (with_change (Files c.args.files c.in-Ok.hash c.args.status) c.args.self.now.half.saved) =
    ap (λ (h : List ℕ). Some (with_change (Files c.args.files h c.args.status) c.args.self.now.half.saved)) (sym c.in-Ok.ensures.copied) in
    let k = keeps_call _ _ _ _ c.args.self.now c.keep_changed.new.self c.requires.fits _ (ConfigDone (Some c.args.files) c.args.status) c.keep_changed.result keeps c.keep_changed.ensures.keeps in
    record { kept = k.kept; room = k.room; one_save = k.one_save; refused = k.refused }
