use Rattle.std.proofs.Common.{◌+◌, take, sym, ◌∙◌, subst, refl}
use Rattle.edge_devices.proofs.Running.{runs_end, runs_call}
use Rattle.agent_config.proofs.Bringing.{Removes, removes_more, removes_same}
use Rattle.agent_config.proofs.area.remove_all_but.Goals as goal
use Rattle.agent_config.proofs.area.remove_all_but.Goals.{then-not-has_file+in_ok-remove, else-not-has_file}

pub returns-in_err-remove-clause-calls : goal.returns-in_err-remove-clause-calls
returns-in_err-remove-clause-calls g c =
    runs_end _ _ _ tt _ _ c.from_residual.ensures.1 c.loop-name.invariant.runs
    (runs_call _ _ _ _ (record { some = λ v. refl; none = refl }) c.in_err-remove.ensures.call)

pub loop-name-preserved : goal.loop-name-preserved
loop-name-preserved g c =
    let state = g.F.Folder.state in
    elim c.if-not-has_file.branch [
      | then-not-has_file+in_ok-remove w ↦
          subst (λ folder. Removes (state c.args.folder.now) (state folder) c.args.files.now (take (c.loop-name.name-index + 1) c.args.names.now)) (sym w.folder-is)
          (removes_more _ _ _ _ _ c.loop-name.name-index c.name-item.result c.loop-name.invariant c.loop-name-test.true c.name-item.is
          (sym c.has_file.ensures ∙ w.if-not-has_file.true) w.in_ok-remove.ensures.removed w.in_ok-remove.ensures.same
          (runs_call _ _ _ _ (record { some = λ v. refl; none = refl }) w.in_ok-remove.ensures.call))
      | else-not-has_file w ↦
          subst (λ folder. Removes (state c.args.folder.now) (state folder) c.args.files.now (take (c.loop-name.name-index + 1) c.args.names.now)) (sym w.folder-is)
          (removes_same _ _ _ _ c.loop-name.name-index c.name-item.result c.loop-name.invariant c.loop-name-test.true c.name-item.is
          (sym c.has_file.ensures ∙ w.if-not-has_file.false))
    ]

pub remove-requires : goal.remove-requires
remove-requires g c = record { good = c.requires c.name-item.result (c.loop-name.name-index, c.loop-name-test.true, sym c.name-item.is) }
