use Rattle.std.proofs.Common.{IsTrue, subst, sym, refl}
use Rattle.std.proofs.lemmas.Result.{IfOk-from_err}
use Rattle.edge_devices.specs.Names.{is_good_name}
use Rattle.edge_devices.proofs.Running.{runs_call, runs_done, runs_end}
use Rattle.agent_config.proofs.Bringing.{one_written, runs_wanting, same_elsewhere}
use Rattle.agent_config.proofs.area.write_file.Goals as goal

pub write-requires : goal.write-requires
write-requires g c = record { good = subst (λ name. IsTrue (is_good_name name)) (sym c.in_ok-name.ensures) c.requires }

pub returns-in_err-name : goal.returns-in_err-name
returns-in_err-name g c = record {
  files = IfOk-from_err _ _ c.from_residual.ensures.0;
  others = λ other file apart. refl;
  calls = runs_wanting _ _ c.from_residual.ensures.1;
}

pub returns-in_err-write : goal.returns-in_err-write
returns-in_err-write g c = record {
  files = IfOk-from_err _ _ c.from_residual-in_err-write.ensures.0;
  others = same_elsewhere _ _ _ c.write.ensures.same;
  calls = runs_end _ _ _ tt _ _ c.from_residual-in_err-write.ensures.1 (runs_done {T = Unit {0}} _ tt) (runs_call _ _ _ _ (record { some = λ v. refl; none = refl }) c.in_err-write.ensures.call);
}

pub returns : goal.returns
returns g c = record {
  files = λ told. one_written _ _ c.args.file.now _ c.in_ok-name.ensures (c.in_ok-write.ensures.written told) c.write.ensures.same;
  others = same_elsewhere _ _ _ c.write.ensures.same;
  calls = runs_call _ _ _ _ (record { some = λ v. refl; none = refl }) c.in_ok-write.ensures.call;
}
