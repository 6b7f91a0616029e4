use Rattle.std.proofs.Common.{◌≡◌, true, subst, refl, sym}
use Rattle.std.specs.List.{list_all}
use Rattle.edge_devices.specs.Folders.{AreGood}
use Rattle.std.specs.Prelude.{IsTrue}
use Rattle.edge_devices.specs.declared.folders.Area.TheVariants.{Config}
use Rattle.edge_devices.proofs.Running.{runs_end, runs_call, runs_then}
use Rattle.agent_config.specs.Config.{AreFiles, files_of, has_good_name, Leaves}
use Rattle.agent_config.proofs.Bringing.{brought}
use Rattle.agent_config.proofs.Naming.{good_files}
use Rattle.agent_config.proofs.area.bring.Goals as goal

pub returns-in_err-names-clause-calls : goal.returns-in_err-names-clause-calls
returns-in_err-names-clause-calls g c =
    runs_end _ _ _ _ _ _ c.from_residual-in_err-names.ensures.1 c.in_ok-write_files.ensures.calls
    (runs_call _ _ _ _ (record { some = λ v. refl; none = refl }) c.in_err-names.ensures.call)

pub returns-in_err-remove_all_but-clause-calls : goal.returns-in_err-remove_all_but-clause-calls
returns-in_err-remove_all_but-clause-calls g c =
    runs_end _ _ _ _ _ _ c.from_residual-in_err-remove_all_but.ensures.1
    (runs_then _ _ _ _ _ c.in_ok-write_files.ensures.calls (runs_call _ _ _ _ (record { some = λ v. refl; none = refl }) c.in_ok-names.ensures.call))
    c.in_err-remove_all_but.ensures.calls

pub returns-clause-files : goal.returns-clause-files
returns-clause-files g c told =
    let listed = subst IsTrue c.in_ok-remove_all_but.ensures.calls.makes.told told in
    let written = subst IsTrue c.in_ok-names.ensures.call.told listed in
    subst (λ config. AreFiles ((g.F.Folder.state c.remove_all_but.new.folder).files Config) (files_of config)) c.as_slice-files.ensures.value
    (brought _ _ _ _ _ _ (c.in_ok-write_files.ensures.files written) (λ name. c.in_ok-names.ensures.same Config name) (c.in_ok-names.ensures.names listed)
    (subst (λ names. Leaves c.as_slice-files.result.now names ((g.F.Folder.state c.names.new.self).files Config) ((g.F.Folder.state c.remove_all_but.new.folder).files Config)) c.as_slice.ensures.value (c.in_ok-remove_all_but.ensures.removed told)))

pub returns-clause-calls : goal.returns-clause-calls
returns-clause-calls g c =
    runs_then _ _ _ _ _
    (runs_then _ _ _ _ _ c.in_ok-write_files.ensures.calls (runs_call _ _ _ _ (record { some = λ v. refl; none = refl }) c.in_ok-names.ensures.call))
    c.in_ok-remove_all_but.ensures.calls

pub write_files-requires : goal.write_files-requires
write_files-requires g c = subst (λ files. list_all has_good_name files ≡ true) (sym c.as_slice-files.ensures.value) (good_files c.args.config.now.config_map c.requires)

pub remove_all_but-requires : goal.remove_all_but-requires
remove_all_but-requires g c = subst AreGood (sym c.as_slice.ensures.value) c.in_ok-names.ensures.good
