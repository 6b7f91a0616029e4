use Rattle.std.proofs.Common.{sym, subst, refl}
use Rattle.std.specs.Prelude.{IsTrue}
use Rattle.edge_devices.specs.declared.folders.Area.TheVariants.{Config}
use Rattle.edge_devices.specs.MemoryFolders.{memory_folder}
use Rattle.edge_devices.specs.Names.{are_good_names}
use Rattle.agent_config.specs.Config.{AreFiles, files_of}
use Rattle.world_lab.proofs.Hosts.{good_active}
use Rattle.world_lab.proofs.ConfigCalls.{hosted_brought}
use Rattle.world_lab.proofs.configs.bring_back.Goals as goal

pub settle-requires : goal.settle-requires
settle-requires c = subst (λ s. IsTrue (are_good_names s.config.config_map)) (sym c.saved.ensures.saved) (good_active c.args.host.now c.requires.seated)

pub returns-in-Ok : goal.returns-in-Ok
returns-in-Ok c = record {
  agent = refl;
  disk = refl;
  hosted = hosted_brought c.args.host.now c.settle.new.folder c.requires.seated c.requires.others
      (subst (λ s. AreFiles ((memory_folder c.settle.new.folder).files Config) (files_of s.config.config_map)) c.saved.ensures.saved (c.in-Ok.ensures.files refl))
      c.settle.ensures.others;
}
