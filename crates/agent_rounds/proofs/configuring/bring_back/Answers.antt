-- The area was brought back, or stays due.
use Rattle.std.proofs.Common.{Ok, Err, refl, sym, ap, subst}
use Rattle.edge_devices.specs.declared.folders.FolderFail.{FolderFail}
use Rattle.edge_devices.specs.declared.folders.Area.TheVariants.{Config}
use Rattle.agent_config.specs.Config.{AreFiles, files_of}
use Rattle.agent_rules.specs.declared.saved.Saved.{Saved}
use Rattle.std.specs.Prelude.{IsTrue}
use Rattle.agent_rounds.specs.Replies.{back_end}
use Rattle.agent_rounds.proofs.configuring.bring_back.Goals as goal

pub returns-in-Ok-clause-does : goal.returns-in-Ok-clause-does
returns-in-Ok-clause-does g c = λ number s.
    let new = g.F.Folder.state c.settle.new.folder in
    record {
      answer = Ok tt;
      settles = record {
        runs = c.in-Ok.ensures.calls;
        files = subst (λ (saved : Saved). IsTrue new.told → AreFiles (new.files Config) (files_of saved.config.config_map)) c.saved.ensures.saved c.in-Ok.ensures.files;
        others = c.in-Ok.ensures.others;
      };
      rest = refl;
      end = refl;
    }

pub returns-in-Err-Fault-clause-does : goal.returns-in-Err-Fault-clause-does
returns-in-Err-Fault-clause-does g c = λ number s. record {
  answer = Err c.in-Err-Fault.field-0;
  settles = record { runs = c.in-Err-Fault.ensures.calls; files = tt; others = c.in-Err-Fault.ensures.others };
  rest = refl;
  end = ap (λ (fail : FolderFail). back_end (Err fail)) (sym c.in-Err-Fault.field-0-is);
}

pub returns-in-Err-NoMemory-clause-does : goal.returns-in-Err-NoMemory-clause-does
returns-in-Err-NoMemory-clause-does g c = λ number s. record {
  answer = Err c.in-Err-NoMemory.field-0;
  settles = record { runs = c.in-Err-NoMemory.ensures.calls; files = tt; others = c.in-Err-NoMemory.ensures.others };
  rest = refl;
  end = ap (λ (fail : FolderFail). back_end (Err fail)) (sym c.in-Err-NoMemory.field-0-is);
}
