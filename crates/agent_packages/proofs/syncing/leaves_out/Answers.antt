use Rattle.std.proofs.Common.{◌≡◌, true, false, refl, sym, ◌∙◌, ap}
use Rattle.edge_devices.specs.Names.{is_good_name}
use Rattle.agent_packages.proofs.Dues.{only_none}
use Rattle.agent_packages.proofs.Installing.{others_same, others_kept}
use Rattle.agent_packages.proofs.Removing.{bad_left_out, left_out, removes_only, left_in, fails_only, wants_only}
use Rattle.agent_packages.proofs.syncing.leaves_out.Goals as goal

pub returns-then-not-name_good : goal.returns-then-not-name_good
returns-then-not-name_good g c =
    let bad : is_good_name c.args.name.now ≡ false = ap is_good_name (sym c.as_str.ensures.value) ∙ sym c.name_good.ensures ∙ c.if-not-name_good.true in
    record {
      removed = bad_left_out (g.F.Folder.state c.args.folder.now) (g.F.Folder.state c.args.folder.now) c.args.name.now bad;
      others = λ other file apart. refl;
      kept = λ name apart. refl;
      only = only_none _ (g.F.Folder.state c.args.folder.now);
    }

pub returns-in-Ok : goal.returns-in-Ok
returns-in-Ok g c =
    let old = g.F.Folder.state c.args.folder.now in
    let new = g.F.Folder.state c.remove.new.self in
    let name = c.args.name.now in
    let good : is_good_name name ≡ true = ap is_good_name (sym c.as_str.ensures.value) ∙ sym c.name_good.ensures ∙ c.if-not-name_good.false in
    record {
      removed = left_out old new name c.in-Ok.ensures.call good;
      others = others_same old new name c.remove.ensures.same;
      kept = others_kept old new name c.remove.ensures.same;
      only = removes_only old new name c.in-Ok.ensures.call;
    }

pub returns-in-Err-Fault : goal.returns-in-Err-Fault
returns-in-Err-Fault g c =
    let old = g.F.Folder.state c.args.folder.now in
    let new = g.F.Folder.state c.remove.new.self in
    let name = c.args.name.now in
    let good : is_good_name name ≡ true = ap is_good_name (sym c.as_str.ensures.value) ∙ sym c.name_good.ensures ∙ c.if-not-name_good.false in
    record {
      removed = left_in old new name c.in-Err-Fault.field-0 c.in-Err-Fault.ensures.call c.in-Err-Fault.field-0-is good;
      others = others_same old new name c.remove.ensures.same;
      kept = others_kept old new name c.remove.ensures.same;
      only = fails_only old new name c.in-Err-Fault.field-0 c.in-Err-Fault.ensures.call c.in-Err-Fault.field-0-is;
    }

pub returns-in-Err-NoMemory : goal.returns-in-Err-NoMemory
returns-in-Err-NoMemory g c =
    let old = g.F.Folder.state c.args.folder.now in
    let new = g.F.Folder.state c.remove.new.self in
    let name = c.args.name.now in
    record {
      removed = tt;
      others = others_same old new name c.remove.ensures.same;
      kept = others_kept old new name c.remove.ensures.same;
      only = wants_only old new name c.in-Err-NoMemory.field-0 c.in-Err-NoMemory.ensures.call c.in-Err-NoMemory.field-0-is;
    }
