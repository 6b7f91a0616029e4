use Rattle.std.proofs.Common.{◌≡◌, true, false, refl, sym, ◌∙◌, ap}
use Rattle.std.specs.Prelude.{Err, Ok}
use Rattle.edge_devices.specs.Names.{is_good_name}
use Rattle.agent_packages.proofs.Dues.{asks_only_none, fetch_only, only_none}
use Rattle.agent_packages.proofs.Installing.{bad_name, no_file, fetch_fault, hash_differs, installed, installed_only, folder_fault, fault_only, others_same, others_kept}
use Rattle.agent_packages.proofs.install.install.Goals as goal

pub returns-then-not-name_good : goal.returns-then-not-name_good
returns-then-not-name_good g c =
    let good : is_good_name c.args.name.now ≡ false = ap is_good_name (sym c.as_str.ensures.value) ∙ sym c.name_good.ensures ∙ c.if-not-name_good.true in
    record {
      installs = bad_name (g.G.Dialer.state c.args.dialer.now) (g.G.Dialer.state c.args.dialer.now) (g.F.Folder.state c.args.folder.now) (g.F.Folder.state c.args.folder.now) c.args.name.now c.args.item.now good;
      others = λ other file apart. refl;
      kept = λ name apart. refl;
      only = only_none _ (g.F.Folder.state c.args.folder.now);
      fetches = asks_only_none _ (g.G.Dialer.state c.args.dialer.now);
    }

pub returns-in_default : goal.returns-in_default
returns-in_default g c =
    let good : is_good_name c.args.name.now ≡ true = ap is_good_name (sym c.as_str.ensures.value) ∙ sym c.name_good.ensures ∙ c.if-not-name_good.false in
    record {
      installs = no_file (g.G.Dialer.state c.args.dialer.now) (g.G.Dialer.state c.args.dialer.now) (g.F.Folder.state c.args.folder.now) (g.F.Folder.state c.args.folder.now) c.args.name.now c.args.item.now good c.in_default.is;
      others = λ other file apart. refl;
      kept = λ name apart. refl;
      only = only_none _ (g.F.Folder.state c.args.folder.now);
      fetches = asks_only_none _ (g.G.Dialer.state c.args.dialer.now);
    }

pub returns-in-Err-Fault : goal.returns-in-Err-Fault
returns-in-Err-Fault g c =
    let good : is_good_name c.args.name.now ≡ true = ap is_good_name (sym c.as_str.ensures.value) ∙ sym c.name_good.ensures ∙ c.if-not-name_good.false in
    record {
      installs = fetch_fault (g.G.Dialer.state c.args.dialer.now) (g.G.Dialer.state c.fetch.new.self) (g.F.Folder.state c.args.folder.now) (g.F.Folder.state c.args.folder.now) c.args.name.now c.args.item.now good c.in-Some.file c.in-Some.is c.in-Err-Fault.field-0 c.in-Err-Fault.field-0-is c.in-Err-Fault.ensures.call;
      others = λ other file apart. refl;
      kept = λ name apart. refl;
      only = only_none _ (g.F.Folder.state c.args.folder.now);
      fetches = fetch_only (g.G.Dialer.state c.args.dialer.now) (g.G.Dialer.state c.fetch.new.self) c.args.item.now c.in-Some.file (Err c.in-Err-Fault.field-0) c.in-Some.is c.in-Err-Fault.ensures.call;
    }

pub returns-then-not-has_hash : goal.returns-then-not-has_hash
returns-then-not-has_hash g c =
    let good : is_good_name c.args.name.now ≡ true = ap is_good_name (sym c.as_str.ensures.value) ∙ sym c.name_good.ensures ∙ c.if-not-name_good.false in
    record {
      installs = hash_differs (g.G.Dialer.state c.args.dialer.now) (g.G.Dialer.state c.fetch.new.self) (g.F.Folder.state c.args.folder.now) (g.F.Folder.state c.args.folder.now) c.args.name.now c.args.item.now good c.in-Some.file c.in-Some.is c.in-Ok.content c.in-Ok.ensures.call (sym c.has_hash.ensures ∙ c.if-not-has_hash.true);
      others = λ other file apart. refl;
      kept = λ name apart. refl;
      only = only_none _ (g.F.Folder.state c.args.folder.now);
      fetches = fetch_only (g.G.Dialer.state c.args.dialer.now) (g.G.Dialer.state c.fetch.new.self) c.args.item.now c.in-Some.file (Ok c.in-Ok.content) c.in-Some.is c.in-Ok.ensures.call;
    }

pub returns-in-Err-NoMemory : goal.returns-in-Err-NoMemory
returns-in-Err-NoMemory g c =
    record {
      installs = tt;
      others = λ other file apart. refl;
      kept = λ name apart. refl;
      only = only_none _ (g.F.Folder.state c.args.folder.now);
      fetches = fetch_only (g.G.Dialer.state c.args.dialer.now) (g.G.Dialer.state c.fetch.new.self) c.args.item.now c.in-Some.file (Err c.in-Err-NoMemory.field-0) c.in-Some.is c.in-Err-NoMemory.ensures.call;
    }

pub returns-in-Ok-write : goal.returns-in-Ok-write
returns-in-Ok-write g c =
    let good : is_good_name c.args.name.now ≡ true = ap is_good_name (sym c.as_str.ensures.value) ∙ sym c.name_good.ensures ∙ c.if-not-name_good.false in
    record {
      installs = installed (g.G.Dialer.state c.args.dialer.now) (g.G.Dialer.state c.fetch.new.self) (g.F.Folder.state c.args.folder.now) (g.F.Folder.state c.write.new.self) c.args.name.now c.args.item.now good c.in-Some.file c.in-Some.is c.in-Ok.content c.in-Ok.ensures.call (sym c.has_hash.ensures ∙ c.if-not-has_hash.false) c.in-Ok-write.ensures.call;
      others = others_same (g.F.Folder.state c.args.folder.now) (g.F.Folder.state c.write.new.self) c.args.name.now c.write.ensures.same;
      kept = others_kept (g.F.Folder.state c.args.folder.now) (g.F.Folder.state c.write.new.self) c.args.name.now c.write.ensures.same;
      only = installed_only (g.G.Dialer.state c.args.dialer.now) (g.G.Dialer.state c.fetch.new.self) (g.F.Folder.state c.args.folder.now) (g.F.Folder.state c.write.new.self) c.args.name.now c.args.item.now good c.in-Some.file c.in-Some.is c.in-Ok.content c.in-Ok.ensures.call (sym c.has_hash.ensures ∙ c.if-not-has_hash.false) c.in-Ok-write.ensures.call;
      fetches = fetch_only (g.G.Dialer.state c.args.dialer.now) (g.G.Dialer.state c.fetch.new.self) c.args.item.now c.in-Some.file (Ok c.in-Ok.content) c.in-Some.is c.in-Ok.ensures.call;
    }

pub returns-in-Err-Fault-write : goal.returns-in-Err-Fault-write
returns-in-Err-Fault-write g c =
    let good : is_good_name c.args.name.now ≡ true = ap is_good_name (sym c.as_str.ensures.value) ∙ sym c.name_good.ensures ∙ c.if-not-name_good.false in
    record {
      installs = folder_fault (g.G.Dialer.state c.args.dialer.now) (g.G.Dialer.state c.fetch.new.self) (g.F.Folder.state c.args.folder.now) (g.F.Folder.state c.write.new.self) c.args.name.now c.args.item.now good c.in-Some.file c.in-Some.is c.in-Ok.content c.in-Ok.ensures.call (sym c.has_hash.ensures ∙ c.if-not-has_hash.false) c.in-Err-Fault-write.field-0 c.in-Err-Fault-write.field-0-is c.in-Err-Fault-write.ensures.call;
      others = others_same (g.F.Folder.state c.args.folder.now) (g.F.Folder.state c.write.new.self) c.args.name.now c.write.ensures.same;
      kept = others_kept (g.F.Folder.state c.args.folder.now) (g.F.Folder.state c.write.new.self) c.args.name.now c.write.ensures.same;
      only = fault_only (g.G.Dialer.state c.args.dialer.now) (g.G.Dialer.state c.fetch.new.self) (g.F.Folder.state c.args.folder.now) (g.F.Folder.state c.write.new.self) c.args.name.now c.args.item.now good c.in-Some.file c.in-Some.is c.in-Ok.content c.in-Ok.ensures.call (sym c.has_hash.ensures ∙ c.if-not-has_hash.false) c.in-Err-Fault-write.field-0 c.in-Err-Fault-write.field-0-is c.in-Err-Fault-write.ensures.call;
      fetches = fetch_only (g.G.Dialer.state c.args.dialer.now) (g.G.Dialer.state c.fetch.new.self) c.args.item.now c.in-Some.file (Ok c.in-Ok.content) c.in-Some.is c.in-Ok.ensures.call;
    }

pub returns-clause-fetches : goal.returns-clause-fetches
returns-clause-fetches g c = fetch_only (g.G.Dialer.state c.args.dialer.now) (g.G.Dialer.state c.fetch.new.self) c.args.item.now c.in-Some.file (Ok c.in-Ok.content) c.in-Some.is c.in-Ok.ensures.call
