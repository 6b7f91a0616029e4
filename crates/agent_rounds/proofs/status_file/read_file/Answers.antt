use Rattle.std.proofs.Common.{◌≡◌, List, ℕ, IfOk, IsTrue, refl, sym, subst, arith}
use Rattle.std.proofs.lemmas.List.{append-nil}
use Rattle.edge_devices.specs.declared.folders.Area.TheVariants.{Status}
use Rattle.edge_devices.specs.declared.folders.FolderCall.TheVariants.{Read}
use Rattle.edge_devices.specs.Folders.{Calls}
use Rattle.agent_rounds.proofs.status_file.read_file.Goals as goal

pub returns-in-Err-clause-call : goal.returns-in-Err-clause-call
returns-in-Err-clause-call g c = record {
  told = refl;
  calls = λ told. sym (append-nil (g.F.Folder.state c.args.folder.now).calls);
  count = omega arith;
  fault = λ is. cc;
}

pub returns-clause-call : goal.returns-clause-call
returns-clause-call g c =
    subst (λ (name : List ℕ). Calls (g.F.Folder.state c.args.folder.now) (g.F.Folder.state c.read.new.self) (Read Status name) c.read.result) c.in-Ok.ensures c.read.ensures.call

pub returns-clause-body : goal.returns-clause-body
returns-clause-body g c =
    subst (λ (name : List ℕ). IfOk c.read.result (λ body. IsTrue (g.F.Folder.state c.read.new.self).told → body ≡ (g.F.Folder.state c.args.folder.now).files Status name)) c.in-Ok.ensures c.read.ensures.body
