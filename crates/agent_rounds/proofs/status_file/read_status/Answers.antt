use Rattle.std.proofs.Common.{◌≡◌, List, ℕ, Option, Some, Result, Ok, Err, IfErr, refl, sym, ◌∙◌, ap, subst}
use Rattle.std.specs.Prelude.{⊤}
use Rattle.std.proofs.lemmas.Result.{MatchResult-at_ok, IfErr-at_err}
use Rattle.edge_devices.specs.declared.folders.FolderFail.{FolderFail}
use Rattle.edge_devices.specs.declared.folders.FolderFail.TheVariants as folder
use Rattle.agent_rounds.specs.declared.ends.AgentEnd.{AgentEnd}
use Rattle.agent_rounds.specs.declared.ends.AgentEnd.TheVariants.{NoMemory}
use Rattle.agent_rounds.specs.Parts.{EndsReading, TellsStatus}
use Rattle.agent_rounds.proofs.status_file.read_status.Goals as goal

not_wanting : (file : List ℕ) → (let answer : Result (Option (List ℕ)) FolderFail = Ok (Some file) in answer ≡ Err folder.NoMemory) → ⊥
not_wanting file is = cc

ends_so : (file : List ℕ) (result : Result Unit AgentEnd) → IfErr result (λ end. end ≡ NoMemory) → EndsReading (Ok (Some file)) result
ends_so file (Ok done) end = λ is. not_wanting file is
ends_so file (Err fail) end = subst (λ (e : AgentEnd). EndsReading (Ok (Some file)) (Err e)) (sym end) tt

kept_so : (P : Type 0) (result : Result Unit AgentEnd) → IfErr result (λ end. P) → result ≡ Err NoMemory → P
kept_so P result kept is = IfErr-at_err (λ end. P) is kept

pub returns-clause-reads : goal.returns-clause-reads
returns-clause-reads g c =
    let file = c.in-Some.file in
    let answer : c.read_file.result ≡ Ok (Some file) = c.in-Ok.is ∙ ap (λ (read : Option (List ℕ)). Ok read) c.in-Some.is in
    let body : c.as_slice.result.now ≡ file = c.as_slice.ensures.value in
    λ number s. record {
      answer = c.read_file.result;
      status = c.keep_status.new.last;
      call = c.read_file.ensures.call;
      body = c.read_file.ensures.body;
      files = c.read_file.ensures.same;
      end = subst (λ (r : Result (Option (List ℕ)) FolderFail). EndsReading r c.keep_status.result) (sym answer) (ends_so file c.keep_status.result c.keep_status.ensures.end);
      rest = refl;
      told = λ is. subst (λ (r : Result (Option (List ℕ)) FolderFail). TellsStatus c.args.held.now.status r c.keep_status.new.last) (sym answer)
          (subst (λ (bytes : List ℕ). TellsStatus c.args.held.now.status (Ok (Some bytes)) c.keep_status.new.last) body
          (MatchResult-at_ok (λ done. TellsStatus c.args.held.now.status (Ok (Some c.as_slice.result.now)) c.keep_status.new.last) (λ end. ⊤) tt is c.keep_status.ensures.told));
      kept = λ is. kept_so (c.keep_status.new.last ≡ c.args.held.now.status) c.keep_status.result c.keep_status.ensures.kept is;
    }
