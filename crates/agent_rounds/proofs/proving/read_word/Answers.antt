use Rattle.std.proofs.Common.{◌≡◌, ◌∙◌, ℕ, List, Option, Some, Result, Ok, Err, refl, sym, ap, subst}
use Rattle.edge_devices.specs.declared.folders.FolderFail.{FolderFail}
use Rattle.edge_devices.specs.declared.folders.FolderFail.TheVariants as folder
use Rattle.agent_rounds.specs.Proving.{Tells}
use Rattle.agent_rounds.proofs.proving.read_word.Goals as goal

not_wanting : (file : List ℕ) → (let answer : Result (Option (List ℕ)) FolderFail = Ok (Some file) in answer ≡ Err folder.NoMemory) → ⊥
not_wanting file is = cc

pub returns-in-Ok-clause-reads : goal.returns-in-Ok-clause-reads
returns-in-Ok-clause-reads g c =
    let file = c.in-Ok-Some.file in
    let answer : c.read_file.result ≡ Ok (Some file) = c.in-Ok-Some.is ∙ ap (λ (o : Option (List ℕ)). Ok o) c.in-Ok-Some.field-0-is in
    λ s. record {
      answer = c.read_file.result;
      call = c.read_file.ensures.call;
      body = c.read_file.ensures.body;
      same = c.read_file.ensures.same;
      rest = refl;
      told = (
        λ is. not_wanting file (sym answer ∙ is),
        subst (λ (r : Result (Option (List ℕ)) FolderFail). Tells c.args.name.now r c.in-Ok.said) (sym answer)
            (subst (λ (bytes : List ℕ). Tells c.args.name.now (Ok (Some bytes)) c.in-Ok.said) c.as_slice.ensures.value c.in-Ok.ensures),
      );
      end = tt;
    }
