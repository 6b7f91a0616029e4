use Rattle.std.proofs.Common.{List, inr, sym, subst, ◌∙◌}
use Rattle.std.proofs.lemmas.Result.{err_from_is_err_and}
use Rattle.shard_journals.specs.declared.rows.Row.{Row}
use Rattle.shard_servers.specs.Agreement.{AllRise, AllStand, Disagrees, DisagreesWithKept, OfEach}
use Rattle.shard_servers.specs.Desks.{AreOwn, AtDesk}
use Rattle.shard_servers.proofs.CloseLemmas.{shards_agree}
use Rattle.shard_servers.proofs.shards.Shards.close.Goals as goal

pub returns-in_err-compare-clause-err : goal.returns-in_err-compare-clause-err
returns-in_err-compare-clause-err g c =
    let p = err_from_is_err_and c.from_residual-in_err-compare.result c.from_residual-in_err-compare.ensures.1 in
    let journals = c.in_ok-journals.journals in
    let fail = c.in_err-compare.field-0.0 in
    let it : DisagreesWithKept c.args.desks fail = record {
      journals = journals;
      kept = c.in_ok-journals.ensures.kept;
      disagrees =
          subst (λ (ds : List AtDesk). Disagrees journals ds fail) c.as_slice-2.ensures.value
          (subst (λ (js : List (List Row)). Disagrees js c.as_slice-2.result.now fail) c.as_slice.ensures.value c.in_err-compare.ensures.err);
    } in
    rw (p.1, p.2) (inr it)

pub returns-clause-ok : goal.returns-clause-ok
returns-clause-ok g c =
    let desks = c.args.desks in
    let journals = c.in_ok-journals.journals in
    let opened = c.in_ok-journals.ensures in
    let own : OfEach (λ (d : AtDesk). AreOwn d.number d.told) desks = subst (λ (ds : List AtDesk). OfEach (λ (d : AtDesk). AreOwn d.number d.told) ds) c.as_slice-2.ensures.value c.in_ok-compare.ensures.own in
    let stand : AllStand journals desks =
    subst (λ (ds : List AtDesk). AllStand journals ds) c.as_slice-2.ensures.value
    (subst (λ (js : List (List Row)). AllStand js c.as_slice-2.result.now) c.as_slice.ensures.value c.in_ok-compare.ensures.stand) in
    let rise : AllRise desks = subst (λ (ds : List AtDesk). AllRise ds) c.as_slice-2.ensures.value c.in_ok-compare.ensures.rise in
    let counted = c.audit.ensures in
    shards_agree journals desks opened.kept own stand rise c.requires.numbers
    (sym opened.first ∙ counted.first) (sym opened.second ∙ counted.second) (sym opened.third ∙ counted.third) (sym opened.fourth ∙ counted.fourth)
