use Rattle.std.proofs.Common.{◌≡◌, List, true, false, refl, sym, ◌∙◌, subst}
use Rattle.std.proofs.lemmas.Bool.{false≢true}
use Rattle.std.proofs.lemmas.Result.{IfOk-from_err, IfOk-weaker}
use Rattle.plain_values.specs.declared.maps.Pair.{Pair}
use Rattle.message_values.specs.declared.packages.PackageStatus.{PackageStatus}
use Rattle.agent_packages.specs.Packages.{is_same_offer}
use Rattle.agent_packages.specs.Visits.{IsSynced}
use Rattle.agent_packages.proofs.Dues.{asks_only_none, only_none}
use Rattle.agent_packages.proofs.syncing.sync.Goals as goal

pub returns-then-is_held_offer : goal.returns-then-is_held_offer
returns-then-is_held_offer g c =
    let same : is_same_offer c.args.held.now c.args.offered.now ≡ true = sym c.is_held_offer.ensures ∙ c.if-is_held_offer.true in
    record {
      held = λ is. IfOk-weaker c.statuses_of.result _ _ (λ statuses e. e ∙ c.in_ok-packages.ensures.copied) c.statuses_of.ensures.packages;
      untouched = λ is. (refl, refl);
      synced = λ other. absurd (false≢true (sym other ∙ same));
      hash = c.statuses_of.ensures.hash;
      message = c.statuses_of.ensures.message;
      others = λ other file apart. refl;
      kept = λ name apart. refl;
      only = only_none _ _;
      fetches = asks_only_none _ _;
    }

pub returns-in_err-packages : goal.returns-in_err-packages
returns-in_err-packages g c =
    record {
      held = λ is. IfOk-from_err _ _ c.from_residual.ensures.0;
      untouched = λ is. (refl, refl);
      synced = λ other. IfOk-from_err _ _ c.from_residual.ensures.0;
      hash = IfOk-from_err _ _ c.from_residual.ensures.0;
      message = IfOk-from_err _ _ c.from_residual.ensures.0;
      others = λ other file apart. refl;
      kept = λ name apart. refl;
      only = only_none _ _;
      fetches = asks_only_none _ _;
    }

pub returns-in_err-packages-2 : goal.returns-in_err-packages-2
returns-in_err-packages-2 g c =
    let other : is_same_offer c.args.held.now c.args.offered.now ≡ false = sym c.is_held_offer.ensures ∙ c.if-is_held_offer.false in
    record {
      held = λ is. absurd (false≢true (sym other ∙ is));
      untouched = λ is. absurd (false≢true (sym other ∙ is));
      synced = λ is. IfOk-from_err _ _ c.from_residual-in_err-packages-2.ensures.0;
      hash = IfOk-from_err _ _ c.from_residual-in_err-packages-2.ensures.0;
      message = IfOk-from_err _ _ c.from_residual-in_err-packages-2.ensures.0;
      others = c.do_offer.ensures.others;
      kept = c.do_offer.ensures.kept;
      only = c.do_offer.ensures.only;
      fetches = c.do_offer.ensures.fetches;
    }

pub returns : goal.returns
returns g c =
    let other : is_same_offer c.args.held.now c.args.offered.now ≡ false = sym c.is_held_offer.ensures ∙ c.if-is_held_offer.false in
    record {
      held = λ is. absurd (false≢true (sym other ∙ is));
      untouched = λ is. absurd (false≢true (sym other ∙ is));
      synced = λ is.
          IfOk-weaker c.statuses_of-2.result _ _
          (λ statuses e.
          subst
          (λ (made : List (Pair PackageStatus)). IsSynced (g.G.Dialer.state c.args.dialer.now) (g.G.Dialer.state c.do_offer.new.dialer) (g.F.Folder.state c.args.folder.now) (g.F.Folder.state c.do_offer.new.folder) c.args.held.now c.args.offered.now made)
          (sym e) c.in_ok-packages-2.ensures.synced)
          c.statuses_of-2.ensures.packages;
      hash = c.statuses_of-2.ensures.hash;
      message = c.statuses_of-2.ensures.message;
      others = c.do_offer.ensures.others;
      kept = c.do_offer.ensures.kept;
      only = c.do_offer.ensures.only;
      fetches = c.do_offer.ensures.fetches;
    }
