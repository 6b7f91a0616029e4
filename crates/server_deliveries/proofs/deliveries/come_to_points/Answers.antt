use Rattle.std.proofs.Common.{◌≡◌, ◌∙◌, List, ℕ, ap, subst, sym}
use Rattle.server_waves.specs.Candidates.{is_candidate, is_candidate_or_heard}
use Rattle.server_waves.specs.Points.{AreCurrentBut}
use Rattle.server_deliveries.specs.Deliveries.{heard_in}
use Rattle.server_deliveries.proofs.DeliveryLemmas.{current_behind, nothing_done, on_err}
use Rattle.server_deliveries.proofs.deliveries.come_to_points.Goals as goal

pub returns-in_err-heard-clause-part : goal.returns-in_err-heard-clause-part
returns-in_err-heard-clause-part g c =
    on_err c.from_residual.result (nothing_done (g.J.Judge.finds_fine c.args.judge.now) (heard_in c.args.stepped.now.handled) c.args.desk.now.rollouts c.args.desk.now.server.table)

pub come_to_points-requires : goal.come_to_points-requires
come_to_points-requires g c =
    let it = c.requires.behind.1 in
    let heard : c.as_slice-2.result.now ≡ heard_in c.args.stepped.now.handled = c.as_slice-2.ensures.value ∙ c.in_ok-heard.ensures.heard ∙ ap heard_in c.as_slice.ensures.value in
    record {
      current = subst (λ (uids : List (List ℕ)). AreCurrentBut (is_candidate_or_heard c.doubt.new.candidates uids) (g.J.Judge.finds_fine c.args.judge.now) c.args.desk.now.server.table.records c.args.desk.now.rollouts) (sym heard)
          (current_behind (g.J.Judge.finds_fine c.args.judge.now) (is_candidate c.args.candidates.now) (is_candidate c.doubt.new.candidates) c.args.piece c.args.stepped.now.handled c.args.stepped.now.ended it.first
          c.args.desk.now.server.table it.rolling c.args.desk.now.rollouts it.fitted it.offers it.others c.doubt.ensures.kept);
    }
