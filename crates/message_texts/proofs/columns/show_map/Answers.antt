use Rattle.std.proofs.Common.{◌≡◌, ◌∙◌, ℕ, List, ap}
use Rattle.message_texts.specs.Words.{under, key_path}
use Rattle.message_texts.proofs.Lines.{items_more, items_all, map_is, entry_text}
use Rattle.message_texts.proofs.columns.show_map.Goals as goal

pub loop-pair-preserved : goal.loop-pair-preserved
loop-pair-preserved g c =
    let field = under c.args.path.now c.args.name.now in
    let item : c.path-in-loop-pair.result.now ≡ key_path (under c.args.path.now c.args.name.now) c.pair-item.result.key = c.path-in-loop-pair.ensures.value ∙ c.in_ok-item.ensures.path ∙ ap (λ (p : List ℕ). key_path p c.pair-item.result.key) (c.path.ensures.value ∙ c.in_ok-field.ensures.path) in
    items_more (entry_text g.M.Shown.columns g.M.Shown.name field) c.as_slice-pair-items.result.now c.loop-pair.pair-index c.pair-item.result c.args.page.now c.loop-pair.page c.show_part.new.page c.loop-pair-test.true c.pair-item.is c.loop-pair.invariant (rw item at c.in_ok-show_part.ensures.ok)

pub returns : goal.returns
returns g c =
    let field = under c.args.path.now c.args.name.now in
    let all = c.as_slice-pair-items.ensures.value in
    record { ok = items_all (entry_text g.M.Shown.columns g.M.Shown.name field) c.args.values.now c.loop-pair.pair-index c.args.page.now c.loop-pair.page _ (rw all at c.loop-pair-test.false) (rw all at c.loop-pair.invariant) (map_is g.M.Shown.columns g.M.Shown.name field 0 c.args.values.now) }
