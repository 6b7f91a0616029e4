use Rattle.std.proofs.Common.{◌≡◌, ◌∙◌, ℕ, List, ap}
use Rattle.message_texts.specs.Words.{under, item_path}
use Rattle.message_texts.proofs.Lines.{items_more, items_all, many_is, message_text}
use Rattle.message_texts.proofs.columns.show_many.Goals as goal

pub loop-i-preserved : goal.loop-i-preserved
loop-i-preserved g c =
    let field = under c.args.path.now c.args.name.now in
    let item : c.path-in-loop-i.result.now ≡ item_path (under c.args.path.now c.args.name.now) c.loop-i.i = c.path-in-loop-i.ensures.value ∙ c.in_ok-item.ensures.path ∙ ap (λ (p : List ℕ). item_path p c.loop-i.i) (c.path.ensures.value ∙ c.in_ok-field.ensures.path) in
    items_more (message_text g.M.Shown.columns g.M.Shown.name field) c.as_slice-messages.result.now c.loop-i.i c.index-messages-i.result c.args.page.now c.loop-i.page c.show_part.new.page c.loop-i-test.true c.index-messages-i.is c.loop-i.invariant (rw item at c.in_ok-show_part.ensures.ok)

pub returns : goal.returns
returns g c =
    let field = under c.args.path.now c.args.name.now in
    let all = c.as_slice-messages.ensures.value in
    record { ok = items_all (message_text g.M.Shown.columns g.M.Shown.name field) c.args.values.now c.loop-i.i c.args.page.now c.loop-i.page _ (rw all at c.loop-i-test.false) (rw all at c.loop-i.invariant) (many_is g.M.Shown.columns g.M.Shown.name field 0 c.args.values.now) }
