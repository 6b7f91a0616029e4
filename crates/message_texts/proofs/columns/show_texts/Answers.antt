use Rattle.std.proofs.Common.{◌≡◌, ◌∙◌, ℕ, List, ap}
use Rattle.message_texts.specs.Words.{under, item_path}
use Rattle.message_texts.proofs.Lines.{items_more, items_all, texts_are, quoted_text}
use Rattle.message_texts.proofs.columns.show_texts.Goals as goal

pub loop-i-preserved : goal.loop-i-preserved
loop-i-preserved c =
    let field = under c.args.path.now c.args.name.now in
    let item : c.path-in-loop-i.result.now ≡ item_path (under c.args.path.now c.args.name.now) c.loop-i.i = c.path-in-loop-i.ensures.value ∙ c.in_ok-item.ensures.path ∙ ap (λ (p : List ℕ). item_path p c.loop-i.i) (c.path.ensures.value ∙ c.in_ok-field.ensures.path) in
    items_more (quoted_text field) c.as_slice-texts.result.now c.loop-i.i c.index-texts-i.result c.args.page.now c.loop-i.page c.put_text.new.page c.loop-i-test.true c.index-texts-i.is c.loop-i.invariant (rw item at c.in_ok-put_text.ensures.ok)

pub returns : goal.returns
returns c =
    let field = under c.args.path.now c.args.name.now in
    let all = c.as_slice-texts.ensures.value in
    record { ok = items_all (quoted_text field) c.args.values.now c.loop-i.i c.args.page.now c.loop-i.page _ (rw all at c.loop-i-test.false) (rw all at c.loop-i.invariant) (texts_are field 0 c.args.values.now) }
