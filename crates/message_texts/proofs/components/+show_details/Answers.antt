use Rattle.std.proofs.Common.{◌≡◌, ◌∙◌, ℕ, List, ap, sym, codes}
use Rattle.message_values.specs.declared.components.ComponentDetails.{out-ComponentDetails}
use Rattle.message_codec.specs.Tables as tables
use Rattle.message_reports.specs.ComponentColumns.{details_columns}
use Rattle.message_texts.specs.Words.{under, key_path}
use Rattle.message_texts.proofs.Lines.{behind, closes_item, items_more, items_all, map_is, entry_text}
use Rattle.message_texts.proofs.ComponentLines.{front_shown, details_shown}
use Rattle.message_texts.proofs.components.+show_details.Goals as goal

pub loop-pair-preserved : goal.loop-pair-preserved
loop-pair-preserved t c =
    let field = under c.args.path.now (codes "sub_component_map") in
    let path = key_path (under c.args.path.now (codes "sub_component_map")) c.pair-item.result.key in
    let item : c.in_ok-item.item.path ≡ key_path (under c.args.path.now (codes "sub_component_map")) c.pair-item.result.key = c.in_ok-item.ensures.path ∙ ap (λ (p : List ℕ). key_path p c.pair-item.result.key) (c.path.ensures.value ∙ c.in_ok-field.ensures.path) in
    let part = closes_item c.show_details-shown.result c.loop-pair.page c.show_details-shown.new.page c.close.new.page path c.in_ok-item.item.path c.in_ok-item.item.before tables.ComponentDetails (details_columns c.pair-item.result.value) item c.in_ok-item.ensures.before (rw c.path-in-loop-pair.ensures.value at c.show_details-shown.ensures.ok) c.in_ok-close.ensures.shown c.in_ok-close.ensures.ok in
    items_more (entry_text details_columns tables.ComponentDetails field) c.as_slice-pair-items.result.now c.loop-pair.pair-index c.pair-item.result c.show_many.new.page c.loop-pair.page c.close.new.page c.loop-pair-test.true c.pair-item.is c.loop-pair.invariant part

pub returns : goal.returns
returns t c =
    let field = under c.args.path.now (codes "sub_component_map") in
    let parts = (out-ComponentDetails c.args.details.now).sub_component_map in
    let items = c.as_slice-pair-items.ensures.value in
    let front : c.show_many.new.page ≡ front_shown c.args.page.now c.args.path.now c.args.details.now = c.in_ok-show_many.ensures.ok in
    let all = items_all (entry_text details_columns tables.ComponentDetails field) parts c.loop-pair.pair-index c.show_many.new.page c.loop-pair.page _ (rw items at c.loop-pair-test.false) (rw items at c.loop-pair.invariant) (map_is details_columns tables.ComponentDetails field 0 parts) in
    record { ok = behind _ front all ∙ sym (details_shown c.args.page.now c.args.path.now c.args.details.now) }
