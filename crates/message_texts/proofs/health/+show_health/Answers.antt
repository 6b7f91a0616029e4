use Rattle.std.proofs.Common.{◌≡◌, ◌∙◌, ℕ, List, ap, sym, codes}
use Rattle.message_values.specs.declared.health.ComponentHealth.{out-ComponentHealth}
use Rattle.message_codec.specs.Tables as tables
use Rattle.message_reports.specs.HealthColumns.{health_columns}
use Rattle.message_texts.specs.Words.{under, key_path}
use Rattle.message_texts.proofs.Lines.{behind, closes_item, items_more, items_all, map_is, entry_text}
use Rattle.message_texts.proofs.HealthLines.{front_shown, health_shown}
use Rattle.message_texts.proofs.health.+show_health.Goals as goal

pub loop-pair-preserved : goal.loop-pair-preserved
loop-pair-preserved t c =
    let field = under c.args.path.now (codes "component_health_map") in
    let path = key_path (under c.args.path.now (codes "component_health_map")) c.pair-item.result.key in
    let item : c.in_ok-item.item.path ≡ key_path (under c.args.path.now (codes "component_health_map")) c.pair-item.result.key = c.in_ok-item.ensures.path ∙ ap (λ (p : List ℕ). key_path p c.pair-item.result.key) (c.path.ensures.value ∙ c.in_ok-field.ensures.path) in
    let part = closes_item c.show_health-shown.result c.loop-pair.page c.show_health-shown.new.page c.close.new.page path c.in_ok-item.item.path c.in_ok-item.item.before tables.ComponentHealth (health_columns c.pair-item.result.value) item c.in_ok-item.ensures.before (rw c.path-in-loop-pair.ensures.value at c.show_health-shown.ensures.ok) c.in_ok-close.ensures.shown c.in_ok-close.ensures.ok in
    items_more (entry_text health_columns tables.ComponentHealth field) c.as_slice-pair-items.result.now c.loop-pair.pair-index c.pair-item.result c.show_fixed-2.new.page c.loop-pair.page c.close.new.page c.loop-pair-test.true c.pair-item.is c.loop-pair.invariant part

pub returns : goal.returns
returns t c =
    let h = c.args.health.now in
    let field = under c.args.path.now (codes "component_health_map") in
    let parts = (out-ComponentHealth h).component_health_map in
    let items = c.as_slice-pair-items.ensures.value in
    let front : c.show_fixed-2.new.page ≡ front_shown c.args.page.now c.args.path.now c.args.health.now = behind _ (behind _ (behind _ (behind _ c.in_ok-show_truth.ensures.ok c.in_ok-show_fixed.ensures.ok) c.in_ok-show_text.ensures.ok) c.in_ok-show_text-2.ensures.ok) c.in_ok-show_fixed-2.ensures.ok in
    let all = items_all (entry_text health_columns tables.ComponentHealth field) parts c.loop-pair.pair-index c.show_fixed-2.new.page c.loop-pair.page _ (rw items at c.loop-pair-test.false) (rw items at c.loop-pair.invariant) (map_is health_columns tables.ComponentHealth field 0 parts) in
    record { ok = behind _ front all ∙ sym (health_shown c.args.page.now c.args.path.now c.args.health.now) }
