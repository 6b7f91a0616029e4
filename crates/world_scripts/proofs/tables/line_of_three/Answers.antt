use Rattle.std.proofs.Common.{◌≡◌, ◌⊎◌, inl, inr, ◌&&◌, false, sym, ap, ◌∙◌, rules}
use Rattle.std.specs.Prelude.{codes}
use Rattle.std.specs.Option.{option_map}
use Rattle.std.specs.Str.{bytes_eq}
use Rattle.std.proofs.lemmas.Result.{IfOk-from_err}
use Rattle.world_scripts.specs.declared.lines.Line.TheVariants.{Attr, Effective, HealthBad}
use Rattle.world_scripts.specs.Words.{is_word}
use Rattle.world_scripts.proofs.TableLemmas.{mapped, map_then_some, attribute_line, effective_line, health_line, connection_line, stop_line, other_line}
use Rattle.world_scripts.proofs.tables.line_of_three.Goals as goal
use Rattle.world_scripts.proofs.tables.line_of_three.Goals.{else-is-3-via-then-is-3+else-is-4, else-is-3-via-else-is-3}

pub returns-in_ok-texts : goal.returns-in_ok-texts
returns-in_ok-texts c =
    let first = c.args.first.now in
    let second = c.args.second.now in
    let h : c.map.result ≡ option_map (λ t. Attr t.0 t.1) c.in_ok-texts.texts = mapped c.in_ok-texts.texts c.map.result _ _ c.map.ensures.cases (λ x y p. search rules) in
    h ∙ ap (option_map (λ t. Attr t.0 t.1)) c.in_ok-texts.ensures.texts ∙ map_then_some (λ t. Attr t.0 t.1) (is_word first && is_word second) (first, second)
    ∙ sym (attribute_line c.args.verb.now first second c.if-is.ensures.same)

pub returns-in_ok-texts-2 : goal.returns-in_ok-texts-2
returns-in_ok-texts-2 c =
    let first = c.args.first.now in
    let second = c.args.second.now in
    let h : c.map-then-is-2.result ≡ option_map (λ t. Effective t.0 t.1) c.in_ok-texts-2.texts = mapped c.in_ok-texts-2.texts c.map-then-is-2.result _ _ c.map-then-is-2.ensures.cases (λ x y p. search rules) in
    h ∙ ap (option_map (λ t. Effective t.0 t.1)) c.in_ok-texts-2.ensures.texts ∙ map_then_some (λ t. Effective t.0 t.1) (is_word first && is_word second) (first, second)
    ∙ sym (effective_line c.args.verb.now first second c.if-is.ensures.same c.if-is-2.ensures.same)

pub returns-in_ok-text : goal.returns-in_ok-text
returns-in_ok-text c =
    let second = c.args.second.now in
    let h : c.map-then-is-4.result ≡ option_map (λ t. HealthBad t) c.in_ok-text.text = mapped c.in_ok-text.text c.map-then-is-4.result _ _ c.map-then-is-4.ensures.cases (λ x y p. search rules) in
    h ∙ ap (option_map (λ t. HealthBad t)) c.in_ok-text.ensures.text ∙ map_then_some (λ t. HealthBad t) (is_word second) second
    ∙ sym (health_line c.args.verb.now c.args.first.now second c.if-is.ensures.same c.if-is-2.ensures.same c.if-is-3.ensures.same c.if-is-4.ensures.same)

pub returns-in_err-texts : goal.returns-in_err-texts
returns-in_err-texts c = IfOk-from_err _ _ c.from_residual.ensures.0

pub returns-in_err-texts-2 : goal.returns-in_err-texts-2
returns-in_err-texts-2 c = IfOk-from_err _ _ c.from_residual-in_err-texts-2.ensures.0

pub returns-in_err-text : goal.returns-in_err-text
returns-in_err-text c = IfOk-from_err _ _ c.from_residual-in_err-text.ensures.0

pub returns-then-is-5 : goal.returns-then-is-5
returns-then-is-5 c = rw (connection_line c.args.verb.now c.args.first.now c.args.second.now c.if-is.ensures.same c.if-is-2.ensures.same c.if-is-5.ensures.same) c.connection_offered.ensures

pub returns-then-is-6 : goal.returns-then-is-6
returns-then-is-6 c =
    c.stop_armed.ensures ∙ sym (stop_line c.args.verb.now c.args.first.now c.args.second.now c.if-is.ensures.same c.if-is-2.ensures.same c.if-is-5.ensures.same c.if-is-6.ensures.same)

pub returns-else-is-6 : goal.returns-else-is-6
returns-else-is-6 c =
    let other : (false ≡ bytes_eq c.args.verb.now (codes "health")) ⊎ (false ≡ bytes_eq c.args.first.now (codes "bad")) =
    elim c.else-is-3.branch [ else-is-3-via-then-is-3+else-is-4 w ↦ inr w.if-is-4.ensures.same | else-is-3-via-else-is-3 w ↦ inl w.if-is-3.ensures.same ] in
    other_line c.args.verb.now c.args.first.now c.args.second.now c.if-is.ensures.same c.if-is-2.ensures.same c.if-is-5.ensures.same c.if-is-6.ensures.same other
