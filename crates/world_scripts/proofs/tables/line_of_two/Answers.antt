use Rattle.std.proofs.Common.{◌≡◌, sym, ap, ◌∙◌, rules}
use Rattle.std.specs.Bool.{then_some}
use Rattle.std.specs.Option.{option_map}
use Rattle.std.proofs.lemmas.Result.{IfOk-from_err}
use Rattle.world_scripts.specs.declared.lines.Line.TheVariants.{Caps, HealthOk, Custom, Component, Deliver, ServerRestart, Record, Push}
use Rattle.world_scripts.specs.Words.{is_word}
use Rattle.world_scripts.proofs.TableLemmas.{mapped, map_then_some, capabilities_line, health_ok_line, custom_line, component_line, deliver_line, server_restart_line, record_line, push_line, no_line_of_two}
use Rattle.world_scripts.proofs.tables.line_of_two.Goals as goal

pub returns-then-is : goal.returns-then-is
returns-then-is c =
    let h : c.map.result ≡ option_map (λ n. Caps n) c.capabilities_of.result = mapped c.capabilities_of.result c.map.result _ _ c.map.ensures.cases (λ x y p. search rules) in
    h ∙ ap (option_map (λ n. Caps n)) c.capabilities_of.ensures.bits ∙ sym (capabilities_line c.args.verb.now c.args.word.now c.if-is.ensures.same)

pub returns-then-is-2 : goal.returns-then-is-2
returns-then-is-2 c =
    c.then_some.ensures ∙ ap (λ b. then_some b HealthOk) c.is-then-is-2.ensures.same ∙ sym (health_ok_line c.args.verb.now c.args.word.now c.if-is.ensures.same c.if-is-2.ensures.same)

pub returns-in_ok-name : goal.returns-in_ok-name
returns-in_ok-name c =
    let word = c.args.word.now in
    let h : c.map-then-is-3.result ≡ option_map (λ t. Custom t) c.in_ok-name.name = mapped c.in_ok-name.name c.map-then-is-3.result _ _ c.map-then-is-3.ensures.cases (λ x y p. search rules) in
    h ∙ ap (option_map (λ t. Custom t)) c.in_ok-name.ensures.text ∙ map_then_some (λ t. Custom t) (is_word word) word ∙ sym (custom_line c.args.verb.now word c.if-is.ensures.same c.if-is-2.ensures.same c.if-is-3.ensures.same)

pub returns-in_err-name : goal.returns-in_err-name
returns-in_err-name c = IfOk-from_err _ _ c.from_residual.ensures.0

pub returns-in_ok-name-2 : goal.returns-in_ok-name-2
returns-in_ok-name-2 c =
    let word = c.args.word.now in
    let h : c.map-then-is-4.result ≡ option_map (λ t. Component t) c.in_ok-name-2.name = mapped c.in_ok-name-2.name c.map-then-is-4.result _ _ c.map-then-is-4.ensures.cases (λ x y p. search rules) in
    h ∙ ap (option_map (λ t. Component t)) c.in_ok-name-2.ensures.text ∙ map_then_some (λ t. Component t) (is_word word) word ∙ sym (component_line c.args.verb.now word c.if-is.ensures.same c.if-is-2.ensures.same c.if-is-3.ensures.same c.if-is-4.ensures.same)

pub returns-in_err-name-2 : goal.returns-in_err-name-2
returns-in_err-name-2 c = IfOk-from_err _ _ c.from_residual-in_err-name-2.ensures.0

pub returns-then-is-5 : goal.returns-then-is-5
returns-then-is-5 c =
    let h : c.map-then-is-5.result ≡ option_map (λ n. Deliver n) c.decimal_number.result = mapped c.decimal_number.result c.map-then-is-5.result _ _ c.map-then-is-5.ensures.cases (λ x y p. search rules) in
    h ∙ ap (option_map (λ n. Deliver n)) c.decimal_number.ensures.number ∙ sym (deliver_line c.args.verb.now c.args.word.now c.if-is.ensures.same c.if-is-2.ensures.same c.if-is-3.ensures.same c.if-is-4.ensures.same c.if-is-5.ensures.same)

pub returns-then-is-6 : goal.returns-then-is-6
returns-then-is-6 c =
    let h : c.map-then-is-6.result ≡ option_map (λ n. ServerRestart n) c.server_of.result = mapped c.server_of.result c.map-then-is-6.result _ _ c.map-then-is-6.ensures.cases (λ x y p. search rules) in
    h ∙ ap (option_map (λ n. ServerRestart n)) c.server_of.ensures.server ∙ sym (server_restart_line c.args.verb.now c.args.word.now c.if-is.ensures.same c.if-is-2.ensures.same c.if-is-3.ensures.same c.if-is-4.ensures.same c.if-is-5.ensures.same c.if-is-6.ensures.same)

pub returns-then-is-7 : goal.returns-then-is-7
returns-then-is-7 c =
    let h : c.map-then-is-7.result ≡ option_map (λ n. Record n) c.server_of-then-is-7.result = mapped c.server_of-then-is-7.result c.map-then-is-7.result _ _ c.map-then-is-7.ensures.cases (λ x y p. search rules) in
    h ∙ ap (option_map (λ n. Record n)) c.server_of-then-is-7.ensures.server ∙ sym (record_line c.args.verb.now c.args.word.now c.if-is.ensures.same c.if-is-2.ensures.same c.if-is-3.ensures.same c.if-is-4.ensures.same c.if-is-5.ensures.same c.if-is-6.ensures.same c.if-is-7.ensures.same)

pub returns-then-is-8 : goal.returns-then-is-8
returns-then-is-8 c =
    let h : c.map-then-is-8.result ≡ option_map (λ n. Push n) c.server_of-then-is-8.result = mapped c.server_of-then-is-8.result c.map-then-is-8.result _ _ c.map-then-is-8.ensures.cases (λ x y p. search rules) in
    h ∙ ap (option_map (λ n. Push n)) c.server_of-then-is-8.ensures.server ∙ sym (push_line c.args.verb.now c.args.word.now c.if-is.ensures.same c.if-is-2.ensures.same c.if-is-3.ensures.same c.if-is-4.ensures.same c.if-is-5.ensures.same c.if-is-6.ensures.same c.if-is-7.ensures.same c.if-is-8.ensures.same)

pub returns-else-is-8 : goal.returns-else-is-8
returns-else-is-8 c = no_line_of_two c.args.verb.now c.args.word.now c.if-is.ensures.same c.if-is-2.ensures.same c.if-is-3.ensures.same c.if-is-4.ensures.same c.if-is-5.ensures.same c.if-is-6.ensures.same c.if-is-7.ensures.same c.if-is-8.ensures.same
