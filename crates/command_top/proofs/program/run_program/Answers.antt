use mathlib.Core.Path.{◌≡◌, ap, ap₂, refl, sym, ◌∙◌}
use Rattle.std.proofs.Common.{ℕ, List, ◌∷◌, [], ◌++◌}
use Rattle.command_top.specs.Own.{echo_capability, own}
use Rattle.command_top.proofs.Echoing.{none_kept, on_ok, own_noted, own_outcome}
use Rattle.command_top.proofs.NotedCommands.{nothing_noted}
use Rattle.command_top.proofs.Outcomes.{nothing_done}
use Rattle.command_top.proofs.program.run_program.OwnLists.{own-1}
use Rattle.command_top.proofs.program.run_program.Goals as goal

pub returns-clause-ran : goal.returns-clause-ran
returns-clause-ran g c = λ command said.
    let box = c.into_dyn_box.result in
    let done = sym c.is_err.ensures.value ∙ c.if-is_err.false in
    let capability : c.in-Ok-from_str.name ≡ echo_capability = c.in-Ok-from_str.ensures.value ∙ c.echo_name.ensures.name in
    let named = on_ok c.register.result done c.register.ensures.name ∙ ap₂ (λ (names : List (List ℕ)) (name : List ℕ). names ++ name ∷ []) c.new-handlers.ensures.empty capability in
    let alone = on_ok c.register.result done c.register.ensures.handler ∙ ap (λ items. items ++ box ∷ []) (none_kept c.new-handlers.result c.new-handlers.ensures.empty) in
    own_outcome (λ z. ((own-1).entry z.0).1.answers z.1) _ command _ _ _ c.opamp_main.result c.register.new.self (c.opamp_main.ensures.ran command said) box named alone _ c.into_dyn_box.ensures.1.index
    (λ value kind body answer. refl) refl

pub opamp_main-requires-clause-unplayed : goal.opamp_main-requires-clause-unplayed
opamp_main-requires-clause-unplayed g c = λ κs lives. c.requires.unplayed

-- ---- no memory for the handler

pub returns-in_default-clause-ran : goal.returns-in_default-clause-ran
returns-in_default-clause-ran g c = λ command said. nothing_done (record { stream = c.nothing_is_read.ensures.outcome; simulate = c.nothing_is_played.ensures.simulate; storm = c.nothing_is_played.ensures.storm; fleet = c.nothing_is_handled.ensures.outcome }) own command _ _ c.requires.unplayed (record { source = refl; sink = refl; disk = refl; folder = refl; wire = refl; dialer = refl; clock = refl; entropy = refl; lab = refl })

pub returns-in_default-from_str-clause-ran : goal.returns-in_default-from_str-clause-ran
returns-in_default-from_str-clause-ran g c = λ command said. nothing_done (record { stream = c.nothing_is_read.ensures.outcome; simulate = c.nothing_is_played.ensures.simulate; storm = c.nothing_is_played.ensures.storm; fleet = c.nothing_is_handled.ensures.outcome }) own command _ _ c.requires.unplayed (record { source = refl; sink = refl; disk = refl; folder = refl; wire = refl; dialer = refl; clock = refl; entropy = refl; lab = refl })

pub returns-then-is_err-clause-ran : goal.returns-then-is_err-clause-ran
returns-then-is_err-clause-ran g c = λ command said. nothing_done (record { stream = c.nothing_is_read.ensures.outcome; simulate = c.nothing_is_played.ensures.simulate; storm = c.nothing_is_played.ensures.storm; fleet = c.nothing_is_handled.ensures.outcome }) own command _ _ c.requires.unplayed (record { source = refl; sink = refl; disk = refl; folder = refl; wire = refl; dialer = refl; clock = refl; entropy = refl; lab = refl })

-- ---- what is noted

pub returns-clause-noted : goal.returns-clause-noted
returns-clause-noted g c = λ command said.
    let box = c.into_dyn_box.result in
    let done = sym c.is_err.ensures.value ∙ c.if-is_err.false in
    let capability : c.in-Ok-from_str.name ≡ echo_capability = c.in-Ok-from_str.ensures.value ∙ c.echo_name.ensures.name in
    let named = on_ok c.register.result done c.register.ensures.name ∙ ap₂ (λ (names : List (List ℕ)) (name : List ℕ). names ++ name ∷ []) c.new-handlers.ensures.empty capability in
    let alone = on_ok c.register.result done c.register.ensures.handler ∙ ap (λ items. items ++ box ∷ []) (none_kept c.new-handlers.result c.new-handlers.ensures.empty) in
    own_noted (λ z. ((own-1).entry z.0).1.answers z.1) command _ _ c.opamp_main.result _ _ c.register.new.self (c.opamp_main.ensures.noted command said) box named alone _ c.into_dyn_box.ensures.1.index
    (λ value kind body answer. refl)

pub returns-in_default-clause-noted : goal.returns-in_default-clause-noted
returns-in_default-clause-noted g c = λ command said. nothing_noted own.answers command _ _ _ c.put_note.ensures.noted

pub returns-in_default-from_str-clause-noted : goal.returns-in_default-from_str-clause-noted
returns-in_default-from_str-clause-noted g c = λ command said. nothing_noted own.answers command _ _ _ c.put_note-in_default-from_str.ensures.noted

pub returns-then-is_err-clause-noted : goal.returns-then-is_err-clause-noted
returns-then-is_err-clause-noted g c = λ command said. nothing_noted own.answers command _ _ _ c.put_note-then-is_err.ensures.noted
