use Rattle.std.proofs.Common.{◌∙◌, sym}
use Rattle.world_scripts.proofs.TableLemmas.{line_of_one_word, line_of_two_words, line_of_three_words, line_of_four_words, line_of_more_words}
use Rattle.world_scripts.proofs.tables.line_of.Goals as goal

pub returns-in_default : goal.returns-in_default
returns-in_default c = record { read = c.line_of_one.ensures ∙ sym (line_of_one_word c.args.line.now c.in_default.ensures.none) }

pub returns-in_default-cut : goal.returns-in_default-cut
returns-in_default-cut c =
    let is = line_of_two_words c.args.line.now c.in-Some.verb.now c.in-Some.rest.now c.in-Some.ensures.found c.in_default-cut.ensures.none in
    record { read = rw is c.line_of_two.ensures }

pub returns-in_default-cut-2 : goal.returns-in_default-cut-2
returns-in_default-cut-2 c =
    let is = line_of_three_words c.args.line.now c.in-Some.verb.now c.in-Some.rest.now c.in-Some-cut.first.now c.in-Some-cut.second.now c.in-Some.ensures.found c.in-Some-cut.ensures.found c.in_default-cut-2.ensures.none in
    record { read = rw is c.line_of_three.ensures }

pub returns-in-None : goal.returns-in-None
returns-in-None c =
    let is = line_of_four_words c.args.line.now _ _ _ _ _ _ c.in-Some.ensures.found c.in-Some-cut.ensures.found c.in-Some-cut-2.ensures.found c.in-None.ensures.none in
    record { read = rw is c.line_of_four.ensures }

pub returns-in-Some-cut-3 : goal.returns-in-Some-cut-3
returns-in-Some-cut-3 c =
    record { read = sym (line_of_more_words c.args.line.now _ _ _ _ _ _ _ _ c.in-Some.ensures.found c.in-Some-cut.ensures.found c.in-Some-cut-2.ensures.found c.in-Some-cut-3.ensures.found) }
