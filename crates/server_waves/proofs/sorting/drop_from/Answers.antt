use Rattle.std.proofs.Common.{◌≤◌, ◌∙◌, ap, length, take, arith}
use Rattle.server_waves.specs.Waves.{without}
use Rattle.server_waves.proofs.KeptLemmas.{few_left, first_left, rest_left}
use Rattle.server_waves.proofs.sorting.drop_from.Goals as goal

pub returns-clause-first : goal.returns-clause-first
returns-clause-first c = first_left c.args.uid.now c.args.first c.count_others-left.result c.args.uids.now.items c.drop_all.new.uids.items c.drop_all.ensures.items (c.count_others-left.ensures.number ∙ ap (λ us. length (without c.args.uid.now (take c.args.first us))) c.as_slice.ensures.value)

pub returns-clause-rest : goal.returns-clause-rest
returns-clause-rest c = rest_left c.args.uid.now c.args.first c.count_others-left.result c.args.uids.now.items c.drop_all.new.uids.items c.drop_all.ensures.items (c.count_others-left.ensures.number ∙ ap (λ us. length (without c.args.uid.now (take c.args.first us))) c.as_slice.ensures.value)

pub returns-clause-within : goal.returns-clause-within
returns-clause-within c =
    let few : c.count_others-left.result ≤ length c.drop_all.new.uids.items =
    few_left c.args.uid.now c.args.first c.count_others-left.result c.args.uids.now.items c.drop_all.new.uids.items c.drop_all.ensures.items (c.count_others-left.ensures.number ∙ ap (λ us. length (without c.args.uid.now (take c.args.first us))) c.as_slice.ensures.value) in
    omega (arith, few, c.drop_all.new.uids.ok)
