use Rattle.std.proofs.Common.{◌≡◌, ◌+◌, ◌-◌, ◌++◌, ◌∷◌, ℕ, [], ap, length, take, arith, ◌∙◌}
use Rattle.std.proofs.lemmas.List.{length-append}
use Rattle.shard_servers.specs.Desks.{all_places, parts_of}
use Rattle.shard_servers.proofs.TakenLemmas.{all_taken, part_taken, parts_taken, rows_taken}
use Rattle.shard_servers.proofs.tallies.Tallies.take_all.Goals as goal

pub loop-desk-init : goal.loop-desk-init
loop-desk-init g c =
    let all = c.into_vec-rest.ensures.value in
    record {
      first_parts = (λ i. c.args.self.now.first.parts + parts_of (λ p. p.first) (all i));
      second_parts = (λ i. c.args.self.now.second.parts + parts_of (λ p. p.second) (all i));
      third_parts = (λ i. c.args.self.now.third.parts + parts_of (λ p. p.third) (all i));
      fourth_parts = (λ i. c.args.self.now.fourth.parts + parts_of (λ p. p.fourth) (all i));
      first = (λ i. c.args.self.now.first.amount + length (all_places 0 (all i)));
      second = (λ i. c.args.self.now.second.amount + length (all_places 1 (all i)));
      third = (λ i. c.args.self.now.third.amount + length (all_places 2 (all i)));
      fourth = (λ i. c.args.self.now.fourth.amount + length (all_places 3 (all i)));
    }

pub loop-desk-preserved : goal.loop-desk-preserved
loop-desk-preserved g c =
    let it = c.loop-desk.invariant in
    let is = c.in-Some.ensures.items in
    let took = c.take.ensures in
    let rest = c.loop-desk.rest.items in
    let left = c.pop.new.self.items in
    let d = c.in-Some.desk in
    record {
      first_parts = part_taken (λ p. p.first) rest left d _ _ _ is took.first_parts it.first_parts;
      second_parts = part_taken (λ p. p.second) rest left d _ _ _ is took.second_parts it.second_parts;
      third_parts = part_taken (λ p. p.third) rest left d _ _ _ is took.third_parts it.third_parts;
      fourth_parts = part_taken (λ p. p.fourth) rest left d _ _ _ is took.fourth_parts it.fourth_parts;
      first = rows_taken 0 rest left d _ _ _ is took.first it.first;
      second = rows_taken 1 rest left d _ _ _ is took.second it.second;
      third = rows_taken 2 rest left d _ _ _ is took.third it.third;
      fourth = rows_taken 3 rest left d _ _ _ is took.fourth it.fourth;
    }

pub loop-desk-smaller : goal.loop-desk-smaller
loop-desk-smaller g c =
    let one : length c.loop-desk.rest.items ≡ length c.pop.new.self.items + 1 = ap length c.in-Some.ensures.items ∙ length-append c.pop.new.self.items (c.in-Some.desk ∷ []) in
    omega (arith, one)

pub returns-clause-first_parts : goal.returns-clause-first_parts
returns-clause-first_parts g c =
    let none : c.loop-desk.rest.items ≡ [] = c.in_default.ensures.items ∙ ap (λ xs. xs ++ []) (c.in_default.ensures.rest ∙ ap (λ (n : ℕ). take (n - 1) c.loop-desk.rest.items) c.in_default.ensures.cases.0) in
    parts_taken (λ p. p.first) c.loop-desk.rest.items _ _ none c.loop-desk.invariant.first_parts

pub returns-clause-second_parts : goal.returns-clause-second_parts
returns-clause-second_parts g c =
    let none : c.loop-desk.rest.items ≡ [] = c.in_default.ensures.items ∙ ap (λ xs. xs ++ []) (c.in_default.ensures.rest ∙ ap (λ (n : ℕ). take (n - 1) c.loop-desk.rest.items) c.in_default.ensures.cases.0) in
    parts_taken (λ p. p.second) c.loop-desk.rest.items _ _ none c.loop-desk.invariant.second_parts

pub returns-clause-third_parts : goal.returns-clause-third_parts
returns-clause-third_parts g c =
    let none : c.loop-desk.rest.items ≡ [] = c.in_default.ensures.items ∙ ap (λ xs. xs ++ []) (c.in_default.ensures.rest ∙ ap (λ (n : ℕ). take (n - 1) c.loop-desk.rest.items) c.in_default.ensures.cases.0) in
    parts_taken (λ p. p.third) c.loop-desk.rest.items _ _ none c.loop-desk.invariant.third_parts

pub returns-clause-fourth_parts : goal.returns-clause-fourth_parts
returns-clause-fourth_parts g c =
    let none : c.loop-desk.rest.items ≡ [] = c.in_default.ensures.items ∙ ap (λ xs. xs ++ []) (c.in_default.ensures.rest ∙ ap (λ (n : ℕ). take (n - 1) c.loop-desk.rest.items) c.in_default.ensures.cases.0) in
    parts_taken (λ p. p.fourth) c.loop-desk.rest.items _ _ none c.loop-desk.invariant.fourth_parts

pub returns-clause-first : goal.returns-clause-first
returns-clause-first g c =
    let none : c.loop-desk.rest.items ≡ [] = c.in_default.ensures.items ∙ ap (λ xs. xs ++ []) (c.in_default.ensures.rest ∙ ap (λ (n : ℕ). take (n - 1) c.loop-desk.rest.items) c.in_default.ensures.cases.0) in
    all_taken 0 c.loop-desk.rest.items _ _ none c.loop-desk.invariant.first

pub returns-clause-second : goal.returns-clause-second
returns-clause-second g c =
    let none : c.loop-desk.rest.items ≡ [] = c.in_default.ensures.items ∙ ap (λ xs. xs ++ []) (c.in_default.ensures.rest ∙ ap (λ (n : ℕ). take (n - 1) c.loop-desk.rest.items) c.in_default.ensures.cases.0) in
    all_taken 1 c.loop-desk.rest.items _ _ none c.loop-desk.invariant.second

pub returns-clause-third : goal.returns-clause-third
returns-clause-third g c =
    let none : c.loop-desk.rest.items ≡ [] = c.in_default.ensures.items ∙ ap (λ xs. xs ++ []) (c.in_default.ensures.rest ∙ ap (λ (n : ℕ). take (n - 1) c.loop-desk.rest.items) c.in_default.ensures.cases.0) in
    all_taken 2 c.loop-desk.rest.items _ _ none c.loop-desk.invariant.third

pub returns-clause-fourth : goal.returns-clause-fourth
returns-clause-fourth g c =
    let none : c.loop-desk.rest.items ≡ [] = c.in_default.ensures.items ∙ ap (λ xs. xs ++ []) (c.in_default.ensures.rest ∙ ap (λ (n : ℕ). take (n - 1) c.loop-desk.rest.items) c.in_default.ensures.cases.0) in
    all_taken 3 c.loop-desk.rest.items _ _ none c.loop-desk.invariant.fourth
