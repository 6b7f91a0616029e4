use Rattle.std.proofs.Common.{◌≡◌, [], ◌∷◌, ◌++◌, ℕ, List, Some, Ok, Err, Result, OnOk, OnErr, if◌then◌else◌, sym, ap, ◌∙◌, refl, subst, length, arith, Vec, Global}
use Rattle.std.specs.BTreeMap.{BTreeMap}
use Rattle.std.specs.Str.{bytes_eq}
use Rattle.plain_values.specs.declared.memory.NoMemory.{NoMemory}
use Rattle.server_deliveries.specs.Lists.{AreFilled, conns_at, items_in}
use Rattle.server_deliveries.specs.Routes.{without}
use Rattle.std.proofs.lemmas.List.{nil_from_length}
use Rattle.server_deliveries.proofs.Filled.{filled, filled_out, not_nil}
use Rattle.server_deliveries.proofs.Keyed.{keyed, keyed_out}
use Rattle.server_deliveries.proofs.lists.put_conn.Goals as goal

pub returns-then-is_empty-clause-err : goal.returns-then-is_empty-clause-err
returns-then-is_empty-clause-err c = by_result (nil_from_length c.put_first-put.new.conns.items (grind arith)) c.put_first-put.result c.put_first-put.ensures.err
  where
    by_result : c.put_first-put.new.conns.items ≡ [] → (r : Result Unit NoMemory) → OnErr r (c.put_first-put.new.conns.items ≡ without c.args.conn c.in-Some.list.now.items)
        → OnErr r ((u : List ℕ) → conns_at c.remove.new.self u ≡ (if bytes_eq c.args.uid u then without c.args.conn (conns_at c.args.conns.now u) else conns_at c.args.conns.now u))
    by_result none (Ok u) h = tt
    by_result none (Err e) h = keyed_out c.args.conns.now (c.get_mut.follows.lender c.put_first-put.new.conns) c.remove.new.self c.args.uid (without c.args.conn)
        (keyed c.args.conns.now (c.get_mut.follows.lender c.put_first-put.new.conns) c.args.uid (Some c.put_first-put.new.conns) (without c.args.conn)
        ((c.get_mut.follows.holds c.put_first-put.new.conns).3 (rw (sym c.in-Some.ensures.value) refl)).0
        (h ∙ ap (λ o. without c.args.conn (items_in o)) c.in-Some.ensures.value))
        c.remove.ensures.updates.0 (ap (λ o. without c.args.conn (items_in o)) (sym c.in-Some.ensures.value) ∙ sym h ∙ none)

pub returns-then-is_empty-clause-filled : goal.returns-then-is_empty-clause-filled
returns-then-is_empty-clause-filled c =
    filled_out c.args.conns.now (c.get_mut.follows.lender c.put_first-put.new.conns) c.remove.new.self c.args.uid (Some c.put_first-put.new.conns)
    ((c.get_mut.follows.holds c.put_first-put.new.conns).3 (rw (sym c.in-Some.ensures.value) refl)).0 c.remove.ensures.updates.0

pub returns-else-is_empty-clause-first : goal.returns-else-is_empty-clause-first
returns-else-is_empty-clause-first c = by_result c.put_first-put.result c.put_first-put.ensures.first
  where
    by_result : (r : Result Unit NoMemory) → OnOk r (c.put_first-put.new.conns.items ≡ c.args.conn ∷ without c.args.conn c.in-Some.list.now.items)
        → OnOk r ((u : List ℕ) → conns_at (c.get_mut.follows.lender c.put_first-put.new.conns) u ≡ (if bytes_eq c.args.uid u then c.args.conn ∷ without c.args.conn (conns_at c.args.conns.now u) else conns_at c.args.conns.now u))
    by_result (Ok u) h = keyed c.args.conns.now (c.get_mut.follows.lender c.put_first-put.new.conns) c.args.uid (Some c.put_first-put.new.conns) (λ xs. c.args.conn ∷ without c.args.conn xs)
        ((c.get_mut.follows.holds c.put_first-put.new.conns).3 (rw (sym c.in-Some.ensures.value) refl)).0
        (h ∙ ap (λ o. c.args.conn ∷ without c.args.conn (items_in o)) c.in-Some.ensures.value)
    by_result (Err e) h = tt

pub returns-else-is_empty-clause-err : goal.returns-else-is_empty-clause-err
returns-else-is_empty-clause-err c = by_result c.put_first-put.result c.put_first-put.ensures.err
  where
    by_result : (r : Result Unit NoMemory) → OnErr r (c.put_first-put.new.conns.items ≡ without c.args.conn c.in-Some.list.now.items)
        → OnErr r ((u : List ℕ) → conns_at (c.get_mut.follows.lender c.put_first-put.new.conns) u ≡ (if bytes_eq c.args.uid u then without c.args.conn (conns_at c.args.conns.now u) else conns_at c.args.conns.now u))
    by_result (Ok u) h = tt
    by_result (Err e) h = keyed c.args.conns.now (c.get_mut.follows.lender c.put_first-put.new.conns) c.args.uid (Some c.put_first-put.new.conns) (without c.args.conn)
        ((c.get_mut.follows.holds c.put_first-put.new.conns).3 (rw (sym c.in-Some.ensures.value) refl)).0
        (h ∙ ap (λ o. without c.args.conn (items_in o)) c.in-Some.ensures.value)

pub returns-else-is_empty-clause-filled : goal.returns-else-is_empty-clause-filled
returns-else-is_empty-clause-filled c =
    filled c.args.conns.now (c.get_mut.follows.lender c.put_first-put.new.conns) c.args.uid (Some c.put_first-put.new.conns)
    ((c.get_mut.follows.holds c.put_first-put.new.conns).3 (rw (sym c.in-Some.ensures.value) refl)).0
    (λ none. let short : length c.put_first-put.new.conns.items ≡ 0 = ap length none in grind arith)

pub returns-clause-first : goal.returns-clause-first
returns-clause-first c =
    let was_none : c.push.new.self.items ≡ c.args.conn ∷ without c.args.conn (conns_at c.get_mut.follows.lender-at-none c.args.uid) =
    c.in_ok-push.ensures.items ∙ ap (λ (l : List ℕ). l ++ c.args.conn ∷ []) c.new-list.ensures.items
    ∙ ap (λ (l : List ℕ). c.args.conn ∷ without c.args.conn l) (ap items_in c.in_default.ensures.value ∙ sym (ap (λ (m : BTreeMap (List ℕ) (Vec ℕ Global)). conns_at m c.args.uid) c.get_mut.follows.holds-at-none)) in
    subst (λ (m : BTreeMap (List ℕ) (Vec ℕ Global)). (u : List ℕ) → conns_at c.insert.new.self u ≡ (if bytes_eq c.args.uid u then c.args.conn ∷ without c.args.conn (conns_at m u) else conns_at m u)) c.get_mut.follows.holds-at-none
    (keyed c.get_mut.follows.lender-at-none c.insert.new.self c.args.uid (Some c.push.new.self) (λ xs. c.args.conn ∷ without c.args.conn xs) c.in_ok-insert.ensures.updates.0 was_none)

pub returns-clause-filled : goal.returns-clause-filled
returns-clause-filled c = λ whole.
    filled c.get_mut.follows.lender-at-none c.insert.new.self c.args.uid (Some c.push.new.self) c.in_ok-insert.ensures.updates.0
    (λ none. not_nil c.new-list.result.items c.args.conn (sym c.in_ok-push.ensures.items ∙ none))
    (subst AreFilled (sym c.get_mut.follows.holds-at-none) whole)
