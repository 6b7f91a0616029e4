use Rattle.std.proofs.Common.{◌≡◌, ◌+◌, ◌-◌, [], ◌∷◌, ℕ, take, drop, sym, ◌∙◌, ap, arith}
use Rattle.server_waves.specs.Waves.{Waves, offering, table_offering}
use Rattle.server_waves.proofs.Offering.{offering_next, offering_past, table_next, table_past}
use Rattle.server_waves.proofs.members.Members.offer.Goals as goal

pub returns-in_default-clause-made : goal.returns-in_default-clause-made
returns-in_default-clause-made c =
    let it = c.loop-left.invariant in
    let none : drop (c.args.room - c.loop-left.left) c.args.self.now.waiting ≡ [] = sym (ap (λ (w : Waves). w.waiting) it.waves) ∙ c.in_default.ensures.first in (
      it.waves ∙ offering_past (c.args.room - c.loop-left.left) c.args.room c.args.self.now none (omega arith),
      it.table ∙ table_past c.args.config.now (c.args.room - c.loop-left.left) c.args.room c.args.self.now.waiting c.args.server.now.table none (omega arith),
    )

pub loop-left-preserved : goal.loop-left-preserved
loop-left-preserved c =
    let it = c.loop-left.invariant in
    let more : (c.args.room - c.loop-left.left) + 1 ≡ c.args.room - (c.loop-left.left - 1) = omega (arith, it.within, c.loop-left-test.true) in
    let first : take 1 (drop (c.args.room - c.loop-left.left) c.args.self.now.waiting) ≡ c.in-Some.uid ∷ [] =
    ap (λ (w : Waves). take 1 w.waiting) (sym it.waves) ∙ c.in-Some.ensures.first in
    record {
      within = omega (arith, it.within);
      waves = c.in_ok-offer_first.ensures.made ∙ ap (offering 1) it.waves ∙ offering_next (c.args.room - c.loop-left.left) c.args.self.now
          ∙ ap (λ (n : ℕ). offering n c.args.self.now) more;
      table = c.in_ok-offer_first.ensures.table ∙ ap (table_offering c.args.config.now (c.in-Some.uid ∷ [])) it.table
          ∙ table_next c.args.config.now (c.args.room - c.loop-left.left) c.args.self.now.waiting c.in-Some.uid c.args.server.now.table first
          ∙ ap (λ (n : ℕ). table_offering c.args.config.now (take n c.args.self.now.waiting) c.args.server.now.table) more;
      profile = c.offer_first.ensures.profile ∙ it.profile;
    }
