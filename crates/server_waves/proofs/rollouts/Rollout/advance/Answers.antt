use Rattle.std.proofs.Common.{◌≡◌, ◌∙◌, ℕ, List, ap, length, take}
use Rattle.std.proofs.Math.Seq.{take-append_seam}
use Rattle.server_core.specs.Table.{Table}
use Rattle.server_waves.specs.Register.{Rolling}
use Rattle.server_waves.specs.Waves.{Waves, hash_of, is_decided, others}
use Rattle.server_waves.proofs.CandidateLemmas.{stays_unknown}
use Rattle.server_waves.proofs.Unheard.{stays_offering}
use Rattle.server_waves.proofs.rollouts.Rollout.advance.Goals as goal

pub returns-clause-unknown : goal.returns-clause-unknown
returns-clause-unknown g c =
    let fine = g.J.Judge.finds_fine c.args.judge.now in
    let records = c.args.server.now.table.records in
    let made = c.in_ok-offer.ensures.made in
    let stay = c.halt_over.new.self.offered in
    let first : take c.undecided-before.result c.offer.new.self.offered ≡ stay =
    ap (λ n. take n c.offer.new.self.offered) c.undecided-before.ensures.number
    ∙ ap (λ (w : Waves). take (length c.halt_over.new.self.offered) w.offered) made.0
    ∙ take-append_seam c.halt_over.new.self.offered (take c.room-room.result c.halt_over.new.self.waiting) in
    let left : stay ≡ others (is_decided fine (hash_of c.args.self.now.terms)) records c.args.self.now.waves.offered =
    ap (λ (w : Waves). w.offered) c.halt_over.ensures.halted ∙ ap (λ (w : Waves). w.offered) c.settle_at.ensures.settled
    ∙ ap (λ (hash : List ℕ). others (is_decided (g.J.Judge.finds_fine c.args.judge.now) hash) c.args.server.now.table.records c.self.inside.members.offered) c.hash.ensures.value
    ∙ ap (λ (r : Rolling). others (is_decided (g.J.Judge.finds_fine c.args.judge.now) (hash_of r.terms)) c.args.server.now.table.records r.waves.offered) c.self.view_is in
    stays_unknown fine (hash_of c.args.self.now.terms) records c.offer.new.server.table.records
    (ap (λ (t : Table). t.records) made.1 ∙ stays_offering c.config.result.now (take c.room-room.result c.halt_over.new.self.waiting) c.args.server.now.table)
    c.args.self.now.waves.offered (take c.undecided-before.result c.offer.new.self.offered) (first ∙ left)
