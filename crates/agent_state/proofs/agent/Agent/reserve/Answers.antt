use Rattle.std.proofs.Common.{◌≡◌, ◌+◌, Some, Ok, Err, ap, sym, subst, refl, arith}
use Rattle.std.proofs.lemmas.Bool.{eq-eqb, ne_eqb}
use Rattle.agent_rules.specs.Reports.{where_true}
use Rattle.agent_rules.specs.Half.{AgentHalf, kept_part}
use Rattle.agent_rules.specs.Keeping.{Report, kept_by}
use Rattle.agent_state.specs.declared.changes.Change.TheVariants.{Limit}
use Rattle.agent_state.specs.Changes.{with_change}
use Rattle.agent_state.specs.Sound.{view_of}
use Rattle.agent_state.specs.View.{AgentView}
use Rattle.agent_state.proofs.SaveLemmas.{nothing_kept, nothing_tried, keeps_call, fields_set, passed_on}
use Rattle.agent_state.proofs.agent.Agent.reserve.Goals as goal

pub returns-then-self-clause-one_save : goal.returns-then-self-clause-one_save
returns-then-self-clause-one_save g c =
    nothing_kept _ (g.D.Disk.state c.args.disk.now) _ (g.D.Disk.countdown c.args.disk.now) c.self.inside _ c.self.view_is c.requires.fits _ Report _
    (ap (λ is_limit. where_true is_limit (record (c.self.inside.saved) { limit = c.self.inside.saved.limit + 1024 })) (ne_eqb _ _ c.if-self.true))
    (ap (λ v. v.store) (sym c.self.view_is)) (ap (λ v. kept_part v.half) (sym c.self.view_is))

pub returns-then-self-gt-LAST_LIMIT-clause-one_save : goal.returns-then-self-gt-LAST_LIMIT-clause-one_save
returns-then-self-gt-LAST_LIMIT-clause-one_save g c = nothing_tried _ (g.D.Disk.state c.args.disk.now) _ (g.D.Disk.countdown c.args.disk.now) c.self.inside _ c.self.view_is c.requires.fits _ Report _ (λ is. cc)

pub keep_changed-requires-clause-reserved : goal.keep_changed-requires-clause-reserved
keep_changed-requires-clause-reserved g c = omega (arith, ap (λ (v : AgentView). v.half.saved.limit) c.self.view_is)

pub returns-in-Ok-clause-kept : goal.returns-in-Ok-clause-kept
returns-in-Ok-clause-kept g c =
    let keeps : kept_by c.args.self.now.half Report ≡ Some (with_change (Limit (c.self.inside.saved.limit + 1024)) c.args.self.now.half.saved) =
    subst (λ (v : AgentView). kept_by v.half Report ≡ Some (with_change (Limit (c.self.inside.saved.limit + 1024)) v.half.saved)) c.self.view_is
    (ap (λ is_limit. where_true is_limit (record (c.self.inside.saved) { limit = c.self.inside.saved.limit + 1024 })) (eq-eqb _ _ c.if-self.false)) in
    (keeps_call _ _ _ _ c.args.self.now c.keep_changed.new.self c.requires.fits _ Report (Ok tt) keeps c.in-Ok.ensures.keeps).kept

pub returns-in-Ok-clause-room : goal.returns-in-Ok-clause-room
returns-in-Ok-clause-room g c =
    let keeps : kept_by c.args.self.now.half Report ≡ Some (with_change (Limit (c.self.inside.saved.limit + 1024)) c.args.self.now.half.saved) =
    subst (λ (v : AgentView). kept_by v.half Report ≡ Some (with_change (Limit (c.self.inside.saved.limit + 1024)) v.half.saved)) c.self.view_is
    (ap (λ is_limit. where_true is_limit (record (c.self.inside.saved) { limit = c.self.inside.saved.limit + 1024 })) (eq-eqb _ _ c.if-self.false)) in
    (keeps_call _ _ _ _ c.args.self.now c.keep_changed.new.self c.requires.fits _ Report (Ok tt) keeps c.in-Ok.ensures.keeps).room

pub returns-in-Ok-clause-below : goal.returns-in-Ok-clause-below
returns-in-Ok-clause-below g c = omega (arith, c.if-self.false, ap (λ (h : AgentHalf). h.saved.limit) c.in-Ok.ensures.keeps.kept)

pub returns-in-Ok-clause-one_save : goal.returns-in-Ok-clause-one_save
returns-in-Ok-clause-one_save g c =
    let keeps : kept_by c.args.self.now.half Report ≡ Some (with_change (Limit (c.self.inside.saved.limit + 1024)) c.args.self.now.half.saved) =
    subst (λ (v : AgentView). kept_by v.half Report ≡ Some (with_change (Limit (c.self.inside.saved.limit + 1024)) v.half.saved)) c.self.view_is
    (ap (λ is_limit. where_true is_limit (record (c.self.inside.saved) { limit = c.self.inside.saved.limit + 1024 })) (eq-eqb _ _ c.if-self.false)) in
    fields_set _ _ _ _ _ _ c.keep_changed.new.self Report _ _
    (keeps_call _ _ _ _ c.args.self.now c.keep_changed.new.self c.requires.fits _ Report (Ok tt) keeps c.in-Ok.ensures.keeps).one_save refl refl

pub returns-in-Err-clause-one_save : goal.returns-in-Err-clause-one_save
returns-in-Err-clause-one_save g c =
    let keeps : kept_by c.args.self.now.half Report ≡ Some (with_change (Limit (c.self.inside.saved.limit + 1024)) c.args.self.now.half.saved) =
    subst (λ (v : AgentView). kept_by v.half Report ≡ Some (with_change (Limit (c.self.inside.saved.limit + 1024)) v.half.saved)) c.self.view_is
    (ap (λ is_limit. where_true is_limit (record (c.self.inside.saved) { limit = c.self.inside.saved.limit + 1024 })) (eq-eqb _ _ c.if-self.false)) in
    passed_on _ _ _ _ _ _ _ _ _ _
    (keeps_call _ _ _ _ c.args.self.now c.keep_changed.new.self c.requires.fits _ Report (Err c.in-Err.fail) keeps c.in-Err.ensures.keeps).one_save
