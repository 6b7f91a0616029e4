use Rattle.std.proofs.Common.{◌≡◌, ◌∙◌, true, sym, ap, subst}
use Rattle.message_values.specs.declared.state.Settings.{Settings}
use Rattle.edge_devices.specs.Endpoints.{is_endpoint}
use Rattle.agent_rules.specs.declared.saved.Saved.{Saved}
use Rattle.agent_rules.specs.declared.rules.parts.AgentFail.{AgentFail}
use Rattle.agent_rules.specs.declared.rules.parts.Next.{Next}
use Rattle.agent_rules.specs.Half.{AgentHalf}
use Rattle.agent_rules.specs.Keeping.{TakeReply}
use Rattle.agent_state.specs.Refusals.{ReplyRefusal}
use Rattle.agent_rounds.specs.Dealing.{CanBeTried}
use Rattle.agent_rounds.proofs.CallLemmas.{call_made, call_refused}
use Rattle.agent_rounds.proofs.NextLemmas.{idle_told, next_endpoint, own_endpoint, proved_next, refused_call}
use Rattle.agent_rounds.proofs.dealing.take_reply.Goals as goal

pub end_of-requires : goal.end_of-requires
end_of-requires g c = λ is. subst (λ (fail : AgentFail). ReplyRefusal c.args.agent.now c.args.reply.now fail) is c.in-Err.ensures.refused c.requires.to_it

pub returns-in-Ok-clause-does : goal.returns-in-Ok-clause-does
returns-in-Ok-clause-does g c = λ s.
    call_made (TakeReply c.args.reply.now) (g.D.Disk.state c.args.disk.now) (g.D.Disk.state c.on_reply.new.disk) (g.D.Disk.countdown c.args.disk.now) (g.D.Disk.countdown c.on_reply.new.disk)
    c.args.agent.now c.on_reply.new.self s c.in-Ok.next c.in-Ok.ensures.room c.in-Ok.ensures.told c.in-Ok.ensures.one_save

pub returns-in-Ok-clause-idle : goal.returns-in-Ok-clause-idle
returns-in-Ok-clause-idle g c = ap (λ (a : AgentHalf). a.awaits) c.in-Ok.ensures.told ∙ idle_told c.args.reply.now c.args.agent.now.half

pub returns-in-Ok-clause-proved : goal.returns-in-Ok-clause-proved
returns-in-Ok-clause-proved g c =
    ap (λ (a : AgentHalf). a.proved) c.in-Ok.ensures.told ∙ (proved_next c.args.reply.now c.args.agent.now.half ∙ sym (ap (λ (n : Next). n.proved) c.in-Ok.ensures.next))

pub returns-in-Ok-clause-endpoint : goal.returns-in-Ok-clause-endpoint
returns-in-Ok-clause-endpoint g c =
    let own = subst (λ (s : Saved). is_endpoint s.settings.endpoint ≡ true) c.saved-saved.ensures.saved (own_endpoint c.saved-saved.result.now c.saved-saved.ensures.right) in
    let tried = subst (λ (s : Settings). is_endpoint s.endpoint ≡ true) c.target-target.ensures.target c.target-target.ensures.endpoint in
    subst (λ (n : Next). CanBeTried n.connection) (sym c.in-Ok.ensures.next) (next_endpoint c.args.reply.now c.args.agent.now.half own tried)

pub returns-in-Err-clause-does : goal.returns-in-Err-clause-does
returns-in-Err-clause-does g c = λ s.
    call_refused (TakeReply c.args.reply.now) (g.D.Disk.state c.args.disk.now) (g.D.Disk.state c.on_reply.new.disk) (g.D.Disk.countdown c.args.disk.now) (g.D.Disk.countdown c.on_reply.new.disk)
    c.args.agent.now c.on_reply.new.self s Next c.in-Err.fail c.end_of.result c.end_of.ensures.end c.in-Err.ensures.one_save.room c.requires.fits c.in-Err.ensures.one_save
    (refused_call c.args.agent.now c.args.reply.now c.in-Err.fail c.requires.to_it c.in-Err.ensures.refused)
