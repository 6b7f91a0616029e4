-- What a lab's agent is asked by a reply that it took.
use Rattle.std.specs.Prelude.{◌≡◌, [], ◌∷◌, true}
use Rattle.message_values.specs.declared.reply.ServerToAgent.{ServerToAgent}
use Rattle.agent_rules.specs.declared.rules.parts.Next.{Next}
use Rattle.agent_rules.specs.Keeping.{TakeReply, fits}
use Rattle.agent_rules.specs.Offers.{next_of}
use Rattle.world_lab.specs.declared.plays.Host.{Host}
use Rattle.world_lab.specs.Hosts.{GoesOn, HasGenerations, IsReply}

-- the awaited reply was taken, and this is what it asks of the agent's caller
pub record HasTaken (before after : Host) (reply : ServerToAgent) (next : Next) : Type 0 where
  pub generations : HasGenerations 4 before
  pub awaits : before.agent.half.awaits ≡ true
  pub reply_is : IsReply reply
  pub room : fits before.agent.half (TakeReply reply) ≡ true
  pub taken : GoesOn before after (TakeReply reply ∷ []) 1
  pub next_is : next ≡ next_of reply before.agent.half
