use Rattle.std.proofs.Common.{Option, subst, arith}
use Rattle.agent_rules.specs.declared.rules.parts.Next.{Next}
use Rattle.world_lab.specs.Hearing.{Takes}
use Rattle.world_lab.specs.Taken.{HasTaken}
use Rattle.world_lab.proofs.Heard.{take_stops}
use Rattle.world_lab.proofs.Hosts.{stop_passed}
use Rattle.world_lab.proofs.Lines.{if_ok, on_ok}
use Rattle.world_lab.proofs.replies.hear_reply.Goals as goal

pub take_reply-requires : goal.take_reply-requires
take_reply-requires c = record { hosted = c.requires.hosted; generations = omega (arith, c.requires.generations); awaits = c.requires.awaits; reply = c.requires.reply }

pub see_to-written-requires : goal.see_to-written-requires
see_to-written-requires c =
    let asked = subst (Takes c.args.host.now.agent.half c.args.reply.now) c.in-Some.is c.in_ok-next.ensures.taken in
    record {
      taken = (
        c.args.host.now,
        c.args.reply.now,
        record {
          generations = c.requires.generations;
          awaits = c.requires.awaits;
          reply_is = c.requires.reply;
          room = asked.0;
          taken = c.in_ok-next.ensures.goes;
          next_is = asked.1;
        },
      );
    }

pub returns : goal.returns
returns c =
    let asked = subst (Takes c.args.host.now.agent.half c.args.reply.now) c.in-Some.is c.in_ok-next.ensures.taken in
    let taken : HasTaken c.args.host.now c.take_reply.new.host c.args.reply.now c.in-Some.next = record {
      generations = c.requires.generations;
      awaits = c.requires.awaits;
      reply_is = c.requires.reply;
      room = asked.0;
      taken = c.in_ok-next.ensures.goes;
      next_is = asked.1;
    } in
    record {
      goes = on_ok c.see_to-written.result (λ goes. goes c.args.host.now c.args.reply.now taken) c.see_to-written.ensures.goes;
      written = if_ok c.see_to-written.result (λ line written. written c.args.host.now c.args.reply.now taken) c.see_to-written.ensures.written;
      stopped = λ e. c.see_to-written.ensures.stopped e c.args.host.now c.args.reply.now taken;
    }

pub returns-in_err-next-clause-stopped : goal.returns-in_err-next-clause-stopped
returns-in_err-next-clause-stopped c = λ e.
    take_stops c.args.host.now c.take_reply.new.host c.args.reply.now (c.in_err-next.ensures.stopped (stop_passed (Option Next) c.from_residual.result c.in_err-next.field-0.0 c.from_residual.ensures.1 e)) c.requires.awaits
