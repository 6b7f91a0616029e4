-- A report is asked and its answer is dealt with, and the round waits.
use Rattle.std.proofs.Common.{◌≡◌, ◌≤◌, arith, Bool, Option, Result, Ok, Err, IfErr, refl, ap, subst}
use Rattle.message_values.specs.declared.reply.ServerToAgent.{ServerToAgent}
use Rattle.message_handlers.specs.Asking.{MayAnswer}
use Rattle.agent_rounds.specs.declared.ends.AgentEnd.{AgentEnd}
use Rattle.agent_rounds.specs.declared.ends.AgentEnd.TheVariants.{ClockFault, FolderFault, RoundsSpent}
use Rattle.agent_rounds.specs.Stages.{Then}
use Rattle.agent_rounds.specs.Moments.{IsCallEnd, Moment, held_view, is_store_fault, stage_at}
use Rattle.agent_rounds.specs.Replies.{DealsWith}
use Rattle.std.specs.Prelude.{IsErrOf}
use Rattle.agent_rounds.proofs.ImageLemmas.{risen}
use Rattle.agent_rounds.proofs.RunLemmas.{leads_beside, leads_on, leads_out, on_ok, wait_intact}
use Rattle.agent_rounds.proofs.rounds.ask_and_deal.Goals as goal

pub returns-in-Err-clause-deals : goal.returns-in-Err-clause-deals
returns-in-Err-clause-deals g c =
    let may = MayAnswer (λ b. (goal.Handler-dyn g b).answers b.1) c.args.handlers.now in
    let asks = g.R.Rounds.asks c.args.bytes.now in
    let rest = λ (reply : Option ServerToAgent). Then (DealsWith may reply) g.R.Rounds.waits in
    let m1 : Moment = record {
      agent = c.args.agent.now;
      held = held_view g.G.Dialer.number c.args.held.now;
      disk = g.D.Disk.state c.args.disk.now;
      folder = g.F.Folder.state c.args.folder.now;
      dialer = g.G.Dialer.state c.args.dialer.now;
      clock = g.C.Clock.state c.args.clock.now;
    } in
    let m2 : Moment = record m1 {
      held = held_view g.G.Dialer.number c.ask_server.new.held;
      dialer = g.G.Dialer.state c.ask_server.new.dialer;
    } in
    leads_out asks rest m1 m2 c.in-Err.end
    (leads_beside asks m1 m2 (Err c.in-Err.end) c.requires.fits refl refl (ap is_store_fault c.in-Err.ensures.end) (λ keeps. c.in-Err.ensures.asks (stage_at m1 keeps)))

pub returns-in-Err-deal-clause-deals : goal.returns-in-Err-deal-clause-deals
returns-in-Err-deal-clause-deals g c =
    let may = MayAnswer (λ b. (goal.Handler-dyn g b).answers b.1) c.args.handlers.now in
    let asks = g.R.Rounds.asks c.args.bytes.now in
    let rest = λ (reply : Option ServerToAgent). Then (DealsWith may reply) g.R.Rounds.waits in
    let m1 : Moment = record {
      agent = c.args.agent.now;
      held = held_view g.G.Dialer.number c.args.held.now;
      disk = g.D.Disk.state c.args.disk.now;
      folder = g.F.Folder.state c.args.folder.now;
      dialer = g.G.Dialer.state c.args.dialer.now;
      clock = g.C.Clock.state c.args.clock.now;
    } in
    let m2 : Moment = record m1 {
      held = held_view g.G.Dialer.number c.ask_server.new.held;
      dialer = g.G.Dialer.state c.ask_server.new.dialer;
    } in
    let m3 : Moment = record m2 {
      agent = c.deal.new.agent;
      held = held_view g.G.Dialer.number c.deal.new.held;
      disk = g.D.Disk.state c.deal.new.disk;
      folder = g.F.Folder.state c.deal.new.folder;
      dialer = g.G.Dialer.state c.deal.new.dialer;
      clock = g.C.Clock.state c.deal.new.clock;
    } in
    let first = leads_beside asks m1 m2 (Ok c.in-Ok.reply) c.requires.fits refl refl refl (λ keeps. c.in-Ok.ensures.asks (stage_at m1 keeps)) in
    leads_on asks rest m1 m2 m3 c.in-Ok.reply (Err c.in-Err-deal.end) first
    (leads_out (DealsWith may c.in-Ok.reply) g.R.Rounds.waits m2 m3 c.in-Err-deal.end (λ keeps. c.in-Err-deal.ensures.does (stage_at m2 keeps)))

pub returns-clause-deals : goal.returns-clause-deals
returns-clause-deals g c =
    let may = MayAnswer (λ b. (goal.Handler-dyn g b).answers b.1) c.args.handlers.now in
    let asks = g.R.Rounds.asks c.args.bytes.now in
    let rest = λ (reply : Option ServerToAgent). Then (DealsWith may reply) g.R.Rounds.waits in
    let m1 : Moment = record {
      agent = c.args.agent.now;
      held = held_view g.G.Dialer.number c.args.held.now;
      disk = g.D.Disk.state c.args.disk.now;
      folder = g.F.Folder.state c.args.folder.now;
      dialer = g.G.Dialer.state c.args.dialer.now;
      clock = g.C.Clock.state c.args.clock.now;
    } in
    let m2 : Moment = record m1 {
      held = held_view g.G.Dialer.number c.ask_server.new.held;
      dialer = g.G.Dialer.state c.ask_server.new.dialer;
    } in
    let m3 : Moment = record m2 {
      agent = c.deal.new.agent;
      held = held_view g.G.Dialer.number c.deal.new.held;
      disk = g.D.Disk.state c.deal.new.disk;
      folder = g.F.Folder.state c.deal.new.folder;
      dialer = g.G.Dialer.state c.deal.new.dialer;
      clock = g.C.Clock.state c.deal.new.clock;
    } in
    let m4 : Moment = record m3 {
      held = held_view g.G.Dialer.number c.end_round.new.held;
      dialer = g.G.Dialer.state c.end_round.new.dialer;
      clock = g.C.Clock.state c.end_round.new.clock;
    } in
    let first = leads_beside asks m1 m2 (Ok c.in-Ok.reply) c.requires.fits refl refl refl (λ keeps. c.in-Ok.ensures.asks (stage_at m1 keeps)) in
    leads_on asks rest m1 m2 m4 c.in-Ok.reply c.end_round.result first
    (leads_on (DealsWith may c.in-Ok.reply) g.R.Rounds.waits m2 m3 m4 c.in-Ok-deal.pause c.end_round.result (λ keeps. c.in-Ok-deal.ensures.does (stage_at m2 keeps))
    (leads_beside (g.R.Rounds.waits c.in-Ok-deal.pause) m3 m4 c.end_round.result c.in-Ok-deal.ensures.fits refl refl (wait_intact c.end_round.result c.end_round.ensures.end)
    (λ keeps. c.end_round.ensures.does (stage_at m3 keeps))))

-- a wait ends for the clock alone
for_clock : (r : Result Bool AgentEnd) (end : AgentEnd) → IfErr r (λ end. end ≡ ClockFault) → r ≡ Err end → end ≡ ClockFault
for_clock (Ok value) end by_clock is = cc
for_clock (Err fail) end by_clock is = cc

is_err_of : (r : Result Bool AgentEnd) (end : AgentEnd) → r ≡ Err end → IsErrOf r end
is_err_of (Ok value) end is = absurd (cc)
is_err_of (Err fail) end is = cc

-- and a call of the agent for no other cause than its own
by_call : (r : Result Bool AgentEnd) (end : AgentEnd) → IfErr r IsCallEnd → r ≡ Err end → IsCallEnd end
by_call (Ok value) end call is = absurd (cc)
by_call (Err fail) end call is = let same : fail ≡ end = cc in subst IsCallEnd same call

pub returns-in-Err-deal-clause-no_folder_fault : goal.returns-in-Err-deal-clause-no_folder_fault
returns-in-Err-deal-clause-no_folder_fault g c = λ is. by_call (Err c.in-Err-deal.end) FolderFault c.in-Err-deal.ensures.end is

pub returns-in-Err-deal-clause-clock_fault : goal.returns-in-Err-deal-clause-clock_fault
returns-in-Err-deal-clause-clock_fault g c = λ is. absurd (by_call (Err c.in-Err-deal.end) ClockFault c.in-Err-deal.ensures.end is)

pub returns-in-Err-deal-clause-no_rounds_spent : goal.returns-in-Err-deal-clause-no_rounds_spent
returns-in-Err-deal-clause-no_rounds_spent g c = λ is. by_call (Err c.in-Err-deal.end) RoundsSpent c.in-Err-deal.ensures.end is

pub returns-clause-idle : goal.returns-clause-idle
returns-clause-idle g c = on_ok c.end_round.result c.in-Ok-deal.ensures.idle

pub returns-clause-fits : goal.returns-clause-fits
returns-clause-fits g c = on_ok c.end_round.result c.in-Ok-deal.ensures.fits

pub returns-clause-folder_count : goal.returns-clause-folder_count
returns-clause-folder_count g c = on_ok c.end_round.result c.in-Ok-deal.ensures.folder_count

pub returns-clause-clock_count : goal.returns-clause-clock_count
returns-clause-clock_count g c =
    let later : (g.C.Clock.state c.args.clock.now).faults ≤ (g.C.Clock.state c.end_round.new.clock).faults = omega (arith, c.in-Ok-deal.ensures.clock_count, c.end_round.ensures.counts) in
    on_ok c.end_round.result later

pub returns-clause-clock_fault : goal.returns-clause-clock_fault
returns-clause-clock_fault g c = λ is.
    risen (g.C.Clock.state c.args.clock.now).faults (g.C.Clock.state c.deal.new.clock).faults (g.C.Clock.state c.end_round.new.clock).faults c.in-Ok-deal.ensures.clock_count
    (c.end_round.ensures.fault (is_err_of c.end_round.result ClockFault is))

pub returns-clause-no_folder_fault : goal.returns-clause-no_folder_fault
returns-clause-no_folder_fault g c = λ is. let e : FolderFault ≡ ClockFault = for_clock c.end_round.result FolderFault c.end_round.ensures.end is in cc

pub returns-clause-no_rounds_spent : goal.returns-clause-no_rounds_spent
returns-clause-no_rounds_spent g c = λ is. let e : RoundsSpent ≡ ClockFault = for_clock c.end_round.result RoundsSpent c.end_round.ensures.end is in cc
