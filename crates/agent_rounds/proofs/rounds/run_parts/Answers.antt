-- The parts of a round, joined.
use Rattle.std.proofs.Common.{◌≡◌, ◌≤◌, List, [], ℕ, Bool, Result, Ok, Err, subst, ap, arith}
use Rattle.std.proofs.lemmas.Result.{on_ok_weaker}
use Rattle.message_handlers.specs.Names.{IsOrdered, names_of}
use Rattle.message_values.specs.declared.custom.CustomCapabilities.{CustomCapabilities}
use Rattle.message_handlers.specs.Asking.{MayAnswer}
use Rattle.agent_rounds.specs.Moments.{IsPreparingEnd, Leads, Moment, held_view, stage_at, store_failed}
use Rattle.agent_rounds.specs.declared.ends.AgentEnd.{AgentEnd}
use Rattle.agent_rounds.specs.declared.ends.AgentEnd.TheVariants.{ClockFault, FolderFault, NoMemory, RoundsSpent}
use Rattle.agent_rounds.specs.Rounds.{AsksAndDeals, Prepares}
use Rattle.agent_rounds.proofs.RunLemmas.{leads_on, leads_out, on_ok}
use Rattle.agent_rounds.proofs.rounds.run_parts.Goals as goal

abbrev end_in : Result Bool AgentEnd → AgentEnd
end_in (Ok restart) = NoMemory
end_in (Err end) = end

abbrev ended : AgentEnd → Result Bool AgentEnd
ended end = Err end

end_is : (fail end : AgentEnd) → ended fail ≡ ended end → fail ≡ end
end_is fail end is = ap end_in is

pub returns-in-Err-clause-round : goal.returns-in-Err-clause-round
returns-in-Err-clause-round g c =
    let are = λ (names : CustomCapabilities). IsOrdered (names_of c.args.handlers.now) names.capabilities in
    let may = MayAnswer (λ b. (goal.Handler-dyn g b).answers b.1) c.args.handlers.now in
    let m0 : Moment = record {
      agent = c.args.agent.now;
      held = held_view g.G.Dialer.number c.args.held.now;
      disk = g.D.Disk.state c.args.disk.now;
      folder = g.F.Folder.state c.args.folder.now;
      dialer = g.G.Dialer.state c.args.dialer.now;
      clock = g.C.Clock.state c.args.clock.now;
    } in
    let m1 : Moment = record m0 {
      agent = c.prepare_report.new.agent;
      held = held_view g.G.Dialer.number c.prepare_report.new.held;
      disk = g.D.Disk.state c.prepare_report.new.disk;
      folder = g.F.Folder.state c.prepare_report.new.folder;
    } in
    leads_out (Prepares are) (AsksAndDeals g.R.Rounds.asks g.R.Rounds.waits may) m0 m1 c.in-Err.end (λ keeps. c.in-Err.ensures.runs g.G.Dialer.number (stage_at m0 keeps))

pub returns-clause-round : goal.returns-clause-round
returns-clause-round g c =
    let are = λ (names : CustomCapabilities). IsOrdered (names_of c.args.handlers.now) names.capabilities in
    let may = MayAnswer (λ b. (goal.Handler-dyn g b).answers b.1) c.args.handlers.now in
    let m0 : Moment = record {
      agent = c.args.agent.now;
      held = held_view g.G.Dialer.number c.args.held.now;
      disk = g.D.Disk.state c.args.disk.now;
      folder = g.F.Folder.state c.args.folder.now;
      dialer = g.G.Dialer.state c.args.dialer.now;
      clock = g.C.Clock.state c.args.clock.now;
    } in
    let m1 : Moment = record m0 {
      agent = c.prepare_report.new.agent;
      held = held_view g.G.Dialer.number c.prepare_report.new.held;
      disk = g.D.Disk.state c.prepare_report.new.disk;
      folder = g.F.Folder.state c.prepare_report.new.folder;
    } in
    let m2 : Moment = record {
      agent = c.ask_and_deal.new.agent;
      held = held_view g.G.Dialer.number c.ask_and_deal.new.held;
      disk = g.D.Disk.state c.ask_and_deal.new.disk;
      folder = g.F.Folder.state c.ask_and_deal.new.folder;
      dialer = g.G.Dialer.state c.ask_and_deal.new.dialer;
      clock = g.C.Clock.state c.ask_and_deal.new.clock;
    } in
    leads_on (Prepares are) (AsksAndDeals g.R.Rounds.asks g.R.Rounds.waits may) m0 m1 m2 c.in-Ok.bytes c.ask_and_deal.result
    (λ keeps. c.in-Ok.ensures.runs g.G.Dialer.number (stage_at m0 keeps))
    (subst (λ (bytes : List ℕ). Leads (AsksAndDeals g.R.Rounds.asks g.R.Rounds.waits may bytes) m1 m2 c.ask_and_deal.result) c.as_slice.ensures.value c.ask_and_deal.ensures.deals)

pub returns-in-Err-clause-store_fault : goal.returns-in-Err-clause-store_fault
returns-in-Err-clause-store_fault g c = λ is. (returns-in-Err-clause-round g c []).images.fault (ap store_failed is)

pub returns-clause-store_fault : goal.returns-clause-store_fault
returns-clause-store_fault g c = λ is. (returns-clause-round g c []).images.fault (ap store_failed is)

pub returns-clause-disk_count : goal.returns-clause-disk_count
returns-clause-disk_count g c = on_ok c.ask_and_deal.result (returns-clause-round g c []).images.counts

pub returns-clause-folder_count : goal.returns-clause-folder_count
returns-clause-folder_count g c =
    on_ok_weaker {P = (g.F.Folder.state c.prepare_report.new.folder).faults ≤ (g.F.Folder.state c.ask_and_deal.new.folder).faults} c.ask_and_deal.result
    (λ later. omega (arith, c.prepare_report.ensures.counts, later)) c.ask_and_deal.ensures.folder_count

pub returns-clause-folder_fault : goal.returns-clause-folder_fault
returns-clause-folder_fault g c = λ is. absurd (c.ask_and_deal.ensures.no_folder_fault is)

pub returns-clause-idle : goal.returns-clause-idle
returns-clause-idle g c = c.ask_and_deal.ensures.idle

pub returns-clause-fits : goal.returns-clause-fits
returns-clause-fits g c = c.ask_and_deal.ensures.fits

pub returns-clause-clock_count : goal.returns-clause-clock_count
returns-clause-clock_count g c = c.ask_and_deal.ensures.clock_count

pub returns-clause-clock_fault : goal.returns-clause-clock_fault
returns-clause-clock_fault g c = c.ask_and_deal.ensures.clock_fault

pub returns-clause-no_rounds_spent : goal.returns-clause-no_rounds_spent
returns-clause-no_rounds_spent g c = c.ask_and_deal.ensures.no_rounds_spent

pub returns-in-Err-clause-folder_fault : goal.returns-in-Err-clause-folder_fault
returns-in-Err-clause-folder_fault g c = λ is. c.in-Err.ensures.fault (ap Err (end_is c.in-Err.end FolderFault is))

pub returns-in-Err-clause-clock_fault : goal.returns-in-Err-clause-clock_fault
returns-in-Err-clause-clock_fault g c = λ is. absurd (subst IsPreparingEnd (end_is c.in-Err.end ClockFault is) c.in-Err.ensures.end)

pub returns-in-Err-clause-no_rounds_spent : goal.returns-in-Err-clause-no_rounds_spent
returns-in-Err-clause-no_rounds_spent g c = λ is. subst IsPreparingEnd (end_is c.in-Err.end RoundsSpent is) c.in-Err.ensures.end
