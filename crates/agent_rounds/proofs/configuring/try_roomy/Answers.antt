use Rattle.std.proofs.Common.{true, Err, refl, subst}
use Rattle.agent_config.specs.Config.{as_offer}
use Rattle.agent_rounds.specs.Moments.{held_view, with_agent, with_clock, with_folder, with_held}
use Rattle.agent_rounds.specs.declared.ends.AgentEnd.TheVariants.{NoMemory}
use Rattle.agent_rounds.specs.declared.proving.Trial.{Trial}
use Rattle.agent_rounds.specs.Moments.{RunsPart}
use Rattle.agent_rounds.specs.Proving.{name_of}
use Rattle.agent_rounds.specs.Replies.{TriesBy}
use Rattle.agent_rounds.proofs.ConfigLemmas.{wanting_tries}
use Rattle.agent_rounds.proofs.RunLemmas.{run_beside}
use Rattle.agent_rounds.proofs.configuring.try_roomy.Goals as goal

pub returns-in-Ok-clause-does : goal.returns-in-Ok-clause-does
returns-in-Ok-clause-does g c = λ number s.
    subst (λ (trial : Trial). RunsPart (TriesBy true trial (as_offer c.args.files c.args.hash.now)) (g.D.Disk.state c.args.disk.now) (g.D.Disk.state c.try_named.new.disk)
    (with_agent c.args.agent.now (with_held (held_view number c.args.held.now) (with_folder (g.F.Folder.state c.args.folder.now) (with_clock (g.C.Clock.state c.args.clock.now) s))))
    (with_agent c.try_named.new.agent (with_held (held_view number c.try_named.new.held) (with_folder (g.F.Folder.state c.try_named.new.folder) (with_clock (g.C.Clock.state c.try_named.new.clock) s)))) c.try_named.result) c.in-Ok.ensures (c.try_named.ensures.does number s)

pub returns-in-Err-clause-does : goal.returns-in-Err-clause-does
returns-in-Err-clause-does g c = λ number s.
    let trial : Trial = (record { seconds = c.args.seconds; name = name_of c.args.agent.now.half (as_offer c.args.files c.args.hash.now) }) in
    let f = with_agent c.args.agent.now (with_held (held_view number c.args.held.now) (with_folder (g.F.Folder.state c.args.folder.now) (with_clock (g.C.Clock.state c.args.clock.now) s))) in
    run_beside (TriesBy true trial (as_offer c.args.files c.args.hash.now)) (g.D.Disk.state c.args.disk.now) f f (Err NoMemory) c.requires.fits refl refl refl (wanting_tries true trial (as_offer c.args.files c.args.hash.now) f)
