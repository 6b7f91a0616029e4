use Rattle.std.proofs.Common.{◌∙◌, List, ℕ, subst}
use Rattle.agent_config.specs.Config.{as_offer}
use Rattle.agent_rules.specs.Half.{no_config}
use Rattle.agent_rounds.specs.Moments.{RunsPart, held_view, with_agent, with_folder, with_held}
use Rattle.agent_rounds.specs.Proving.{refused_text}
use Rattle.agent_rounds.specs.Replies.{FailsBack}
use Rattle.agent_rounds.proofs.ConfigLemmas.{back_wanting}
use Rattle.agent_rounds.proofs.configuring.fail_refused.Goals as goal

pub returns-in-Err-clause-does : goal.returns-in-Err-clause-does
returns-in-Err-clause-does g c = λ number s.
    back_wanting (as_offer no_config c.args.hash.now) (refused_text c.args.error.now) (g.D.Disk.state c.args.disk.now) c.args.agent.now (held_view number c.args.held.now)
    (with_folder (g.F.Folder.state c.args.folder.now) s) c.requires.fits

pub returns-clause-does : goal.returns-clause-does
returns-clause-does g c = λ number s.
    subst (λ (text : List ℕ). RunsPart (FailsBack (as_offer no_config c.args.hash.now) text) (g.D.Disk.state c.args.disk.now) (g.D.Disk.state c.fail_back.new.disk)
    (with_agent c.args.agent.now (with_held (held_view number c.args.held.now) (with_folder (g.F.Folder.state c.args.folder.now) s)))
    (with_agent c.fail_back.new.agent (with_held (held_view number c.fail_back.new.held) (with_folder (g.F.Folder.state c.fail_back.new.folder) s))) c.fail_back.result)
    (c.as_str.ensures.value ∙ c.in-Ok.ensures) (c.fail_back.ensures.does number s)
