use Rattle.std.proofs.Common.{sym, ◌∙◌}
use Rattle.message_short.specs.Short.{report_of}
use Rattle.command_frames.proofs.Glances.{seen_own_form}
use Rattle.command_frames.proofs.families.AgentToServerOutermost.is_plainly_canonical.Goals as goal

pub returns : goal.returns
returns c =
    let seen = c.short_report.ensures in
    record { own_form = λ is. seen_own_form report_of c.args.bytes.now c.short_report.result seen.canonical seen.means seen.small seen.shallow (sym c.is_some.ensures ∙ is) }
