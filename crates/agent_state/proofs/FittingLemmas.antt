-- Which messages fit.
use Rattle.std.proofs.Common.{◌≡◌, ◌<◌, ◌≤◌, length, true, false}
use Rattle.std.proofs.lemmas.Bool.{le-leb, lt-leb, and_from, and_left, and_right}
use Rattle.message_values.specs.declared.report.AgentToServer.{AgentToServer}
use Rattle.message_codec.specs.Levels.{most_bytes}
use Rattle.message_reports.specs.Reports.{canonical_report, report_levels}
use Rattle.agent_rules.specs.Reports.{fits_bytes, fits_message}

pub short : (m : AgentToServer) → length (canonical_report m) ≤ most_bytes → fits_bytes m ≡ true
unfolding fits_bytes
short m small = le-leb _ _ small

pub long : (m : AgentToServer) → most_bytes < length (canonical_report m) → fits_bytes m ≡ false
unfolding fits_bytes
long m large = lt-leb _ _ large

pub fit : (m : AgentToServer) → length (canonical_report m) ≤ most_bytes → report_levels m ≤ 100 → fits_message m ≡ true
unfolding fits_message
fit m small shallow = and_from _ _ (le-leb _ _ small) (le-leb _ _ shallow)

pub too_large : (m : AgentToServer) → most_bytes < length (canonical_report m) → fits_message m ≡ false
unfolding fits_message
too_large m large = and_left _ _ (lt-leb _ _ large)

pub too_deep : (m : AgentToServer) → 100 < report_levels m → fits_message m ≡ false
unfolding fits_message
too_deep m deep = and_right _ _ (lt-leb _ _ deep)
