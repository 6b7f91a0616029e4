use Rattle.std.proofs.Common.{sym, subst}
use Rattle.message_codec.specs.Tables as tables
use Rattle.message_codec.specs.Values.{Values}
use Rattle.message_codec.specs.Means.{Means}
use Rattle.message_reports.proofs.report_reader.end_of_pieces.Goals as goal

pub end-requires : goal.end-requires
end-requires c = record { fed = record { root = tables.AgentToServer; bytes = c.requires.fed.bytes; fed = c.requires.fed.fed } }

pub report_of-requires : goal.report_of-requires
report_of-requires c =
    let m = c.in_ok-part.ensures.means tables.AgentToServer c.requires.fed.bytes c.requires.fed.fed in
    record { report = m.0 }

pub returns-clause-means : goal.returns-clause-means
returns-clause-means c bytes h =
    let m = c.in_ok-part.ensures.means tables.AgentToServer bytes h in
    rw c.replace-old.ensures.after (m.1, subst (λ (vs : Values). Means 100 tables.AgentToServer bytes vs) (sym c.report_of.ensures.columns) m.2)
