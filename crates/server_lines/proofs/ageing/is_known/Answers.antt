use Rattle.std.proofs.Common.{◌∙◌}
use Rattle.server_lines.proofs.SightLemmas.{found_where_known}
use Rattle.server_lines.proofs.ageing.is_known.Goals as goal

pub returns : goal.returns
returns g c = record { known = c.contains_key.ensures ∙ found_where_known c.args.known.now.entries c.args.conn }
