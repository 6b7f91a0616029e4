use Rattle.std.proofs.Common.{◌∙◌, ap}
use Rattle.server_core.specs.History.{is_among}
use Rattle.server_waves.proofs.Indexing.{among_by_order}
use Rattle.server_waves.proofs.known.Known.contains.Goals as goal

pub returns : goal.returns
returns c = record {
  among = c.contains.ensures ∙ among_by_order c.bytes_of.result c.self.inside.uids.keys
      ∙ ap (is_among c.self.inside.uids.keys) c.bytes_of.ensures.bytes ∙ ap (λ keys. is_among keys c.args.uid.now) c.self.view_is;
}
