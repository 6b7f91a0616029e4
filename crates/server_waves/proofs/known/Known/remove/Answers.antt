use Rattle.std.proofs.Common.{◌∙◌, ap, cond, false}
use Rattle.std.specs.Str.{bytes_eq}
use Rattle.server_core.specs.History.{is_among}
use Rattle.server_waves.proofs.Indexing.{among_removed}
use Rattle.server_waves.proofs.known.Known.remove.Goals as goal

pub returns : goal.returns
returns c = record {
  removed = λ u.
      among_removed c.bytes_of.result c.self.inside.uids.keys c.remove.new.self.keys (λ q. c.remove.ensures.updates.0 q) u
      ∙ ap (λ k. cond (bytes_eq k u) false (is_among c.self.inside.uids.keys u)) c.bytes_of.ensures.bytes
      ∙ ap (λ keys. cond (bytes_eq c.args.uid.now u) false (is_among keys u)) c.self.view_is;
}
