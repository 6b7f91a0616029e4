use Rattle.std.proofs.Common.{◌∙◌, ap, ◌||◌}
use Rattle.std.specs.Str.{bytes_eq}
use Rattle.server_core.specs.History.{is_among}
use Rattle.server_waves.proofs.Indexing.{among_with_key}
use Rattle.server_waves.proofs.known.Known.insert.Goals as goal

pub returns-clause-added : goal.returns-clause-added
returns-clause-added c = λ u.
    ap (λ keys. is_among keys u) c.in_ok-insert.ensures.keys ∙ among_with_key c.self.inside.uids.keys c.bytes_of.result u
    ∙ ap (λ k. bytes_eq k u || is_among c.self.inside.uids.keys u) c.bytes_of.ensures.bytes ∙ ap (λ keys. bytes_eq c.args.uid.now u || is_among keys u) c.self.view_is
