use Rattle.std.proofs.Common.{sym, ◌∙◌}
use Rattle.shard_servers.proofs.shards.open_shards.Goals as goal

pub returns-clause-parts : goal.returns-clause-parts
returns-clause-parts g c = record {
  first = c.open_shard-first.ensures.parts ∙ sym c.requires.first.1 ∙ c.requires.parts.first;
  second = c.open_shard-second.ensures.parts ∙ sym c.requires.second.1 ∙ c.requires.parts.second;
  third = c.open_shard-third.ensures.parts ∙ sym c.requires.third.1 ∙ c.requires.parts.third;
  fourth = c.open_shard-fourth.ensures.parts ∙ sym c.requires.fourth.1 ∙ c.requires.parts.fourth;
}
