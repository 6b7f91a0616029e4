use Rattle.std.proofs.Common.{sym, ◌∙◌}
use Rattle.shard_servers.proofs.shards.Shards.new.Goals as goal

pub open_shards-shards-requires : goal.open_shards-shards-requires
open_shards-shards-requires g c = record {
  first = (c.requires.first.0, c.requires.first.1);
  second = (c.requires.second.0, c.requires.second.1);
  third = (c.requires.third.0, c.requires.third.1);
  fourth = (c.requires.fourth.0, c.requires.fourth.1);
  parts = record { first = c.requires.first.2; second = c.requires.second.2; third = c.requires.third.2; fourth = c.requires.fourth.2 };
}

pub deal-requires : goal.deal-requires
deal-requires g c = record { desks = c.requires.desks; parts = c.open_shards-shards.ensures.parts; amounts = c.open_shards-shards.ensures.amounts }

pub returns : goal.returns
returns g c =
    let made = c.in_ok-made.ensures in
    record {
      count = made.count;
      fresh = made.fresh;
      first = made.dealt.first ∙ sym c.requires.first.2 ∙ c.requires.first.1;
      second = made.dealt.second ∙ sym c.requires.second.2 ∙ c.requires.second.1;
      third = made.dealt.third ∙ sym c.requires.third.2 ∙ c.requires.third.1;
      fourth = made.dealt.fourth ∙ sym c.requires.fourth.2 ∙ c.requires.fourth.1;
    }
