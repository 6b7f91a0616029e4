use Rattle.std.proofs.Common.{ap, refl}
use Rattle.world_lab.specs.Storming.{is_asked, is_delta, is_full, is_plain, is_sent, is_taken}
use Rattle.world_lab.proofs.Counts.{counts_more, few_events, few_of, more_of}
use Rattle.world_lab.proofs.storming.with_line.Goals as goal

pub returns : goal.returns
returns c =
    let all = c.requires.few.0 in
    let few = c.requires.few.1 in
    let are = c.requires.few.2 in
    let s = c.args.summary in
    record {
      counts = λ lines was. counts_more lines c.args.line.now s _ was (record {
        events = c.more-events.ensures.more (few_events all s few are);
        sent = more_of s.sent _ _ _ (c.more-sent.ensures.more (few_of is_sent all s.sent few (ap (λ x. x.sent) are))) c.is_sent.ensures.sent;
        deltas = more_of s.deltas _ _ _ (c.more-deltas.ensures.more (few_of is_delta all s.deltas few (ap (λ x. x.deltas) are))) c.is_delta.ensures.delta;
        takes = more_of s.takes _ _ _ (c.more-takes.ensures.more (few_of is_taken all s.takes few (ap (λ x. x.takes) are))) c.is_taken.ensures.taken;
        asks = more_of s.asks _ _ _ (c.more-asks.ensures.more (few_of is_asked all s.asks few (ap (λ x. x.asks) are))) c.is_asked.ensures.asked;
        plain = more_of s.plain _ _ _ (c.more-plain.ensures.more (few_of is_plain all s.plain few (ap (λ x. x.plain) are))) c.is_plain.ensures.plain;
        full = more_of s.full _ _ _ (c.more-full.ensures.more (few_of is_full all s.full few (ap (λ x. x.full) are))) c.is_full.ensures.full;
        number = refl;
      });
    }
