use Rattle.std.proofs.Common.{ap, ◌∙◌, sym, map-id}
use lib.Utf8.{encodes}
use Rattle.std.proofs.lemmas.Iterator.{YieldsList-from_chars}
use Rattle.std.proofs.lemmas.Iterator.Consumers.{YieldsList-end}
use Rattle.std.proofs.lemmas.Str.{encodes-chars}
use Rattle.std.specs.String.{string_bytes}
use Rattle.message_texts.proofs.Quotes.{quoted_more, quoted_whole}
use Rattle.message_texts.proofs.quoting.quote.Goals as goal

pub loop-c-preserved : goal.loop-c-preserved
loop-c-preserved c = quoted_more c.loop-c.yielded c.in-Some.c (string_bytes c.loop-c.quoted) (string_bytes c.push_quoted.new.quoted) c.loop-c.invariant c.in_ok-push_quoted.ensures.ok

pub returns : goal.returns
returns c =
    let end = YieldsList-end (YieldsList-from_chars c.args.text.now c.utf8.text cc) c.loop-c.yielded _ c.loop-c.yielded_by _ _ c.in-None.is c.next.ensures.steps in
    let all = ap encodes (sym (map-id c.loop-c.yielded) ∙ end.0) ∙ encodes-chars c.args.text.now c.utf8.text in
    record { quoted = c.of.ensures.value ∙ quoted_whole c.loop-c.yielded c.args.text.now (string_bytes c.loop-c.quoted) (string_bytes c.push.new.self) c.loop-c.invariant all c.in_ok-push.ensures.bytes }
