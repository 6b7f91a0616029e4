use Rattle.std.proofs.Common.{◌≡◌, ◌∙◌, ◌<◌, ◌^◌, ℕ, Bool, true, false, refl, sym, arith, length, nat_le}
use Rattle.std.proofs.lemmas.Bool.{leb-true}
use Rattle.std.proofs.lemmas.Bool.Decides.{nat_tests}
use Rattle.message_codec.specs.Canonical.{capped}
use Rattle.message_values.specs.declared.reply.ServerToAgent.{ServerToAgent}
use Rattle.message_replies.specs.Canonical.{canonical_reply}
use Rattle.server_core.specs.declared.replies.TheConstants.{MESSAGE_LIMIT}
use Rattle.server_core.specs.Lengths.{fits_reply}
use Rattle.server_sessions.proofs.answers.replying.fits.Goals as goal

-- a reply's counted length passes a limit exactly where its canonical bytes do
counted_fits : (r : ServerToAgent) (len most : ℕ) → len ≡ capped (canonical_reply r) → most < 2 ^ 62 → nat_le len most ≡ nat_le (length (canonical_reply r)) most
unfolding capped
counted_fits r len most e small = either (nat_le (length (canonical_reply r)) most) refl
  where
    either : (b : Bool) → nat_le (length (canonical_reply r)) most ≡ b → nat_le len most ≡ b
    either true h = grind (arith, nat_tests)
    either false h = grind (arith, nat_tests)

pub returns-clause-fits : goal.returns-clause-fits
unfolding fits_reply
returns-clause-fits c = counted_fits c.args.reply.now c.reply_len.result MESSAGE_LIMIT c.reply_len.ensures.counts (omega arith)

pub returns-clause-short : goal.returns-clause-short
returns-clause-short c few =
    let same : nat_le c.reply_len.result MESSAGE_LIMIT ≡ nat_le (length (canonical_reply c.args.reply.now)) MESSAGE_LIMIT =
    counted_fits c.args.reply.now c.reply_len.result MESSAGE_LIMIT c.reply_len.ensures.counts (omega arith) in
    leb-true (length (canonical_reply c.args.reply.now)) MESSAGE_LIMIT (sym same ∙ few)
