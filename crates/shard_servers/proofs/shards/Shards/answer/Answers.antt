use Rattle.std.proofs.Common.{◌≡◌, ℕ, ◌+◌, OnOk, refl, arith}
use Rattle.std.specs.Prelude.{Result, Ok, Err}
use Rattle.std.proofs.lemmas.Result.{on_err_weaker}
use Rattle.shard_servers.proofs.shards.Shards.answer.Goals as goal

-- the share of another shard counts nothing
same_amount : {T E : Type 0} (r : Result T E) (amount : ℕ) → OnOk r (amount ≡ amount + 0)
same_amount (Ok x) amount = omega arith
same_amount (Err e) amount = tt

pub handle_locked-requires-clause-part : goal.handle_locked-requires-clause-part
handle_locked-requires-clause-part g c = c.requires.parts.0

pub handle_locked-requires-clause-copied : goal.handle_locked-requires-clause-copied
handle_locked-requires-clause-copied g c = c.requires.copied

pub returns-in-0-clause-answer : goal.returns-in-0-clause-answer
returns-in-0-clause-answer g c = c.handle_locked.ensures.answer

pub returns-in-0-clause-reply : goal.returns-in-0-clause-reply
returns-in-0-clause-reply g c = c.handle_locked.ensures.reply

pub returns-in-0-clause-first : goal.returns-in-0-clause-first
returns-in-0-clause-first g c = rw c.in-0.is c.handle_locked.ensures.amount

pub returns-in-0-clause-second : goal.returns-in-0-clause-second
returns-in-0-clause-second g c = rw c.in-0.is (same_amount c.handle_locked.result c.args.second.now.amount)

pub returns-in-0-clause-third : goal.returns-in-0-clause-third
returns-in-0-clause-third g c = rw c.in-0.is (same_amount c.handle_locked.result c.args.third.now.amount)

pub returns-in-0-clause-fourth : goal.returns-in-0-clause-fourth
returns-in-0-clause-fourth g c = rw c.in-0.is (same_amount c.handle_locked.result c.args.fourth.now.amount)

pub returns-in-0-clause-parts : goal.returns-in-0-clause-parts
returns-in-0-clause-parts g c = (c.handle_locked.ensures.parts, refl, refl, refl)

pub returns-in-0-clause-err : goal.returns-in-0-clause-err
returns-in-0-clause-err g c = on_err_weaker c.handle_locked.result (λ same. (same, refl, refl, refl)) c.handle_locked.ensures.err

pub handle_locked-requires-in-1-clause-part : goal.handle_locked-requires-in-1-clause-part
handle_locked-requires-in-1-clause-part g c = c.requires.parts.1

pub handle_locked-requires-in-1-clause-copied : goal.handle_locked-requires-in-1-clause-copied
handle_locked-requires-in-1-clause-copied g c = c.requires.copied

pub returns-in-1-clause-answer : goal.returns-in-1-clause-answer
returns-in-1-clause-answer g c = c.handle_locked-in-1.ensures.answer

pub returns-in-1-clause-reply : goal.returns-in-1-clause-reply
returns-in-1-clause-reply g c = c.handle_locked-in-1.ensures.reply

pub returns-in-1-clause-first : goal.returns-in-1-clause-first
returns-in-1-clause-first g c = rw c.in-1.is (same_amount c.handle_locked-in-1.result c.args.first.now.amount)

pub returns-in-1-clause-second : goal.returns-in-1-clause-second
returns-in-1-clause-second g c = rw c.in-1.is c.handle_locked-in-1.ensures.amount

pub returns-in-1-clause-third : goal.returns-in-1-clause-third
returns-in-1-clause-third g c = rw c.in-1.is (same_amount c.handle_locked-in-1.result c.args.third.now.amount)

pub returns-in-1-clause-fourth : goal.returns-in-1-clause-fourth
returns-in-1-clause-fourth g c = rw c.in-1.is (same_amount c.handle_locked-in-1.result c.args.fourth.now.amount)

pub returns-in-1-clause-parts : goal.returns-in-1-clause-parts
returns-in-1-clause-parts g c = (refl, c.handle_locked-in-1.ensures.parts, refl, refl)

pub returns-in-1-clause-err : goal.returns-in-1-clause-err
returns-in-1-clause-err g c = on_err_weaker c.handle_locked-in-1.result (λ same. (refl, same, refl, refl)) c.handle_locked-in-1.ensures.err

pub handle_locked-requires-in-2-clause-part : goal.handle_locked-requires-in-2-clause-part
handle_locked-requires-in-2-clause-part g c = c.requires.parts.2

pub handle_locked-requires-in-2-clause-copied : goal.handle_locked-requires-in-2-clause-copied
handle_locked-requires-in-2-clause-copied g c = c.requires.copied

pub returns-in-2-clause-answer : goal.returns-in-2-clause-answer
returns-in-2-clause-answer g c = c.handle_locked-in-2.ensures.answer

pub returns-in-2-clause-reply : goal.returns-in-2-clause-reply
returns-in-2-clause-reply g c = c.handle_locked-in-2.ensures.reply

pub returns-in-2-clause-first : goal.returns-in-2-clause-first
returns-in-2-clause-first g c = rw c.in-2.is (same_amount c.handle_locked-in-2.result c.args.first.now.amount)

pub returns-in-2-clause-second : goal.returns-in-2-clause-second
returns-in-2-clause-second g c = rw c.in-2.is (same_amount c.handle_locked-in-2.result c.args.second.now.amount)

pub returns-in-2-clause-third : goal.returns-in-2-clause-third
returns-in-2-clause-third g c = rw c.in-2.is c.handle_locked-in-2.ensures.amount

pub returns-in-2-clause-fourth : goal.returns-in-2-clause-fourth
returns-in-2-clause-fourth g c = rw c.in-2.is (same_amount c.handle_locked-in-2.result c.args.fourth.now.amount)

pub returns-in-2-clause-parts : goal.returns-in-2-clause-parts
returns-in-2-clause-parts g c = (refl, refl, c.handle_locked-in-2.ensures.parts, refl)

pub returns-in-2-clause-err : goal.returns-in-2-clause-err
returns-in-2-clause-err g c = on_err_weaker c.handle_locked-in-2.result (λ same. (refl, refl, same, refl)) c.handle_locked-in-2.ensures.err

pub handle_locked-requires-in_default-clause-part : goal.handle_locked-requires-in_default-clause-part
handle_locked-requires-in_default-clause-part g c = c.requires.parts.3

pub handle_locked-requires-in_default-clause-copied : goal.handle_locked-requires-in_default-clause-copied
handle_locked-requires-in_default-clause-copied g c = c.requires.copied

pub returns-in_default-clause-answer : goal.returns-in_default-clause-answer
returns-in_default-clause-answer g c = c.handle_locked-in_default.ensures.answer

pub returns-in_default-clause-reply : goal.returns-in_default-clause-reply
returns-in_default-clause-reply g c = c.handle_locked-in_default.ensures.reply

pub returns-in_default-clause-first : goal.returns-in_default-clause-first
returns-in_default-clause-first g c =
    let is : c.args.shard ≡ 3 = omega arith in
    rw is (same_amount c.handle_locked-in_default.result c.args.first.now.amount)

pub returns-in_default-clause-second : goal.returns-in_default-clause-second
returns-in_default-clause-second g c =
    let is : c.args.shard ≡ 3 = omega arith in
    rw is (same_amount c.handle_locked-in_default.result c.args.second.now.amount)

pub returns-in_default-clause-third : goal.returns-in_default-clause-third
returns-in_default-clause-third g c =
    let is : c.args.shard ≡ 3 = omega arith in
    rw is (same_amount c.handle_locked-in_default.result c.args.third.now.amount)

pub returns-in_default-clause-fourth : goal.returns-in_default-clause-fourth
returns-in_default-clause-fourth g c =
    let is : c.args.shard ≡ 3 = omega arith in
    rw is c.handle_locked-in_default.ensures.amount

pub returns-in_default-clause-parts : goal.returns-in_default-clause-parts
returns-in_default-clause-parts g c = (refl, refl, refl, c.handle_locked-in_default.ensures.parts)

pub returns-in_default-clause-err : goal.returns-in_default-clause-err
returns-in_default-clause-err g c = on_err_weaker c.handle_locked-in_default.result (λ same. (refl, refl, refl, same)) c.handle_locked-in_default.ensures.err
