use Rattle.std.proofs.Common.{◌≡◌, ℕ, ◌+◌, ◌-◌, take, drop, sym, ◌∙◌, ap, arith}
use Rattle.agent_store.specs.Log.{size_at}
use Rattle.agent_store.proofs.Logs.{size-read, change-read}
use Rattle.agent_store.proofs.log.change_of.Goals as goal

pub returns-then-size-log-clause-none : goal.returns-then-size-log-clause-none
returns-then-size-log-clause-none c = λ image start has.
    let log = c.args.log.now in
    let width : c.args.at + 5 - (c.args.at + 1) ≡ 4 = omega arith in
    let part : c.copy_from_slice.new.self ≡ take 4 (drop (c.args.at + 1) log) = c.copy_from_slice.ensures.after ∙ ap (λ (n : ℕ). take n (drop (c.args.at + 1) log)) width in
    let size : c.from_le_bytes-size.result ≡ size_at image (start + c.args.at) = c.from_le_bytes-size.ensures ∙ size-read image start c.args.at log c.copy_from_slice.new.self c.requires.room has part in
    omega (arith, size, c.if-size-log.true)

pub returns-clause-some : goal.returns-clause-some
returns-clause-some c = λ image start has.
    let log = c.args.log.now in
    let width : c.args.at + 5 - (c.args.at + 1) ≡ 4 = omega arith in
    let part : c.copy_from_slice.new.self ≡ take 4 (drop (c.args.at + 1) log) = c.copy_from_slice.ensures.after ∙ ap (λ (n : ℕ). take n (drop (c.args.at + 1) log)) width in
    let size : c.from_le_bytes-size.result ≡ size_at image (start + c.args.at) = c.from_le_bytes-size.ensures ∙ size-read image start c.args.at log c.copy_from_slice.new.self c.requires.room has part in
    let wide : c.args.at + 5 + c.from_le_bytes-size.result - (c.args.at + 5) ≡ c.from_le_bytes-size.result = omega arith in
    change-read image start c.args.at c.from_le_bytes-size.result log (take (c.args.at + 5 + c.from_le_bytes-size.result - (c.args.at + 5)) (drop (c.args.at + 5) log)) (omega (arith, c.if-size-log.false)) has (sym size) (ap (λ (n : ℕ). take n (drop (c.args.at + 5) log)) wide)
