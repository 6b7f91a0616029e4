use Rattle.std.proofs.Common.{◌≡◌, ◌<◌, ◌≤◌, Some, length, subst, arith}
use Rattle.std.specs.Prelude.{position}
use Rattle.std.specs.Str.{bytes_eq}
use Rattle.std.proofs.lemmas.Grind.{common_steps}
use Rattle.message_handlers.proofs.Asking.{handled}
use Rattle.message_handlers.proofs.stored.Handlers.handle.Goals as goal

pub returns : goal.returns
returns g c =
    let within : c.in-Some.at < length c.args.self.now.handlers.items = grind (arith, common_steps) in
    let short : length c.args.message.now.body ≤ 65536 = grind (arith, common_steps) in
    let place = subst (λ names. Some c.in-Some.at ≡ position (λ name. bytes_eq name c.args.message.now.capability) names) c.as_slice.ensures.value c.in-Some.ensures.place in
    record {
      answered = handled _ c.args.self.now.names.items c.args.self.now.handlers.items c.args.message.now c.in-Some.at c.index.result.now c.ask.result place within c.index.ensures short c.ask.ensures.answered;
    }
