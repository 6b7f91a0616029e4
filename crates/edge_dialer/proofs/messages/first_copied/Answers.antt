use Rattle.std.proofs.Common.{ℕ, List, Option, sym, subst}
use Rattle.std.specs.Prelude.{IfSome}
use Rattle.edge_dialer.specs.Messages.{TakesBinary}
use Rattle.edge_dialer.proofs.messages.first_copied.Goals as goal

pub returns-in_ok-copied-in-Some-clause-binary : goal.returns-in_ok-copied-in-Some-clause-binary
returns-in_ok-copied-in-Some-clause-binary g c =
    let Takes = TakesBinary g.S.Read.remaining c.args.socket.now c.first_binary.new.socket in
    subst Takes (sym c.in_ok-copied-in-Some.ensures.same) (subst (λ (came : Option (List ℕ)). IfSome came Takes) c.in-Some.is c.in_ok-payload.ensures.binary)
