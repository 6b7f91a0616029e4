use Rattle.std.proofs.Common.{refl, sym, false}
use Rattle.server_sessions.specs.Reports.{host_of}
use Rattle.server_sessions.proofs.EndLemmas.{same_number, same_stop}
use Rattle.server_sessions.proofs.laws.runs_have_one_ending.Goals as goal

pub returns-clause-number : goal.returns-clause-number
returns-clause-number g c = λ n m old new desk a b stop other told p q. same_number (host_of (λ b. (goal.Handler-dyn g b).answers b.1) c.args.server.now.profile c.args.handlers.now) n m old new new desk a b stop other told p q refl

pub returns-clause-stop : goal.returns-clause-stop
returns-clause-stop g c = λ n m old new desk a b told p q. same_stop (host_of (λ b. (goal.Handler-dyn g b).answers b.1) c.args.server.now.profile c.args.handlers.now) c.one_order_a_line.ensures.one n m old new new desk a b told p q refl

pub returns-clause-failed : goal.returns-clause-failed
returns-clause-failed g c = λ n m old new desk a b stop told p q. same_number (host_of (λ b. (goal.Handler-dyn g b).answers b.1) c.args.server.now.profile c.args.handlers.now) n m old p.mid new desk a b false stop told p.served q (sym p.failed.untold)
