use Rattle.server_deliveries.proofs.deliveries.serve_delivering.Goals as goal

pub serve_noting-requires : goal.serve_noting-requires
serve_noting-requires g c = record { fits = ((λ hash uid there isnt. absurd (cc (c.add_everyone.ensures.all uid, isnt))), c.reach_nobody.ensures.known) }

pub returns-clause-ends : goal.returns-clause-ends
returns-clause-ends g c = rw c.reach_nobody.ensures.routes at c.serve_noting.ensures.ends

pub returns-clause-journals : goal.returns-clause-journals
returns-clause-journals g c = rw c.reach_nobody.ensures.routes at c.serve_noting.ensures.journals
