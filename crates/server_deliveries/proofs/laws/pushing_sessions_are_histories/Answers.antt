use Rattle.server_deliveries.proofs.laws.pushing_sessions_are_histories.Goals as goal

pub returns : goal.returns
returns g c = record { session = λ limit history events old new stop is session. c.all_sessions_are_histories.ensures.session limit history events old new stop is session }
