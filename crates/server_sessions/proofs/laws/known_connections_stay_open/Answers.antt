use Rattle.server_sessions.proofs.OpenLemmas.{forgotten_open, given_open, lost_open, sent_open}
use Rattle.server_sessions.proofs.laws.known_connections_stay_open.Goals as goal

pub returns-clause-given : goal.returns-clause-given
returns-clause-given c = given_open

pub returns-clause-sent : goal.returns-clause-sent
returns-clause-sent c = sent_open

pub returns-clause-lost : goal.returns-clause-lost
returns-clause-lost c = lost_open

pub returns-clause-forgotten : goal.returns-clause-forgotten
returns-clause-forgotten c = forgotten_open
