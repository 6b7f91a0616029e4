use Rattle.agent_store.proofs.Returning.{fits-store, bytes-made}
use Rattle.agent_store.proofs.laws.bytes_tell_store.Goals as goal

pub returns-clause-store : goal.returns-clause-store
returns-clause-store c = fits-store

pub returns-clause-bytes : goal.returns-clause-bytes
returns-clause-bytes c = bytes-made
