-- What a read of the protocol is where the stream gives nothing.
use Rattle.std.proofs.Common.{◌≡◌, refl, sym, ap, subst, ◌∙◌, inl, [], true, Err}
use Rattle.std.proofs.lemmas.List.{append-nil}
use Rattle.tungstenite.specs.Failure.{IsIo, IsOutside}
use Rattle.tungstenite.specs.Socket.{Reads, Socket}
use Rattle.tungstenite.specs.declared.error.Error.{Error}
use Rattle.edge_websocket.specs.Pipes.{PipeState, is_drained, waiting_of}
use Rattle.edge_websocket.specs.Received.{Receives, caused_by}
use Rattle.edge_websocket.specs.declared.ws_socket.Received.{Received}

-- It takes nothing, and fails as the stream does.
reads_nothing : (socket : Socket PipeState) (error : Error) → IsIo error → IsOutside error → Reads waiting_of socket socket (Err error)
reads_nothing socket error io outside = (
  [],
  [],
  socket.conn,
  socket.input,
  [],
  (refl, sym (append-nil socket.input)),
  (
    tt,
    inl outside,
    (λ _. (refl, refl, refl)),
    (λ is _. absurd (subst IsIo is io)),
    (λ _ _. refl),
    (λ is. absurd (subst IsIo is io)),
    inl outside,
  ),
)

pub rests : (socket : Socket PipeState) (error : Error) (given : Received) → IsIo error → IsOutside error → is_drained socket.stream ≡ true → given ≡ caused_by error true → Receives socket socket given
rests socket error given io outside drained caused =
    (Err error, reads_nothing socket error io outside, caused ∙ ap (caused_by error) (sym drained))
