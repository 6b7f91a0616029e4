use Rattle.std.proofs.Common.{◌≡◌, Bool, Err, subst, ap, sym, ◌∙◌}
use Rattle.tungstenite.specs.Socket.{Reads, Socket}
use Rattle.tungstenite.specs.declared.error.Error.{Error}
use Rattle.edge_websocket.specs.Pipes.{PipeState, is_drained, waiting_of}
use Rattle.edge_websocket.specs.Received.{Receives, caused_by}
use Rattle.edge_websocket.specs.declared.ws_socket.Received.{Received}
use Rattle.edge_websocket.proofs.Resting.{rests}
use Rattle.edge_websocket.proofs.ws_socket.WsSocket.receive.Goals as goal

failed : (inside old new : Socket PipeState) (error : Error) (drained : Bool) (given : Received) → inside ≡ old
    → Reads waiting_of inside new (Err error) → given ≡ caused_by error drained → drained ≡ is_drained new.stream → Receives old new given
failed inside old new error drained given same made caused is =
    (Err error, subst (λ at. Reads waiting_of at new (Err error)) same made, caused ∙ ap (caused_by error) is)

pub returns-in-Err-clause-read : goal.returns-in-Err-clause-read
returns-in-Err-clause-read c =
    failed c.self.inside.framed c.args.self.now c.read.new.self c.in-Err.error _ _ c.self.view_is c.in-Err.ensures c.cause-in-Err.ensures.cause c.is_drained-in-Err.ensures.drained

pub returns-then-is_drained-clause-read : goal.returns-then-is_drained-clause-read
returns-then-is_drained-clause-read c =
    rests c.args.self.now _ _ c.would_block-nothing.ensures.io c.would_block-nothing.ensures.fails (sym c.is_drained.ensures.drained ∙ c.if-is_drained.true) c.cause.ensures.cause
