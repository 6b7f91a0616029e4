use Rattle.std.proofs.lemmas.Result.{IfOk-from_err}
use Rattle.edge_heads.proofs.heads.head_of.Goals as goal

pub returns : goal.returns
returns c =
    λ i. record {
      method = c.in_ok-blob_of.ensures i;
      target = c.in_ok-blob_of-2.ensures i;
      status = c.args.status;
      protobuf = c.any_value.ensures i;
      coded = c.any_value-2.ensures i;
      close = c.is_closing.ensures i;
    }

pub returns-in_err-blob_of : goal.returns-in_err-blob_of
returns-in_err-blob_of c = IfOk-from_err _ _ c.from_residual.ensures.0

pub returns-in_err-blob_of-2 : goal.returns-in_err-blob_of-2
returns-in_err-blob_of-2 c = IfOk-from_err _ _ c.from_residual-in_err-blob_of-2.ensures.0
