use Rattle.std.proofs.Common.{ℕ, List, subst, OnErr}
use Rattle.httparse.specs.Grammar.{ChunkLine, HasNoChunkLine, NeverHasChunkLine, MayBecomeChunkLine}
use Rattle.httparse.specs.Spans.{IsChunkLineAt}
use Rattle.httparse.proofs.HeadLemmas.{at_complete, on_partial}
use Rattle.edge_heads.proofs.Cuts.{size-found, size-begun, size-long, size-never}
use Rattle.edge_heads.proofs.chunks.size_line.Goals as goal

pub returns-in-Ok-Complete : goal.returns-in-Ok-Complete
returns-in-Ok-Complete c =
    let part = c.first_part.result.now in
    let x = at_complete (λ (r : ℕ × ℕ). (l : ChunkLine) × IsChunkLineAt part r.0 r.1 l) c.in-Ok-Complete.is c.in-Ok-Complete.field-0-is c.parse_chunk_size.ensures.complete in
    record {
      found = size-found c.args.bytes.now c.in-Ok-Complete.found.0 c.in-Ok-Complete.found.1 x.0
          (subst (λ (t : List ℕ). IsChunkLineAt t c.in-Ok-Complete.found.0 c.in-Ok-Complete.found.1 x.0) c.first_part.ensures x.1);
    }

pub returns-then-bytes-lt-HEAD_LIMIT : goal.returns-then-bytes-lt-HEAD_LIMIT
returns-then-bytes-lt-HEAD_LIMIT c = record {
  found = size-begun c.args.bytes.now c.if-bytes-lt-HEAD_LIMIT.true
      (subst HasNoChunkLine c.first_part.ensures (on_partial c.in-Ok-Partial.is c.in-Ok-Partial.field-0-is c.parse_chunk_size.ensures.partial))
      (subst MayBecomeChunkLine c.first_part.ensures (on_partial c.in-Ok-Partial.is c.in-Ok-Partial.field-0-is c.parse_chunk_size.ensures.unfinished));
}

pub returns-else-bytes-lt-HEAD_LIMIT : goal.returns-else-bytes-lt-HEAD_LIMIT
returns-else-bytes-lt-HEAD_LIMIT c = record {
  found = size-long c.args.bytes.now c.if-bytes-lt-HEAD_LIMIT.false
      (subst HasNoChunkLine c.first_part.ensures (on_partial c.in-Ok-Partial.is c.in-Ok-Partial.field-0-is c.parse_chunk_size.ensures.partial));
}

pub returns-in-Err : goal.returns-in-Err
returns-in-Err c = record {
  found = size-never c.args.bytes.now (subst NeverHasChunkLine c.first_part.ensures
      (subst (λ r. OnErr r (NeverHasChunkLine c.first_part.result.now)) c.in-Err.is c.parse_chunk_size.ensures.invalid));
}
