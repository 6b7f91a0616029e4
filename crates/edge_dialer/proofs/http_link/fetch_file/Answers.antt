use Rattle.std.proofs.Common.{◌∙◌}
use Rattle.edge_http.specs.Writing.{get_text}
use Rattle.edge_dialer.proofs.Somewhere.{fetched-somewhere}
use Rattle.edge_dialer.proofs.http_link.fetch_file.Goals as goal

pub returns : goal.returns
returns g c = record {
  fetched = fetched-somewhere c.allow.new.stream c.fetch_over.new.stream (λ timed. g.R.Stream.Write.contents timed.stream)
      (λ timed. g.R.Stream.Read.remaining timed.stream) c.as_slice.result.now (get_text c.args.from.now) c.fetch_over.result c.fetch_over.ensures.fetched
      (c.as_slice.ensures.value ∙ c.in_ok-request.ensures.written);
}
