use Rattle.std.proofs.Common.{subst, sym, []}
use Rattle.edge_heads.specs.declared.values.Side.TheVariants.{Responses}
use Rattle.edge_http.specs.Readers.{ReaderState, HasRead}
use Rattle.edge_http.proofs.Feeding.{nothing-read}
use Rattle.edge_http.proofs.part_reader.PartReader.packages.Goals as goal

pub returns-clause-nothing : goal.returns-clause-nothing
returns-clause-nothing c = subst (λ (r : ReaderState). HasRead r [] []) (sym c.with_limit.ensures) (nothing-read Responses 16777216)
