use Rattle.std.proofs.Common.{ℕ, ◌<◌, ◌≤◌, List, sym, ◌∙◌, take, subst, arith}
use Rattle.std.proofs.lemmas.Bool.{false≢true}
use Rattle.edge_heads.specs.declared.TheConstants.{HEAD_LIMIT}
use Rattle.edge_heads.specs.declared.heads.Parsed.{Parsed}
use Rattle.edge_heads.specs.Heads.{IsNoHead}
use Rattle.edge_heads.specs.Parsing.{ParsedIs}
use Rattle.edge_heads.proofs.Parsers.{found, begun, part-length}
use Rattle.edge_heads.proofs.heads.read_head.Goals as goal

pub returns-in-Whole-clause-found : goal.returns-in-Whole-clause-found
returns-in-Whole-clause-found c =
    let bytes = c.args.bytes.now in
    let e = c.head_end-limit.result.end in
    let x = subst (λ (p : Parsed). ParsedIs c.args.side (take e bytes) p) c.in-Whole.is c.in_ok-head.ensures in
    found c.args.side bytes e c.in-Whole.head c.in-Whole.form c.in-Whole.len c.head_end-limit.ensures.within c.head_end-limit.ensures.least x

pub returns-in-Never-clause-fails : goal.returns-in-Never-clause-fails
returns-in-Never-clause-fails c =
    let bytes = c.args.bytes.now in
    let e = c.head_end-limit.result.end in
    let x = subst (λ (p : Parsed). ParsedIs c.args.side (take e bytes) p) c.in-Never.is c.in_ok-head.ensures in
    subst (λ (t : List ℕ). IsNoHead c.args.side t) c.head_end-limit.ensures.part x

pub returns-then-limit-eq-HEAD_LIMIT-clause-fails : goal.returns-then-limit-eq-HEAD_LIMIT-clause-fails
returns-then-limit-eq-HEAD_LIMIT-clause-fails c =
    let bytes = c.args.bytes.now in
    let e = c.head_end-limit.result.end in
    let x = subst (λ (p : Parsed). ParsedIs c.args.side (take e bytes) p) c.in-Unfinished.is c.in_ok-head.ensures in (
      begun c.args.side bytes e c.head_end-limit.ensures.part x,
      part-length bytes e c.head_end-limit.ensures.within c.head_end-limit.ensures.part ∙ c.if-limit-eq-HEAD_LIMIT.true,
    )

pub returns-then-limit-clause-fails : goal.returns-then-limit-clause-fails
returns-then-limit-clause-fails c =
    let bytes = c.args.bytes.now in
    let e = c.head_end-limit.result.end in
    let x = subst (λ (p : Parsed). ParsedIs c.args.side (take e bytes) p) c.in-Unfinished.is c.in_ok-head.ensures in
    let len = part-length bytes e c.head_end-limit.ensures.within c.head_end-limit.ensures.part in
    let least : e ≤ HEAD_LIMIT = c.head_end-limit.ensures.least in
    let other = c.if-limit-eq-HEAD_LIMIT.false in
    let below : e < HEAD_LIMIT = omega arith in
    (begun c.args.side bytes e c.head_end-limit.ensures.part x, omega arith, (c.head_end-limit.ensures.lines below).0 c.if-limit.true)

pub returns-else-limit-clause-found : goal.returns-else-limit-clause-found
returns-else-limit-clause-found c =
    let bytes = c.args.bytes.now in
    let e = c.head_end-limit.result.end in
    let x = subst (λ (p : Parsed). ParsedIs c.args.side (take e bytes) p) c.in-Unfinished.is c.in_ok-head.ensures in
    let len = part-length bytes e c.head_end-limit.ensures.within c.head_end-limit.ensures.part in
    let least : e ≤ HEAD_LIMIT = c.head_end-limit.ensures.least in
    let other = c.if-limit-eq-HEAD_LIMIT.false in
    let below : e < HEAD_LIMIT = omega arith in
    record {
      begun = begun c.args.side bytes e c.head_end-limit.ensures.part x;
      short = omega arith;
      lines = λ all. false≢true (sym c.if-limit.false ∙ (c.head_end-limit.ensures.lines below).1 all);
    }
