-- What the parser tells of the bytes at the front.
use Rattle.std.specs.Prelude.{◌≡◌, ℕ, ◌<◌, ◌≤◌, ◌⊎◌, List, [], ◌++◌, length, drop}
use Rattle.httparse.specs.Grammar.{lf, print_end}
use Rattle.edge_heads.specs.declared.TheConstants.{HEAD_LIMIT, HEADER_LIMIT}
use Rattle.edge_heads.specs.declared.values.Side.{Side}
use Rattle.edge_heads.specs.declared.values.BodyForm.{BodyForm}
use Rattle.edge_heads.specs.declared.values.HttpHead.{HttpHead}
use Rattle.edge_heads.specs.declared.values.HttpFail.{HttpFail}
use Rattle.edge_heads.specs.declared.values.HttpFail.TheVariants.{BadHead, HeadTooLong, TooManyHeaders, NoLength, BadChunk, BodyTooLarge, NoMemory}
use Rattle.edge_heads.specs.declared.heads.Parsed.{Parsed}
use Rattle.edge_heads.specs.declared.heads.Parsed.TheVariants as parsed
use Rattle.edge_heads.specs.declared.heads.HeadFound.{HeadFound}
use Rattle.edge_heads.specs.declared.heads.HeadFound.TheVariants as found
use Rattle.edge_heads.specs.Heads.{Head, print_head, fields_of, ReadsHead, HasNoHead, CanBecomeHead, IsNoHead, IsBegun, head_part, HasAllLines, IsFittingHead, form_of, head_value}
use Rattle.edge_heads.specs.Heads.{IsHeadBegun}

-- a head of at most 64 header lines at the front, of so many bytes
pub record IsWholeHead (side : Side) (bytes : List ℕ) (told : HttpHead) (form : BodyForm) (len : ℕ) : Type 0 where
  pub head : Head
  pub reads : ReadsHead side bytes head (drop len bytes)
  pub len_is : len ≡ length (print_head head)
  pub within : len ≤ length bytes
  pub lines : length (fields_of head) ≤ HEADER_LIMIT
  pub told_is : told ≡ head_value head
  pub form_is : form ≡ form_of side head

-- a front of the bytes and then an empty line are a head of more than 64 header lines
pub record Exceeds (side : Side) (bytes : List ℕ) : Type 0 where
  pub front : List ℕ
  pub rest : List ℕ
  pub parts : bytes ≡ front ++ rest
  pub head : Head
  pub reads : ReadsHead side (front ++ print_end lf) head []
  pub many : HEADER_LIMIT < length (fields_of head)

abbrev pub ParsedIs : Side → List ℕ → Parsed → Type 0
ParsedIs side bytes (parsed.Whole told form len) = IsWholeHead side bytes told form len
ParsedIs side bytes parsed.Unfinished = HasNoHead side bytes × (CanBecomeHead side bytes ⊎ Exceeds side bytes)
ParsedIs side bytes parsed.Never = IsNoHead side bytes

-- a head within the limits at the front, of so many bytes
pub record IsHeadFound (side : Side) (bytes : List ℕ) (told : HttpHead) (form : BodyForm) (len : ℕ) : Type 0 where
  pub head : Head
  pub reads : IsFittingHead side bytes head (drop len bytes)
  pub within : len ≤ length bytes
  pub some : 0 < len
  pub told_is : told ≡ head_value head
  pub form_is : form ≡ form_of side head

abbrev pub FoundIs : Side → List ℕ → HeadFound → Type 0
FoundIs side bytes (found.Whole told form len) = IsHeadFound side bytes told form len
FoundIs side bytes found.More = IsHeadBegun side bytes

-- why no head can come of the bytes
abbrev pub HeadFails : Side → List ℕ → HttpFail → Type 0
HeadFails side bytes BadHead = IsNoHead side (head_part bytes)
HeadFails side bytes HeadTooLong = IsBegun side (head_part bytes) × (length (head_part bytes) ≡ HEAD_LIMIT)
HeadFails side bytes TooManyHeaders = IsBegun side (head_part bytes) × (length (head_part bytes) < HEAD_LIMIT) × HasAllLines bytes
HeadFails side bytes NoLength = ⊥
HeadFails side bytes BadChunk = ⊥
HeadFails side bytes BodyTooLarge = ⊥
HeadFails side bytes NoMemory = Unit {0}
