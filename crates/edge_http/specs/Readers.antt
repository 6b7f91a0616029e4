-- What a reader of parts has read.
use Rattle.std.specs.Prelude.{◌≡◌, ℕ, ◌+◌, ◌<◌, ◌≤◌, ◌⊎◌, List, [], ◌++◌, length, Option, Some, None, ⊤}
use Rattle.httparse.specs.Grammar.{ChunkLine, print_chunk_line, chunk_size}
use Rattle.edge_heads.specs.declared.values.Side.{Side}
use Rattle.edge_heads.specs.declared.values.BodyForm.{BodyForm}
use Rattle.edge_heads.specs.declared.values.BodyForm.TheVariants.{Sized, Chunked}
use Rattle.edge_heads.specs.declared.values.HttpFail.{HttpFail}
use Rattle.edge_heads.specs.declared.values.HttpFail.TheVariants.{NoMemory}
use Rattle.edge_http.specs.declared.messages.HttpMessage.{HttpMessage}
use Rattle.edge_http.specs.declared.messages.Part.{Part}
use Rattle.edge_http.specs.declared.messages.Stage.{Stage}
use Rattle.edge_http.specs.declared.messages.Stage.TheVariants as stage
use Rattle.edge_heads.specs.Heads.{Head, print_head, IsHeadOf, FitsHead, form_of, head_value}
use Rattle.edge_heads.specs.Bodies.{Chunk, print_chunks, content_of, AreChunks, IsSizeLine, IsLastLine}
use Rattle.edge_http.specs.Streams.{with_body, Begins, Reads, Open, Failed, HttpStreamFault}
use Rattle.edge_http.specs.Joined.{Joined, join}

-- which messages it reads, the bytes that it was fed and hasn't used, where the message under way is, the parts that weren't taken, and its failure
pub record ReaderState : Type 0 where
  pub side : Side
  pub limit : ℕ
  pub unused : List ℕ
  pub stage : Stage
  pub ready : List Part
  pub failure : Option HttpFail

-- The used bytes are a head of this form and then these bytes of its body, which bring this content.
pub record UsesHead (side : Side) (used : List ℕ) (message : HttpMessage) (form : BodyForm) (after content : List ℕ) : Type 0 where
  pub head : Head
  pub is_head : IsHeadOf side head
  pub fits : FitsHead head
  pub form_is : form_of side head ≡ form
  pub parts : used ≡ print_head head ++ after
  pub value : message ≡ with_body (head_value head) content

pub record IsAtBody (side : Side) (limit left : ℕ) (used : List ℕ) (message : HttpMessage) : Type 0 where
  pub size : ℕ
  pub content : List ℕ
  pub head : UsesHead side used message (Sized size) content content
  pub within : size ≤ limit
  pub some : 0 < left
  pub wanting : length content + left ≡ size

pub record IsAtSize (side : Side) (limit sum : ℕ) (used : List ℕ) (message : HttpMessage) : Type 0 where
  pub chunks : List Chunk
  pub head : UsesHead side used message Chunked (print_chunks chunks) (content_of chunks)
  pub are : AreChunks limit chunks
  pub sum_is : sum ≡ length (content_of chunks)

-- `left` bytes of a chunk are wanting.
pub record IsAtData (side : Side) (limit left sum : ℕ) (used : List ℕ) (message : HttpMessage) : Type 0 where
  pub chunks : List Chunk
  pub line : ChunkLine
  pub content : List ℕ
  pub head : UsesHead side used message Chunked (print_chunks chunks ++ (print_chunk_line line ++ content)) (content_of chunks ++ content)
  pub are : AreChunks limit chunks
  pub is_line : IsSizeLine line
  pub some : 0 < chunk_size line
  pub wanting : length content + left ≡ chunk_size line
  pub sum_is : sum ≡ length (content_of chunks) + chunk_size line
  pub within : sum ≤ limit

pub record IsAtTrailer (side : Side) (limit : ℕ) (used : List ℕ) (message : HttpMessage) : Type 0 where
  pub chunks : List Chunk
  pub line : ChunkLine
  pub head : UsesHead side used message Chunked (print_chunks chunks ++ print_chunk_line line) (content_of chunks)
  pub are : AreChunks limit chunks
  pub is_last : IsLastLine line

-- These bytes of the message under way were used, up to the stage.
abbrev pub IsAt : Side → ℕ → Stage → List ℕ → Option HttpMessage → Type 0
IsAt side limit stage.Head used None = used ≡ []
IsAt side limit stage.Head used (Some message) = ⊥
IsAt side limit (stage.Sized left) used None = ⊥
IsAt side limit (stage.Sized left) used (Some message) = IsAtBody side limit left used message
IsAt side limit (stage.Size sum) used None = ⊥
IsAt side limit (stage.Size sum) used (Some message) = IsAtSize side limit sum used message
IsAt side limit (stage.Data left sum) used None = ⊥
IsAt side limit (stage.Data left sum) used (Some message) = (0 < left) × IsAtData side limit left sum used message
IsAt side limit (stage.Ending sum) used None = ⊥
IsAt side limit (stage.Ending sum) used (Some message) = IsAtData side limit 0 sum used message
IsAt side limit stage.Trailer used None = ⊥
IsAt side limit stage.Trailer used (Some message) = IsAtTrailer side limit used message

-- The bytes are these whole messages, then some used bytes of the message under way up to the stage, and then the unused ones.
pub record Stands (side : Side) (limit : ℕ) (stage : Stage) (unused bytes : List ℕ) (whole : List HttpMessage) (under_way : Option HttpMessage) : Type 0 where
  pub used : List ℕ
  pub begins : Begins side limit bytes whole (used ++ unused)
  pub at : IsAt side limit stage used under_way

abbrev pub StandsAt : ReaderState → List ℕ → Joined → Type 0
StandsAt reader bytes joined = Stands reader.side reader.limit reader.stage reader.unused bytes joined.whole joined.under_way

-- Reading of the bytes failed, after these whole messages. For want of memory nothing else is said.
abbrev pub HasFailed : Side → ℕ → List ℕ → List HttpMessage → HttpFail → Type 0
HasFailed side limit bytes messages why =
    ((why ≡ NoMemory) × (rest : List ℕ) × Begins side limit bytes messages rest)
    ⊎ Reads side limit bytes messages (Failed why)

-- What is answered of the bytes: Ok exactly where reading of them doesn't fail, otherwise why it fails. Memory can always be wanting.
abbrev pub FailureIs : Side → ℕ → List ℕ → Option HttpFail → Type 0
FailureIs side limit bytes None = (why : HttpFail) → ¬ (HttpStreamFault side limit bytes why)
FailureIs side limit bytes (Some why) = (why ≡ NoMemory) ⊎ HttpStreamFault side limit bytes why

-- The parts made of these bytes are together this: all that can be read of them is there, or reading failed.
abbrev pub ReadingIs : ReaderState → List ℕ → Joined → Option HttpFail → Type 0
ReadingIs reader bytes joined None = StandsAt reader bytes joined × Reads reader.side reader.limit bytes joined.whole (Open joined.under_way)
ReadingIs reader bytes joined (Some why) = HasFailed reader.side reader.limit bytes joined.whole why

-- The reader was fed these bytes, and these parts were taken of it.
abbrev pub HasRead : ReaderState → List ℕ → List Part → Type 0
HasRead reader bytes taken = ReadingIs reader bytes (join (taken ++ reader.ready)) reader.failure

-- the head of the next message is awaited
abbrev pub IsAtHead : Stage → Type 0
IsAtHead stage.Head = ⊤
IsAtHead _ = ⊥

-- Nothing is left of the bytes that it was fed: all parts were taken, and no message is under way.
pub record HoldsNothing (reader : ReaderState) : Type 0 where
  pub at_head : IsAtHead reader.stage
  pub unused : reader.unused ≡ []
  pub ready : reader.ready ≡ []
  pub unfailed : reader.failure ≡ None
