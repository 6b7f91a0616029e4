-- The body of a message (RFC 9112, sections 6 and 7).
use Rattle.std.specs.Prelude.{◌≡◌, ℕ, ◌+◌, ◌<◌, ◌≤◌, ◌⊎◌, List, [], ◌∷◌, ◌++◌, length, All}
use Rattle.std.specs.List.{flat_map}
use Rattle.httparse.specs.Ascii.{carriage_return, crlf_bytes}
use Rattle.httparse.specs.Grammar.{LineEnd, Field, IsField, print_section, HasNoSection, NeverHasSection, MayBecomeSection, ChunkLine, IsChunkLine, print_chunk_line, chunk_size, HasNoChunkLine, NeverHasChunkLine, MayBecomeChunkLine}
use Rattle.edge_heads.specs.declared.TheConstants.{HEAD_LIMIT}
use Rattle.edge_heads.specs.declared.values.BodyForm.{BodyForm}
use Rattle.edge_heads.specs.declared.values.BodyForm.TheVariants.{Sized, Chunked, Missing, Wrong}

-- a chunk: its size line and its bytes
pub record Chunk : Type 0 where
  pub line : ChunkLine
  pub content : List ℕ

unfoldable pub print_chunk : Chunk → List ℕ
print_chunk chunk = print_chunk_line chunk.line ++ (chunk.content ++ crlf_bytes)

abbrev pub print_chunks : List Chunk → List ℕ
print_chunks chunks = flat_map print_chunk chunks

-- the bytes of the chunks in a row
abbrev pub content_of : List Chunk → List ℕ
content_of chunks = flat_map (λ chunk. chunk.content) chunks

-- a size line of at most 16,384 bytes
pub record IsSizeLine (line : ChunkLine) : Type 0 where
  pub is_line : IsChunkLine line
  pub fits : length (print_chunk_line line) ≤ HEAD_LIMIT

pub record IsChunk (chunk : Chunk) : Type 0 where
  pub line : IsSizeLine chunk.line
  pub size : length chunk.content ≡ chunk_size chunk.line
  pub some : 0 < chunk_size chunk.line

-- chunks that together are within the limit
pub record AreChunks (limit : ℕ) (chunks : List Chunk) : Type 0 where
  pub each : All IsChunk chunks
  pub within : length (content_of chunks) ≤ limit

-- the size line of the last chunk, which is empty
pub record IsLastLine (line : ChunkLine) : Type 0 where
  pub is_line : IsSizeLine line
  pub empty : chunk_size line ≡ 0

-- a trailer of at most 16,384 bytes
pub record IsTrailer (fields : List Field) (end : LineEnd) : Type 0 where
  pub each : All IsField fields
  pub fits : length (print_section fields end) ≤ HEAD_LIMIT

-- a body as it is written
pub data Body : Type 0 where
  plain : List ℕ → Body
  chunked : List Chunk → ChunkLine → List Field → LineEnd → Body

abbrev pub print_body : Body → List ℕ
print_body (plain content) = content
print_body (chunked chunks last fields end) = print_chunks chunks ++ (print_chunk_line last ++ print_section fields end)

-- what it brings
abbrev pub body_content : Body → List ℕ
body_content (plain content) = content
body_content (chunked chunks last fields end) = content_of chunks

-- a body of that form, within the limit
abbrev pub IsBody : ℕ → BodyForm → Body → Type 0
IsBody limit (Sized n) (plain content) = (length content ≡ n) × (n ≤ limit)
IsBody limit (Sized n) (chunked chunks last fields end) = ⊥
IsBody limit Chunked (plain content) = ⊥
IsBody limit Chunked (chunked chunks last fields end) = AreChunks limit chunks × IsLastLine last × IsTrailer fields end
IsBody limit Missing body = ⊥
IsBody limit Wrong body = ⊥

-- ---- what follows whole chunks of so many bytes

-- a size line at the front
abbrev pub BeginsSize : ChunkLine → List ℕ → List ℕ → Type 0
BeginsSize line bytes rest = IsSizeLine line × (bytes ≡ print_chunk_line line ++ rest)

-- a size line at the front with which the chunks are within the limit, and all bytes of its chunk
pub record BeginsChunk (limit sum : ℕ) (bytes : List ℕ) (content rest : List ℕ) : Type 0 where
  pub line : ChunkLine
  pub is_line : IsSizeLine line
  pub some : 0 < chunk_size line
  pub within : sum + chunk_size line ≤ limit
  pub whole : length content ≡ chunk_size line
  pub parts : bytes ≡ print_chunk_line line ++ (content ++ rest)

-- the last size line at the front
abbrev pub BeginsTrailer : List ℕ → List ℕ → Type 0
BeginsTrailer bytes rest = (line : ChunkLine) × IsLastLine line × (bytes ≡ print_chunk_line line ++ rest)

-- no continuation of the bytes begins with CR LF
abbrev pub NeverEnds : List ℕ → Type 0
NeverEnds bytes = (more rest : List ℕ) → ¬ (bytes ++ more ≡ crlf_bytes ++ rest)

-- no size line can come of the bytes, or none of at most 16,384 bytes
abbrev pub IsNoSize : List ℕ → Type 0
IsNoSize bytes = NeverHasChunkLine bytes ⊎ ((HEAD_LIMIT ≤ length bytes) × ((line : ChunkLine) (rest : List ℕ) → ¬ (BeginsSize line bytes rest)))

-- no trailer can come of the bytes, or none of at most 16,384 bytes
abbrev pub IsNoTrailer : List ℕ → Type 0
IsNoTrailer bytes = NeverHasSection bytes
    ⊎ ((HEAD_LIMIT ≤ length bytes) × ((fields : List Field) (end : LineEnd) (rest : List ℕ) → ¬ (IsTrailer fields end × (bytes ≡ print_section fields end ++ rest))))

-- what follows can't be continued to a right body
abbrev pub IsBadChunk : ℕ → ℕ → List ℕ → Type 0
IsBadChunk limit sum bytes =
    IsNoSize bytes
    ⊎ ((content : List ℕ) × (rest : List ℕ) × BeginsChunk limit sum bytes content rest × NeverEnds rest)
    ⊎ ((rest : List ℕ) × BeginsTrailer bytes rest × IsNoTrailer rest)

-- a size line at the front passes the limit
abbrev pub IsLargeChunk : ℕ → ℕ → List ℕ → Type 0
IsLargeChunk limit sum bytes = (line : ChunkLine) × (rest : List ℕ) × BeginsSize line bytes rest × (limit < sum + chunk_size line)

-- less than a size line
pub record IsSizeBegun (bytes : List ℕ) : Type 0 where
  pub none : HasNoChunkLine bytes
  pub can : MayBecomeChunkLine bytes
  pub short : length bytes < HEAD_LIMIT

-- less than a trailer
pub record IsTrailerBegun (bytes : List ℕ) : Type 0 where
  pub none : HasNoSection bytes
  pub can : MayBecomeSection bytes
  pub short : length bytes < HEAD_LIMIT

-- a size line at the front with which the chunks are within the limit, and not all bytes of its chunk
pub record IsDataBegun (limit sum : ℕ) (bytes content : List ℕ) : Type 0 where
  pub line : ChunkLine
  pub is_line : IsSizeLine line
  pub within : sum + chunk_size line ≤ limit
  pub short : length content < chunk_size line
  pub parts : bytes ≡ print_chunk_line line ++ content

-- nothing or CR: less than CR LF
abbrev pub IsEndBegun : List ℕ → Type 0
IsEndBegun bytes = (bytes ≡ []) ⊎ (bytes ≡ carriage_return ∷ [])

-- what follows is begun and not whole, and these bytes of the next chunk are there
abbrev pub IsChunkBegun : ℕ → ℕ → List ℕ → List ℕ → Type 0
IsChunkBegun limit sum bytes content =
    (IsSizeBegun bytes × (content ≡ []))
    ⊎ IsDataBegun limit sum bytes content
    ⊎ ((rest : List ℕ) × BeginsChunk limit sum bytes content rest × IsEndBegun rest)
    ⊎ ((rest : List ℕ) × BeginsTrailer bytes rest × IsTrailerBegun rest × (content ≡ []))
