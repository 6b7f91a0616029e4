-- What stands at the front, between the bytes of a chunked body.
use Rattle.std.specs.Prelude.{◌≡◌, ℕ, ◌<◌, ◌≤◌, List, ◌++◌, length, drop}
use Rattle.httparse.specs.Ascii.{crlf_bytes}
use Rattle.httparse.specs.Grammar.{LineEnd, Field, print_section, ChunkLine, print_chunk_line, chunk_size}
use Rattle.edge_heads.specs.declared.chunks.LineFound.{LineFound}
use Rattle.edge_heads.specs.declared.chunks.LineFound.TheVariants as line
use Rattle.edge_heads.specs.declared.chunks.Found.{Found}
use Rattle.edge_heads.specs.declared.chunks.Found.TheVariants as found
use Rattle.edge_heads.specs.Bodies.{BeginsSize, IsSizeBegun, IsNoSize, IsEndBegun, NeverEnds, IsTrailer, IsTrailerBegun, IsNoTrailer}

-- a size line of so many bytes, which says this size
pub record IsSizeFound (bytes : List ℕ) (len size : ℕ) : Type 0 where
  pub line : ChunkLine
  pub begins : BeginsSize line bytes (drop len bytes)
  pub size_is : size ≡ chunk_size line
  pub len_is : len ≡ length (print_chunk_line line)
  pub some : 0 < len
  pub within : len ≤ length bytes

abbrev pub LineIs : List ℕ → LineFound → Type 0
LineIs bytes (line.Whole len size) = IsSizeFound bytes len size
LineIs bytes line.More = IsSizeBegun bytes
LineIs bytes line.Bad = IsNoSize bytes

abbrev pub EndingIs : List ℕ → Found → Type 0
EndingIs bytes (found.Whole len) = (len ≡ 2) × (2 ≤ length bytes) × (bytes ≡ crlf_bytes ++ drop 2 bytes)
EndingIs bytes found.More = IsEndBegun bytes
EndingIs bytes found.Bad = NeverEnds bytes

-- a trailer of so many bytes
pub record IsTrailerFound (bytes : List ℕ) (len : ℕ) : Type 0 where
  pub fields : List Field
  pub end : LineEnd
  pub is_trailer : IsTrailer fields end
  pub parts : bytes ≡ print_section fields end ++ drop len bytes
  pub len_is : len ≡ length (print_section fields end)
  pub some : 0 < len
  pub within : len ≤ length bytes

abbrev pub TrailerIs : List ℕ → Found → Type 0
TrailerIs bytes (found.Whole len) = IsTrailerFound bytes len
TrailerIs bytes found.More = IsTrailerBegun bytes
TrailerIs bytes found.Bad = IsNoTrailer bytes
