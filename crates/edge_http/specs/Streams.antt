-- A stream of messages.
use Rattle.std.specs.Prelude.{◌≡◌, ℕ, ◌<◌, ◌≤◌, ◌⊎◌, List, ◌++◌, length, map, All, Option, Some, None}
use Rattle.std.specs.List.{flat_map}
use Rattle.edge_heads.specs.declared.TheConstants.{HEAD_LIMIT}
use Rattle.edge_heads.specs.declared.values.Side.{Side}
use Rattle.edge_heads.specs.declared.values.BodyForm.{BodyForm}
use Rattle.edge_heads.specs.declared.values.BodyForm.TheVariants.{Sized, Chunked, Missing, Wrong}
use Rattle.edge_heads.specs.declared.values.HttpFail.{HttpFail}
use Rattle.edge_heads.specs.declared.values.HttpFail.TheVariants.{BadHead, HeadTooLong, TooManyHeaders, NoLength, BadChunk, BodyTooLarge, NoMemory}
use Rattle.edge_heads.specs.declared.values.HttpHead.{HttpHead}
use Rattle.edge_http.specs.declared.messages.HttpMessage.{HttpMessage}
use Rattle.edge_heads.specs.Heads.{IsHeadBegun, Head, print_head, IsHeadOf, IsNoHead, IsBegun, head_part, HasAllLines, FitsHead, IsFittingHead, form_of, head_value}
use Rattle.edge_heads.specs.Bodies.{Body, Chunk, print_chunks, content_of, AreChunks, print_body, body_content, IsBody, IsBadChunk, IsLargeChunk, IsChunkBegun}

-- a message as it is written
pub record Message : Type 0 where
  pub head : Head
  pub body : Body

unfoldable pub print_message : Message → List ℕ
print_message message = print_head message.head ++ print_body message.body

abbrev pub print_messages : List Message → List ℕ
print_messages messages = flat_map print_message messages

-- a head within the limits, and a body of the form that it asks for, within the limit
pub record IsMessage (side : Side) (limit : ℕ) (message : Message) : Type 0 where
  pub head : IsHeadOf side message.head
  pub fits : FitsHead message.head
  pub body : IsBody limit (form_of side message.head) message.body

-- a head with these bytes of the body
abbrev pub with_body : HttpHead → List ℕ → HttpMessage
with_body head body = record {
  method = head.method;
  target = head.target;
  status = head.status;
  protobuf = head.protobuf;
  coded = head.coded;
  close = head.close;
  body = body;
}

-- what is told of a message
abbrev pub message_value : Message → HttpMessage
message_value message = with_body (head_value message.head) (body_content message.body)

-- ---- why no message can come

-- a head within the limits that asks for this form of body
abbrev pub HasForm : Side → List ℕ → BodyForm → Type 0
HasForm side bytes form = (head : Head) × (rest : List ℕ) × IsFittingHead side bytes head rest × (form_of side head ≡ form)

-- a head that asks for chunks, some chunks, and then such bytes after the sum of the chunks
pub record HasChunks (side : Side) (limit : ℕ) (bytes : List ℕ) (Then : ℕ → List ℕ → Type 0) : Type 0 where
  pub head : Head
  pub after : List ℕ
  pub reads : IsFittingHead side bytes head after
  pub form : form_of side head ≡ Chunked
  pub chunks : List Chunk
  pub tail : List ℕ
  pub are : AreChunks limit chunks
  pub parts : after ≡ print_chunks chunks ++ tail
  pub holds : Then (length (content_of chunks)) tail

abbrev pub Fails : Side → ℕ → List ℕ → HttpFail → Type 0
Fails side limit bytes BadHead = IsNoHead side (head_part bytes) ⊎ HasForm side bytes Wrong
Fails side limit bytes HeadTooLong = IsBegun side (head_part bytes) × (length (head_part bytes) ≡ HEAD_LIMIT)
Fails side limit bytes TooManyHeaders = IsBegun side (head_part bytes) × (length (head_part bytes) < HEAD_LIMIT) × HasAllLines bytes
Fails side limit bytes NoLength = HasForm side bytes Missing
Fails side limit bytes BadChunk = HasChunks side limit bytes (IsBadChunk limit)
Fails side limit bytes BodyTooLarge = ((n : ℕ) × HasForm side bytes (Sized n) × (limit < n)) ⊎ HasChunks side limit bytes (IsLargeChunk limit)
Fails side limit bytes NoMemory = ⊥

-- ---- the message under way

-- a head, and these bytes of its body, which isn't whole
abbrev pub IsBodyBegun : ℕ → BodyForm → List ℕ → List ℕ → Type 0
IsBodyBegun limit (Sized n) bytes content = (n ≤ limit) × (length bytes < n) × (content ≡ bytes)
IsBodyBegun limit Chunked bytes content =
    (chunks : List Chunk) × (tail : List ℕ) × (more : List ℕ) × AreChunks limit chunks × (bytes ≡ print_chunks chunks ++ tail)
    × IsChunkBegun limit (length (content_of chunks)) tail more × (content ≡ content_of chunks ++ more)
IsBodyBegun limit Missing bytes content = ⊥
IsBodyBegun limit Wrong bytes content = ⊥

pub record IsMessageBegun (side : Side) (limit : ℕ) (bytes : List ℕ) (open_message : HttpMessage) : Type 0 where
  pub head : Head
  pub after : List ℕ
  pub reads : IsFittingHead side bytes head after
  pub content : List ℕ
  pub body : IsBodyBegun limit (form_of side head) after content
  pub value : open_message ≡ with_body (head_value head) content

-- ---- the stream

-- what becomes of the bytes after the last whole message: more can come, where a head and some bytes of its body may be there; or nothing more can be read
pub data Rest : Type 0 where
  Open : Option HttpMessage → Rest
  Failed : HttpFail → Rest

abbrev pub RestIs : Side → ℕ → List ℕ → Rest → Type 0
RestIs side limit bytes (Open None) = IsHeadBegun side bytes
RestIs side limit bytes (Open (Some message)) = IsMessageBegun side limit bytes message
RestIs side limit bytes (Failed why) = Fails side limit bytes why

-- The bytes begin with these messages.
pub record Begins (side : Side) (limit : ℕ) (bytes : List ℕ) (messages : List HttpMessage) (rest : List ℕ) : Type 0 where
  pub written : List Message
  pub each : All (IsMessage side limit) written
  pub told : map message_value written ≡ messages
  pub parts : bytes ≡ print_messages written ++ rest

-- The bytes are these messages and such a rest.
pub record Reads (side : Side) (limit : ℕ) (bytes : List ℕ) (messages : List HttpMessage) (state : Rest) : Type 0 where
  pub rest : List ℕ
  pub begins : Begins side limit bytes messages rest
  pub is_rest : RestIs side limit rest state

-- The bytes are these messages and a rest of which no prefix is a message.
abbrev pub IsHttpStream : Side → ℕ → List ℕ → List HttpMessage → List ℕ → Type 0
IsHttpStream side limit bytes messages rest =
    Begins side limit bytes messages rest × ((message : Message) (more : List ℕ) → IsMessage side limit message → ¬ (rest ≡ print_message message ++ more))

-- Reading of the bytes fails so.
abbrev pub HttpStreamFault : Side → ℕ → List ℕ → HttpFail → Type 0
HttpStreamFault side limit bytes why = (messages : List HttpMessage) × Reads side limit bytes messages (Failed why)

-- the same message with more bytes of its body
abbrev pub Continues : HttpMessage → HttpMessage → Type 0
Continues old new = (more : List ℕ) × (new ≡ record old { body = old.body ++ more })

-- the message under way goes on, or reading fails
abbrev pub StillUnderWay : HttpMessage → Rest → Type 0
StillUnderWay message (Open None) = ⊥
StillUnderWay message (Open (Some now)) = Continues message now
StillUnderWay message (Failed why) = Unit {0}
