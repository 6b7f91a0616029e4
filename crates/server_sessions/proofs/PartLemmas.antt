-- Parts of requests.
use Rattle.std.proofs.Common.{◌≡◌, List, [], ◌∷◌, ◌++◌, Option, None, Some, refl, sym, ap, ◌∙◌, append_assoc, append-nil}
use Rattle.edge_http.specs.declared.messages.HttpMessage.{HttpMessage}
use Rattle.edge_http.specs.declared.messages.Part.{Part}
use Rattle.edge_http.specs.declared.messages.Part.TheVariants.{Head, Body, Done}
use Rattle.edge_http.specs.Joined.{Joined, join, nothing_joined, with_bytes, with_part, with_parts}
use Rattle.edge_http.specs.Streams.{with_body}
use Rattle.server_sessions.specs.UnderWay.{behind, holding}

-- parts one list after the other
parts_append : (joined : Joined) (front back : List Part) → with_parts joined (front ++ back) ≡ with_parts (with_parts joined front) back
unfolding with_parts
parts_append joined [] back = refl
parts_append joined (part ∷ front) back = parts_append (with_part joined part) front back

-- what stands behind whole requests and one under way
abbrev pub after : List HttpMessage → Option HttpMessage → List Part → Joined
after whole under_way parts = record { whole = whole ++ (behind under_way parts).whole; under_way = (behind under_way parts).under_way }

abbrev having : List HttpMessage → Option HttpMessage → Joined
having whole under_way = record { whole = whole; under_way = under_way }

-- behind whole requests the same is made whole
pub parts_after : (whole : List HttpMessage) (under_way : Option HttpMessage) (parts : List Part) → with_parts (having whole under_way) parts ≡ after whole under_way parts
unfolding with_parts
parts_after whole under_way [] = ap (λ (w : List HttpMessage). having w under_way) (sym (append-nil whole))
parts_after whole under_way (Head head ∷ parts) = parts_after whole (Some (with_body head [])) parts
parts_after whole under_way (Body bytes ∷ parts) = parts_after whole (with_bytes under_way bytes) parts
parts_after whole None (Done ∷ parts) = parts_after whole None parts
parts_after whole (Some message) (Done ∷ parts) =
    parts_after (whole ++ message ∷ []) None parts ∙ rw (parts_after (message ∷ []) None parts) (ap (λ (w : List HttpMessage). having w (behind None parts).under_way) (append_assoc whole (message ∷ []) (behind None parts).whole))

-- what all parts are together
pub join_more : (taken more : List Part) → join (taken ++ more) ≡ after (join taken).whole (join taken).under_way more
join_more taken more = parts_append nothing_joined taken more ∙ parts_after (join taken).whole (join taken).under_way more

-- more parts
pub behind_more : (under_way : Option HttpMessage) (parts more : List Part) → behind under_way (parts ++ more) ≡ after (behind under_way parts).whole (behind under_way parts).under_way more
behind_more under_way parts more = parts_append (holding under_way) parts more ∙ parts_after (behind under_way parts).whole (behind under_way parts).under_way more

-- one part
pub behind_one : (under_way : Option HttpMessage) (part : Part) → behind under_way (part ∷ []) ≡ with_part (holding under_way) part
unfolding with_parts
behind_one under_way part = refl

-- no part
pub behind_none : (under_way : Option HttpMessage) → behind under_way [] ≡ holding under_way
unfolding with_parts
behind_none under_way = refl
