-- A reader of which nothing is left.
use Rattle.std.proofs.Common.{◌≡◌, ℕ, Bool, false, List, [], ◌++◌, Option, Some, None, ap, ◌∙◌, subst, append-nil}
use Rattle.edge_heads.specs.declared.values.Side.{Side}
use Rattle.edge_heads.specs.declared.values.HttpFail.{HttpFail}
use Rattle.edge_http.specs.declared.messages.HttpMessage.{HttpMessage}
use Rattle.edge_http.specs.declared.messages.Part.{Part}
use Rattle.edge_http.specs.declared.messages.Stage.{Stage}
use Rattle.edge_http.specs.declared.messages.Stage.TheVariants as stage
use Rattle.edge_http.specs.Joined.{Joined, join}
use Rattle.edge_http.specs.Polled.{HasPolled, PolledBy, PollState}
use Rattle.edge_http.specs.Readers.{HoldsNothing, IsAtHead, ReadingIs, Stands, StandsAt}
use Rattle.edge_http.specs.Streams.{Begins}

-- where no byte is unused and a head is awaited the bytes are the whole messages
ends-here : (side : Side) (limit : ℕ) (at : Stage) (bytes : List ℕ) (whole : List HttpMessage) (under_way : Option HttpMessage)
    → IsAtHead at → Stands side limit at [] bytes whole under_way → Begins side limit bytes whole []
ends-here side limit stage.Head bytes whole None head stands =
    subst (λ (used : List ℕ). Begins side limit bytes whole (used ++ [])) stands.at stands.begins
ends-here side limit stage.Head bytes whole (Some message) head stands = absurd stands.at
ends-here side limit (stage.Sized left) bytes whole under_way head stands = absurd head
ends-here side limit (stage.Size sum) bytes whole under_way head stands = absurd head
ends-here side limit (stage.Data left sum) bytes whole under_way head stands = absurd head
ends-here side limit (stage.Ending sum) bytes whole under_way head stands = absurd head
ends-here side limit stage.Trailer bytes whole under_way head stands = absurd head

-- where nothing is left the bytes are the messages that were taken
pub taken-are-all : (state : PollState) (bytes : List ℕ) (taken : List HttpMessage) → state.failed ≡ false → state.ready ≡ [] → HoldsNothing state.parts
    → HasPolled state bytes taken → Begins state.parts.side state.parts.limit bytes taken []
taken-are-all state bytes taken unfailed empty nothing polled =
    let parts = state.parts in
    let joins = (subst (λ (failed : Bool). PolledBy state bytes taken failed) unfailed polled).0 in
    let read = subst (λ (failure : Option HttpFail). ReadingIs parts bytes (join (joins.parts ++ parts.ready)) failure) nothing.unfailed joins.read in
    let joined = ap (λ (more : List Part). join (joins.parts ++ more)) nothing.ready ∙ ap join (append-nil joins.parts) ∙ joins.joined in
    let stood = subst (λ (all : Joined). StandsAt parts bytes all) joined read.0 in
    let over = subst (λ (unused : List ℕ). Stands parts.side parts.limit parts.stage unused bytes (taken ++ state.ready) state.under_way) nothing.unused stood in
    subst (λ (messages : List HttpMessage). Begins parts.side parts.limit bytes messages [])
    (ap (λ (more : List HttpMessage). taken ++ more) empty ∙ append-nil taken)
    (ends-here parts.side parts.limit parts.stage bytes (taken ++ state.ready) state.under_way nothing.at_head over)
