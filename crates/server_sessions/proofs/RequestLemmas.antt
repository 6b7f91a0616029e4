-- Requests of HTTP.
use Rattle.std.proofs.Common.{◌≡◌, ℕ, List, [], ◌∷◌, ◌++◌, map, Bool, true, false, not, ◌&&◌, if◌then◌else◌, Option, None, Some, Ok, Err, MatchBool, option_to_list, refl, sym, ap, ◌∙◌, subst, append_assoc, append-nil, ◌⊎◌, inl, inr}
use Rattle.std.proofs.lemmas.List.{map-append}
use Rattle.edge_devices.specs.declared.wires.Kind.{Kind}
use Rattle.edge_devices.specs.declared.wires.Kind.TheVariants as kind
use Rattle.edge_heads.specs.declared.values.HttpFail.{HttpFail}
use Rattle.edge_heads.specs.declared.values.HttpHead.{HttpHead}
use Rattle.edge_http.specs.declared.messages.HttpMessage.{HttpMessage}
use Rattle.edge_http.specs.declared.messages.Part.{Part}
use Rattle.edge_http.specs.declared.messages.Part.TheVariants as part
use Rattle.edge_http.specs.Joined.{Joined, join, with_bytes, with_part}
use Rattle.edge_http.specs.Readers.{ReaderState}
use Rattle.edge_http.specs.Streams.{Open, with_body}
use Rattle.edge_http.specs.Writing.{response_text}
use Rattle.server_waves.specs.Register.{Rolling}
use Rattle.server_lines.specs.Sights.{Sight}
use Rattle.server_sessions.specs.declared.answers.bodies.BodyReader.{BodyReader}
use Rattle.server_sessions.specs.declared.answers.limits.TheConstants.{HTTP_NO_MEMORY}
use Rattle.server_sessions.specs.declared.answers.stepped.Entry.{Entry}
use Rattle.server_sessions.specs.declared.answers.stepped.Handled.{Handled}
use Rattle.server_sessions.specs.Bodies.{HasCome}
use Rattle.server_sessions.specs.Streams.{Item, Request, Broken, Unread, AreRead}
use Rattle.server_sessions.specs.Reports.{Host, Intake, HalfReads, desk_of}
use Rattle.server_sessions.specs.Requests.{AnswersBody, failure_answer, refusal_of}
use Rattle.server_sessions.specs.Answers.{Sheet, HalfHandles, GoesOut}
use Rattle.server_sessions.specs.Session.{Scene, Ending, Serves, ServesAll}
use Rattle.server_sessions.specs.Wiring.{WireView}
use Rattle.server_sessions.specs.declared.bodies.Progress.{Progress}
use Rattle.server_sessions.specs.declared.bodies.Progress.TheVariants.{Waiting, Reading, PassingOver}
use Rattle.server_sessions.specs.declared.bodies.RequestReader.{RequestReader}
use Rattle.server_sessions.specs.declared.connection.Connection.TheVariants as connection
use Rattle.server_sessions.specs.Failures.{AnswersFailure, AnswersRefusal, FedIs, failure_items, is_no_memory}
use Rattle.server_sessions.specs.Connections.{PartsServed, ServesPart, ServesParts, ServesPiece, StopsIn, Takes}
use Rattle.server_sessions.specs.UnderWay.{HasTaken, IsPassedOver, IsRead, IsUnderWay, behind, holding}
use Rattle.server_sessions.proofs.LineLemmas.{serves_append, serves_last, serves_on}
use Rattle.server_sessions.proofs.PartLemmas.{behind_more, behind_none, behind_one, join_more}
use Rattle.server_sessions.proofs.ReadLemmas.{begins_front, taken_is, told_is}

-- ---- the request under way

-- The status of a refusal is said by the head.
refused_alike : (message : HttpMessage) (body : List ℕ) → refusal_of (record message { body = body }) ≡ refusal_of message
unfolding refusal_of
refused_alike message body = refl

-- a head that is refused, and one whose body is read
pub begun_refused : (head : HttpHead) (status : ℕ) → Some status ≡ refusal_of (with_body head []) → IsUnderWay (PassingOver status head.close) (Some (with_body head []))
begun_refused head status is = record { refused = sym is; close_is = refl }

pub begun_read : (head : HttpHead) (body : BodyReader) → None ≡ refusal_of (with_body head []) → HasCome body [] → IsUnderWay (Reading body head.close) (Some (with_body head []))
begun_read head body is nothing = record { taken_up = sym is; close_is = refl; came = nothing }

-- bytes of a body that is read
pub read_more : (body body' : BodyReader) (close : Bool) (bytes : List ℕ) (under_way : Option HttpMessage)
    → ((before : List ℕ) → HasCome body before → HasCome body' (before ++ bytes))
    → IsUnderWay (Reading body close) under_way → IsUnderWay (Reading body' close) (with_bytes under_way bytes)
read_more body body' close bytes None more is = absurd is
read_more body body' close bytes (Some message) more is =
    record { taken_up = refused_alike message (message.body ++ bytes) ∙ is.taken_up; close_is = is.close_is; came = more message.body is.came }

-- bytes of one that is passed over
pub passed_more : (status : ℕ) (close : Bool) (bytes : List ℕ) (under_way : Option HttpMessage) → IsUnderWay (PassingOver status close) under_way
    → IsUnderWay (PassingOver status close) (with_bytes under_way bytes)
passed_more status close bytes None is = absurd is
passed_more status close bytes (Some message) is = record { refused = refused_alike message (message.body ++ bytes) ∙ is.refused; close_is = is.close_is }

-- bytes where no request is under way
pub waiting_more : (bytes : List ℕ) (under_way : Option HttpMessage) → IsUnderWay Waiting under_way → IsUnderWay Waiting (with_bytes under_way bytes)
waiting_more bytes None is = tt
waiting_more bytes (Some message) is = absurd is

-- ---- one request

module _ (host : Host) (conn : ℕ) (m : HttpMessage) (body : BodyReader) (close : Bool) (wire wire' : WireView) (intake intake' : Intake) (rollouts : List Rolling) (handled handled' : List Handled) (ordered : List (List ℕ)) (entries : List Entry) (stays : Bool) where
  -- a request whose body was read gets its answer
  pub request_served : (sent : List ℕ) → ((bytes : List ℕ) → HasCome body bytes → AnswersBody host conn bytes close intake intake' handled handled' sent)
      → GoesOut conn (Some sent) close wire wire' stays → IsRead m body close
      → Serves host kind.Http conn (Request m)
      (record { wire = wire; sheet = record { desk = desk_of intake.entropy intake.table rollouts; handled = handled; ordered = ordered; entries = entries } })
      (record { wire = wire'; sheet = record { desk = desk_of intake'.entropy intake'.table rollouts; handled = handled'; ordered = ordered; entries = entries } })
      (record { stays = stays; stop = false })
  request_served sent answers out is = record {
    answer = record { bytes = Some sent; closes = m.close; stop = false };
    gets = inl (sent, rw is.taken_up (subst (λ (b : Bool). AnswersBody host conn m.body b intake intake' handled handled' sent) is.close_is (answers m.body is.came)), record { rollouts = refl; ordered = refl; entries = refl }, refl);
    goes_out = subst (λ (b : Bool). GoesOut conn (Some sent) b wire wire' stays) is.close_is out;
    stop = refl;
  }

  -- memory was wanting for it
  pub request_starved : ((bytes : List ℕ) → HasCome body bytes → HalfReads bytes intake intake') → handled' ≡ handled → GoesOut conn (Some HTTP_NO_MEMORY) true wire wire' stays
      → IsRead m body close
      → Serves host kind.Http conn (Request m)
      (record { wire = wire; sheet = record { desk = desk_of intake.entropy intake.table rollouts; handled = handled; ordered = ordered; entries = entries } })
      (record { wire = wire'; sheet = record { desk = desk_of intake'.entropy intake'.table rollouts; handled = handled'; ordered = ordered; entries = entries } })
      (record { stays = stays; stop = false })
  request_starved half same out is = record {
    answer = record { bytes = Some HTTP_NO_MEMORY; closes = true; stop = false };
    gets = inr ((rw is.taken_up (half m.body is.came), same, record { rollouts = refl; ordered = refl; entries = refl }), refl);
    goes_out = out;
    stop = refl;
  }

-- a request that its head refuses
refusal_served : (host : Host) (conn : ℕ) (m : HttpMessage) (status : ℕ) (close : Bool) (wire wire' : WireView) (sheet : Sheet) (stays : Bool)
    → AnswersRefusal conn status close wire wire' stays → IsPassedOver m status close
    → Serves host kind.Http conn (Request m) (record { wire = wire; sheet = sheet }) (record { wire = wire'; sheet = sheet }) (record { stays = stays; stop = false })
refusal_served host conn m status close wire wire' sheet stays (inl out) is = record {
  answer = record { bytes = Some HTTP_NO_MEMORY; closes = true; stop = false };
  gets = inr ((rw is.refused refl, refl, record { rollouts = refl; ordered = refl; entries = refl }), refl);
  goes_out = out;
  stop = refl;
}
refusal_served host conn m status close wire wire' sheet stays (inr out) is = record {
  answer = record { bytes = Some (response_text status [] m.close); closes = m.close; stop = false };
  gets = inl (response_text status [] m.close, rw is.refused (refl, refl, refl), record { rollouts = refl; ordered = refl; entries = refl }, refl);
  goes_out = subst (λ (b : Bool). GoesOut conn (Some (response_text status [] b)) b wire wire' stays) is.close_is out;
  stop = refl;
}

-- one item, behind which nothing is left
serves_one : (host : Host) (k : Kind) (conn : ℕ) (item : Item) (a b : Scene) (stays : Bool)
    → Serves host k conn item a b (record { stays = stays; stop = false }) → ServesAll host k conn (item ∷ []) a b (record { stays = stays; stop = false })
serves_one host k conn item a b true served = serves_on host k conn item a b served
serves_one host k conn item a b false served = serves_last host k conn item [] a b _ served refl

-- what is served at the end of a request
pub whole_read : (host : Host) (conn : ℕ) (body : BodyReader) (close : Bool) (under_way : Option HttpMessage) (a b : Scene) (stays : Bool)
    → ((message : HttpMessage) → IsRead message body close → Serves host kind.Http conn (Request message) a b (record { stays = stays; stop = false }))
    → IsUnderWay (Reading body close) under_way → ServesAll host kind.Http conn (map Request (option_to_list under_way)) a b (record { stays = stays; stop = false })
whole_read host conn body close None a b stays served is = absurd is
whole_read host conn body close (Some message) a b stays served is = serves_one host kind.Http conn (Request message) a b stays (served message is)

pub whole_passed : (host : Host) (conn : ℕ) (status : ℕ) (close : Bool) (under_way : Option HttpMessage) (wire wire' : WireView) (sheet : Sheet) (stays : Bool)
    → AnswersRefusal conn status close wire wire' stays → IsUnderWay (PassingOver status close) under_way
    → ServesAll host kind.Http conn (map Request (option_to_list under_way)) (record { wire = wire; sheet = sheet }) (record { wire = wire'; sheet = sheet }) (record { stays = stays; stop = false })
whole_passed host conn status close None wire wire' sheet stays answers is = absurd is
whole_passed host conn status close (Some message) wire wire' sheet stays answers is =
    serves_one host kind.Http conn (Request message) _ _ stays (refusal_served host conn message status close wire wire' sheet stays answers is)

pub whole_waiting : (host : Host) (conn : ℕ) (under_way : Option HttpMessage) (a : Scene) → IsUnderWay Waiting under_way
    → ServesAll host kind.Http conn (map Request (option_to_list under_way)) a a (record { stays = true; stop = false })
whole_waiting host conn None a is = (refl, refl)
whole_waiting host conn (Some message) a is = absurd is

-- memory was wanting for what is behind the requests
starved : (host : Host) (conn : ℕ) (item : Item) (wire wire' : WireView) (sheet : Sheet) → HalfHandles conn item sheet sheet
    → GoesOut conn (Some HTTP_NO_MEMORY) true wire wire' false
    → Serves host kind.Http conn item (record { wire = wire; sheet = sheet }) (record { wire = wire'; sheet = sheet }) (record { stays = false; stop = false })
starved host conn item wire wire' sheet half out = record {
  answer = record { bytes = Some HTTP_NO_MEMORY; closes = true; stop = false };
  gets = inr (half, refl);
  goes_out = out;
  stop = refl;
}

-- a reader's failure
failure_served : (host : Host) (conn : ℕ) (why : HttpFail) (wire wire' : WireView) (sheet : Sheet)
    → GoesOut conn (Some (failure_answer why)) true wire wire' false
    → Serves host kind.Http conn (Broken why) (record { wire = wire; sheet = sheet }) (record { wire = wire'; sheet = sheet }) (record { stays = false; stop = false })
failure_served host conn why wire wire' sheet out = record {
  answer = record { bytes = Some (failure_answer why); closes = true; stop = false };
  gets = inl (refl, refl);
  goes_out = out;
  stop = refl;
}

-- what is left isn't handled where the connection doesn't stay
serves_cut : (host : Host) (k : Kind) (conn : ℕ) (xs ys : List Item) (a b : Scene)
    → ServesAll host k conn xs a b (record { stays = false; stop = false }) → ServesAll host k conn (xs ++ ys) a b (record { stays = false; stop = false })
serves_cut host k conn [] ys a b p = absurd (cc (ap (λ (e : Ending). e.stays) p.1))
serves_cut host k conn (x ∷ xs) ys a b p =
    (p.0, p.1, p.2, by_end (p.1.stays && not p.1.stop) (λ r. serves_cut host k conn xs ys p.0 b r) p.3)
  where
    cut : Ending
    cut = record { stays = false; stop = false }

    by_end : (t : Bool) → (ServesAll host k conn xs p.0 b cut → ServesAll host k conn (xs ++ ys) p.0 b cut)
        → MatchBool t (ServesAll host k conn xs p.0 b cut) ((b ≡ p.0) × (cut ≡ p.1)) → MatchBool t (ServesAll host k conn (xs ++ ys) p.0 b cut) ((b ≡ p.0) × (cut ≡ p.1))
    by_end true more r = more r
    by_end false more r = r

-- ---- parts

module _ (host : Host) (conn : ℕ) (progress progress' : Progress) (old new : Scene) (stays : Bool) where
  -- a head
  pub head_served : (head : HttpHead) → IsUnderWay progress' (Some (with_body head [])) → ServesPart host conn (part.Head head) progress progress' old old true
  head_served head begun under_way is = inl ((refl, refl), begun)

  -- bytes of a body
  pub bytes_served : (bytes : List ℕ) → ((under_way : Option HttpMessage) → IsUnderWay progress under_way → IsUnderWay progress' (with_bytes under_way bytes))
      → ServesPart host conn (part.Body bytes) progress progress' old old true
  bytes_served bytes read under_way is = inl ((refl, refl), read under_way is)

  -- the end of a request
  pub end_served : ((under_way : Option HttpMessage) → IsUnderWay progress under_way
      → ServesAll host kind.Http conn (map Request (option_to_list under_way)) old new (record { stays = stays; stop = false }))
      → ServesPart host conn part.Done progress Waiting old new stays
  end_served served None is = inl (served None is, tt)
  end_served served (Some message) is = inl (served (Some message) is, tt)

-- memory was wanting for bytes of a body
pub bytes_starved : (host : Host) (conn : ℕ) (bytes : List ℕ) (progress progress' : Progress) (wire wire' : WireView) (sheet : Sheet) (stays : Bool)
    → GoesOut conn (Some HTTP_NO_MEMORY) true wire wire' stays
    → ServesPart host conn (part.Body bytes) progress progress' (record { wire = wire; sheet = sheet }) (record { wire = wire'; sheet = sheet }) stays
bytes_starved host conn bytes progress progress' wire wire' sheet true out under_way is = absurd (cc out.0)
bytes_starved host conn bytes progress progress' wire wire' sheet false out under_way is = inr (refl, starved host conn Unread wire wire' sheet refl out)

-- no part was handled yet
pub parts_none : (host : Host) (conn : ℕ) (reader : RequestReader) (scene : Scene) → PartsServed host conn reader reader scene scene
parts_none host conn reader scene = record {
  done = [];
  ready = refl;
  taken = λ bytes taken was. rw append-nil was;
  failure = refl;
  served = λ under_way is. rw (behind_none under_way) ((refl, refl), is);
}

module _ (host : Host) (conn : ℕ) (p : Part) (first reader reader' : RequestReader) (old new new' : Scene) where
  -- one more part
  pub parts_on : PartsServed host conn first reader old new → reader.parts.ready ≡ p ∷ reader'.parts.ready → Takes reader.parts reader'.parts (p ∷ [])
      → reader'.parts.failure ≡ reader.parts.failure → ServesPart host conn p reader.progress reader'.progress new new' true
      → PartsServed host conn first reader' old new'
  parts_on so ready taken failure one =
      let done = so.done in
      record {
        done = done ++ p ∷ [];
        ready = so.ready ∙ rw ready (sym (append_assoc done (p ∷ []) reader'.parts.ready));
        taken = λ bytes before was. rw (sym (append_assoc before done (p ∷ []))) (taken bytes (before ++ done) (so.taken bytes before was));
        failure = failure ∙ so.failure;
        served = λ under_way is. more under_way (so.served under_way is);
      }
    where
      more : (under_way : Option HttpMessage)
          → ServesAll host kind.Http conn (map Request (behind under_way so.done).whole) old new (record { stays = true; stop = false }) × IsUnderWay reader.progress (behind under_way so.done).under_way
          → ServesAll host kind.Http conn (map Request (behind under_way (so.done ++ p ∷ [])).whole) old new' (record { stays = true; stop = false })
          × IsUnderWay reader'.progress (behind under_way (so.done ++ p ∷ [])).under_way
      more under_way s =
          let now = (behind under_way so.done).under_way in
          let whole = (behind under_way so.done).whole in
          rw (behind_more under_way so.done (p ∷ []), behind_one now p, map-append) (by_one now whole s.0 (one now s.1))
        where
          by_one : (now : Option HttpMessage) (whole : List HttpMessage) → ServesAll host kind.Http conn (map Request whole) old new (record { stays = true; stop = false })
              → (ServesAll host kind.Http conn (map Request (with_part (holding now) p).whole) new new' (record { stays = true; stop = false }) × IsUnderWay reader'.progress (with_part (holding now) p).under_way)
              ⊎ ((true ≡ false) × Serves host kind.Http conn Unread new new' (record { stays = true; stop = false }))
              → ServesAll host kind.Http conn (map Request whole ++ map Request (with_part (holding now) p).whole) old new' (record { stays = true; stop = false })
              × IsUnderWay reader'.progress (with_part (holding now) p).under_way
          by_one now whole before (inl r) = (serves_append host kind.Http conn (map Request whole) (map Request (with_part (holding now) p).whole) old new new' _ before r.0, r.1)
          by_one now whole before (inr r) = absurd (cc r.0)

  -- the last part that is handled
  pub parts_last : PartsServed host conn first reader old new → reader.parts.ready ≡ p ∷ reader'.parts.ready
      → ServesPart host conn p reader.progress reader'.progress new new' false → StopsIn host conn first.parts.ready first.progress old new'
  parts_last so ready one under_way is =
      let now = (behind under_way so.done).under_way in
      let whole = (behind under_way so.done).whole in
      let s = so.served under_way is in
      let all : first.parts.ready ≡ so.done ++ p ∷ reader'.parts.ready = so.ready ∙ ap (λ (ps : List Part). so.done ++ ps) ready in
      rw (all, behind_more under_way so.done (p ∷ reader'.parts.ready)) (by_one now whole s.0 (one now s.1))
    where
      cut : Ending
      cut = record { stays = false; stop = false }

      by_one : (now : Option HttpMessage) (whole : List HttpMessage) → ServesAll host kind.Http conn (map Request whole) old new (record { stays = true; stop = false })
          → (ServesAll host kind.Http conn (map Request (with_part (holding now) p).whole) new new' cut × IsUnderWay reader'.progress (with_part (holding now) p).under_way)
          ⊎ ((false ≡ false) × Serves host kind.Http conn Unread new new' cut)
          → (front : List HttpMessage) × (left : List HttpMessage) × (whole ++ (behind now (p ∷ reader'.parts.ready)).whole ≡ front ++ left)
          × ServesAll host kind.Http conn (map Request front ++ Unread ∷ []) old new' cut
      by_one now whole before (inl r) =
          let made = (with_part (holding now) p).whole in
          let later = (behind (with_part (holding now) p).under_way reader'.parts.ready).whole in (
            whole ++ made,
            later,
            rw (behind_more now (p ∷ []) reader'.parts.ready, behind_one now p) (sym (append_assoc whole made later)),
            serves_cut host kind.Http conn (map Request (whole ++ made)) (Unread ∷ []) old new'
                (rw map-append (serves_append host kind.Http conn (map Request whole) (map Request made) old new new' cut before r.0)),
          )
      by_one now whole before (inr r) = (
        whole,
        (behind now (p ∷ reader'.parts.ready)).whole,
        refl,
        serves_append host kind.Http conn (map Request whole) (Unread ∷ []) old new new' cut before (serves_last host kind.Http conn Unread [] new new' cut r.1 refl),
      )

-- none is left
pub parts_end : (host : Host) (conn : ℕ) (first reader : RequestReader) (old new : Scene) → PartsServed host conn first reader old new → reader.parts.ready ≡ []
    → ServesParts host conn first.parts.ready first.progress reader.progress old new × Takes first.parts reader.parts first.parts.ready
parts_end host conn first reader old new so none =
    let all : so.done ≡ first.parts.ready = sym (so.ready ∙ rw none (append-nil so.done)) in (
      subst (λ (ps : List Part). ServesParts host conn ps first.progress reader.progress old new) all so.served,
      subst (λ (ps : List Part). Takes first.parts reader.parts ps) all so.taken,
    )

-- ---- a piece

module _ (host : Host) (conn : ℕ) (bytes : List ℕ) (first reader : RequestReader) (fed : ReaderState) (old new : Scene)
    (feeds : (before : List ℕ) (taken : List Part) → HasTaken first.parts before taken → HasTaken fed (before ++ bytes) taken) where
  -- Where the connection doesn't stay, what is behind the requests that were served doesn't matter.
  pub piece_stopped : (sight : Sight) → StopsIn host conn fed.ready first.progress old new
      → ServesPiece host sight conn bytes (connection.Http first) (connection.Http reader) old new (record { stays = false; stop = false })
  piece_stopped sight stops stream is =
      let all = is.1 in
      let before = (join all.taken).whole in
      let s = stops (join all.taken).under_way all.stands in
      let whole : (join (all.taken ++ fed.ready)).whole ≡ (before ++ s.0) ++ s.1 =
      ap (λ (j : Joined). j.whole) (join_more all.taken fed.ready) ∙ ap (λ (ms : List HttpMessage). before ++ ms) s.2 ∙ sym (append_assoc before s.0 s.1) in
      let begins = begins_front fed (stream.bytes ++ bytes) all.taken (before ++ s.0) s.1 (feeds stream.bytes all.taken all.read) whole in (
        rw is.0 (
          map Request s.0 ++ Unread ∷ [],
          (before, s.0, (join all.taken).under_way, Unread ∷ [], taken_is first.parts stream.bytes all.taken all.read all.unfailed all.none_left, inr (begins, refl), refl),
          s.3,
        ),
        λ e. absurd (cc e),
      )

  -- All parts that were ready were handled, and reading goes on.
  pub piece_read : (sight : Sight) → fed.failure ≡ None → Takes fed reader.parts fed.ready → reader.parts.ready ≡ [] → reader.parts.failure ≡ fed.failure
      → ServesParts host conn fed.ready first.progress reader.progress old new
      → ServesPiece host sight conn bytes (connection.Http first) (connection.Http reader) old new (record { stays = true; stop = false })
  piece_read sight unfailed taken empty same serves stream is =
      let all = is.1 in
      let before = (join all.taken).whole in
      let under_way = (join all.taken).under_way in
      let s = serves under_way all.stands in
      let more = (behind under_way fed.ready).whole in
      let read = feeds stream.bytes all.taken all.read in
      let joined = join_more all.taken fed.ready in
      let told : FedIs (stream.bytes ++ bytes) (before ++ more) (Ok tt) =
      subst (λ (j : Joined). FedIs (stream.bytes ++ bytes) j.whole (Ok tt)) joined (told_is fed (stream.bytes ++ bytes) all.taken (Ok tt) read unfailed) in (
        rw is.0 (
          map Request more ++ [],
          (before, more, under_way, [], taken_is first.parts stream.bytes all.taken all.read all.unfailed all.none_left, inl (Open told.0, told.1, refl), refl),
          serves_append host kind.Http conn (map Request more) [] old new new _ s.0 (refl, refl),
        ),
        λ _ _. (
          is.0,
          record {
            taken = all.taken ++ fed.ready;
            read = taken (stream.bytes ++ bytes) all.taken read;
            none_left = empty;
            unfailed = same ∙ unfailed;
            stands = subst (λ (j : Joined). IsUnderWay reader.progress j.under_way) (sym joined) s.1;
          },
        ),
      )

-- All parts that were ready were handled, and reading failed.
pub piece_failed : (host : Host) (sight : Sight) (conn : ℕ) (bytes : List ℕ) (first reader : RequestReader) (fed : ReaderState) (progress : Progress) (why : HttpFail) (old : Scene) (wire wire' : WireView) (sheet : Sheet)
    → ((before : List ℕ) (taken : List Part) → HasTaken first.parts before taken → HasTaken fed (before ++ bytes) taken)
    → fed.failure ≡ Some why
    → ServesParts host conn fed.ready first.progress progress old (record { wire = wire; sheet = sheet })
    → AnswersFailure conn why wire wire'
    → ServesPiece host sight conn bytes (connection.Http first) (connection.Http reader) old (record { wire = wire'; sheet = sheet }) (record { stays = false; stop = false })
piece_failed host sight conn bytes first reader fed progress why old wire wire' sheet feeds failed serves answered stream is =
    let all = is.1 in
    let before = (join all.taken).whole in
    let under_way = (join all.taken).under_way in
    let s = serves under_way all.stands in
    let more = (behind under_way fed.ready).whole in
    let read = feeds stream.bytes all.taken all.read in
    let told : AreRead (stream.bytes ++ bytes) (before ++ more) (failure_items why) =
    subst (λ (j : Joined). AreRead (stream.bytes ++ bytes) j.whole (failure_items why)) (join_more all.taken fed.ready) (told_is fed (stream.bytes ++ bytes) all.taken (Err why) read failed) in (
      rw is.0 (
        map Request more ++ failure_items why,
        (before, more, under_way, failure_items why, taken_is first.parts stream.bytes all.taken all.read all.unfailed all.none_left, told, refl),
        serves_append host kind.Http conn (map Request more) (failure_items why) old mid last cut s.0 (serves_last host kind.Http conn item [] mid last cut (by_memory (is_no_memory why) refl answered) refl),
      ),
      λ e. absurd (cc e),
    )
  where
    cut : Ending
    cut = record { stays = false; stop = false }

    mid : Scene
    mid = record { wire = wire; sheet = sheet }

    last : Scene
    last = record { wire = wire'; sheet = sheet }

    item : Item
    item = if is_no_memory why then Unread else Broken why

    by_memory : (b : Bool) → is_no_memory why ≡ b → AnswersFailure conn why wire wire' → Serves host kind.Http conn item mid last cut
    by_memory true e (inl out) = rw e (starved host conn Unread wire wire' sheet refl out)
    by_memory true e (inr p) = absurd (cc (e, p.0))
    by_memory false e (inl out) = rw e (starved host conn (Broken why) wire wire' sheet refl out)
    by_memory false e (inr p) = rw e (failure_served host conn why wire wire' sheet p.1)
