-- One run has one ending: what its wire tells says how many events it was of, and whether addresses were listened to.
use Rattle.std.proofs.Common.{MatchBool, ◌≡◌, ◌≢◌, ◌≤◌, ◌<◌, ◌+◌, ℕ, List, [], ◌∷◌, ◌++◌, length, nat_le, Bool, true, false, Option, None, Some, IsSome, inl, inr, refl, sym, ap, ◌∙◌, subst, arith, append_assoc, length-append}
use Rattle.std.specs.Prelude.{Err, IfOk, Ok, Result}
use Rattle.std.specs.List.{filter_map}
use Rattle.std.proofs.lemmas.Bool.{leb-true, leb-false}
use Rattle.std.proofs.lemmas.List.{append_cancel_left}
use Rattle.message_values.specs.declared.custom.CustomMessage.{CustomMessage}
use Rattle.edge_devices.specs.Clocks.{EntropyState}
use Rattle.edge_devices.specs.Wires.{Grows}
use Rattle.edge_devices.specs.declared.wires.WireCall.{WireCall}
use Rattle.edge_devices.specs.declared.wires.Given.{Given}
use Rattle.command_words.specs.declared.commands.ServeOptions.{ServeOptions}
use Rattle.server_core.specs.declared.replies.Profile.{Profile}
use Rattle.server_core.specs.declared.rows.Record.{Record}
use Rattle.server_core.specs.Table.{empty_within}
use Rattle.server_sessions.specs.Reports.{Desk, Host, desk_of}
use Rattle.server_lines.specs.Sights.{nothing_seen}
use Rattle.server_sessions.specs.Session.{ServerSession, SessionState, state_of}
use Rattle.server_sessions.specs.Wiring.{WireView}
use Rattle.server_sessions.specs.Runs.{Gives, IsLostLast, ServesEvents, beginning, event_in}
use Rattle.server_sessions.specs.declared.serving.ServeEnd.{ServeEnd}
use Rattle.server_sessions.specs.Sessions.{Nothing, Place, ServesBy, SessionBy, alone, place_of, site_of, state_in}
use Rattle.server_deliveries.specs.Deliveries.{Delivered, Delivers, NoRollouts, with_none}
use Rattle.command_serve.specs.Serving.{Dispatch, FailsOnWire, FailsToListen, IsLostWherePlain, IsProfileWith, Listens, RunEnds, Serves, ServesPlainly, StopsLast, host_with, listenings, site_with}
use Rattle.command_serve.proofs.Names.{one_profile}

-- ---- what is told

pub told_by : (a b : Option (List WireCall)) (calls xs : List WireCall) → a ≡ Some calls → Grows a b xs → b ≡ Some (calls ++ xs)
told_by a b calls xs is grows = by_other b (rw is at grows)
  where
    by_other : (o : Option (List WireCall)) → Grows (Some calls) o xs → o ≡ Some (calls ++ xs)
    by_other None q = absurd q
    by_other (Some told) q = ap Some q

-- the same calls, from where the same were made, give the same events
pub same_events : (a a' b b' : WireView) (calls : List WireCall) (xs ys : List Given) → a.calls ≡ Some calls → a'.calls ≡ Some calls → Gives a b xs → Gives a' b' ys → b.calls ≡ b'.calls → xs ≡ ys
same_events a a' b b' calls xs ys is is' p q same =
    let one : b.calls ≡ Some (calls ++ p.more) = told_by a.calls b.calls calls p.more is p.told in
    let other : b'.calls ≡ Some (calls ++ q.more) = told_by a'.calls b'.calls calls q.more is' q.told in
    let all : calls ++ p.more ≡ calls ++ q.more = cc (one, other, same) in
    sym p.gave ∙ ap (filter_map event_in) (append_cancel_left calls p.more q.more all) ∙ q.gave

pub same_count : (n m : ℕ) (a a' b b' : WireView) (calls : List WireCall) (xs ys : List Given) → a.calls ≡ Some calls → a'.calls ≡ Some calls → length xs ≡ n → length ys ≡ m → Gives a b xs → Gives a' b' ys → b.calls ≡ b'.calls → n ≡ m
same_count n m a a' b b' calls xs ys is is' count count' p q same = sym count ∙ ap length (same_events a a' b b' calls xs ys is is' p q same) ∙ count'

-- where not all addresses were listened to, no event was given
pub listens_apart : (calls before after more all : List WireCall) (failed : WireCall) → all ≡ before ++ failed ∷ after → calls ++ before ≡ (calls ++ all) ++ more → ⊥
listens_apart calls before after more all failed parts same =
    let tails : before ≡ all ++ more = append_cancel_left calls before (all ++ more) (same ∙ append_assoc calls all more) in
    let size : length before ≡ length all + length more = ap length tails ∙ length-append all more in
    let whole : length all ≡ length before + length (failed ∷ after) = ap length parts ∙ length-append before (failed ∷ after) in
    omega (arith, size, whole)

pub fails_to_listen : (options : ServeOptions) (old new mid : WireView) (calls more : List WireCall) → old.calls ≡ Some calls → FailsToListen options old new → Listens (listenings options) old mid → Grows mid.calls new.calls more → ⊥
fails_to_listen options old new mid calls more is f listens grows =
    let stopped : f.mid.calls ≡ Some (calls ++ f.before) = told_by old.calls f.mid.calls calls f.before is f.listens.told in
    let here : mid.calls ≡ Some (calls ++ listenings options) = told_by old.calls mid.calls calls (listenings options) is listens.told in
    let there : new.calls ≡ Some ((calls ++ listenings options) ++ more) = told_by mid.calls new.calls (calls ++ listenings options) more here grows in
    let same : calls ++ f.before ≡ (calls ++ listenings options) ++ more = cc (stopped, there, f.fails.untold) in
    listens_apart calls f.before f.after more (listenings options) f.failed f.parts same

-- nothing was done, where all addresses were listened to
listens_to_none : (old mid new : WireView) (calls all more : List WireCall) (call : WireCall) (rest : List WireCall) → all ≡ call ∷ rest → old.calls ≡ Some calls → new.calls ≡ old.calls → Listens all old mid → Grows mid.calls new.calls more → ⊥
listens_to_none old mid new calls all more call rest some is same listens grows =
    let here : mid.calls ≡ Some (calls ++ all) = told_by old.calls mid.calls calls all is listens.told in
    let there : new.calls ≡ Some ((calls ++ all) ++ more) = told_by mid.calls new.calls (calls ++ all) more here grows in
    let whole : calls ≡ (calls ++ all) ++ more = cc (is, same, there) in
    let size : length calls ≡ (length calls + length all) + length more = ap length whole ∙ length-append (calls ++ all) more ∙ ap (λ (n : ℕ). n + length more) (length-append calls all) in
    let least : length all ≡ length (call ∷ rest) = ap length some in
    omega (arith, size, least)

pub listened_to_none : (options : ServeOptions) (old mid new : WireView) (calls more : List WireCall) → old.calls ≡ Some calls → new.calls ≡ old.calls → Listens (listenings options) old mid → Grows mid.calls new.calls more → ⊥
listened_to_none options old mid new calls more is same listens grows = listens_to_none old mid new calls (listenings options) more _ _ refl is same listens grows

pub some_calls : (o : Option (List WireCall)) → IsSome o → (calls : List WireCall) × (o ≡ Some calls)
some_calls None told = absurd (cc told)
some_calls (Some calls) told = (calls, refl)

-- ---- runs

-- a run of some events is one from where fewer faults were counted, too
moved : (host : Host) (n : ℕ) (a a' b : WireView) (desk desk' : Desk) (stop : Bool) → a'.calls ≡ a.calls → a'.faults ≤ a.faults → n ≢ 0 → ServesEvents host n a b desk desk' stop → ServesEvents host n a' b desk desk' stop
moved host n a a' b desk desk' stop same fewer some p = record {
  events = p.events;
  streams = p.streams;
  seen = p.seen;
  number = p.number;
  session = by_events p.events p.number p.session;
  given = record { more = p.given.more; told = rw same p.given.told; gave = p.given.gave; count = omega (arith, fewer, p.given.count) };
}
  where
    by_events : (events : List Given) → length events ≡ n → ServerSession host events (state_of nothing_seen (beginning a desk)) (state_of p.seen (record { streams = p.streams; wire = b; desk = desk' })) stop
        → ServerSession host events (state_of nothing_seen (beginning a' desk)) (state_of p.seen (record { streams = p.streams; wire = b; desk = desk' })) stop
    by_events [] is q = absurd (some (sym is))
    by_events (event ∷ events) is q = (q.0, q.1, (q.2.0, q.2.1, record { told = rw same q.2.2.told; count = omega (arith, fewer, q.2.2.count) }, q.2.3, q.2.4), q.3)

some_stop : (host : Host) (n : ℕ) (a b : WireView) (desk desk' : Desk) → ServesEvents host n a b desk desk' true → n ≢ 0
some_stop host n a b desk desk' p none = by_events p.events p.number p.session
  where
    by_events : (events : List Given) → length events ≡ n → ServerSession host events (state_of nothing_seen (beginning a desk)) (state_of p.seen (record { streams = p.streams; wire = b; desk = desk' })) true → ⊥
    by_events [] is q = absurd (cc q.1)
    by_events (event ∷ events) is q = let size : length (event ∷ events) ≡ 0 = is ∙ none in omega (arith, size)

-- what a law of `server_sessions` says of runs of this host
abbrev pub StopIsLost : Host → Type 0
StopIsLost host = (n m : ℕ) (old new : WireView) (desk a b : Desk) → IsSome old.calls → ServesEvents host n old new desk a true → ServesEvents host m old new desk b false → IsLostLast new.calls

stop_is_lost : (host : Host) → StopIsLost host → (n m : ℕ) (a a' b : WireView) (desk x y : Desk) → IsSome a.calls → a'.calls ≡ a.calls → n ≤ m
    → ServesEvents host n a b desk x true → ServesEvents host m a' b desk y false → IsLostLast b.calls
stop_is_lost host law n m a a' b desk x y told same within p q = by_order (nat_le a.faults a'.faults) refl
  where
    some : n ≢ 0
    some = some_stop host n a b desk x p

    some' : m ≢ 0
    some' none = let zero : n ≡ 0 = omega (arith, within, none) in some zero

    by_order : (o : Bool) → nat_le a.faults a'.faults ≡ o → IsLostLast b.calls
    by_order true is = law n m a b desk x y told p (moved host m a' a b desk y false (sym same) (leb-true a.faults a'.faults is) some' q)
    by_order false is =
        let less : a'.faults < a.faults = leb-false a.faults a'.faults is in
        let fewer : a'.faults ≤ a.faults = omega (arith, less) in
        law n m a' b desk x y (rw same told) (moved host n a a' b desk x true same fewer some p) q

-- what laws of `server_deliveries` and `server_sessions` say of sessions of this host where no rollout is there and nothing is pushed
abbrev pub NothingOnly : Host → Type 0
NothingOnly host = (fine : Record → Bool) (events : List Given) (old : Place Unit) (new : Place Delivered) (stop : Bool) → SessionBy (NoRollouts Delivers) host events (with_none fine old) new stop
    → (last : Place Unit) × (new ≡ with_none fine last) × SessionBy (NoRollouts Nothing) host events old last stop

abbrev pub ServerOnly : Host → Type 0
ServerOnly host = (events : List Given) (old new : Place Unit) (stop : Bool) → SessionBy Nothing host events old new stop → ServerSession host events (state_in old) (state_in new) stop

-- one where nothing follows an event behind which no rollout is there is one where nothing follows
nothing_follows : (host : Host) (events : List Given) (old new : Place Unit) (stop : Bool) → SessionBy (NoRollouts Nothing) host events old new stop → SessionBy Nothing host events old new stop
nothing_follows host [] old new stop p = p
nothing_follows host (event ∷ events) old new stop p = (
  p.0,
  p.1,
  record { given = p.2.given; end = p.2.end; gave = p.2.gave; does = p.2.does; last = p.2.last; behind = p.2.behind.1; stands = p.2.stands; sees = p.2.sees },
  by_stop p.1 p.3 (nothing_follows host events p.0 new stop),
)
  where
    by_stop : (s : Bool) → MatchBool s ((events ≡ []) × (new ≡ p.0) × (stop ≡ true)) (SessionBy (NoRollouts Nothing) host events p.0 new stop)
        → (SessionBy (NoRollouts Nothing) host events p.0 new stop → SessionBy Nothing host events p.0 new stop) → MatchBool s ((events ≡ []) × (new ≡ p.0) × (stop ≡ true)) (SessionBy Nothing host events p.0 new stop)
    by_stop true q more = q
    by_stop false q more = more q

-- a run behind whose events nothing follows
serves_events : (host : Host) → NothingOnly host → ServerOnly host → (fine : Record → Bool) (n : ℕ) (mid new : WireView) (desk desk' : Desk) (kept : Delivered) (stop : Bool)
    → ServesBy (NoRollouts Delivers) host n (site_of mid desk (record { fine = fine; routes = None })) (site_of new desk' kept) stop → ServesEvents host n mid new desk desk' stop
serves_events host only server fine n mid new desk desk' kept stop p =
    let first = alone (state_of nothing_seen (beginning mid desk)) in
    let got = only fine p.events first (place_of p.seen p.streams (site_of new desk' kept)) stop p.session in
    let last : state_in got.0 ≡ state_of p.seen (record { streams = p.streams; wire = new; desk = desk' }) = sym (ap (λ (place : Place Delivered). state_in place) got.1) in record {
      events = p.events;
      streams = p.streams;
      seen = p.seen;
      number = p.number;
      session = subst (λ (s : SessionState). ServerSession host p.events (state_of nothing_seen (beginning mid desk)) s stop) last
          (server p.events first got.0 stop (nothing_follows host p.events first got.0 stop got.2));
      given = p.given;
    }

without_routes : (kept : Delivered) → kept.routes ≡ None → kept ≡ record { fine = kept.fine; routes = None }
without_routes kept is = λ i. record { fine = kept.fine; routes = is i }

module _ (names : List (List ℕ)) (answers : CustomMessage → Option CustomMessage → Type 0) (options : ServeOptions) (first : Dispatch) (old new : WireView) (entropy entropy' : EntropyState) where
  -- the number of its events
  same_turns : (n m : ℕ) (last other : Dispatch) (stop stopped : Bool) → IsSome old.calls → Serves names answers options first n old new entropy entropy' last stop
      → Serves names answers options first m old new entropy entropy' other stopped → n ≡ m
  same_turns n m last other stop stopped told p q =
      let calls = some_calls old.calls told in
      let here : p.mid.calls ≡ Some (calls.0 ++ listenings options) = told_by old.calls p.mid.calls calls.0 (listenings options) calls.1 p.listens.told in
      let there : q.mid.calls ≡ Some (calls.0 ++ listenings options) = told_by old.calls q.mid.calls calls.0 (listenings options) calls.1 q.listens.told in
      same_count n m p.mid q.mid new new (calls.0 ++ listenings options) p.serves.events q.serves.events here there p.serves.number q.serves.number p.serves.given q.serves.given refl

  -- a run that ended at all of its turns is none in which the wire failed
  pub fails_apart : (last : Dispatch) → FailsOnWire names answers options first old new entropy entropy' → Serves names answers options first options.turns old new entropy entropy' last false → IsSome old.calls → ⊥
  fails_apart last (inl f) q told =
      let calls = some_calls old.calls told in
      fails_to_listen options old new q.mid calls.0 q.serves.given.more calls.1 f.0 q.listens q.serves.given.told
  fails_apart last (inr f) q told =
      let calls = some_calls old.calls told in
      let p = f.2 in
      let here : p.mid.calls ≡ Some (calls.0 ++ listenings options) = told_by old.calls p.mid.calls calls.0 (listenings options) calls.1 p.listens.told in
      let there : q.mid.calls ≡ Some (calls.0 ++ listenings options) = told_by old.calls q.mid.calls calls.0 (listenings options) calls.1 q.listens.told in
      let same : f.0 ≡ options.turns =
      same_count f.0 options.turns p.mid q.mid p.fails.mid new (calls.0 ++ listenings options) p.fails.served.events q.serves.events here there p.fails.served.number q.serves.number p.fails.served.given q.serves.given
      (sym p.fails.failed.untold) in
      omega (arith, f.1, same)

  -- one in which addresses were listened to has calls
  pub begun_apart : (last : Dispatch) → new.calls ≡ old.calls → Serves names answers options first options.turns old new entropy entropy' last false → IsSome old.calls → ⊥
  begun_apart last same q told =
      let calls = some_calls old.calls told in
      listened_to_none options old q.mid new calls.0 q.serves.given.more calls.1 same q.listens q.serves.given.told

  module _ (profile : Profile) (says : IsProfileWith names options.connections profile) (law : StopIsLost (host_with profile answers)) (only : NothingOnly (host_with profile answers)) (server : ServerOnly (host_with profile answers)) where
    plain : (n : ℕ) (last : Dispatch) (stop : Bool) → first.delivered.routes ≡ None → (p : ServesPlainly names answers options first n old new entropy entropy' last stop)
        → ServesEvents (host_with profile answers) n p.mid new (desk_of entropy (empty_within options.agents) first.rollouts) (desk_of entropy' p.table last.rollouts) stop
    plain n last stop is p =
        serves_events (host_with profile answers) only server first.delivered.fine n p.mid new (desk_of entropy (empty_within options.agents) first.rollouts) (desk_of entropy' p.table last.rollouts) last.delivered stop
        (subst (λ (d : Delivered). ServesBy (NoRollouts Delivers) (host_with profile answers) n (site_of p.mid (desk_of entropy (empty_within options.agents) first.rollouts) d) (site_with new entropy' p.table last) stop) (without_routes first.delivered is)
        (subst (λ (x : Profile). ServesBy (NoRollouts Delivers) (host_with x answers) n (site_with p.mid entropy (empty_within options.agents) first) (site_with new entropy' p.table last) stop) (one_profile names options.connections p.profile profile p.says says) p.serves))

    -- the answer to `stop` was lost, where the run may be one without it
    lost_to_both : IsSome old.calls → IsLostWherePlain names answers options first old new entropy entropy'
    lost_to_both told is last other p q =
        let calls = some_calls old.calls told in
        let here : p.mid.calls ≡ Some (calls.0 ++ listenings options) = told_by old.calls p.mid.calls calls.0 (listenings options) calls.1 p.listens.told in
        let there : q.mid.calls ≡ Some (calls.0 ++ listenings options) = told_by old.calls q.mid.calls calls.0 (listenings options) calls.1 q.listens.told in
        let all : options.turns ≤ options.turns = omega arith in
        stop_is_lost (host_with profile answers) law options.turns options.turns p.mid q.mid new (desk_of entropy (empty_within options.agents) first.rollouts) (desk_of entropy' p.table last.rollouts) (desk_of entropy' q.table other.rollouts)
        (rw here refl) (there ∙ sym here) all (plain options.turns last true is p) (plain options.turns other false is q)

    stops_last : (n : ℕ) (last other : Dispatch) → Serves names answers options first n old new entropy entropy' last true → Serves names answers options first options.turns old new entropy entropy' other false
        → IsSome old.calls → StopsLast names answers options first old new entropy entropy'
    stops_last n last other p q told = (
      last,
      subst (λ (k : ℕ). Serves names answers options first k old new entropy entropy' last true) (same_turns n options.turns last other true false told p q) p,
      lost_to_both told,
    )

    pub stopped_last : (last : Dispatch) (result : Result ℕ ServeEnd) → RunEnds names answers options first old new entropy entropy' last result
        → IfOk result (λ n. (other : Dispatch) → Serves names answers options first options.turns old new entropy entropy' other false → IsSome old.calls → StopsLast names answers options first old new entropy entropy')
    stopped_last last (Ok n) p = λ other q told. stops_last n last other p.1 q told
    stopped_last last (Err end) p = tt
