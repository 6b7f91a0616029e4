-- That what is done for an event makes no offer by rollouts: what follows it does.
use Rattle.std.proofs.Common.{◌≡◌, ℕ, List, [], ◌∷◌, Bool, true, false, not, cond, ◌&&◌, fold, Option, None, Some, MatchBool, MatchOption, refl, sym, ap, subst, inl, inr}
use Rattle.edge_devices.specs.declared.wires.Kind.{Kind}
use Rattle.edge_devices.specs.declared.wires.WireEvent.{WireEvent}
use Rattle.edge_devices.specs.declared.wires.WireEvent.TheVariants as event
use Rattle.server_core.specs.declared.offers.Offer.TheVariants.{Config as ConfigOffer}
use Rattle.server_core.specs.declared.rows.Record.{Record}
use Rattle.server_core.specs.Offers.{fits_offer}
use Rattle.server_core.specs.Table.{is_held, left_agents}
use Rattle.server_waves.specs.declared.finders.Finder.{Finder}
use Rattle.server_waves.specs.Points.{OfferNoMore}
use Rattle.server_waves.specs.Register.{Rolling, all_without, changed, finished, with_rolling}
use Rattle.server_waves.specs.Waves.{Terms, resumed, with_halt}
use Rattle.server_lines.specs.declared.orders.Action.TheVariants as action
use Rattle.server_lines.specs.declared.orders.Order.{Order}
use Rattle.server_lines.specs.declared.orders.Order.TheVariants as order
use Rattle.server_lines.specs.declared.orders.Steering.TheVariants as steering
use Rattle.server_lines.specs.Answers.{Fleet, RunsOrder, has_place, rollouts_after}
use Rattle.server_sessions.specs.declared.answers.stepped.Entry.{Entry}
use Rattle.server_sessions.specs.Answers.{Answer, Answers, AnswersLine, Gets, HalfHandles, HalfRuns, Sheet, fleet_in}
use Rattle.server_sessions.specs.Reports.{Host}
use Rattle.server_lines.specs.Sights.{Seen, Sight, numbers_in, sight_of}
use Rattle.server_sessions.specs.Session.{Does, Ending, Moment, Scene, ServesAll, after_piece, stream_at}
use Rattle.server_sessions.specs.Streams.{Broken, Brings, Item, Line, LongLine, Partial, Payload, Request, Stream, Unread}

offers_same : (old new : List Rolling) → new ≡ old → OfferNoMore old new
offers_same old new is = subst (λ (r : List Rolling). OfferNoMore old r) (sym is) (λ hash uid there. there)

offers_on : (a b c : List Rolling) → OfferNoMore a b → OfferNoMore b c → OfferNoMore a c
offers_on a b c p q = λ hash uid there. p hash uid (q hash uid there)

module _
    (begun : (records : List Record) (id : List ℕ) (sought : Option Finder) (terms : Terms) (rollouts : List Rolling) → OfferNoMore rollouts (with_rolling records id sought terms rollouts))
    (halted : (id : List ℕ) (rollouts : List Rolling) → OfferNoMore rollouts (changed with_halt id rollouts))
    (resuming : (id : List ℕ) (rollouts : List Rolling) → OfferNoMore rollouts (changed resumed id rollouts))
    (ended : (id : List ℕ) (rollouts : List Rolling) → OfferNoMore rollouts (finished id rollouts))
    (left : (uid : List ℕ) (rollouts : List Rolling) → OfferNoMore rollouts (all_without uid rollouts)) where
  all_left : (uids : List (List ℕ)) (rollouts : List Rolling) → OfferNoMore rollouts (fold (λ rollouts uid. all_without uid rollouts) rollouts uids)
  all_left [] rollouts = offers_same rollouts rollouts refl
  all_left (uid ∷ uids) rollouts = offers_on rollouts (all_without uid rollouts) (fold (λ rollouts uid. all_without uid rollouts) (all_without uid rollouts) uids) (left uid rollouts) (all_left uids (all_without uid rollouts))

  order_offers : (o : Order) (old : Fleet) → OfferNoMore old.rollouts (rollouts_after old o)
  order_offers (order.Ask asked) old = offers_same old.rollouts old.rollouts refl
  order_offers (order.Act uid (action.Offer offer)) old = offers_same old.rollouts old.rollouts refl
  order_offers (order.Act uid action.Restart) old = offers_same old.rollouts old.rollouts refl
  order_offers (order.Act uid action.Withdraw) old = offers_same old.rollouts old.rollouts refl
  order_offers (order.Act uid action.Forget) old = by_held (is_held old.table uid)
    where
      by_held : (b : Bool) → OfferNoMore old.rollouts (cond b (all_without uid old.rollouts) old.rollouts)
      by_held true = left uid old.rollouts
      by_held false = offers_same old.rollouts old.rollouts refl
  order_offers (order.Steer id (steering.Begin width allowed finder files)) old = by_place (has_place old.rollouts id && fits_offer (ConfigOffer files))
    where
      by_place : (b : Bool)
          → OfferNoMore old.rollouts (cond b (with_rolling old.table.records id finder (record { files = files; width = width; allowed = allowed }) old.rollouts) old.rollouts)
      by_place true = begun old.table.records id finder (record { files = files; width = width; allowed = allowed }) old.rollouts
      by_place false = offers_same old.rollouts old.rollouts refl
  order_offers (order.Steer id steering.Halt) old = halted id old.rollouts
  order_offers (order.Steer id steering.Resume) old = resuming id old.rollouts
  order_offers (order.Steer id steering.Finish) old = ended id old.rollouts
  order_offers order.ForgetLeft old = all_left (left_agents old.table) old.rollouts
  order_offers order.Stop old = offers_same old.rollouts old.rollouts refl

  runs_offers : (sight : Sight) (o : Order) (old new : Fleet) (text : List ℕ) → RunsOrder sight old o text new → OfferNoMore old.rollouts new.rollouts
  unfolding RunsOrder
  runs_offers sight o old new text (inl p) = subst (λ (r : List Rolling). OfferNoMore old.rollouts r) (sym p.2) (order_offers o old)
  runs_offers sight o old new text (inr p) = offers_same old.rollouts new.rollouts (ap (λ (f : Fleet). f.rollouts) p.2)

  line_offers : (conn : ℕ) (line : List ℕ) (sight : Sight) (old new : Fleet) (ordered noted : List (List ℕ)) (entries told : List Entry) (answer : List ℕ) (stop : Bool) → AnswersLine conn line sight old new ordered noted entries told answer stop → OfferNoMore old.rollouts new.rollouts
  line_offers conn line sight old new ordered noted entries told answer stop (inl p) = offers_same old.rollouts new.rollouts (ap (λ (f : Fleet). f.rollouts) p.1)
  line_offers conn line sight old new ordered noted entries told answer stop (inr p) = runs_offers sight p.0 old new answer p.2

  half_offers : (line : List ℕ) (sight : Sight) (old new : Fleet) → HalfRuns line sight old new → OfferNoMore old.rollouts new.rollouts
  half_offers line sight old new (inl same) = offers_same old.rollouts new.rollouts (ap (λ (f : Fleet). f.rollouts) same)
  half_offers line sight old new (inr ran) = runs_offers sight ran.0 old new ran.1 ran.3

  sheet_offers : (old new : Sheet) → new ≡ old → OfferNoMore old.desk.rollouts new.desk.rollouts
  sheet_offers old new is = offers_same old.desk.rollouts new.desk.rollouts (ap (λ (s : Sheet). s.desk.rollouts) is)

  module _ (host : Host) where
    answer_offers : (conn : ℕ) (item : Item) (old new : Sheet) (answer : Answer) → Answers host conn item old new answer → OfferNoMore old.desk.rollouts new.desk.rollouts
    answer_offers conn (Payload bytes) old new answer p = offers_same old.desk.rollouts new.desk.rollouts p.2.rollouts
    answer_offers conn (Line line sight) old new answer p = line_offers conn line sight (fleet_in old.desk) (fleet_in new.desk) old.ordered new.ordered old.entries new.entries p.0 p.1 p.2
    answer_offers conn LongLine old new answer p = sheet_offers old new p.0
    answer_offers conn Partial old new answer p = sheet_offers old new p.0
    answer_offers conn (Request m) old new answer p = offers_same old.desk.rollouts new.desk.rollouts p.2.rollouts
    answer_offers conn (Broken why) old new answer p = sheet_offers old new p.0
    answer_offers conn Unread old new answer p = absurd p

    item_offers : (conn : ℕ) (item : Item) (old new : Sheet) → HalfHandles conn item old new → OfferNoMore old.desk.rollouts new.desk.rollouts
    item_offers conn (Payload bytes) old new p = offers_same old.desk.rollouts new.desk.rollouts p.2.rollouts
    item_offers conn (Line line sight) old new p = half_offers line sight (fleet_in old.desk) (fleet_in new.desk) p.0
    item_offers conn LongLine old new p = sheet_offers old new p
    item_offers conn Partial old new p = sheet_offers old new p
    item_offers conn (Request m) old new p = offers_same old.desk.rollouts new.desk.rollouts p.2.rollouts
    item_offers conn (Broken why) old new p = sheet_offers old new p
    item_offers conn Unread old new p = sheet_offers old new p

    gets_offers : (k : Kind) (conn : ℕ) (item : Item) (old new : Sheet) (answer : Answer) → Gets host k conn item old new answer → OfferNoMore old.desk.rollouts new.desk.rollouts
    gets_offers k conn item old new answer (inl p) = answer_offers conn item old new answer p
    gets_offers k conn item old new answer (inr p) = item_offers conn item old new p.0

    all_offer : (k : Kind) (conn : ℕ) (items : List Item) (old new : Scene) (end : Ending) → ServesAll host k conn items old new end → OfferNoMore old.sheet.desk.rollouts new.sheet.desk.rollouts
    all_offer k conn [] old new end p = sheet_offers old.sheet new.sheet (ap (λ (s : Scene). s.sheet) p.0)
    all_offer k conn (item ∷ items) old new end p =
        offers_on old.sheet.desk.rollouts p.0.sheet.desk.rollouts new.sheet.desk.rollouts (gets_offers k conn item old.sheet p.0.sheet p.2.answer p.2.gets)
        (by_more (p.1.stays && not p.1.stop) p.3 (all_offer k conn items p.0 new end))
      where
        by_more : (t : Bool) → MatchBool t (ServesAll host k conn items p.0 new end) ((new ≡ p.0) × (end ≡ p.1))
            → (ServesAll host k conn items p.0 new end → OfferNoMore p.0.sheet.desk.rollouts new.sheet.desk.rollouts) → OfferNoMore p.0.sheet.desk.rollouts new.sheet.desk.rollouts
        by_more true q more = more q
        by_more false q more = sheet_offers p.0.sheet new.sheet (ap (λ (s : Scene). s.sheet) q.0)

    pub event_offers : (seen : Seen) (e : WireEvent) (old new : Moment) (stop : Bool) → Does host seen e old new stop → OfferNoMore old.scene.sheet.desk.rollouts new.scene.sheet.desk.rollouts
    event_offers seen (event.Opened conn k) old new stop p = offers_same old.scene.sheet.desk.rollouts new.scene.sheet.desk.rollouts (ap (λ (s : Scene). s.sheet.desk.rollouts) p.1)
    event_offers seen (event.Closed conn) old new stop p = offers_same old.scene.sheet.desk.rollouts new.scene.sheet.desk.rollouts (ap (λ (m : Moment). m.scene.sheet.desk.rollouts) p.0)
    event_offers seen (event.Piece conn bytes) old new stop p = by_stream (stream_at old.streams conn) p
      where
        by_stream : (o : Option Stream)
            → MatchOption o ((new ≡ old) × (stop ≡ false)) (λ stream. (items : List Item) × (end : Ending) × Brings (sight_of seen (numbers_in old.streams)) stream bytes items × ServesAll host stream.kind conn items old.scene new.scene end
            × (new.streams ≡ after_piece old.streams conn stream bytes end.stays) × (stop ≡ end.stop))
            → OfferNoMore old.scene.sheet.desk.rollouts new.scene.sheet.desk.rollouts
        by_stream None q = offers_same old.scene.sheet.desk.rollouts new.scene.sheet.desk.rollouts (ap (λ (m : Moment). m.scene.sheet.desk.rollouts) q.0)
        by_stream (Some stream) q = all_offer stream.kind conn q.0 old.scene new.scene q.1 q.3
