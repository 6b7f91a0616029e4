-- That what is done for an event changes rollouts by orders alone: what these keep an event keeps.
use Rattle.std.proofs.Common.{◌≡◌, ℕ, List, [], ◌∷◌, Bool, true, false, not, cond, ◌&&◌, fold, Option, None, Some, MatchBool, MatchOption, refl, sym, ap, subst, inl, inr}
use Rattle.edge_devices.specs.declared.wires.Kind.{Kind}
use Rattle.edge_devices.specs.declared.wires.WireEvent.{WireEvent}
use Rattle.edge_devices.specs.declared.wires.WireEvent.TheVariants as event
use Rattle.server_core.specs.declared.offers.Offer.TheVariants.{Config as ConfigOffer}
use Rattle.server_core.specs.declared.rows.Record.{Record}
use Rattle.server_core.specs.Offers.{fits_offer}
use Rattle.server_core.specs.Table.{is_held, left_agents}
use Rattle.server_waves.specs.declared.finders.Finder.{Finder}
use Rattle.server_waves.specs.Points.{AreWithin}
use Rattle.server_waves.specs.Register.{Rolling, all_without, changed, finished, with_rolling}
use Rattle.server_waves.specs.Waves.{Terms, resumed, with_halt}
use Rattle.server_lines.specs.declared.orders.Action.TheVariants as action
use Rattle.server_lines.specs.declared.orders.Order.{Order}
use Rattle.server_lines.specs.declared.orders.Order.TheVariants as order
use Rattle.server_lines.specs.declared.orders.Steering.TheVariants as steering
use Rattle.server_lines.specs.Answers.{Fleet, RunsOrder, has_place, rollouts_after}
use Rattle.server_sessions.specs.declared.answers.stepped.Entry.{Entry}
use Rattle.server_sessions.specs.Answers.{Answer, Answers, AnswersLine, Gets, HalfHandles, HalfRuns, Sheet, fleet_in}
use Rattle.server_sessions.specs.Reports.{Host}
use Rattle.server_lines.specs.Sights.{Seen, Sight, numbers_in, sight_of}
use Rattle.server_sessions.specs.Session.{Does, Ending, Moment, Scene, ServesAll, after_piece, stream_at}
use Rattle.server_sessions.specs.Streams.{Broken, Brings, Item, Line, LongLine, Partial, Payload, Request, Stream, Unread}

abbrev Keeps : List Rolling → List Rolling → Type 0
Keeps old new = AreWithin old → AreWithin new

keeps_same : (old new : List Rolling) → new ≡ old → Keeps old new
keeps_same old new is = subst (λ (r : List Rolling). Keeps old r) (sym is) (λ within. within)

keeps_on : (a b c : List Rolling) → Keeps a b → Keeps b c → Keeps a c
keeps_on a b c p q = λ within. q (p within)

module _
    (begun : (records : List Record) (id : List ℕ) (sought : Option Finder) (terms : Terms) (rollouts : List Rolling) → Keeps rollouts (with_rolling records id sought terms rollouts))
    (halted : (id : List ℕ) (rollouts : List Rolling) → Keeps rollouts (changed with_halt id rollouts))
    (resuming : (id : List ℕ) (rollouts : List Rolling) → Keeps rollouts (changed resumed id rollouts))
    (ended : (id : List ℕ) (rollouts : List Rolling) → Keeps rollouts (finished id rollouts))
    (left : (uid : List ℕ) (rollouts : List Rolling) → Keeps rollouts (all_without uid rollouts)) where
  all_left : (uids : List (List ℕ)) (rollouts : List Rolling) → Keeps rollouts (fold (λ rollouts uid. all_without uid rollouts) rollouts uids)
  all_left [] rollouts = keeps_same rollouts rollouts refl
  all_left (uid ∷ uids) rollouts = keeps_on rollouts (all_without uid rollouts) _ (left uid rollouts) (all_left uids (all_without uid rollouts))

  order_keeps : (o : Order) (old : Fleet) → Keeps old.rollouts (rollouts_after old o)
  order_keeps (order.Ask asked) old = keeps_same old.rollouts old.rollouts refl
  order_keeps (order.Act uid (action.Offer offer)) old = keeps_same old.rollouts old.rollouts refl
  order_keeps (order.Act uid action.Restart) old = keeps_same old.rollouts old.rollouts refl
  order_keeps (order.Act uid action.Withdraw) old = keeps_same old.rollouts old.rollouts refl
  order_keeps (order.Act uid action.Forget) old = by_held (is_held old.table uid)
    where
      by_held : (b : Bool) → Keeps old.rollouts (cond b (all_without uid old.rollouts) old.rollouts)
      by_held true = left uid old.rollouts
      by_held false = keeps_same old.rollouts old.rollouts refl
  order_keeps (order.Steer id (steering.Begin width allowed finder files)) old = by_place (has_place old.rollouts id && fits_offer (ConfigOffer files))
    where
      by_place : (b : Bool)
          → Keeps old.rollouts (cond b (with_rolling old.table.records id finder (record { files = files; width = width; allowed = allowed }) old.rollouts) old.rollouts)
      by_place true = begun old.table.records id finder (record { files = files; width = width; allowed = allowed }) old.rollouts
      by_place false = keeps_same old.rollouts old.rollouts refl
  order_keeps (order.Steer id steering.Halt) old = halted id old.rollouts
  order_keeps (order.Steer id steering.Resume) old = resuming id old.rollouts
  order_keeps (order.Steer id steering.Finish) old = ended id old.rollouts
  order_keeps order.ForgetLeft old = all_left (left_agents old.table) old.rollouts
  order_keeps order.Stop old = keeps_same old.rollouts old.rollouts refl

  runs_keep : (sight : Sight) (o : Order) (old new : Fleet) (text : List ℕ) → RunsOrder sight old o text new → Keeps old.rollouts new.rollouts
  unfolding RunsOrder
  runs_keep sight o old new text (inl p) = subst (λ (r : List Rolling). Keeps old.rollouts r) (sym p.2) (order_keeps o old)
  runs_keep sight o old new text (inr p) = keeps_same old.rollouts new.rollouts (ap (λ (f : Fleet). f.rollouts) p.2)

  line_keeps : (conn : ℕ) (line : List ℕ) (sight : Sight) (old new : Fleet) (ordered noted : List (List ℕ)) (entries told : List Entry) (answer : List ℕ) (stop : Bool) → AnswersLine conn line sight old new ordered noted entries told answer stop → Keeps old.rollouts new.rollouts
  line_keeps conn line sight old new ordered noted entries told answer stop (inl p) = keeps_same old.rollouts new.rollouts (ap (λ (f : Fleet). f.rollouts) p.1)
  line_keeps conn line sight old new ordered noted entries told answer stop (inr p) = runs_keep sight p.0 old new answer p.2

  half_keeps : (line : List ℕ) (sight : Sight) (old new : Fleet) → HalfRuns line sight old new → Keeps old.rollouts new.rollouts
  half_keeps line sight old new (inl same) = keeps_same old.rollouts new.rollouts (ap (λ (f : Fleet). f.rollouts) same)
  half_keeps line sight old new (inr ran) = runs_keep sight ran.0 old new ran.1 ran.3

  sheet_keeps : (old new : Sheet) → new ≡ old → Keeps old.desk.rollouts new.desk.rollouts
  sheet_keeps old new is = keeps_same old.desk.rollouts new.desk.rollouts (ap (λ (s : Sheet). s.desk.rollouts) is)

  module _ (host : Host) where
    answer_keeps : (conn : ℕ) (item : Item) (old new : Sheet) (answer : Answer) → Answers host conn item old new answer → Keeps old.desk.rollouts new.desk.rollouts
    answer_keeps conn (Payload bytes) old new answer p = keeps_same old.desk.rollouts new.desk.rollouts p.2.rollouts
    answer_keeps conn (Line line sight) old new answer p = line_keeps conn line sight (fleet_in old.desk) (fleet_in new.desk) old.ordered new.ordered old.entries new.entries p.0 p.1 p.2
    answer_keeps conn LongLine old new answer p = sheet_keeps old new p.0
    answer_keeps conn Partial old new answer p = sheet_keeps old new p.0
    answer_keeps conn (Request m) old new answer p = keeps_same old.desk.rollouts new.desk.rollouts p.2.rollouts
    answer_keeps conn (Broken why) old new answer p = sheet_keeps old new p.0
    answer_keeps conn Unread old new answer p = absurd p

    item_keeps : (conn : ℕ) (item : Item) (old new : Sheet) → HalfHandles conn item old new → Keeps old.desk.rollouts new.desk.rollouts
    item_keeps conn (Payload bytes) old new p = keeps_same old.desk.rollouts new.desk.rollouts p.2.rollouts
    item_keeps conn (Line line sight) old new p = half_keeps line sight (fleet_in old.desk) (fleet_in new.desk) p.0
    item_keeps conn LongLine old new p = sheet_keeps old new p
    item_keeps conn Partial old new p = sheet_keeps old new p
    item_keeps conn (Request m) old new p = keeps_same old.desk.rollouts new.desk.rollouts p.2.rollouts
    item_keeps conn (Broken why) old new p = sheet_keeps old new p
    item_keeps conn Unread old new p = sheet_keeps old new p

    gets_keep : (k : Kind) (conn : ℕ) (item : Item) (old new : Sheet) (answer : Answer) → Gets host k conn item old new answer → Keeps old.desk.rollouts new.desk.rollouts
    gets_keep k conn item old new answer (inl p) = answer_keeps conn item old new answer p
    gets_keep k conn item old new answer (inr p) = item_keeps conn item old new p.0

    all_keep : (k : Kind) (conn : ℕ) (items : List Item) (old new : Scene) (end : Ending) → ServesAll host k conn items old new end → Keeps old.sheet.desk.rollouts new.sheet.desk.rollouts
    all_keep k conn [] old new end p = sheet_keeps old.sheet new.sheet (ap (λ (s : Scene). s.sheet) p.0)
    all_keep k conn (item ∷ items) old new end p =
        keeps_on old.sheet.desk.rollouts p.0.sheet.desk.rollouts new.sheet.desk.rollouts (gets_keep k conn item old.sheet p.0.sheet p.2.answer p.2.gets)
        (by_more (p.1.stays && not p.1.stop) p.3 (all_keep k conn items p.0 new end))
      where
        by_more : (t : Bool) → MatchBool t (ServesAll host k conn items p.0 new end) ((new ≡ p.0) × (end ≡ p.1))
            → (ServesAll host k conn items p.0 new end → Keeps p.0.sheet.desk.rollouts new.sheet.desk.rollouts) → Keeps p.0.sheet.desk.rollouts new.sheet.desk.rollouts
        by_more true q more = more q
        by_more false q more = sheet_keeps p.0.sheet new.sheet (ap (λ (s : Scene). s.sheet) q.0)

    pub event_keeps : (seen : Seen) (e : WireEvent) (old new : Moment) (stop : Bool) → Does host seen e old new stop → Keeps old.scene.sheet.desk.rollouts new.scene.sheet.desk.rollouts
    event_keeps seen (event.Opened conn k) old new stop p = keeps_same _ _ (ap (λ (s : Scene). s.sheet.desk.rollouts) p.1)
    event_keeps seen (event.Closed conn) old new stop p = keeps_same _ _ (ap (λ (m : Moment). m.scene.sheet.desk.rollouts) p.0)
    event_keeps seen (event.Piece conn bytes) old new stop p = by_stream (stream_at old.streams conn) p
      where
        by_stream : (o : Option Stream)
            → MatchOption o ((new ≡ old) × (stop ≡ false)) (λ stream. (items : List Item) × (end : Ending) × Brings (sight_of seen (numbers_in old.streams)) stream bytes items × ServesAll host stream.kind conn items old.scene new.scene end
            × (new.streams ≡ after_piece old.streams conn stream bytes end.stays) × (stop ≡ end.stop))
            → Keeps old.scene.sheet.desk.rollouts new.scene.sheet.desk.rollouts
        by_stream None q = keeps_same _ _ (ap (λ (m : Moment). m.scene.sheet.desk.rollouts) q.0)
        by_stream (Some stream) q = all_keep stream.kind conn q.0 old.scene new.scene q.1 q.3
