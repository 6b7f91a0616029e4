-- What an item's answer is like: whether it closes the connection, whether something is said, and whether the run ends behind it.
use Rattle.std.proofs.Common.{◌≡◌, ℕ, List, Bool, true, false, is_some, refl, sym, ap, ◌∙◌, inl, inr}
use Rattle.server_lines.specs.declared.orders.Order.{Order}
use Rattle.server_lines.specs.Answers.{Fleet}
use Rattle.server_lines.specs.Lines.{MeansOrder}
use Rattle.server_lines.specs.Orders.{is_stop}
use Rattle.server_sessions.specs.declared.answers.stepped.Entry.{Entry}
use Rattle.server_sessions.specs.Answers.{Answers, Answer, AnswersLine, Sheet, fleet_in}
use Rattle.server_sessions.specs.Reports.{Host}
use Rattle.server_lines.specs.Sights.{Sight}
use Rattle.server_sessions.specs.Streams.{Item, Payload, Line, LongLine, Partial, Request, Broken, Unread}

-- a line has one answer, but for want of memory
module _ (one : (line : List ℕ) (order other : Order) → MeansOrder line order → MeansOrder line other → order ≡ other) where
  pub line_stop : (conn conn' : ℕ) (line : List ℕ) (sight sight' : Sight) (old new old' new' : Fleet) (ordered noted ordered' noted' : List (List ℕ)) (entries told entries' told' : List Entry) (answer answer' : List ℕ) (stop stop' : Bool)
      → AnswersLine conn line sight old new ordered noted entries told answer stop → AnswersLine conn' line sight' old' new' ordered' noted' entries' told' answer' stop' → stop ≡ stop'
  line_stop conn conn' line sight sight' old new old' new' ordered noted ordered' noted' entries told entries' told' answer answer' stop stop' (inl p) (inl q) = p.4 ∙ sym q.4
  line_stop conn conn' line sight sight' old new old' new' ordered noted ordered' noted' entries told entries' told' answer answer' stop stop' (inl p) (inr q) = absurd (p.0 q.0 q.1)
  line_stop conn conn' line sight sight' old new old' new' ordered noted ordered' noted' entries told entries' told' answer answer' stop stop' (inr p) (inl q) = absurd (q.0 p.0 p.1)
  line_stop conn conn' line sight sight' old new old' new' ordered noted ordered' noted' entries told entries' told' answer answer' stop stop' (inr p) (inr q) = p.4 ∙ ap is_stop (one line p.0 q.0 p.1 q.1) ∙ sym q.4

-- ---- what an item's answer is like

-- the same item, where a line is asked over this
abbrev pub seen_as : Sight → Item → Item
seen_as sight (Payload bytes) = Payload bytes
seen_as sight (Line line was) = Line line sight
seen_as sight LongLine = LongLine
seen_as sight Partial = Partial
seen_as sight (Request m) = Request m
seen_as sight (Broken why) = Broken why
seen_as sight Unread = Unread

abbrev pub closes_of : Item → Bool
closes_of (Payload bytes) = false
closes_of (Line line sight) = false
closes_of LongLine = true
closes_of Partial = false
closes_of (Request m) = m.close
closes_of (Broken why) = true
closes_of Unread = true

abbrev pub speaks_of : Item → Bool
speaks_of (Payload bytes) = true
speaks_of (Line line sight) = true
speaks_of LongLine = false
speaks_of Partial = false
speaks_of (Request m) = true
speaks_of (Broken why) = true
speaks_of Unread = true

-- it closes, and speaks, whatever a line is asked over
pub closes_as : (sight : Sight) (item : Item) → closes_of (seen_as sight item) ≡ closes_of item
closes_as sight (Payload bytes) = refl
closes_as sight (Line line was) = refl
closes_as sight LongLine = refl
closes_as sight Partial = refl
closes_as sight (Request m) = refl
closes_as sight (Broken why) = refl
closes_as sight Unread = refl

pub speaks_as : (sight : Sight) (item : Item) → speaks_of (seen_as sight item) ≡ speaks_of item
speaks_as sight (Payload bytes) = refl
speaks_as sight (Line line was) = refl
speaks_as sight LongLine = refl
speaks_as sight Partial = refl
speaks_as sight (Request m) = refl
speaks_as sight (Broken why) = refl
speaks_as sight Unread = refl

module _ (host : Host) (conn : ℕ) where
  pub closes_is : (item : Item) (old new : Sheet) (answer : Answer) → Answers host conn item old new answer → answer.closes ≡ closes_of item
  closes_is (Payload bytes) old new answer p = ap (λ (a : Answer). a.closes) p.3
  closes_is (Line line sight) old new answer p = ap (λ (a : Answer). a.closes) p.5
  closes_is LongLine old new answer p = ap (λ (a : Answer). a.closes) p.1
  closes_is Partial old new answer p = ap (λ (a : Answer). a.closes) p.1
  closes_is (Request m) old new answer p = ap (λ (a : Answer). a.closes) p.3
  closes_is (Broken why) old new answer p = ap (λ (a : Answer). a.closes) p.1
  closes_is Unread old new answer p = absurd p

  pub speaks_is : (item : Item) (old new : Sheet) (answer : Answer) → Answers host conn item old new answer → is_some answer.bytes ≡ speaks_of item
  speaks_is (Payload bytes) old new answer p = ap (λ (a : Answer). is_some a.bytes) p.3
  speaks_is (Line line sight) old new answer p = ap (λ (a : Answer). is_some a.bytes) p.5
  speaks_is LongLine old new answer p = ap (λ (a : Answer). is_some a.bytes) p.1
  speaks_is Partial old new answer p = ap (λ (a : Answer). is_some a.bytes) p.1
  speaks_is (Request m) old new answer p = ap (λ (a : Answer). is_some a.bytes) p.3
  speaks_is (Broken why) old new answer p = ap (λ (a : Answer). is_some a.bytes) p.1
  speaks_is Unread old new answer p = absurd p

  -- one behind which the connection is closed doesn't end the run
  pub quiet : (item : Item) (old new : Sheet) (answer : Answer) → Answers host conn item old new answer → closes_of item ≡ true → answer.stop ≡ false
  quiet (Payload bytes) old new answer p e = absurd (cc e)
  quiet (Line line sight) old new answer p e = absurd (cc e)
  quiet LongLine old new answer p e = ap (λ (a : Answer). a.stop) p.1
  quiet Partial old new answer p e = absurd (cc e)
  quiet (Request m) old new answer p e = ap (λ (a : Answer). a.stop) p.3
  quiet (Broken why) old new answer p e = ap (λ (a : Answer). a.stop) p.1
  quiet Unread old new answer p e = absurd p

  -- one that ends it says something
  pub spoken : (item : Item) (old new : Sheet) (answer : Answer) → Answers host conn item old new answer → answer.stop ≡ true → (closes_of item ≡ false) × (speaks_of item ≡ true)
  spoken (Payload bytes) old new answer p e = (refl, refl)
  spoken (Line line sight) old new answer p e = (refl, refl)
  spoken LongLine old new answer p e = absurd (cc (e, ap (λ (a : Answer). a.stop) p.1))
  spoken Partial old new answer p e = absurd (cc (e, ap (λ (a : Answer). a.stop) p.1))
  spoken (Request m) old new answer p e = absurd (cc (e, ap (λ (a : Answer). a.stop) p.3))
  spoken (Broken why) old new answer p e = absurd (cc (e, ap (λ (a : Answer). a.stop) p.1))
  spoken Unread old new answer p e = absurd p

  pub stops_same : (one : (line : List ℕ) (order other : Order) → MeansOrder line order → MeansOrder line other → order ≡ other) (sight sight' : Sight) (item : Item) (old new old' new' : Sheet) (answer answer' : Answer)
      → Answers host conn (seen_as sight item) old new answer → Answers host conn (seen_as sight' item) old' new' answer' → answer.stop ≡ answer'.stop
  stops_same one sight sight' (Payload bytes) old new old' new' answer answer' p q = ap (λ (a : Answer). a.stop) p.3 ∙ sym (ap (λ (a : Answer). a.stop) q.3)
  stops_same one sight sight' (Line line was) old new old' new' answer answer' p q =
      ap (λ (a : Answer). a.stop) p.5
      ∙ line_stop one conn conn line sight sight' (fleet_in old.desk) (fleet_in new.desk) (fleet_in old'.desk) (fleet_in new'.desk) old.ordered new.ordered old'.ordered new'.ordered old.entries new.entries old'.entries new'.entries p.0 q.0 p.1 q.1 p.2 q.2
      ∙ sym (ap (λ (a : Answer). a.stop) q.5)
  stops_same one sight sight' LongLine old new old' new' answer answer' p q = ap (λ (a : Answer). a.stop) p.1 ∙ sym (ap (λ (a : Answer). a.stop) q.1)
  stops_same one sight sight' Partial old new old' new' answer answer' p q = ap (λ (a : Answer). a.stop) p.1 ∙ sym (ap (λ (a : Answer). a.stop) q.1)
  stops_same one sight sight' (Request m) old new old' new' answer answer' p q = ap (λ (a : Answer). a.stop) p.3 ∙ sym (ap (λ (a : Answer). a.stop) q.3)
  stops_same one sight sight' (Broken why) old new old' new' answer answer' p q = ap (λ (a : Answer). a.stop) p.1 ∙ sym (ap (λ (a : Answer). a.stop) q.1)
  stops_same one sight sight' Unread old new old' new' answer answer' p q = absurd p
