-- One item is served.
use Rattle.std.proofs.Common.{◌≡◌, ℕ, List, [], ◌∷◌, Bool, true, false, None, Some, ◌⊎◌, ◌<◌, length, nat_le, refl, inl, inr, arith}
use Rattle.edge_devices.specs.declared.wires.Kind.{Kind}
use Rattle.edge_devices.specs.declared.wires.Kind.TheVariants as kind
use Rattle.server_sessions.specs.declared.connection.Connection.TheVariants as connection
use Rattle.server_sessions.specs.Wiring.{WireView, IsDone}
use Rattle.edge_devices.specs.declared.wires.WireCall.TheVariants.{Closed}
use Rattle.edge_devices.specs.Clocks.{EntropyState}
use Rattle.server_lines.specs.declared.orders.Order.{Order}
use Rattle.server_lines.specs.Journal.{journal_words}
use Rattle.server_lines.specs.Lines.{MeansOrder}
use Rattle.server_lines.specs.Answers.{RunsOrder, fleet_of}
use Rattle.server_lines.specs.Sights.{Sight}
use Rattle.server_core.specs.Table.{Table}
use Rattle.server_sessions.specs.declared.answers.limits.TheConstants.{WS_NO_MEMORY, LINE_NO_MEMORY, LINE_LIMIT}
use Rattle.server_waves.specs.Register.{Rolling}
use Rattle.server_sessions.specs.declared.answers.stepped.Entry.{Entry}
use Rattle.server_sessions.specs.declared.answers.stepped.Handled.{Handled}
use Rattle.server_sessions.specs.Streams.{Item, Payload, Line, LongLine, Partial, line_item, rest_items}
use Rattle.message_replies.specs.Header.{payload_of}
use Rattle.server_sessions.specs.Reports.{Host, Intake, HalfReads, desk_of}
use Rattle.server_sessions.specs.Answers.{Sheet, AnswersPayload, AnswersLine, HalfRuns, HalfTells, GoesOut, note_entry}
use Rattle.server_sessions.specs.Session.{Scene, Serves, ServesAll}
use Rattle.server_sessions.specs.Connections.{ServesPiece}

module _ (host : Host) (conn : ℕ) (bytes : List ℕ) (wire wire' : WireView) (intake intake' : Intake) (rollouts : List Rolling) (handled handled' : List Handled) (ordered : List (List ℕ)) (entries : List Entry) (stays : Bool) where
  -- a payload gets its answer
  pub payload_served : (sent : List ℕ) → AnswersPayload host conn bytes intake intake' handled handled' sent → GoesOut conn (Some sent) false wire wire' stays
      → Serves host kind.Ws conn (Payload bytes)
      (record { wire = wire; sheet = record { desk = desk_of intake.entropy intake.table rollouts; handled = handled; ordered = ordered; entries = entries } })
      (record { wire = wire'; sheet = record { desk = desk_of intake'.entropy intake'.table rollouts; handled = handled'; ordered = ordered; entries = entries } })
      (record { stays = stays; stop = false })
  payload_served sent answers out = record {
    answer = record { bytes = Some sent; closes = false; stop = false };
    gets = inl (sent, answers, record { rollouts = refl; ordered = refl; entries = refl }, refl);
    goes_out = out;
    stop = refl;
  }

  -- memory was wanting for a payload
  pub payload_starved : HalfReads (payload_of bytes) intake intake' → handled' ≡ handled → GoesOut conn (Some WS_NO_MEMORY) true wire wire' stays
      → Serves host kind.Ws conn (Payload bytes)
      (record { wire = wire; sheet = record { desk = desk_of intake.entropy intake.table rollouts; handled = handled; ordered = ordered; entries = entries } })
      (record { wire = wire'; sheet = record { desk = desk_of intake'.entropy intake'.table rollouts; handled = handled'; ordered = ordered; entries = entries } })
      (record { stays = stays; stop = false })
  payload_starved half same out = record {
    answer = record { bytes = Some WS_NO_MEMORY; closes = true; stop = false };
    gets = inr ((half, same, record { rollouts = refl; ordered = refl; entries = refl }), refl);
    goes_out = out;
    stop = refl;
  }

-- one item alone
pub one_served : (host : Host) (k : Kind) (conn : ℕ) (item : Item) (old new : Scene) (stays : Bool)
    → Serves host k conn item old new (record { stays = stays; stop = false })
    → ServesAll host k conn (item ∷ []) old new (record { stays = stays; stop = false })
one_served host k conn item old new true served = (new, record { stays = true; stop = false }, served, (refl, refl))
one_served host k conn item old new false served = (new, record { stays = false; stop = false }, served, (refl, refl))

-- a payload is what a piece of WebSocket brings
pub payload_piece : (host : Host) (sight : Sight) (conn : ℕ) (bytes : List ℕ) (old new : Scene) (stays stop : Bool) → stop ≡ false
    → Serves host kind.Ws conn (Payload bytes) old new (record { stays = stays; stop = false })
    → ServesPiece host sight conn bytes connection.Ws connection.Ws old new (record { stays = stays; stop = stop })
payload_piece host sight conn bytes old new stays stop goes_on served stream is =
    (rw (is, goes_on) (Payload bytes ∷ [], refl, one_served host kind.Ws conn (Payload bytes) old new stays served), λ _ _. is)

module _ (host : Host) (conn : ℕ) (line : List ℕ) (sight : Sight) (wire wire' : WireView) (entropy : EntropyState) (table : Table) (rollouts : List Rolling) (table' : Table) (rollouts' : List Rolling) (handled : List Handled) (ordered ordered' : List (List ℕ)) (entries entries' : List Entry) (stays stop : Bool) where
  -- a line gets its answer
  pub line_served : (sent : List ℕ) (stop' : Bool) → stop ≡ stop' → AnswersLine conn line sight (fleet_of table rollouts) (fleet_of table' rollouts') ordered ordered' entries entries' sent stop' → GoesOut conn (Some sent) false wire wire' stays
      → Serves host kind.Operator conn (Line line sight)
      (record { wire = wire; sheet = record { desk = desk_of entropy table rollouts; handled = handled; ordered = ordered; entries = entries } })
      (record { wire = wire'; sheet = record { desk = desk_of entropy table' rollouts'; handled = handled; ordered = ordered'; entries = entries' } })
      (record { stays = stays; stop = stop })
  line_served sent stop' same answers out = record {
    answer = record { bytes = Some sent; closes = false; stop = stop' };
    gets = inl (sent, stop', answers, refl, refl, refl);
    goes_out = out;
    stop = same;
  }

  -- memory was wanting for a line
  pub line_starved : stop ≡ false → ordered' ≡ ordered → HalfRuns line sight (fleet_of table rollouts) (fleet_of table' rollouts')
      → HalfTells conn line sight (fleet_of table rollouts) (fleet_of table' rollouts') entries entries' → GoesOut conn (Some LINE_NO_MEMORY) true wire wire' stays
      → Serves host kind.Operator conn (Line line sight)
      (record { wire = wire; sheet = record { desk = desk_of entropy table rollouts; handled = handled; ordered = ordered; entries = entries } })
      (record { wire = wire'; sheet = record { desk = desk_of entropy table' rollouts'; handled = handled; ordered = ordered'; entries = entries' } })
      (record { stays = stays; stop = stop })
  line_starved same kept half told out = record {
    answer = record { bytes = Some LINE_NO_MEMORY; closes = true; stop = false };
    gets = inr ((half, refl, refl, kept, told), refl);
    goes_out = out;
    stop = same;
  }

pub half_from : (line : List ℕ) (sight : Sight) (table : Table) (rollouts : List Rolling) (table' : Table) (rollouts' : List Rolling) (o : Order) → MeansOrder line o
    → (fleet_of table' rollouts' ≡ fleet_of table rollouts) ⊎ ((text : List ℕ) × RunsOrder sight (fleet_of table rollouts) o text (fleet_of table' rollouts'))
    → HalfRuns line sight (fleet_of table rollouts) (fleet_of table' rollouts')
half_from line sight table rollouts table' rollouts' o means (inl same) = inl same
half_from line sight table rollouts table' rollouts' o means (inr ran) = inr (o, ran.0, means, ran.1)

pub told_from : (conn : ℕ) (line : List ℕ) (sight : Sight) (table : Table) (rollouts : List Rolling) (table' : Table) (rollouts' : List Rolling) (entries entries' : List Entry) (o : Order) → MeansOrder line o
    → (entries' ≡ entries) ⊎ ((text : List ℕ) × RunsOrder sight (fleet_of table rollouts) o text (fleet_of table' rollouts') × (entries' ≡ note_entry conn (journal_words o) text entries))
    → HalfTells conn line sight (fleet_of table rollouts) (fleet_of table' rollouts') entries entries'
told_from conn line sight table rollouts table' rollouts' entries entries' o means (inl same) = inl same
told_from conn line sight table rollouts table' rollouts' entries entries' o means (inr ran) = inr (o, ran.0, means, ran.1, ran.2)

-- a line that is too long
pub long_served : (host : Host) (k : Kind) (conn : ℕ) (wire wire' : WireView) (sheet : Sheet) (stop : Bool) → stop ≡ false → IsDone (Closed conn) wire wire'
    → Serves host k conn LongLine (record { wire = wire; sheet = sheet }) (record { wire = wire'; sheet = sheet }) (record { stays = false; stop = stop })
long_served host k conn wire wire' sheet stop same told = record {
  answer = record { bytes = None; closes = true; stop = false };
  gets = inl (refl, refl);
  goes_out = inr (refl, (wire, refl, told));
  stop = same;
}

-- the front of a line
pub part_served : (host : Host) (k : Kind) (conn : ℕ) (s : Scene) → Serves host k conn Partial s s (record { stays = true; stop = false })
part_served host k conn s = record {
  answer = record { bytes = None; closes = false; stop = false };
  gets = inl (refl, refl);
  goes_out = (refl, refl);
  stop = refl;
}

-- memory was wanting for the front of a line
pub part_starved : (host : Host) (conn : ℕ) (wire wire' : WireView) (sheet : Sheet) (stays : Bool) → GoesOut conn (Some LINE_NO_MEMORY) true wire wire' stays
    → Serves host kind.Operator conn Partial (record { wire = wire; sheet = sheet }) (record { wire = wire'; sheet = sheet }) (record { stays = stays; stop = false })
part_starved host conn wire wire' sheet stays out = record {
  answer = record { bytes = Some LINE_NO_MEMORY; closes = true; stop = false };
  gets = inr (refl, refl);
  goes_out = out;
  stop = refl;
}

-- a line behind its front is too long
pub next_long : (host : Host) (conn : ℕ) (line : List ℕ) (sight : Sight) (wire wire' : WireView) (sheet : Sheet) (stop : Bool) → nat_le (length line) LINE_LIMIT ≡ false → stop ≡ false → IsDone (Closed conn) wire wire'
    → Serves host kind.Operator conn (line_item sight line) (record { wire = wire; sheet = sheet }) (record { wire = wire'; sheet = sheet }) (record { stays = false; stop = stop })
next_long host conn line sight wire wire' sheet stop long same told = rw long (long_served host kind.Operator conn wire wire' sheet stop same told)

-- memory was wanting for it
pub next_starved : (host : Host) (conn : ℕ) (line : List ℕ) (sight : Sight) (wire wire' : WireView) (entropy : EntropyState) (table : Table) (rollouts : List Rolling) (handled : List Handled) (ordered : List (List ℕ)) (entries : List Entry) (stays stop : Bool)
    → nat_le (length line) LINE_LIMIT ≡ true → stop ≡ false → GoesOut conn (Some LINE_NO_MEMORY) true wire wire' stays
    → Serves host kind.Operator conn (line_item sight line)
    (record { wire = wire; sheet = record { desk = desk_of entropy table rollouts; handled = handled; ordered = ordered; entries = entries } })
    (record { wire = wire'; sheet = record { desk = desk_of entropy table rollouts; handled = handled; ordered = ordered; entries = entries } })
    (record { stays = stays; stop = stop })
next_starved host conn line sight wire wire' entropy table rollouts handled ordered entries stays stop fits same out =
    rw fits (line_starved host conn line sight wire wire' entropy table rollouts table rollouts handled ordered ordered entries entries stays stop same refl (inl refl) (inl refl) out)

-- what stands behind the last line feed is too long, is kept, or wants memory
pub rest_long : (host : Host) (conn : ℕ) (bytes : List ℕ) (wire wire' : WireView) (sheet : Sheet) → nat_le (length bytes) LINE_LIMIT ≡ false → IsDone (Closed conn) wire wire'
    → ServesAll host kind.Operator conn (rest_items bytes) (record { wire = wire; sheet = sheet }) (record { wire = wire'; sheet = sheet }) (record { stays = false; stop = false })
rest_long host conn [] wire wire' sheet long told = absurd (cc long)
rest_long host conn (b ∷ bytes) wire wire' sheet long told =
    rw long (one_served host kind.Operator conn LongLine _ _ false (long_served host kind.Operator conn wire wire' sheet false refl told))

pub rest_kept : (host : Host) (conn : ℕ) (bytes : List ℕ) (s : Scene) → nat_le (length bytes) LINE_LIMIT ≡ true
    → ServesAll host kind.Operator conn (rest_items bytes) s s (record { stays = true; stop = false })
rest_kept host conn [] s fits = (refl, refl)
rest_kept host conn (b ∷ bytes) s fits = rw fits (one_served host kind.Operator conn Partial s s true (part_served host kind.Operator conn s))

pub rest_starved : (host : Host) (conn : ℕ) (bytes : List ℕ) (wire wire' : WireView) (sheet : Sheet) (stays : Bool) → nat_le (length bytes) LINE_LIMIT ≡ true → 0 < length bytes
    → GoesOut conn (Some LINE_NO_MEMORY) true wire wire' stays
    → ServesAll host kind.Operator conn (rest_items bytes) (record { wire = wire; sheet = sheet }) (record { wire = wire'; sheet = sheet }) (record { stays = stays; stop = false })
rest_starved host conn [] wire wire' sheet stays fits some out = absurd (omega (arith, some))
rest_starved host conn (b ∷ bytes) wire wire' sheet stays fits some out =
    rw fits (one_served host kind.Operator conn Partial _ _ stays (part_starved host conn wire wire' sheet stays out))
