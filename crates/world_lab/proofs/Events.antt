-- How many events the lines of a script make.
use Rattle.std.proofs.Common.{◌≡◌, ◌+◌, ◌≤◌, List, [], ◌∷◌, ◌++◌, length, length-append, Bool, true, false, cond, Option, None, Some, arith}
use Rattle.message_values.specs.declared.reply.ServerToAgent.{ServerToAgent}
use Rattle.world_model.specs.World.{Event}
use Rattle.world_scripts.specs.Words.{is_url}
use Rattle.world_scripts.specs.declared.lines.Line.{Line}
use Rattle.world_scripts.specs.declared.lines.Line.TheVariants.{Caps, Attr, HealthOk, HealthBad, Effective, Custom, Component, Send, Deliver, Reply, GiveUp, Restart, ServerRestart, OfferConfig, OfferConnection, Stop, Record, Push, TakePush, Active}
use Rattle.world_lab.specs.Playing.{Progress, after_line, events_of, push_taken, takes_push, world_of}

-- one event at most
one_event : (events more : List Event) → length more ≤ 1 → length (events ++ more) ≤ length events + 1
one_event events more few = let both : length (events ++ more) ≡ length events + length more = length-append events more in omega (arith, both, few)

offer_event : (b : Bool) (e : Event) → length (cond b (e ∷ []) []) ≤ 1
offer_event true e = omega arith
offer_event false e = omega arith

-- a line makes one event at most
pub line_makes : (p : Progress) (line : Line) → length (after_line p line).events ≤ length p.events + 1
line_makes p (Caps bits) = one_event p.events _ (omega arith)
line_makes p (Attr key text) = one_event p.events _ (omega arith)
line_makes p HealthOk = one_event p.events _ (omega arith)
line_makes p (HealthBad text) = one_event p.events _ (omega arith)
line_makes p (Effective name text) = one_event p.events _ (omega arith)
line_makes p (Custom name) = one_event p.events _ (omega arith)
line_makes p (Component name) = one_event p.events _ (omega arith)
line_makes p Send = one_event p.events _ (omega arith)
line_makes p (Deliver report) = one_event p.events _ (omega arith)
line_makes p Reply = one_event p.events _ (omega arith)
line_makes p GiveUp = one_event p.events _ (omega arith)
line_makes p Restart = one_event p.events _ (omega arith)
line_makes p (ServerRestart server) = one_event p.events _ (omega arith)
line_makes p (OfferConfig server name text) = one_event p.events _ (omega arith)
line_makes p (OfferConnection server url) = one_event p.events (events_of (world_of p).agent (OfferConnection server url)) (offer_event (is_url url) _)
line_makes p (Stop call mode) = omega arith
line_makes p (Record server) = one_event p.events _ (omega arith)
line_makes p (Push server) = omega arith
line_makes p TakePush = by_push (push_taken p)
  where
    by_push : (o : Option ServerToAgent) → length (takes_push p o).events ≤ length p.events + 1
    by_push None = one_event p.events _ (omega arith)
    by_push (Some message) = one_event p.events _ (omega arith)
line_makes p Active = one_event p.events _ (omega arith)
