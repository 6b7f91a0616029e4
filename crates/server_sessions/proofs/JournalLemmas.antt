-- The journal beside a session.
use Rattle.std.proofs.Common.{◌≡◌, ◌∙◌, ℕ, ◌+◌, ◌<◌, List, [], ◌∷◌, ◌++◌, length, get_or, take, Bool, true, false, MatchBool, Result, Ok, Err, refl, sym, ap, subst, inl, inr, take_all, ◌≤◌}
use Rattle.std.proofs.lemmas.List.{take_more}
use Rattle.edge_devices.specs.Streams.{SinkView}
use Rattle.edge_devices.specs.declared.wires.Given.{Given}
use Rattle.edge_notes.specs.Noted.{IsNoted}
use Rattle.server_sessions.specs.declared.answers.stepped.Entry.{Entry}
use Rattle.server_sessions.specs.declared.serving.ServeEnd.{ServeEnd}
use Rattle.server_sessions.specs.declared.serving.ServeEnd.TheVariants as end
use Rattle.server_core.specs.declared.replies.Profile.{Profile}
use Rattle.server_core.specs.Table.{Table}
use Rattle.server_waves.specs.Register.{Rolling}
use Rattle.server_lines.specs.Sights.{nothing_seen}
use Rattle.server_sessions.specs.declared.answers.stepped.Stepped.{Stepped}
use Rattle.server_sessions.specs.Connections.{Known}
use Rattle.server_sessions.specs.Wiring.{WireView}
use Rattle.server_sessions.specs.Reports.{Desk, Host}
use Rattle.server_sessions.specs.Behind.{LeadsBy, post_of}
use Rattle.server_sessions.specs.Journaling.{Journaled, Journaling, Journals, NotesEntries, entry_line, journaled, place_behind, site_behind}
use Rattle.server_sessions.specs.Sessions.{EndsBy, Following, Place, ServesBy, SessionBy, Site, TurnBy, WantsBy, place_of, site_of}

-- one line more
entries_more : (number : ℕ) (entries : List Entry) (entry : Entry) (a b c : SinkView) → NotesEntries number entries a b → IsNoted (entry_line number entry) b c → NotesEntries number (entries ++ entry ∷ []) a c
entries_more number [] entry a b c noted one = (c, subst (λ (s : SinkView). IsNoted (entry_line number entry) s c) noted one, refl)
entries_more number (x ∷ entries) entry a b c noted one = (noted.0, noted.1, entries_more number entries entry noted.0 b c noted.2 one)

pub noted_more : (number : ℕ) (entries : List Entry) (i : ℕ) (d entry : Entry) (a b c : SinkView) → i < length entries → entry ≡ get_or entries i d
    → NotesEntries number (take i entries) a b → IsNoted (entry_line number entry) b c → NotesEntries number (take (i + 1) entries) a c
noted_more number entries i d entry a b c within is noted one =
    subst (λ (xs : List Entry). NotesEntries number xs a c) (ap (λ (e : Entry). take i entries ++ e ∷ []) is ∙ sym (take_more entries i d within))
    (entries_more number (take i entries) entry a b c noted one)

pub noted_all : (number : ℕ) (entries : List Entry) (i : ℕ) (a b : SinkView) → length entries ≤ i → NotesEntries number (take i entries) a b → NotesEntries number entries a b
noted_all number entries i a b all noted = subst (λ (xs : List Entry). NotesEntries number xs a b) (take_all i entries all) noted

-- what follows leads on beside the journal
pub leads_journaling : {K : Type 0} (journal : Bool) (follows : Following K) (profile : Profile) (known known' : Known) (wire wire' : WireView) (table table' : Table) (rollouts rollouts' : List Rolling) (stepped stepped' : Stepped) (kept kept' : K) (count : ℕ) (notes notes' : SinkView)
    → LeadsBy follows profile (post_of known wire table rollouts stepped kept) (post_of known' wire' table' rollouts' stepped' kept') → Journals journal (count + 1) stepped.entries notes notes'
    → LeadsBy (Journaling journal follows) profile (post_of known wire table rollouts stepped (journaled kept count notes)) (post_of known' wire' table' rollouts' stepped' (journaled kept' (count + 1) notes'))
leads_journaling journal follows profile known known' wire wire' table table' rollouts rollouts' stepped stepped' kept kept' count notes notes' leads told = λ entropy streams.
    let it = leads entropy streams in (it.0, (it.1, refl, told), it.2, it.3)

-- ---- the same run without the journal

module _ {K : Type 0} (journal : Bool) (follows : Following K) (host : Host) where
  turn_behind : (e : Given) (a b : Place (Journaled K)) (stop : Bool) → TurnBy (Journaling journal follows) host e a b stop → TurnBy follows host e (place_behind a) (place_behind b) stop
  turn_behind e a b stop p = record { given = p.given; end = p.end; gave = p.gave; does = p.does; last = p.last; behind = p.behind.0; stands = p.stands; sees = p.sees }

  pub session_behind : (events : List Given) (a b : Place (Journaled K)) (stop : Bool) → SessionBy (Journaling journal follows) host events a b stop → SessionBy follows host events (place_behind a) (place_behind b) stop
  session_behind [] a b stop p = (ap place_behind p.0, p.1)
  session_behind (e ∷ events) a b stop p = (place_behind p.0, p.1, turn_behind e a p.0 p.1 p.2, by_stop p.1 p.3 (session_behind events p.0 b stop))
    where
      by_stop : (s : Bool) → MatchBool s ((events ≡ []) × (b ≡ p.0) × (stop ≡ true)) (SessionBy (Journaling journal follows) host events p.0 b stop)
          → (SessionBy (Journaling journal follows) host events p.0 b stop → SessionBy follows host events (place_behind p.0) (place_behind b) stop)
          → MatchBool s ((events ≡ []) × (place_behind b ≡ place_behind p.0) × (stop ≡ true)) (SessionBy follows host events (place_behind p.0) (place_behind b) stop)
      by_stop true q more = (q.0, ap place_behind q.1, q.2)
      by_stop false q more = more q

  pub serves_behind : (n : ℕ) (old new : Site (Journaled K)) (stop : Bool) → ServesBy (Journaling journal follows) host n old new stop → ServesBy follows host n (site_behind old) (site_behind new) stop
  serves_behind n old new stop p = record {
    events = p.events;
    streams = p.streams;
    seen = p.seen;
    number = p.number;
    session = session_behind p.events (place_of nothing_seen [] old) (place_of p.seen p.streams new) stop p.session;
    given = p.given;
  }

  module _ (part : Following K) where
    wants_behind : (place : Place (Journaled K)) (new : Site (Journaled K)) → WantsBy (Journaling journal part) host place new → WantsBy part host (place_behind place) (site_behind new)
    wants_behind place new (inl p) = inl (p.0, ap (λ (k : Journaled K). k.kept) p.1)
    wants_behind place new (inr p) = inr (record {
      next = p.next;
      given = p.given;
      end = p.end;
      stop = p.stop;
      gave = p.gave;
      does = p.does;
      last = p.last;
      behind = p.behind.0;
      wire_is = p.wire_is;
      desk_is = p.desk_is;
    })

    -- how a run ends
    pub ends_behind : (turns : ℕ) (old new : Site (Journaled K)) (r : Result ℕ ServeEnd) → EndsBy (Journaling journal follows) (Journaling journal part) host turns old new r
        → EndsBy follows part host turns (site_behind old) (site_behind new) r
    unfolding serves_behind
    ends_behind turns old new (Ok n) p = (p.0, serves_behind n old new true p.1)
    ends_behind turns old new (Err end.TurnsSpent) p = serves_behind turns old new false p
    ends_behind turns old new (Err end.WireFault) p = (p.0, p.1, record { mid = p.2.mid; served = serves_behind p.0 old (record new { wire = p.2.mid }) false p.2.served; failed = p.2.failed })
    ends_behind turns old new (Err end.NoMemory) p = (
      p.0,
      p.1,
      record {
        mid = site_behind p.2.mid;
        served = serves_behind p.0 old p.2.mid false p.2.served;
        wanting = wants_behind (place_of p.2.served.seen p.2.served.streams p.2.mid) new p.2.wanting;
      },
    )

-- the same by the parts of the sites
pub run_behind : {K : Type 0} (journal : Bool) (follows part : Following K) (host : Host) (turns : ℕ) (wire wire' : WireView) (desk desk' : Desk) (kept kept' : K) (count count' : ℕ) (notes notes' : SinkView) (r : Result ℕ ServeEnd)
    → EndsBy (Journaling journal follows) (Journaling journal part) host turns (site_of wire desk (journaled kept count notes)) (site_of wire' desk' (journaled kept' count' notes')) r
    → EndsBy follows part host turns (site_of wire desk kept) (site_of wire' desk' kept') r
run_behind journal follows part host turns wire wire' desk desk' kept kept' count count' notes notes' r p =
    ends_behind journal follows host part turns (site_of wire desk (journaled kept count notes)) (site_of wire' desk' (journaled kept' count' notes')) r p
