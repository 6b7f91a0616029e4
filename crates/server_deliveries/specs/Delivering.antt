-- That the offers of the points are all that what is delivered changes of the table.
use Rattle.std.proofs.Common.{◌≡◌, ℕ, List, [], ◌∷◌, map, fold, Bool, true, false, cond, Option, None, Some, refl, sym, ◌∙◌, ap}
use Rattle.std.proofs.lemmas.List.Sums.{fold-append}
use Rattle.plain_values.specs.declared.files.AgentConfigMap.{AgentConfigMap}
use Rattle.server_core.specs.declared.offers.Offer.TheVariants.{Config as ConfigOffer}
use Rattle.server_core.specs.declared.replies.Profile.{Profile}
use Rattle.server_core.specs.declared.rows.Record.{Record}
use Rattle.server_core.specs.History.{Offered}
use Rattle.server_core.specs.Table.{Table, find_record, table_after}
use Rattle.server_waves.specs.Points.{points, rolled_newly, rolled_table, with_found, with_heard}
use Rattle.server_waves.specs.Register.{Rolling, is_found, with_agent}
use Rattle.server_waves.specs.Waves.{Terms, joined, table_offering}
use Rattle.server_sessions.specs.Answers.{Sheet}
use Rattle.server_sessions.specs.Session.{Moment}
use Rattle.server_sessions.specs.Sessions.{OffersBy}
use Rattle.server_deliveries.specs.Routes.{Reach}
use Rattle.server_deliveries.specs.Deliveries.{Delivers, PushesWhere, delivered_offers, heard_in, offers_to, pointed_behind, points_offers, with_fleet}

-- the offers of a point, one after the other
offering_events : (files : AgentConfigMap) (uids : List (List ℕ)) (table : Table) → table_offering files uids table ≡ fold table_after table (map (λ uid. Offered uid (ConfigOffer files)) uids)
offering_events files [] table = refl
offering_events files (uid ∷ uids) table = offering_events files uids (table_after table (Offered uid (ConfigOffer files)))

-- who joins leaves the terms
terms_agent : (agent : Record) (r : Rolling) → (with_agent agent r).terms ≡ r.terms
terms_agent agent r = by_test (is_found r.finds agent)
  where
    by_test : (f : Bool) → (cond f (record r { waves = joined agent r.waves }) r).terms ≡ r.terms
    by_test true = refl
    by_test false = refl

terms_found : (found : Option Record) (r : Rolling) → (with_found found r).terms ≡ r.terms
terms_found None r = refl
terms_found (Some agent) r = terms_agent agent r

terms_heard : (records : List Record) (heard : List (List ℕ)) (r : Rolling) → (with_heard records heard r).terms ≡ r.terms
terms_heard records [] r = refl
terms_heard records (uid ∷ heard) r = terms_heard records heard (with_found (find_record records uid) r) ∙ terms_found (find_record records uid) r

module _ (fine : Record → Bool) (heard : List (List ℕ)) where
  point_made : (r : Rolling) (table : Table) → rolled_table fine heard table r ≡ fold table_after table (offers_to r (rolled_newly fine heard table r))
  point_made r table =
      offering_events (with_heard table.records heard r).terms.files (rolled_newly fine heard table r) table
      ∙ ap (λ (t : Terms). fold table_after table (map (λ uid. Offered uid (ConfigOffer t.files)) (rolled_newly fine heard table r))) (terms_heard table.records heard r)

  points_made : (rollouts : List Rolling) (table : Table) → (points fine heard rollouts table).table ≡ fold table_after table (points_offers fine heard rollouts table)
  points_made [] table = refl
  points_made (r ∷ rollouts) table =
      points_made rollouts (rolled_table fine heard table r)
      ∙ ap (λ (t : Table). fold table_after t (points_offers fine heard rollouts (rolled_table fine heard table r))) (point_made r table)
      ∙ sym (fold-append table_after table (offers_to r (rolled_newly fine heard table r)) (points_offers fine heard rollouts (rolled_table fine heard table r)))

-- pushes leave the table
pub pushes_leave : (newly : List (List ℕ)) (profile : Profile) (ended : List ℕ) (end : Moment) (old : Option Reach) (last : Moment) (new : Option Reach) → PushesWhere newly profile ended end old last new
    → last.scene.sheet ≡ end.scene.sheet
pushes_leave newly profile ended end None last new p = ap (λ (m : Moment). m.scene.sheet) p.0
pushes_leave newly profile ended end (Some routes) last new p = p.2.1

pub deliveries_made : OffersBy Delivers delivered_offers
deliveries_made profile ended end kept last kept' p =
    ap (λ (s : Sheet). s.desk.table)
    (pushes_leave (pointed_behind kept.fine end).newly profile ended (with_fleet end (pointed_behind kept.fine end).table (pointed_behind kept.fine end).rollouts) kept.routes last kept'.routes p.0)
    ∙ points_made kept.fine (heard_in end.scene.sheet.handled) end.scene.sheet.desk.rollouts end.scene.sheet.desk.table
