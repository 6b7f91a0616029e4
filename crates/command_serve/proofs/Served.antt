-- What was served at addresses that are listened to.
use Rattle.std.proofs.Common.{◌≡◌, ℕ, ◌≤◌, List, Option, subst, inl, inr, arith}
use Rattle.std.specs.Prelude.{Result, Ok, Err}
use Rattle.message_values.specs.declared.custom.CustomMessage.{CustomMessage}
use Rattle.edge_devices.specs.Clocks.{EntropyState}
use Rattle.edge_devices.specs.Faults.{HasRisen}
use Rattle.command_words.specs.declared.commands.ServeOptions.{ServeOptions}
use Rattle.server_core.specs.declared.replies.Profile.{Profile}
use Rattle.server_core.specs.Table.{Table, empty_within}
use Rattle.server_sessions.specs.declared.serving.ServeEnd.{ServeEnd}
use Rattle.server_sessions.specs.declared.serving.ServeEnd.TheVariants as end
use Rattle.server_sessions.specs.Sessions.{EndsBy}
use Rattle.server_sessions.specs.Wiring.{WireView}
use Rattle.server_deliveries.specs.Deliveries.{Delivers, DeliversInPart, SessionsKeepWidth}
use Rattle.command_serve.specs.Serving.{Dispatch, FailsOnWire, IsProfileWith, Listens, RunEnds, host_with, listenings, site_with}
use Rattle.command_serve.proofs.Widths.{PointsKeepWidth, left_within}

module _ (names : List (List ℕ)) (answers : CustomMessage → Option CustomMessage → Type 0) (options : ServeOptions) (profile : Profile) (a b c : WireView) (entropy entropy' : EntropyState) (table : Table) (first last : Dispatch)
    (says : IsProfileWith names options.connections profile) (listens : Listens (listenings options) a b) (keeps : SessionsKeepWidth (host_with profile answers)) (points : PointsKeepWidth) where
  run_ended : (r : Result ℕ ServeEnd) → EndsBy Delivers DeliversInPart (host_with profile answers) options.turns (site_with b entropy (empty_within options.agents) first) (site_with c entropy' table last) r
      → RunEnds names answers options first a c entropy entropy' last r
  run_ended (Ok n) p = (p.0, record { profile = profile; says = says; mid = b; listens = listens; table = table; keeps = keeps; serves = p.1 })
  run_ended (Err end.TurnsSpent) p = record { profile = profile; says = says; mid = b; listens = listens; table = table; keeps = keeps; serves = p }
  run_ended (Err end.WireFault) p = inr (p.0, p.1, record { profile = profile; says = says; mid = b; listens = listens; table = table; last = last; keeps = keeps; fails = p.2 })
  run_ended (Err end.NoMemory) p =
      inr (
        p.0,
        p.1,
        record {
          profile = profile;
          says = says;
          mid = b;
          listens = listens;
          table = table;
          last = last;
          keeps = keeps;
          left = left_within (host_with profile answers) keeps points p.0 (site_with b entropy (empty_within options.agents) first) (site_with c entropy' table last) p.2;
          wants = p.2;
        },
      )

  pub run_ends : (empty : Table) → empty ≡ empty_within options.agents → (r : Result ℕ ServeEnd)
      → EndsBy Delivers DeliversInPart (host_with profile answers) options.turns (site_with b entropy empty first) (site_with c entropy' table last) r → RunEnds names answers options first a c entropy entropy' last r
  run_ends empty is r p =
      run_ended r (subst (λ (t : Table). EndsBy Delivers DeliversInPart (host_with profile answers) options.turns (site_with b entropy t first) (site_with c entropy' table last) r) is p)

later : (a b c : ℕ) → a ≤ b → HasRisen b c → HasRisen a c
later a b c before (inl more) = inl (omega (arith, before, more))
later a b c before (inr most) = inr most

-- where the wire failed its count of faults rose
pub fails_risen : (names : List (List ℕ)) (answers : CustomMessage → Option CustomMessage → Type 0) (options : ServeOptions) (first : Dispatch) (old new : WireView) (entropy entropy' : EntropyState)
    → FailsOnWire names answers options first old new entropy entropy' → HasRisen old.faults new.faults
fails_risen names answers options first old new entropy entropy' (inl address) = later old.faults address.0.mid.faults new.faults address.0.listens.count address.0.fails.fault
fails_risen names answers options first old new entropy entropy' (inr event) =
    let fails = event.2.fails in
    later old.faults event.2.mid.faults new.faults event.2.listens.count
    (later event.2.mid.faults fails.mid.faults new.faults fails.served.given.count fails.failed.fault)
