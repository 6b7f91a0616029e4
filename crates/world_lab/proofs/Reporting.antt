-- A report of the agent on its host.
use Rattle.std.proofs.Common.{◌≡◌, ◌∙◌, ◌+◌, ◌^◌, ◌<◌, [], ◌∷◌, Bool, true, false, cond, Option, Some, None, Ok, Err, ap, sym, subst, refl, inl, inr}
use Rattle.std.specs.Prelude.{IfSome, unwrap_or}
use Rattle.message_values.specs.declared.state.Settings.{Settings}
use Rattle.edge_devices.specs.declared.memory_disk.MemDisk.{MemDisk}
use Rattle.agent_rules.specs.declared.saved.Saved.{Saved}
use Rattle.agent_rules.specs.declared.rules.parts.AgentFail.{AgentFail}
use Rattle.agent_rules.specs.declared.rules.parts.AgentFail.TheVariants.{StoreFault, NumbersSpent, TooLarge}
use Rattle.agent_rules.specs.declared.rules.parts.Prepared.{Prepared}
use Rattle.agent_rules.specs.Reports.{where_true}
use Rattle.agent_rules.specs.Half.{AgentHalf, target}
use Rattle.agent_rules.specs.Keeping.{Report, fits, keeping, kept_by}
use Rattle.agent_rules.specs.Calls.{may_report, reported}
use Rattle.agent_state.specs.View.{AgentView}
use Rattle.agent_state.specs.Refusals.{IsPrepared, ReportRefusal}
use Rattle.agent_stopped.specs.Plays.{IsPlayed}
use Rattle.world_lab.specs.declared.plays.Host.{Host}
use Rattle.world_lab.specs.Hosts.{HasFiles, IsHosted, StopsIn}
use Rattle.world_lab.specs.Reports.{IsReported, Reports}
use Rattle.world_lab.proofs.ScriptAgents.{agent_reported, report_keepable}
use Rattle.world_lab.proofs.Calls.{kept_local, reported_config}
use Rattle.world_lab.proofs.Hosts.{IsOther, goes_played, no_others, no_room, not_spent, room_is, stays_refused, stops_played, with_agent}
use Rattle.world_lab.proofs.MayReport.{large_may, may_fits, spent_may, roomless_may}

-- it was made
pub is_reported : (host : Host) (agent : AgentView) (disk : MemDisk) (prepared : Prepared) → IsHosted host → may_report host.agent.half ≡ true → agent.half ≡ reported host.agent.half
    → IsPrepared host.agent.half prepared → IsPlayed host.agent agent host.disk disk Report (Ok prepared) → IsReported host (with_agent host agent disk) prepared
is_reported host agent disk prepared h may step is p = record {
  may = may;
  goes = goes_played host agent disk Report prepared h.seated (subst (HasFiles host) (sym (reported_config host.agent.half)) h.files) (agent_reported host.agent.half h.seated.agent) (may_fits host.agent.half may) step
      (kept_local (kept_by host.agent.half Report) host.agent.half) p;
  prepared = is;
}

-- the settings by which a report was sent are as before
settings_stay : (part : Option Saved) (a : AgentHalf) → IfSome part (λ p. p.settings ≡ a.saved.settings) → unwrap_or (keeping part a).trial (keeping part a).saved.settings ≡ target a
settings_stay None a same = refl
settings_stay (Some p) a same = ap (λ (s : Settings). unwrap_or a.trial s) same

where_settings : (b : Bool) (s : Saved) (settings : Settings) → s.settings ≡ settings → IfSome (where_true b s) (λ p. p.settings ≡ settings)
where_settings true s settings same = same
where_settings false s settings same = tt

target_stays : (a : AgentHalf) (b : Bool) → target (cond b (reported a) a) ≡ target a
target_stays a true = settings_stay (kept_by a Report) a (where_settings _ _ a.saved.settings refl)
target_stays a false = refl

pub report_target : (old new : Host) (prepared : Prepared) → IsReported old new prepared → (target old.agent.half).endpoint ≡ (target new.agent.half).endpoint
report_target old new prepared r = ap (λ s. s.endpoint) (sym (target_stays old.agent.half (fits old.agent.half Report)) ∙ ap target (sym r.goes.half))

-- it may not be made
pub is_unreported : (host : Host) (agent : AgentView) (disk : MemDisk) (fail : AgentFail) → IsOther Prepared fail → IsHosted host → may_report host.agent.half ≡ false
    → IsPlayed {T = Prepared} host.agent agent host.disk disk Report (Err fail) → Reports host (with_agent host agent disk) None
is_unreported host agent disk fail other h may p = (may, stays_refused host agent disk Report fail other h p)

-- a device call was stopped
pub report_stops : (host : Host) (agent : AgentView) (disk : MemDisk) → IsHosted host → IsPlayed {T = Prepared} host.agent agent host.disk disk Report (Err StoreFault)
    → StopsIn host (with_agent host agent disk) (Report ∷ []) 1
report_stops host agent disk h p = stops_played host agent disk Report h.seated (report_keepable host.agent.half h.seated.agent) (no_others host _ h.files) p

-- why not
pub too_large : (host : Host) → IsHosted host → ReportRefusal host.agent TooLarge → may_report host.agent.half ≡ false
too_large host h (inl large) = large_may host.agent.half large
too_large host h (inr full) = roomless_may host.agent.half (no_room host.agent Report (room_is host h.seated) full.1)

pub numbers_spent : (host : Host) → host.agent.store.generation + 1 < 2 ^ 64 → ReportRefusal host.agent NumbersSpent → may_report host.agent.half ≡ false
numbers_spent host left (within, inl spent) = spent_may host.agent.half spent
numbers_spent host left (within, inr none) = absurd (not_spent host.agent Report left none)
