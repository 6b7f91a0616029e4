-- The play before the first line.
use Rattle.std.proofs.Common.{◌≡◌, ◌∙◌, ℕ, List, [], length, map, None, ap, sym, subst, refl, arith}
use Rattle.std.proofs.Math.Path.{fun_ext}
use Rattle.edge_devices.specs.declared.folders.Area.TheVariants.{Config, Packages, Status}
use Rattle.edge_devices.specs.Disks.{disk_bytes}
use Rattle.edge_devices.specs.MemoryDisks.{memory_disk}
use Rattle.edge_devices.specs.MemoryFolders.{memory_folder}
use Rattle.server_core.specs.Served.{Served}
use Rattle.agent_rules.specs.Half.{no_config}
use Rattle.agent_stopped.specs.Starts.{IsAtRest}
use Rattle.world_model.specs.World.{opening}
use Rattle.world_lab.specs.declared.plays.Play.{Play}
use Rattle.world_lab.specs.declared.plays.SentReport.{SentReport}
use Rattle.world_lab.specs.Playing.{first_local, first_progress, script_start}
use Rattle.world_lab.specs.Histories.{server_after, server_numbers}
use Rattle.world_lab.specs.Labs.{files_in_use}
use Rattle.world_lab.specs.Hosts.{HasFiles, IsAgent, lab_opening}
use Rattle.world_lab.specs.Mirrors.{AreSent, IsMirror, Mirrors, kept_at}

-- a script's agent at first
first_is_agent : IsAgent (opening script_start).agent
first_is_agent = record { uid = refl; first = λ no. refl; room = refl; asks = refl; active = record { server = 0; digit = omega arith; is = refl }; tried = tt }

pub opened_play : (play : Play) → play.host.agent.half ≡ (opening script_start).agent → IsAtRest lab_opening play.host.agent play.host.disk
    → ((place : ℕ) → disk_bytes (memory_disk play.host.disk) place ≡ 0) → play.host.agent.store.generation ≡ 0
    → (memory_folder play.host.folder).files ≡ files_in_use no_config
    → play.local ≡ first_local → play.opening ≡ lab_opening → play.stop ≡ None → play.sent.items ≡ [] → play.pushes.items ≡ []
    → Mirrors first_progress play (map (λ server. server_after []) server_numbers)
opened_play play half rest blank generation empty local_is opening_is stop_is sent_is pushes_are = record {
  world = record {
    agent_is = half;
    sent_are = subst (λ (rs : List SentReport). AreSent rs []) (sym sent_is) tt;
    replies_are = λ place. ap (λ (rs : List SentReport). kept_at rs place) sent_is;
    offers_are = λ server uid. record { packages = refl; connection = tt };
    servers_are = refl;
  };
  image = fun_ext blank;
  stop = stop_is;
  local = local_is ∙ ap (λ a. a.local) (sym half);
  opening = opening_is;
  hosted = record {
    seated = record { agent = subst IsAgent (sym half) first_is_agent; rest = rest };
    files = subst (λ a. HasFiles play.host a.saved.config) (sym half) (record {
      config = λ name. ap (λ files. files Config name) empty;
      packages = λ name. ap (λ files. files Packages name) empty;
      status = λ name. ap (λ files. files Status name) empty;
    });
  };
  saves = omega (arith, generation);
  pushes = pushes_are;
  pushed = tt;
  nobody = tt;
}

-- a lab has ten servers
pub ten_servers : (play : Play) (servers : List Served) → IsMirror play servers → length servers ≡ 10
ten_servers play servers m = ap length m.1.world.servers_are
