use Rattle.std.proofs.Common.{◌≡◌, ◌≤◌, ◌-◌, ◌+◌, vec_len}
use Rattle.std.specs.Io.KnownBytes.{Consumes}
use Rattle.world_scripts.specs.declared.scripts.TheConstants.{SCRIPT_LIMIT}
use Rattle.command_scripts.specs.declared.simulate.TheConstants.{BLOCK}
use Rattle.command_scripts.proofs.simulate.take_script.Given as goal

abbrev pub invariant-takes : goal.invariant-takes
invariant-takes g l = record {
  taken : Consumes (g.S.Source.left l.initial.source) (g.S.Source.left l.source) l.bytes.items;
  count : g.S.Source.faults l.initial.source ≤ g.S.Source.faults l.source;
  room : vec_len l.block ≡ BLOCK;
  few : vec_len l.bytes ≤ SCRIPT_LIMIT;
}

abbrev pub decreases-takes : goal.decreases-takes
decreases-takes g l = SCRIPT_LIMIT + 1 - vec_len l.bytes
