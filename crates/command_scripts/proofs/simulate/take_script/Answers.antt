use Rattle.std.proofs.Common.{◌≤◌, ◌+◌, length, arith}
use Rattle.world_scripts.specs.declared.scripts.TheConstants.{SCRIPT_LIMIT}
use Rattle.command_scripts.specs.declared.simulate.TheConstants.{BLOCK}
use Rattle.command_scripts.specs.TakingScripts.{most_taken}
use Rattle.command_scripts.proofs.Taken.{taken_more}
use Rattle.command_scripts.proofs.simulate.take_script.Goals as goal

pub returns-in_err-len-clause-few : goal.returns-in_err-len-clause-few
returns-in_err-len-clause-few g c =
    let few : length c.takes.bytes.items ≤ SCRIPT_LIMIT = omega (arith, c.takes.bytes.ok.0, c.takes.invariant.few) in
    let fits : SCRIPT_LIMIT + length c.deref_mut.result.now ≤ SCRIPT_LIMIT + BLOCK = omega (arith, c.deref_mut.ensures.len, c.takes.invariant.room) in
    taken_more most_taken SCRIPT_LIMIT (length c.deref_mut.result.now) _ _ _ c.takes.bytes.items c.takes.invariant.taken few c.take_block.ensures.few fits

pub returns-then-len-eq0-clause-few : goal.returns-then-len-eq0-clause-few
returns-then-len-eq0-clause-few g c =
    let few : length c.takes.bytes.items ≤ SCRIPT_LIMIT = omega (arith, c.takes.bytes.ok.0, c.takes.invariant.few) in
    let fits : SCRIPT_LIMIT + length c.deref_mut.result.now ≤ SCRIPT_LIMIT + BLOCK = omega (arith, c.deref_mut.ensures.len, c.takes.invariant.room) in
    taken_more most_taken SCRIPT_LIMIT (length c.deref_mut.result.now) _ _ _ c.takes.bytes.items c.takes.invariant.taken few c.take_block.ensures.few fits
