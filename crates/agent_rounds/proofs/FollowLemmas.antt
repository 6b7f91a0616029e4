-- How functions that are lent a stage's parts follow one another.
use Rattle.std.proofs.Common.{◌≡◌, List, Result, Ok, Err, subst}
use Rattle.edge_devices.specs.Disks.{DiskState}
use Rattle.agent_rules.specs.declared.saved.Saved.{Saved}
use Rattle.agent_rounds.specs.declared.ends.AgentEnd.{AgentEnd}
use Rattle.agent_rounds.specs.Moments.{RunsPart, with_saves}
use Rattle.agent_rounds.specs.Stages.{Stage, Then}
use Rattle.agent_rounds.proofs.RunLemmas.{run_ends, run_on}

-- what was kept before doesn't matter
abbrev pub KeepsApart : (Stage → Stage) → Type 0
KeepsApart f = (saves : List Saved) (s : Stage) → f (with_saves saves s) ≡ with_saves saves (f s)

module _ {A B : Type 0} (P : Stage → Stage → Result A AgentEnd → Type 0) (Q : A → Stage → Stage → Result B AgentEnd → Type 0) where
  -- the first goes on, and the second follows
  pub follow : (old mid new : DiskState) (f g h : Stage → Stage) (a : A) (r : Result B AgentEnd) → KeepsApart g → KeepsApart h
      → ((s : Stage) → RunsPart P old mid (f s) (g s) (Ok a)) → ((s : Stage) → RunsPart (Q a) mid new (g s) (h s) r)
      → (s : Stage) → RunsPart (Then P Q) old new (f s) (h s) r
  follow old mid new f g h a r apart_g apart_h first second s =
      let saves : List Saved = (first s).saves in
      run_on P Q old mid new (f s) (g s) (h s) a r (first s)
      (subst (λ (u : Stage). RunsPart (Q a) mid new u (with_saves saves (h s)) r) (apart_g saves s)
      (subst (λ (u : Stage). RunsPart (Q a) mid new (g (with_saves saves s)) u r) (apart_h saves s) (second (with_saves saves s))))

  -- the first ends the round
  pub follow_ends : (old new : DiskState) (f g : Stage → Stage) (end : AgentEnd) → ((s : Stage) → RunsPart P old new (f s) (g s) (Err end))
      → (s : Stage) → RunsPart (Then P Q) old new (f s) (g s) (Err end)
  follow_ends old new f g end first s = run_ends P Q old new (f s) (g s) end (first s)
