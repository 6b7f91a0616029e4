-- Kinds of calls, and what an agent's numbers are reserved by.
use Rattle.std.specs.Prelude.{◌≡◌, ◌≤◌, Bool, true, false, None, Some}
use Rattle.agent_rules.specs.Half.{AgentHalf}
use Rattle.agent_rules.specs.Keeping.{Call, TakeReply, CommitTry, ConfigDone}

-- numbers below the next one are reserved by what is kept, and while nothing is kept none is handed out
pub record IsReserved (a : AgentHalf) : Type 0 where
  pub below : a.next ≤ a.saved.limit
  pub fresh : a.is_kept ≡ false → a.next ≡ a.saved.limit

-- While an answer is awaited, the report that it is to isn't known to be answered.
abbrev pub IsUnanswered : AgentHalf → Type 0
IsUnanswered a = a.awaits ≡ true → a.linked ≡ false

-- the call keeps the settings under trial as the agent's own
abbrev pub keeps_trial : Call → Bool
keeps_trial CommitTry = true
keeps_trial _ = false

-- the call tells files as applied
abbrev pub applies_files : Call → Bool
applies_files (ConfigDone None status) = false
applies_files (ConfigDone (Some files) status) = true
applies_files _ = false

-- the call takes a reply
abbrev pub is_reply : Call → Bool
is_reply (TakeReply reply) = true
is_reply _ = false
