-- How deep parts nest.
use Rattle.std.proofs.Common.{ℕ, ◌+◌, ◌≤◌, max, List, [], ◌∷◌, arith}
use Rattle.std.specs.Prelude.{Option, Some, None}
use Rattle.plain_values.specs.declared.maps.Pair.{Pair}
use Rattle.plain_values.specs.declared.files.AgentConfigMap.{AgentConfigMap}
use Rattle.message_codec.specs.Values.{Values, Several}
use Rattle.message_codec.specs.Means.{entry_of, entries_of}
use Rattle.message_codec.specs.Read.{one_of, each_of}
use Rattle.message_codec.specs.Levels.{depth, deepest, levels}
use Rattle.message_attributes.specs.PartColumns.{config_file_columns, config_map_columns}

pub both : (k a b : ℕ) → a ≤ k → b ≤ k → max a b ≤ k
both k a b p q = omega arith

pub one_shallow : {T : Type 0} (columns : T → Values) (k : ℕ) → ((t : T) → deepest (columns t) ≤ k) → (o : Option T) → depth (one_of columns o) ≤ k + 1
one_shallow columns k h None = omega arith
one_shallow columns k h (Some t) = omega (arith, h t)

pub each_shallow : {T : Type 0} (columns : T → Values) (k : ℕ) → ((t : T) → deepest (columns t) ≤ k) → (ts : List T) → depth (Several (each_of columns ts)) ≤ k + 1
each_shallow columns k h [] = omega arith
each_shallow columns k h (t ∷ ts) = both (k + 1) (1 + deepest (columns t)) (depth (Several (each_of columns ts))) (omega (arith, h t)) (each_shallow columns k h ts)

pub entries_shallow : {T : Type 0} (columns : T → Values) (k : ℕ) → ((t : T) → deepest (columns t) ≤ k) → (ps : List (Pair T)) → depth (Several (entries_of columns ps)) ≤ k + 2
entries_shallow columns k h [] = omega arith
entries_shallow columns k h (p ∷ ps) =
    both (k + 2) (1 + deepest (entry_of columns p)) (depth (Several (entries_of columns ps))) (omega (arith, h p.value)) (entries_shallow columns k h ps)

pub config_map_shallow : (c : AgentConfigMap) → deepest (config_map_columns c) ≤ 2
config_map_shallow c = both 2 _ 0 (entries_shallow config_file_columns 0 (λ f. omega arith) c.config_map) (omega arith)

pub config_map_levels : (c : AgentConfigMap) → levels (config_map_columns c) ≤ 3
config_map_levels c = omega (arith, config_map_shallow c)
