-- The shares of desks, taken in one after the other.
use Rattle.std.proofs.Common.{◌≡◌, ℕ, ◌+◌, List, [], ◌∷◌, ◌++◌, length, ◌∙◌, ap, arith}
use Rattle.shard_servers.specs.Desks.{AtDesk, Four, all_places, parts_of, told_in}
use Rattle.shard_servers.proofs.SumLemmas.{parts_of-push, places-push}

-- with the last desk taken in
pub part_taken : (pick : Four → ℕ) (rest left : List AtDesk) (d : AtDesk) (had has sum : ℕ) → rest ≡ left ++ d ∷ [] → has ≡ had + pick d.parts
    → had + parts_of pick rest ≡ sum → has + parts_of pick left ≡ sum
part_taken pick rest left d had has sum is more was =
    let both : parts_of pick rest ≡ parts_of pick left + pick d.parts = ap (parts_of pick) is ∙ parts_of-push pick left d in
    omega (arith, both, more, was)

pub rows_taken : (shard : ℕ) (rest left : List AtDesk) (d : AtDesk) (had has sum : ℕ) → rest ≡ left ++ d ∷ [] → has ≡ had + told_in shard d.told
    → had + length (all_places shard rest) ≡ sum → has + length (all_places shard left) ≡ sum
rows_taken shard rest left d had has sum is more was =
    let both : length (all_places shard rest) ≡ length (all_places shard left) + told_in shard d.told = ap (λ ds. length (all_places shard ds)) is ∙ places-push shard left d in
    omega (arith, both, more, was)

pub parts_taken : (pick : Four → ℕ) (left : List AtDesk) (has sum : ℕ) → left ≡ [] → has + parts_of pick left ≡ sum → has ≡ sum
parts_taken pick left has sum none was =
    let zero : parts_of pick left ≡ 0 = ap (parts_of pick) none in
    omega (arith, zero, was)

pub all_taken : (shard : ℕ) (left : List AtDesk) (has sum : ℕ) → left ≡ [] → has + length (all_places shard left) ≡ sum → has ≡ sum
all_taken shard left has sum none was =
    let zero : length (all_places shard left) ≡ 0 = ap (λ ds. length (all_places shard ds)) none in
    omega (arith, zero, was)
