-- Pushes to some agents, and then to others.
use Rattle.std.proofs.Common.{◌≡◌, ℕ, ◌+◌, ◌<◌, List, [], ◌∷◌, ◌++◌, length, take, drop, not, get_or, add-one, true, false, Result, Ok, Err, OnOk, OnErr, refl, sym, ap, ◌∙◌, subst, append_assoc}
use Rattle.std.proofs.Math.Seq.{take-suc}
use Rattle.std.proofs.lemmas.List.{take-append-drop, take_at}
use Rattle.std.proofs.lemmas.List.Elements.{filter-append}
use Rattle.std.specs.Result.{IsErr}
use Rattle.edge_devices.specs.Clocks.{EntropyState}
use Rattle.plain_values.specs.declared.memory.NoMemory.{NoMemory}
use Rattle.server_core.specs.History.{is_among}
use Rattle.server_core.specs.declared.replies.Profile.{Profile}
use Rattle.server_core.specs.Table.{Table}
use Rattle.server_waves.specs.Register.{Rolling}
use Rattle.server_sessions.specs.Reports.{Desk, desk_of}
use Rattle.server_deliveries.specs.Pushing.{PushStanding, PushesTo, PushesToAll, but_for, pushing_of}
use Rattle.server_deliveries.specs.Turns.{Leads, Post, PushesFirst}

all_both : (profile : Profile) (us vs : List (List ℕ)) (a b c : PushStanding) → PushesToAll profile us a b → PushesToAll profile vs b c → PushesToAll profile (us ++ vs) a c
all_both profile [] vs a b c first then = subst (λ (s : PushStanding). PushesToAll profile vs s c) first then
all_both profile (u ∷ us) vs a b c first then = (first.0, first.1, all_both profile us vs first.0 b c first.2 then)

pub leads_both : (profile : Profile) (us vs : List (List ℕ)) (desk : Desk) (a b c : Post)
    → Leads (PushesToAll profile us) desk a b → Leads (PushesToAll profile vs) desk b c → Leads (PushesToAll profile (us ++ vs)) desk a c
leads_both profile us vs desk a b c first then = λ streams.
    let one = first streams in
    let other = then one.0 in
    (other.0, all_both profile us vs _ _ _ one.1 other.1, λ stands. other.2 (one.2 stands))

pub leads_one : (profile : Profile) (uid : List ℕ) (desk : Desk) (a b : Post) → Leads (PushesTo profile uid) desk a b → Leads (PushesToAll profile (uid ∷ [])) desk a b
leads_one profile uid desk a b p = λ streams. let one = p streams in (one.0, (pushing_of one.0 b.wire desk b.routes, one.1, refl), one.2)

-- ---- first ones of some agents

pub first_ones : (some more all : List (List ℕ)) → some ++ more ≡ all → take (length some) all ≡ some
first_ones some more all are = ap (λ us. take (length some) us) (sym are) ∙ take_at some more (length some) refl

pub some_first : (profile : Profile) (uids some more : List (List ℕ)) (table : Table) (a b : Post) → some ++ more ≡ uids
    → ((entropy : EntropyState) (rollouts : List Rolling) → Leads (PushesToAll profile some) (desk_of entropy table rollouts) a b) → PushesFirst profile uids table a b
some_first profile uids some more table a b are p =
    (length some, subst (λ us. (entropy : EntropyState) (rollouts : List Rolling) → Leads (PushesToAll profile us) (desk_of entropy table rollouts) a b) (sym (first_ones some more uids are)) p)

-- first ones of more agents
pub wider_first : (profile : Profile) (us vs : List (List ℕ)) (table : Table) (a b : Post) → PushesFirst profile us table a b → PushesFirst profile (us ++ vs) table a b
wider_first profile us vs table a b p =
    some_first profile (us ++ vs) (take p.0 us) (drop p.0 us ++ vs) table a b
    (sym (append_assoc (take p.0 us) (drop p.0 us) vs) ∙ ap (λ ws. ws ++ vs) (take-append-drop p.0 us)) p.1

-- to all of some, and to first ones of others
pub further_first : (profile : Profile) (us vs : List (List ℕ)) (table : Table) (a b c : Post)
    → ((entropy : EntropyState) (rollouts : List Rolling) → Leads (PushesToAll profile us) (desk_of entropy table rollouts) a b) → PushesFirst profile vs table b c → PushesFirst profile (us ++ vs) table a c
further_first profile us vs table a b c all p =
    some_first profile (us ++ vs) (us ++ take p.0 vs) (drop p.0 vs) table a c
    (append_assoc us (take p.0 vs) (drop p.0 vs) ∙ ap (λ ws. us ++ ws) (take-append-drop p.0 vs))
    (λ entropy rollouts. leads_both profile us (take p.0 vs) (desk_of entropy table rollouts) a b c (all entropy rollouts) (p.1 entropy rollouts))

-- ---- those that aren't among others

pub but_more : (others uids : List (List ℕ)) (i : ℕ) (uid : List ℕ) → i < length uids → uid ≡ get_or uids i uid
    → but_for others (take (i + 1) uids) ≡ but_for others (take i uids) ++ but_for others (uid ∷ [])
but_more others uids i uid within here =
    let longer : take (i + 1) uids ≡ take i uids ++ uid ∷ [] = ap (λ n. take n uids) (add-one i) ∙ take-suc uids i uid within ∙ ap (λ y. take i uids ++ y ∷ []) (sym here) in
    ap (but_for others) longer ∙ filter-append (λ u. not (is_among others u)) (take i uids) (uid ∷ [])

pub but_parts : (others uids : List (List ℕ)) (i : ℕ) → but_for others (take i uids) ++ but_for others (drop i uids) ≡ but_for others uids
but_parts others uids i = sym (filter-append (λ u. not (is_among others u)) (take i uids) (drop i uids)) ∙ ap (but_for others) (take-append-drop i uids)

-- one that is among them, and one that isn't
pub but_none : (others : List (List ℕ)) (uid : List ℕ) → is_among others uid ≡ true → [] ≡ but_for others (uid ∷ [])
but_none others uid is = rw is refl

pub but_one : (others : List (List ℕ)) (uid : List ℕ) → is_among others uid ≡ false → uid ∷ [] ≡ but_for others (uid ∷ [])
but_one others uid isnt = rw isnt refl

-- from what is known where a call was done, or refused
pub map_ok : {P Q : Type 0} (r : Result Unit NoMemory) → (P → Q) → OnOk r P → OnOk r Q
map_ok (Ok done) f p = f p
map_ok (Err why) f p = tt

pub map_err : {P Q : Type 0} (r : Result Unit NoMemory) → (P → Q) → OnErr r P → OnErr r Q
map_err (Ok done) f p = tt
map_err (Err why) f p = f p

pub on_refused : (P : Type 0) (r : Result Unit NoMemory) → IsErr r → OnOk r P
on_refused P (Ok done) is = absurd (cc is)
on_refused P (Err why) is = tt

pub on_ok : (P : Type 0) (r : Result Unit NoMemory) → P → OnOk r P
on_ok P (Ok done) holds = holds
on_ok P (Err why) holds = tt
