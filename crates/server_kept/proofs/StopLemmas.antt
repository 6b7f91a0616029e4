-- What a stop leaves of each agent's file.
use Rattle.std.proofs.Common.{◌≡◌, ◌⊎◌, ℕ, List, Bool, true, false, Some, None, IsTrue, refl, sym, ◌∙◌, ap, subst, inl, inr}
use Rattle.std.specs.Prelude.{Contains, IsSome}
use Rattle.std.specs.Str.{bytes_eq}
use Rattle.std.specs.Cmp.Lexicographic.{bytes_decides}
use Rattle.message_values.specs.declared.reply.ServerToAgent.{ServerToAgent}
use Rattle.message_replies.specs.Replies.{MeansReply}
use Rattle.server_core.specs.declared.offers.Offers.{Offers}
use Rattle.edge_shelf.specs.Shelves.{Body, IsAmong, MayLeave, ShelfState}
use Rattle.server_kept.specs.declared.opening.KeptOffers.{KeptOffers}
use Rattle.server_kept.specs.Files.{IsUid, StandsFor, file_name, has_offer}
use Rattle.server_kept.specs.Keeping.{Keeps}
use Rattle.server_kept.specs.Opening.{IsWrong, Opened}
use Rattle.server_kept.specs.Standing.{Leaves}
use Rattle.server_kept.specs.Stopping.{IsFormerOrNext, NoneLost}
use Rattle.server_kept.proofs.Naming.{names_differ}
use Rattle.server_kept.proofs.Words.{one_choice}

abbrev pub OneReply : Type 0
OneReply = (bytes : List ℕ) (m n : ServerToAgent) → MeansReply bytes m → MeansReply bytes n → m ≡ n

-- the file stands for what stood, or it is this agent's and stands for the offers
abbrev pub FormerOrNext : (List ℕ → Offers) → List ℕ → Offers → List ℕ → Body → Type 0
FormerOrNext standing uid offers other body = StandsFor other (standing other) body ⊎ ((other ≡ uid) × StandsFor other offers body)

own : (uid : List ℕ) (offers standing : Offers) (done : Bool) (old mid : ShelfState) (b : Body) → ((body : Body) → IsAmong body (old.left (file_name uid)) → StandsFor uid standing body)
    → IsTrue old.told → Keeps uid offers done old mid → IsAmong b (mid.left (file_name uid)) → StandsFor uid standing b ⊎ StandsFor uid offers b
own uid offers standing true old mid b leaves told keeps among =
    elim (subst (λ (bodies : List Body). IsAmong b bodies) (keeps.settled refl told) among) [
      | inl is ↦ inr (subst (λ (body : Body). StandsFor uid offers body) (sym is) (keeps.read refl told))
      | inr none ↦ absurd none
    ]
own uid offers standing false old mid b leaves told keeps among =
    elim (keeps.not_done refl told b among) [ inl former ↦ inl (leaves b former) | inr is ↦ inr is ]

by_agent : (standing : List ℕ → Offers) (uid : List ℕ) (offers : Offers) (done : Bool) (old mid : ShelfState) (b : Body) (other : List ℕ) (same : Bool) → bytes_eq uid other ≡ same
    → IsUid uid → IsUid other → Leaves standing old → IsTrue old.told → Keeps uid offers done old mid → IsAmong b (mid.left (file_name other)) → FormerOrNext standing uid offers other b
by_agent standing uid offers done old mid b other true same iu io leaves told keeps among =
    let e : uid ≡ other = (bytes_decides uid other).0 same in
    elim (own other offers (standing other) done old mid b (leaves other io) told (subst (λ (u : List ℕ). Keeps u offers done old mid) e keeps) among) [ inl former ↦ inl former | inr next ↦ inr (sym e, next) ]
by_agent standing uid offers done old mid b other false same iu io leaves told keeps among =
    inl (leaves other io b (subst (λ (bodies : List Body). IsAmong b bodies) (keeps.others.left (file_name other) (names_differ uid other iu io same)) among))

pub left_file : (standing : List ℕ → Offers) (uid : List ℕ) (offers : Offers) (done : Bool) (old mid : ShelfState) (files : List ℕ → Body)
    → IsUid uid → Leaves standing old → IsTrue old.told → Keeps uid offers done old mid → MayLeave mid files → (other : List ℕ) → IsUid other → FormerOrNext standing uid offers other (files (file_name other))
left_file standing uid offers done old mid files iu leaves told keeps may other io =
    by_agent standing uid offers done old mid (files (file_name other)) other (bytes_eq uid other) refl iu io leaves told keeps (may (file_name other))

pub former_or_next : (standing : List ℕ → Offers) (uid : List ℕ) (offers : Offers) (files : List ℕ → Body) (found : List KeptOffers) → OneReply
    → ((other : List ℕ) → IsUid other → FormerOrNext standing uid offers other (files (file_name other))) → Opened files found → IsFormerOrNext standing uid offers found
former_or_next standing uid offers files found one each opened kept c =
    let is = opened.sound kept c in
    let stands : StandsFor kept.uid kept.offers (files (file_name kept.uid)) = subst (λ (b : Body). StandsFor kept.uid kept.offers b) (sym is.there) is.holds in
    elim (each kept.uid is.agent) [
      | inl former ↦ inl (one_choice one kept.uid kept.offers (standing kept.uid) (files (file_name kept.uid)) stands former)
      | inr next ↦ inr (next.0, one_choice one kept.uid kept.offers offers (files (file_name kept.uid)) stands next.1)
    ]

-- where an offer stands there is a file
some_file : (uid : List ℕ) (offers : Offers) (body : Body) → has_offer offers ≡ true → StandsFor uid offers body → IsSome body
some_file uid offers None some stands = absurd (cc (sym some ∙ ap has_offer stands))
some_file uid offers (Some body) some stands = refl

pub none_lost : (standing : List ℕ → Offers) (uid : List ℕ) (offers : Offers) (files : List ℕ → Body) (found : List KeptOffers) → OneReply
    → ((other : List ℕ) → IsUid other → FormerOrNext standing uid offers other (files (file_name other))) → Opened files found → NoneLost standing uid found
none_lost standing uid offers files found one each opened other io differ some =
    let former : StandsFor other (standing other) (files (file_name other)) = elim (each other io) [ inl former ↦ former | inr next ↦ absurd (cc (sym ((bytes_decides uid other).1 (sym next.0)) ∙ differ)) ] in
    let there = opened.complete other io (some_file other (standing other) (files (file_name other)) some former) in
    let is = opened.sound (record { uid = other; offers = there.0 }) there.1 in
    let same : there.0 ≡ standing other = one_choice one other there.0 (standing other) (files (file_name other)) (subst (λ (b : Body). StandsFor other there.0 b) (sym is.there) is.holds) former in
    subst (λ (o : Offers). Contains found (record { uid = other; offers = o })) same there.1

pub never_wrong : (standing : List ℕ → Offers) (uid : List ℕ) (offers : Offers) (files : List ℕ → Body) (name : List ℕ)
    → ((other : List ℕ) → IsUid other → FormerOrNext standing uid offers other (files (file_name other))) → IsWrong files name → ⊥
never_wrong standing uid offers files name each wrong =
    let there : files (file_name wrong.uid) ≡ Some wrong.body = ap files wrong.named ∙ wrong.there in
    elim (each wrong.uid wrong.agent) [
      | inl former ↦ wrong.wrong (standing wrong.uid) (subst (λ (b : Body). StandsFor wrong.uid (standing wrong.uid) b) there former)
      | inr next ↦ wrong.wrong offers (subst (λ (b : Body). StandsFor wrong.uid offers b) there next.1)
    ]
