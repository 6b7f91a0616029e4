-- What stands again behind a stop is what was ordered.
use Rattle.std.proofs.Common.{◌≡◌, ℕ, List, [], ◌∷◌, ◌++◌, Bool, true, false, cond, ◌&&◌, Option, None, Some, is_some, IsTrue, refl, sym, ◌∙◌, ap, subst, inl, inr}
use Rattle.std.specs.Prelude.{Contains, fold}
use Rattle.std.specs.Option.{option_or}
use Rattle.std.specs.Str.{bytes_eq}
use Rattle.std.specs.Cmp.Lexicographic.{bytes_decides}
use Rattle.std.proofs.lemmas.Bool.{false≢true}
use Rattle.std.proofs.lemmas.List.Elements.{Contains-append_left, Contains-push}
use Rattle.message_values.specs.declared.reply.ServerToAgent.{ServerToAgent}
use Rattle.message_replies.specs.Replies.{MeansReply}
use Rattle.server_core.specs.declared.offers.Offers.{Offers}
use Rattle.server_core.specs.Offers.{no_offers, offers_over}
use Rattle.edge_shelf.specs.Shelves.{Body, IsAmong, ShelfState}
use Rattle.server_kept.specs.Files.{IsUid, StandsFor, file_name, kept_reply}
use Rattle.server_kept.specs.Keeping.{Keeps}
use Rattle.server_kept.specs.Standing.{Asked, Event, Order, Started, Starts, asked, standing_after, Runs, Leaves, speaks_of, value_of, Chances, after_order, chances_after, MayStand, KeepsWord, standing_behind, settled_behind, Settles, StaysRight}
use Rattle.server_kept.proofs.Naming.{names_differ}

-- a kind of offer
pub record IsKind {T : Type 0} (kind : Offers → Option T) : Type 0 where
  pub none : kind no_offers ≡ None
  pub over : (standing made : Offers) → kind (offers_over standing made) ≡ option_or (kind made) (kind standing)

-- what an order that speaks of a kind makes of it
spoken_value : {T : Type 0} (kind : Offers → Option T) → IsKind kind → (standing : Offers) (made : Option Offers) → speaks_of kind made ≡ true → kind (asked standing made) ≡ value_of kind made
spoken_value kind k standing None s = k.none
spoken_value kind k standing (Some made) s = k.over standing made ∙ by (kind made) s
  where
    by : (value : Option _) → is_some value ≡ true → option_or value (kind standing) ≡ value
    by (Some v) s = refl
    by None s = absurd (cc s)

-- one that doesn't leaves it
unspoken_value : {T : Type 0} (kind : Offers → Option T) → IsKind kind → (standing : Offers) (made : Option Offers) → speaks_of kind made ≡ false → kind (asked standing made) ≡ kind standing
unspoken_value kind k standing None s = absurd (cc s)
unspoken_value kind k standing (Some made) s = k.over standing made ∙ by (kind made) s
  where
    by : (value : Option _) → is_some value ≡ false → option_or value (kind standing) ≡ kind standing
    by (Some v) s = absurd (cc s)
    by None s = refl

-- a body stands for offers of which this kind is one that may stand
pub record Stands {T : Type 0} (kind : Offers → Option T) (uid : List ℕ) (chances : Chances T) (body : Body) : Type 0 where
  pub offers : Offers
  pub stands : StandsFor uid offers body
  pub may : MayStand chances (kind offers)

-- a body stands for one choice of offers
one_reply_offers : (uid : List ℕ) (a b : Offers) → kept_reply uid a ≡ kept_reply uid b → a ≡ b
one_reply_offers uid a b e = ap (λ (m : ServerToAgent). record { config = m.remote_config; packages = m.packages_available; connection = m.connection_settings }) e

abbrev pub OneReply : Type 0
OneReply = (bytes : List ℕ) (m n : ServerToAgent) → MeansReply bytes m → MeansReply bytes n → m ≡ n

pub one_choice : OneReply → (uid : List ℕ) (a b : Offers) (body : Body) → StandsFor uid a body → StandsFor uid b body → a ≡ b
one_choice one uid a b None sa sb = sa ∙ sym sb
one_choice one uid a b (Some body) sa sb = one_reply_offers uid a b (one body (kept_reply uid a) (kept_reply uid b) sa.means sb.means)

-- what holds of an agent's file behind each order
pub record Keeping {T : Type 0} (kind : Offers → Option T) (uid : List ℕ) (chances : Chances T) (standing : Offers) (shelf : ShelfState) : Type 0 where
  pub may : MayStand chances (kind standing)
  pub each : (b : Body) → IsAmong b (shelf.left (file_name uid)) → Stands kind uid chances b

-- the chances behind an order of this agent
abbrev pub chances_by : {T : Type 0} → (Offers → Option T) → Bool → Bool → Option Offers → Chances T → Chances T
chances_by kind speaks done made chances =
    cond speaks (cond done (record { last = value_of kind made; later = [] }) (record { last = chances.last; later = chances.later ++ value_of kind made ∷ [] })) chances

-- an order that was done
done_step : {T : Type 0} (kind : Offers → Option T) → IsKind kind → (chances : Chances T) (standing : Offers) (made : Option Offers) (speaks : Bool)
    → speaks_of kind made ≡ speaks → MayStand chances (kind standing)
    → MayStand (chances_by kind speaks true made chances) (kind (asked standing made))
done_step kind k chances standing made true s may = inl (spoken_value kind k standing made s)
done_step kind k chances standing made false s may = subst (λ v. MayStand chances v) (sym (unspoken_value kind k standing made s)) may

-- an order that wasn't
failed_may : {T : Type 0} (kind : Offers → Option T) → IsKind kind → (chances : Chances T) (standing : Offers) (made : Option Offers) (speaks : Bool)
    → speaks_of kind made ≡ speaks → MayStand chances (kind standing)
    → MayStand (chances_by kind speaks false made chances) (kind (asked standing made))
failed_may kind k chances standing made true s may =
    inr (subst (λ v. Contains (chances.later ++ value_of kind made ∷ []) v) (sym (spoken_value kind k standing made s)) (Contains-push chances.later (value_of kind made)))
failed_may kind k chances standing made false s may = subst (λ v. MayStand chances v) (sym (unspoken_value kind k standing made s)) may

failed_keeps : {T : Type 0} (kind : Offers → Option T) (chances : Chances T) (made : Option Offers) (speaks : Bool) (value : Option T)
    → MayStand chances value → MayStand (chances_by kind speaks false made chances) value
failed_keeps kind chances made true value (inl is) = inl is
failed_keeps kind chances made true value (inr among) = inr (Contains-append_left chances.later (value_of kind made ∷ []) value among)
failed_keeps kind chances made false value may = may

-- an order of this agent
own_step : {T : Type 0} (kind : Offers → Option T) → IsKind kind → (uid : List ℕ) (chances : Chances T) (standing : Offers) (made : Option Offers) (done : Bool) (old new : ShelfState)
    → IsTrue old.told → Keeps uid (asked standing made) done old new → Keeping kind uid chances standing old
    → Keeping kind uid (chances_by kind (speaks_of kind made) done made chances) (cond done (asked standing made) standing) new
own_step kind k uid chances standing made true old new told keeps keeping =
    let may = done_step kind k chances standing made (speaks_of kind made) refl keeping.may in
    record {
      may = may;
      each = λ b among. elim (subst (λ bodies. IsAmong b bodies) (keeps.settled refl told) among) [
        | inl is ↦ record { offers = asked standing made; stands = subst (λ b. StandsFor uid (asked standing made) b) (sym is) (keeps.read refl told); may = may }
        | inr none ↦ absurd none
      ];
    }
own_step kind k uid chances standing made false old new told keeps keeping = record {
  may = failed_keeps kind chances made (speaks_of kind made) (kind standing) keeping.may;
  each = λ b among. elim (keeps.not_done refl told b among) [
    | inl former ↦ let s = keeping.each b former in record { offers = s.offers; stands = s.stands; may = failed_keeps kind chances made (speaks_of kind made) (kind s.offers) s.may }
    | inr is ↦ record { offers = asked standing made; stands = is; may = failed_may kind k chances standing made (speaks_of kind made) refl keeping.may }
  ];
}

-- an order, of this agent or of another one
step : {T : Type 0} (kind : Offers → Option T) → IsKind kind → (uid : List ℕ) → IsUid uid → (chances : Chances T) (standing : List ℕ → Offers) (order : Order) (old new : ShelfState) (own : Bool)
    → bytes_eq order.uid uid ≡ own → IsUid order.uid → IsTrue old.told → Keeps order.uid (asked (standing order.uid) order.made) order.done old new
    → Keeping kind uid chances (standing uid) old
    → Keeping kind uid (cond (own && speaks_of kind order.made) (cond order.done (record { last = value_of kind order.made; later = [] }) (record { last = chances.last; later = chances.later ++ value_of kind order.made ∷ [] })) chances)
    (cond (own && order.done) (asked (standing uid) order.made) (standing uid)) new
step kind k uid iu chances standing order old new true own io told keeps keeping =
    let same : order.uid ≡ uid = (bytes_decides order.uid uid).0 own in
    own_step kind k uid chances (standing uid) order.made order.done old new told (subst (λ u. Keeps u (asked (standing u) order.made) order.done old new) same keeps) keeping
step kind k uid iu chances standing order old new false own io told keeps keeping = record {
  may = keeping.may;
  each = λ b among. keeping.each b (subst (λ bodies. IsAmong b bodies) (keeps.others.left (file_name uid) (names_differ order.uid uid io iu own)) among);
}

-- a start: what is found may stand, and stands
found_again : {T : Type 0} (kind : Offers → Option T) → OneReply → (uid : List ℕ) → IsUid uid → (chances : Chances T) (standing : Offers) (again : List ℕ → Offers) (files : List ℕ → Body) (old new : ShelfState)
    → Starts again files old new → Keeping kind uid chances standing old → Keeping kind uid chances (again uid) new
found_again kind one uid iu chances standing again files old new starts keeping =
    let stands = starts.stands uid iu in
    let s = keeping.each (files (file_name uid)) (starts.among (file_name uid)) in
    let may : MayStand chances (kind (again uid)) =
    subst (λ (o : Offers). MayStand chances (kind o)) (one_choice one uid s.offers (again uid) (files (file_name uid)) s.stands stands) s.may in
    record { may = may; each = λ b among. keeping.each b (starts.left (file_name uid) b among) }

-- all of it
run : {T : Type 0} (kind : Offers → Option T) → IsKind kind → OneReply → (uid : List ℕ) → IsUid uid → (chances : Chances T) (standing : List ℕ → Offers) (events : List Event) (old new : ShelfState)
    → IsTrue old.told → Runs standing events old new → Keeping kind uid chances (standing uid) old
    → (b : Body) → IsAmong b (new.left (file_name uid)) → Stands kind uid (chances_after kind uid chances events) b
run kind k one uid iu chances standing [] old new told runs keeping b among = keeping.each b (subst (λ (left : List ℕ → List Body). IsAmong b (left (file_name uid))) runs.1 among)
run kind k one uid iu chances standing (Asked order ∷ events) old new told (mid, io, keeps, runs) keeping b among =
    run kind k one uid iu (after_order kind uid chances order) (standing_after standing order) events mid new (subst IsTrue (sym keeps.told) told) runs
    (step kind k uid iu chances standing order old mid (bytes_eq order.uid uid) refl io told keeps keeping) b among
run kind k one uid iu chances standing (Started again ∷ events) old new told (mid, files, starts, runs) keeping b among =
    run kind k one uid iu chances again events mid new (subst IsTrue (sym starts.told) told) runs
    (found_again kind one uid iu chances (standing uid) again files old mid starts keeping) b among

start : {T : Type 0} (kind : Offers → Option T) (standing : List ℕ → Offers) (shelf : ShelfState) → Leaves standing shelf → (uid : List ℕ) → IsUid uid
    → Keeping kind uid (record { last = kind (standing uid); later = [] }) (standing uid) shelf
start kind standing shelf leaves uid iu = record { may = inl refl; each = λ b among. record { offers = standing uid; stands = leaves uid iu b among; may = inl refl } }

pub keeps_word : {T : Type 0} (kind : Offers → Option T) → IsKind kind → OneReply → KeepsWord kind
keeps_word kind k one standing events old new told leaves runs files may uid iu offers stands =
    let s = run kind k one uid iu _ standing events old new told runs (start kind standing old leaves uid iu) (files (file_name uid)) (may (file_name uid)) in
    subst (λ o. MayStand (chances_after kind uid (record { last = kind (standing uid); later = [] }) events) (kind o)) (one_choice one uid s.offers offers (files (file_name uid)) s.stands stands) s.may

pub stays_right : OneReply → StaysRight
stays_right one standing events old new told leaves runs files may uid iu =
    let s = run (λ o. o.config) config_kind one uid iu _ standing events old new told runs (start (λ o. o.config) standing old leaves uid iu) (files (file_name uid)) (may (file_name uid)) in
    (s.offers, s.stands)
  where
    config_kind : IsKind (λ o. o.config)
    config_kind = record { none = refl; over = λ s m. refl }

-- where the last order to the agent was done, each body that may be left stands for what stands
abbrev pub HoldsStanding : List ℕ → Bool → Offers → ShelfState → Type 0
HoldsStanding uid settled offers shelf = IsTrue settled → (b : Body) → IsAmong b (shelf.left (file_name uid)) → StandsFor uid offers b

-- an order of this agent
own_holds : (uid : List ℕ) (standing : Offers) (made : Option Offers) (done : Bool) (old new : ShelfState) → IsTrue old.told → Keeps uid (asked standing made) done old new
    → HoldsStanding uid done (cond done (asked standing made) standing) new
own_holds uid standing made true old new told keeps is b among =
    elim (subst (λ (bodies : List Body). IsAmong b bodies) (keeps.settled refl told) among) [
      | inl e ↦ subst (λ (body : Body). StandsFor uid (asked standing made) body) (sym e) (keeps.read refl told)
      | inr none ↦ absurd none
    ]
own_holds uid standing made false old new told keeps is b among = absurd (false≢true is)

-- an order, of this agent or of another one
order_holds : (uid : List ℕ) → IsUid uid → (settled : Bool) (standing : List ℕ → Offers) (order : Order) (old new : ShelfState) (own : Bool)
    → bytes_eq order.uid uid ≡ own → IsUid order.uid → IsTrue old.told → Keeps order.uid (asked (standing order.uid) order.made) order.done old new
    → HoldsStanding uid settled (standing uid) old
    → HoldsStanding uid (cond own order.done settled) (cond (own && order.done) (asked (standing uid) order.made) (standing uid)) new
order_holds uid iu settled standing order old new true own io told keeps holds is b among =
    let same : order.uid ≡ uid = (bytes_decides order.uid uid).0 own in
    own_holds uid (standing uid) order.made order.done old new told (subst (λ (u : List ℕ). Keeps u (asked (standing u) order.made) order.done old new) same keeps) is b among
order_holds uid iu settled standing order old new false own io told keeps holds is b among =
    holds is b (subst (λ (bodies : List Body). IsAmong b bodies) (keeps.others.left (file_name uid) (names_differ order.uid uid io iu own)) among)

-- a start: what is found is what stood
start_holds : OneReply → (uid : List ℕ) → IsUid uid → (settled : Bool) (standing : Offers) (again : List ℕ → Offers) (files : List ℕ → Body) (old new : ShelfState)
    → Starts again files old new → HoldsStanding uid settled standing old → HoldsStanding uid settled (again uid) new
start_holds one uid iu settled standing again files old new starts holds is b among =
    let same : standing ≡ again uid =
    one_choice one uid standing (again uid) (files (file_name uid)) (holds is (files (file_name uid)) (starts.among (file_name uid))) (starts.stands uid iu) in
    subst (λ (o : Offers). StandsFor uid o b) same (holds is b (starts.left (file_name uid) b among))

-- all of it
run_holds : OneReply → (uid : List ℕ) → IsUid uid → (settled : Bool) (standing : List ℕ → Offers) (events : List Event) (old new : ShelfState)
    → IsTrue old.told → Runs standing events old new → HoldsStanding uid settled (standing uid) old
    → HoldsStanding uid (fold (settled_behind uid) settled events) (fold standing_behind standing events uid) new
run_holds one uid iu settled standing [] old new told runs holds is b among =
    holds is b (subst (λ (left : List ℕ → List Body). IsAmong b (left (file_name uid))) runs.1 among)
run_holds one uid iu settled standing (Asked order ∷ events) old new told (mid, io, keeps, runs) holds is b among =
    run_holds one uid iu (settled_behind uid settled (Asked order)) (standing_after standing order) events mid new (subst IsTrue (sym keeps.told) told) runs
    (order_holds uid iu settled standing order old mid (bytes_eq order.uid uid) refl io told keeps holds) is b among
run_holds one uid iu settled standing (Started again ∷ events) old new told (mid, files, starts, runs) holds is b among =
    run_holds one uid iu settled again events mid new (subst IsTrue (sym starts.told) told) runs
    (start_holds one uid iu settled (standing uid) again files old mid starts holds) is b among

pub settles : OneReply → Settles
settles one standing events old new told leaves runs files may uid iu settled =
    run_holds one uid iu true standing events old new told runs (λ is b among. leaves uid iu b among) settled (files (file_name uid)) (may (file_name uid))
