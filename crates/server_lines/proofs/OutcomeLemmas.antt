-- What became of what is done for agents, as what orders do.
use Rattle.std.proofs.Common.{◌≡◌, ◌∙◌, ap, ℕ, List, Bool, true, false, cond, Result, Ok, Err, inl, inr, refl}
use Rattle.std.specs.Prelude.{IfOk, IfErr, OnOk, OnErr, IsErr, filter, fold, map}
use Rattle.server_core.specs.declared.offers.OfferFail.{OfferFail}
use Rattle.server_core.specs.declared.offers.OfferFail.TheVariants.{UnknownAgent, TooLarge, NoMemory}
use Rattle.server_core.specs.History.{Event, Offered, Ordered, Withdrawn, Forgotten}
use Rattle.server_core.specs.declared.offers.Offer.{Offer}
use Rattle.server_core.specs.declared.rows.Record.{Record}
use Rattle.server_core.specs.Offers.{fits_offer}
use Rattle.server_core.specs.Served.{Served}
use Rattle.server_core.specs.Table.{is_held, table_after, table_without_left, OfferFails, IsOfferable}
use Rattle.server_waves.specs.Register.{Rolling, all_without}
use Rattle.server_lines.specs.declared.orders.Action.TheVariants as action
use Rattle.server_lines.specs.declared.orders.Order.TheVariants as order
use Rattle.server_lines.specs.Answers.{RunsOrder, answer_to_offer, answer_where_held, fleet_of, ok_line, words_of}
use Rattle.server_lines.specs.Sights.{Sight}

runs_offer : (sight : Sight) (old new : Served) (rollouts : List Rolling) (uid : List ℕ) (offer : Offer) (done : Result (Unit {0}) OfferFail) (text : List ℕ)
    → OnOk done (IsOfferable old.table uid offer)
    → OnOk done (new ≡ record old { table = table_after old.table (Offered uid offer) })
    → IfErr done (OfferFails old.table uid (fits_offer offer)) → OnErr done (new ≡ old) → text ≡ words_of done
    → RunsOrder sight (fleet_of old.table rollouts) (order.Act uid (action.Offer offer)) text (fleet_of new.table rollouts)
unfolding RunsOrder answer_to_offer words_of
runs_offer sight old new rollouts uid offer (Ok done) text may table failed same is =
    inl (rw (may.held, may.fits) is, ap (λ (s : Served). s.table) table, refl)
runs_offer sight old new rollouts uid offer (Err UnknownAgent) text may table failed same is =
    inl (rw failed is, rw failed (ap (λ (s : Served). s.table) same), refl)
runs_offer sight old new rollouts uid offer (Err TooLarge) text may table failed same is =
    inl (rw (failed.0, failed.1) is, rw (failed.0, failed.1) (ap (λ (s : Served). s.table) same), refl)
runs_offer sight old new rollouts uid offer (Err NoMemory) text may table failed same is =
    inr (failed, is, ap (λ (s : Served). fleet_of s.table rollouts) same)

runs_restart : (sight : Sight) (old new : Served) (rollouts : List Rolling) (uid : List ℕ) (done : Result (Unit {0}) OfferFail) (text : List ℕ)
    → OnOk done ((is_held old.table uid ≡ true) × (new ≡ record old { table = table_after old.table (Ordered uid) }))
    → IfErr done (λ fail. (fail ≡ UnknownAgent) × (is_held old.table uid ≡ false)) → OnErr done (new ≡ old) → text ≡ words_of done
    → RunsOrder sight (fleet_of old.table rollouts) (order.Act uid action.Restart) text (fleet_of new.table rollouts)
unfolding RunsOrder answer_where_held words_of
runs_restart sight old new rollouts uid (Ok done) text ok failed same is =
    inl (rw ok.0 is, ap (λ (s : Served). s.table) ok.1, refl)
runs_restart sight old new rollouts uid (Err UnknownAgent) text ok failed same is =
    inl (rw failed.1 is, rw failed.1 (ap (λ (s : Served). s.table) same), refl)
runs_restart sight old new rollouts uid (Err TooLarge) text ok failed same is = absurd (let other = failed.0 in cc)
runs_restart sight old new rollouts uid (Err NoMemory) text ok failed same is = absurd (let other = failed.0 in cc)

runs_withdraw : (sight : Sight) (old new : Served) (rollouts : List Rolling) (uid : List ℕ) (done : Result (Unit {0}) OfferFail) (text : List ℕ)
    → OnOk done ((is_held old.table uid ≡ true) × (new ≡ record old { table = table_after old.table (Withdrawn uid) }))
    → IfErr done (λ fail. (fail ≡ UnknownAgent) × (is_held old.table uid ≡ false)) → OnErr done (new ≡ old) → text ≡ words_of done
    → RunsOrder sight (fleet_of old.table rollouts) (order.Act uid action.Withdraw) text (fleet_of new.table rollouts)
unfolding RunsOrder answer_where_held words_of
runs_withdraw sight old new rollouts uid (Ok done) text ok failed same is =
    inl (rw ok.0 is, ap (λ (s : Served). s.table) ok.1, refl)
runs_withdraw sight old new rollouts uid (Err UnknownAgent) text ok failed same is =
    inl (rw failed.1 is, rw failed.1 (ap (λ (s : Served). s.table) same), refl)
runs_withdraw sight old new rollouts uid (Err TooLarge) text ok failed same is = absurd (let other = failed.0 in cc)
runs_withdraw sight old new rollouts uid (Err NoMemory) text ok failed same is = absurd (let other = failed.0 in cc)

-- what a server says of itself stays
profile_stays : (old new : Served) (event : Event) (done : Result (Unit {0}) OfferFail)
    → OnOk done (new ≡ record old { table = table_after old.table event }) → OnErr done (new ≡ old) → new.profile ≡ old.profile
profile_stays old new event (Ok done) table same = ap (λ (s : Served). s.profile) table
profile_stays old new event (Err fail) table same = ap (λ (s : Served). s.profile) same

-- the answer of an offer
pub offer_answered : {E : Type 0} (sight : Sight) (old new : Served) (rollouts : List Rolling) (uid : List ℕ) (offer : Offer) (done : Result (Unit {0}) OfferFail) (answer : Result (List ℕ) E)
    → OnOk done (IsOfferable old.table uid offer)
    → OnOk done (new ≡ record old { table = table_after old.table (Offered uid offer) })
    → IfErr done (OfferFails old.table uid (fits_offer offer)) → OnErr done (new ≡ old)
    → IfOk answer (λ text. text ≡ words_of done) → IfOk answer (λ text. RunsOrder sight (fleet_of old.table rollouts) (order.Act uid (action.Offer offer)) text (fleet_of new.table rollouts))
offer_answered sight old new rollouts uid offer done (Ok text) may table failed same is =
    runs_offer sight old new rollouts uid offer done text may table failed same is
offer_answered sight old new rollouts uid offer done (Err e) may table failed same is = tt

pub restart_answered : {E : Type 0} (sight : Sight) (old new : Served) (rollouts : List Rolling) (uid : List ℕ) (done : Result (Unit {0}) OfferFail) (answer : Result (List ℕ) E)
    → OnOk done ((is_held old.table uid ≡ true) × (new ≡ record old { table = table_after old.table (Ordered uid) }))
    → IfErr done (λ fail. (fail ≡ UnknownAgent) × (is_held old.table uid ≡ false)) → OnErr done (new ≡ old)
    → IfOk answer (λ text. text ≡ words_of done) → IfOk answer (λ text. RunsOrder sight (fleet_of old.table rollouts) (order.Act uid action.Restart) text (fleet_of new.table rollouts))
restart_answered sight old new rollouts uid done (Ok text) ok failed same is = runs_restart sight old new rollouts uid done text ok failed same is
restart_answered sight old new rollouts uid done (Err e) ok failed same is = tt

pub withdraw_answered : {E : Type 0} (sight : Sight) (old new : Served) (rollouts : List Rolling) (uid : List ℕ) (done : Result (Unit {0}) OfferFail) (answer : Result (List ℕ) E)
    → OnOk done ((is_held old.table uid ≡ true) × (new ≡ record old { table = table_after old.table (Withdrawn uid) }))
    → IfErr done (λ fail. (fail ≡ UnknownAgent) × (is_held old.table uid ≡ false)) → OnErr done (new ≡ old)
    → IfOk answer (λ text. text ≡ words_of done) → IfOk answer (λ text. RunsOrder sight (fleet_of old.table rollouts) (order.Act uid action.Withdraw) text (fleet_of new.table rollouts))
withdraw_answered sight old new rollouts uid done (Ok text) ok failed same is = runs_withdraw sight old new rollouts uid done text ok failed same is
withdraw_answered sight old new rollouts uid done (Err e) ok failed same is = tt

pub offer_profile : (old new : Served) (uid : List ℕ) (offer : Offer) (done : Result (Unit {0}) OfferFail)
    → OnOk done (new ≡ record old { table = table_after old.table (Offered uid offer) }) → OnErr done (new ≡ old) → new.profile ≡ old.profile
offer_profile old new uid offer done table same = profile_stays old new (Offered uid offer) done table same

pub restart_profile : (old new : Served) (uid : List ℕ) (done : Result (Unit {0}) OfferFail)
    → OnOk done ((is_held old.table uid ≡ true) × (new ≡ record old { table = table_after old.table (Ordered uid) })) → OnErr done (new ≡ old) → new.profile ≡ old.profile
restart_profile old new uid (Ok done) table same = ap (λ (s : Served). s.profile) table.1
restart_profile old new uid (Err fail) table same = ap (λ (s : Served). s.profile) same

pub withdraw_profile : (old new : Served) (uid : List ℕ) (done : Result (Unit {0}) OfferFail)
    → OnOk done ((is_held old.table uid ≡ true) × (new ≡ record old { table = table_after old.table (Withdrawn uid) })) → OnErr done (new ≡ old) → new.profile ≡ old.profile
withdraw_profile old new uid (Ok done) table same = ap (λ (s : Served). s.profile) table.1
withdraw_profile old new uid (Err fail) table same = ap (λ (s : Served). s.profile) same

-- where there is no answer nothing was done
pub nothing_done : {E : Type 0} (old new : Served) (rollouts : List Rolling) (done : Result (Unit {0}) OfferFail) (answer : Result (List ℕ) E)
    → OnErr answer (IsErr done) → OnErr done (new ≡ old) → OnErr answer (fleet_of new.table rollouts ≡ fleet_of old.table rollouts)
nothing_done old new rollouts done (Ok text) failed same = tt
nothing_done old new rollouts (Ok done) (Err e) failed same = absurd (let no = failed in cc)
nothing_done old new rollouts (Err fail) (Err e) failed same = ap (λ (s : Served). fleet_of s.table rollouts) same

-- ---- agents that are forgotten

pub runs_forget : (sight : Sight) (old new : Served) (rollouts after : List Rolling) (uid text : List ℕ) (held : Bool)
    → held ≡ is_held old.table uid → new ≡ record old { table = table_after old.table (Forgotten uid) }
    → after ≡ cond held (all_without uid rollouts) rollouts → text ≡ answer_where_held old.table uid
    → RunsOrder sight (fleet_of old.table rollouts) (order.Act uid action.Forget) text (fleet_of new.table after)
unfolding RunsOrder
runs_forget sight old new rollouts after uid text held is table left told =
    inl (told, ap (λ (s : Served). s.table) table, left ∙ ap (λ b. cond b (all_without uid rollouts) rollouts) is)

pub runs_forget_left : (sight : Sight) (old new : Served) (rollouts after : List Rolling) (agents : List Record) (text : List ℕ)
    → new ≡ record old { table = table_without_left old.table } → agents ≡ old.table.records
    → after ≡ fold (λ seen uid. all_without uid seen) rollouts (map (λ (r : Record). r.uid) (filter (λ (r : Record). r.left) agents)) → text ≡ ok_line
    → RunsOrder sight (fleet_of old.table rollouts) order.ForgetLeft text (fleet_of new.table after)
unfolding RunsOrder
runs_forget_left sight old new rollouts after agents text table listed left told =
    inl (
      told,
      ap (λ (s : Served). s.table) table,
      left ∙ ap (λ (rs : List Record). fold (λ seen uid. all_without uid seen) rollouts (map (λ (r : Record). r.uid) (filter (λ (r : Record). r.left) rs))) listed,
    )
