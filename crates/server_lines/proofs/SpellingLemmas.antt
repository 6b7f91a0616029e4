-- The order that words spell by the table of lines is the one that is read word by word.
use Rattle.std.proofs.Common.{◌≡◌, inl, inr, ◌∙◌, sym, ap, subst, ℕ, List, [], ◌∷◌, Bool, true, false, cond, ◌&&◌, Option, None, Some, refl}
use Rattle.std.specs.Prelude.{codes}
use Rattle.std.specs.Bool.{then_some}
use Rattle.std.specs.Option.{option_map, option_and_then}
use Rattle.std.specs.Str.{bytes_eq}
use Rattle.std.proofs.lemmas.Bool.{and_parts}
use Rattle.std.proofs.lemmas.Slice.Eq.{bytes_eq-Decides}
use Rattle.uuid.specs.Text.{parsed}
use Rattle.plain_values.specs.Pairs.{put_all}
use Rattle.plain_values.specs.declared.files.AgentConfigMap.{AgentConfigMap}
use Rattle.server_core.specs.declared.offers.Offer.TheVariants.{Config as ConfigOffer, Packages as PackagesOffer, Connection as ConnectionOffer}
use Rattle.server_lines.specs.declared.orders.Action.{Action}
use Rattle.server_lines.specs.declared.orders.Action.TheVariants as action
use Rattle.server_lines.specs.declared.orders.Order.{Order}
use Rattle.server_lines.specs.declared.orders.Order.TheVariants as order
use Rattle.server_lines.specs.declared.orders.Question.TheVariants as question
use Rattle.server_lines.specs.declared.orders.Steering.{Steering}
use Rattle.server_lines.specs.declared.orders.Steering.TheVariants as steering
use Rattle.server_lines.specs.Words.{id_in, is_id, text_in, number_in, terms_in, finder_in, filled, files_of, packages_in, headers_in, endpoint_alone, settings_with}
use Rattle.server_lines.specs.Lines.{SpellsAction, SpellsOrder, SpellsSteering, SpellsWhere, opens_where}
use Rattle.server_lines.specs.Reading.{alone, only_uid, only_id, config_of, connect_of, settings_of, packages_of, action_with, act_of, begin_with, begin_where, begin_behind, begin_of, steering_with, steer_of, is_steering, is_left, change_with, order_with, order_of}
use Rattle.server_waves.specs.declared.finders.Finder.{Finder}

-- ---- what is spelled is read

read_of_action : (verb : List ℕ) (words : List (List ℕ)) (act : Action) → SpellsAction verb words act → action_with verb words ≡ Some act
unfolding action_with
read_of_action verb words (action.Offer (ConfigOffer files)) h = rw (h.0, h.1) refl
read_of_action verb words (action.Offer (PackagesOffer packages)) h = rw (h.1, h.2, h.3) refl
read_of_action verb words (action.Offer (ConnectionOffer settings)) (inl h) = rw (h.1, h.2, h.3) refl
read_of_action verb words (action.Offer (ConnectionOffer settings)) (inr h) = rw (h.5, h.6, h.7, h.8, h.9) refl
read_of_action verb words action.Restart h = rw (h.0, h.1) refl
read_of_action verb words action.Withdraw h = rw (h.0, h.1) refl
read_of_action verb words action.Forget h = rw (h.0, h.1) refl

-- the words behind `forget` aren't `left` where the first is an identifier
not_left : (u : List ℕ) (words : List (List ℕ)) (uid : List ℕ) → parsed u ≡ Some uid → is_left (u ∷ words) ≡ false
not_left u (word ∷ words) uid is = refl
not_left u [] uid is = by_test (bytes_eq u (codes "left")) refl
  where
    by_test : (b : Bool) → bytes_eq u (codes "left") ≡ b → b ≡ false
    by_test true same = absurd (let no : None ≡ Some uid = sym (ap parsed ((bytes_eq-Decides u (codes "left")).0 same)) ∙ is in cc)
    by_test false other = refl

-- a verb of an action is none of those that stand for themselves
read_of_act : (verb : List ℕ) (words : List (List ℕ)) (act : Action) → SpellsAction verb words act → (u uid : List ℕ) → parsed u ≡ Some uid
    → order_with verb (u ∷ words) ≡ act_of verb (u ∷ words)
unfolding order_with change_with
read_of_act verb words (action.Offer (ConfigOffer files)) h u uid is = rw h.0 refl
read_of_act verb words (action.Offer (PackagesOffer packages)) h u uid is = rw h.1 refl
read_of_act verb words (action.Offer (ConnectionOffer settings)) (inl h) u uid is = rw h.1 refl
read_of_act verb words (action.Offer (ConnectionOffer settings)) (inr h) u uid is = rw h.5 refl
read_of_act verb words action.Restart h u uid is = rw h.0 refl
read_of_act verb words action.Withdraw h u uid is = rw h.0 refl
read_of_act verb words action.Forget h u uid is = rw (h.0, not_left u words uid is) refl

-- a first word that isn't `where` is of files
read_of_all : (width allowed : ℕ) (named : List (List ℕ)) → opens_where named ≡ false → begin_behind width allowed named ≡ begin_with width allowed None named
read_of_all width allowed [] other = refl
read_of_all width allowed (word ∷ []) other = refl
read_of_all width allowed (word ∷ pair ∷ named) other = rw other refl

read_of_where : (width allowed : ℕ) (words : List (List ℕ)) (finder : Option Finder) (named : List (List ℕ)) (files : AgentConfigMap)
    → SpellsWhere words finder named → files_of named ≡ Some files → begin_behind width allowed words ≡ Some (steering.Begin width allowed finder files)
read_of_where width allowed words None named files h is = ap (begin_behind width allowed) h.0 ∙ read_of_all width allowed named h.1 ∙ rw is refl
read_of_where width allowed words (Some finder) named files h is = rw (h.1, h.2, is) refl

read_of_steering : (verb : List ℕ) (words : List (List ℕ)) (done : Steering) → SpellsSteering verb words done → steering_with verb words ≡ Some done
unfolding steering_with
read_of_steering verb words (steering.Begin width allowed finder files) h = rw (h.3, h.4, h.5) (read_of_where width allowed h.1 finder h.2 files h.6 h.7)
read_of_steering verb words steering.Halt h = rw (h.0, h.1) refl
read_of_steering verb words steering.Resume h = rw (h.0, h.1) refl
read_of_steering verb words steering.Finish h = rw (h.0, h.1) refl

-- a verb that steers is none of those that stand for themselves
read_of_steer : (verb : List ℕ) (words : List (List ℕ)) (done : Steering) → SpellsSteering verb words done → (id : List ℕ) → order_with verb (id ∷ words) ≡ steer_of verb (id ∷ words)
unfolding order_with change_with
read_of_steer verb words (steering.Begin width allowed finder files) h id = rw h.3 refl
read_of_steer verb words steering.Halt h id = rw h.0 refl
read_of_steer verb words steering.Resume h id = rw h.0 refl
read_of_steer verb words steering.Finish h id = rw h.0 refl

pub read_of_spelled : (words : List (List ℕ)) (ordered : Order) → SpellsOrder words ordered → order_of words ≡ Some ordered
unfolding SpellsOrder order_of order_with change_with act_of steer_of id_in
read_of_spelled words (order.Ask question.List) h = rw h refl
read_of_spelled words (order.Ask (question.Show uid)) h = rw (h.1, h.2) refl
read_of_spelled words (order.Ask (question.Waits uid)) h = rw (h.1, h.2) refl
read_of_spelled words (order.Ask question.Rollouts) h = rw h refl
read_of_spelled words (order.Ask (question.Members id)) h = rw (h.0, h.1) refl
read_of_spelled words (order.Ask question.Ages) h = rw h refl
read_of_spelled words (order.Ask question.Count) h = rw h refl
read_of_spelled words (order.Act uid act) h = ap order_of h.3 ∙ read_of_act h.0 h.2 act h.5 h.1 uid h.4 ∙ acted
  where
    acted : act_of h.0 (h.1 ∷ h.2) ≡ Some (order.Act uid act)
    acted = rw (h.4, read_of_action h.0 h.2 act h.5) refl
read_of_spelled words (order.Steer id done) h = ap order_of h.2 ∙ read_of_steer h.0 h.1 done h.4 id ∙ steered
  where
    steered : steer_of h.0 (id ∷ h.1) ≡ Some (order.Steer id done)
    steered = rw (h.3, read_of_steering h.0 h.1 done h.4) refl
read_of_spelled words order.ForgetLeft h = rw h refl
read_of_spelled words order.Stop h = rw h refl

-- ---- what is read is spelled

-- the value that was mapped
mapped_from : {A B : Type 0} (f : A → B) (x : Option A) (y : B) → option_map f x ≡ Some y → (a : A) × (x ≡ Some a) × (f a ≡ y)
mapped_from f None y e = absurd (cc)
mapped_from f (Some a) y e = (a, refl, (cc))

bound_from : {A B : Type 0} (f : A → Option B) (x : Option A) (y : B) → option_and_then f x ≡ Some y → (a : A) × (x ≡ Some a) × (f a ≡ Some y)
bound_from f None y e = absurd (cc)
bound_from f (Some a) y e = (a, refl, e)

one_uid_from : (words : List (List ℕ)) (uid : List ℕ) → only_uid words ≡ Some uid → (u : List ℕ) × (words ≡ u ∷ []) × (parsed u ≡ Some uid)
one_uid_from [] uid e = absurd (cc)
one_uid_from (u ∷ []) uid e = (u, refl, e)
one_uid_from (u ∷ word ∷ words) uid e = absurd (cc)

alone_from : {T : Type 0} (meant other : T) (words : List (List ℕ)) → alone meant words ≡ Some other → (words ≡ []) × (meant ≡ other)
alone_from meant other [] e = (refl, (cc))
alone_from meant other (word ∷ words) e = absurd (cc)

spelled_config : (words : List (List ℕ)) (act : Action) → config_of words ≡ Some act → SpellsAction (codes "config") words act
spelled_config words act e =
    let h = mapped_from (λ files. action.Offer (ConfigOffer files)) (files_of words) act e in
    subst (λ (a : Action). SpellsAction (codes "config") words a) h.2 (refl, h.1)

spelled_packages : (words : List (List ℕ)) (act : Action) → packages_of words ≡ Some act → SpellsAction (codes "packages") words act
spelled_packages words act e =
    let h = mapped_from (λ entries. action.Offer (PackagesOffer (put_all entries))) (filled packages_in words) act e in
    subst (λ (a : Action). SpellsAction (codes "packages") words a) h.2 (h.0, refl, h.1, refl)

spelled_connect : (words : List (List ℕ)) (act : Action) → connect_of words ≡ Some act → SpellsAction (codes "connect") words act
spelled_connect [] act e = absurd (cc)
spelled_connect (url ∷ []) act e =
    let same : action.Offer (ConnectionOffer (endpoint_alone url)) ≡ act = cc in
    subst (λ (a : Action). SpellsAction (codes "connect") (url ∷ []) a) same (inl (url, refl, refl, refl))
spelled_connect (url ∷ word ∷ words) act e = absurd (cc)

spelled_settings : (words : List (List ℕ)) (act : Action) → settings_of words ≡ Some act → SpellsAction (codes "settings") words act
spelled_settings [] act e = absurd (cc)
spelled_settings (url ∷ []) act e = absurd (cc)
spelled_settings (url ∷ n ∷ named) act e =
    let k = bound_from (λ seconds. option_map (λ headers. action.Offer (ConnectionOffer (settings_with (text_in url) seconds headers))) (headers_in named)) (number_in n) act e in
    let h = mapped_from (λ headers. action.Offer (ConnectionOffer (settings_with (text_in url) k.0 headers))) (headers_in named) act k.2 in
    subst (λ (a : Action). SpellsAction (codes "settings") (url ∷ n ∷ named) a) h.2 (inr (url, n, named, k.0, h.0, refl, refl, k.1, h.1, refl))

spelled_restart : (words : List (List ℕ)) (act : Action) → alone action.Restart words ≡ Some act → SpellsAction (codes "restart") words act
spelled_restart words act e =
    let h = alone_from action.Restart act words e in
    subst (λ (a : Action). SpellsAction (codes "restart") words a) h.1 (refl, h.0)

spelled_withdraw : (words : List (List ℕ)) (act : Action) → alone action.Withdraw words ≡ Some act → SpellsAction (codes "withdraw") words act
spelled_withdraw words act e =
    let h = alone_from action.Withdraw act words e in
    subst (λ (a : Action). SpellsAction (codes "withdraw") words a) h.1 (refl, h.0)

spelled_forget : (words : List (List ℕ)) (act : Action) → alone action.Forget words ≡ Some act → SpellsAction (codes "forget") words act
spelled_forget words act e =
    let h = alone_from action.Forget act words e in
    subst (λ (a : Action). SpellsAction (codes "forget") words a) h.1 (refl, h.0)

-- where the verb is this word the first reading counts, and otherwise the second
either : {R : Type 0} (Means : List ℕ → R → Type 0) (verb word : List ℕ) (x y : Option R) (read : R)
    → (x ≡ Some read → Means word read) → (y ≡ Some read → Means verb read) → cond (bytes_eq verb word) x y ≡ Some read → Means verb read
either Means verb word x y read first second e =
    (elim (bytes_eq verb word) as (λ b. bytes_eq verb word ≡ b → cond b x y ≡ Some read → Means verb read) [
      | true ↦ λ same h. subst (λ (v : List ℕ). Means v read) (sym ((bytes_eq-Decides verb word).0 same)) (first h)
      | false ↦ λ other h. second h
    ]) refl e

action_of_read : (verb : List ℕ) (words : List (List ℕ)) (act : Action) → action_with verb words ≡ Some act → SpellsAction verb words act
unfolding action_with
action_of_read verb words act e =
    let Means = λ (v : List ℕ) (a : Action). SpellsAction v words a in
    either Means verb (codes "config") _ _ act (spelled_config words act)
    (either Means verb (codes "connect") _ _ act (spelled_connect words act)
    (either Means verb (codes "settings") _ _ act (spelled_settings words act)
    (either Means verb (codes "packages") _ _ act (spelled_packages words act)
    (either Means verb (codes "restart") _ _ act (spelled_restart words act)
    (either Means verb (codes "withdraw") _ _ act (spelled_withdraw words act)
    (either Means verb (codes "forget") _ _ act (spelled_forget words act) (λ h. absurd (cc)))))))) e

spelled_act : (verb : List ℕ) (words : List (List ℕ)) (ordered : Order) → act_of verb words ≡ Some ordered → SpellsOrder (verb ∷ words) ordered
unfolding SpellsOrder act_of
spelled_act verb [] ordered e = absurd (cc)
spelled_act verb (u ∷ words) ordered e =
    let k = bound_from (λ uid. option_map (λ act. order.Act uid act) (action_with verb words)) (parsed u) ordered e in
    let h = mapped_from (λ act. order.Act k.0 act) (action_with verb words) ordered k.2 in
    subst (λ (o : Order). SpellsOrder (verb ∷ u ∷ words) o) h.2 (verb, u, words, refl, k.1, action_of_read verb words h.0 h.1)

spelled_list : (words : List (List ℕ)) (ordered : Order) → alone (order.Ask question.List) words ≡ Some ordered → SpellsOrder (codes "list" ∷ words) ordered
unfolding SpellsOrder
spelled_list words ordered e =
    let h = alone_from (order.Ask question.List) ordered words e in
    subst (λ (o : Order). SpellsOrder (codes "list" ∷ words) o) h.1 (ap (λ ws. codes "list" ∷ ws) h.0)

spelled_stop : (words : List (List ℕ)) (ordered : Order) → alone order.Stop words ≡ Some ordered → SpellsOrder (codes "stop" ∷ words) ordered
unfolding SpellsOrder
spelled_stop words ordered e =
    let h = alone_from order.Stop ordered words e in
    subst (λ (o : Order). SpellsOrder (codes "stop" ∷ words) o) h.1 (ap (λ ws. codes "stop" ∷ ws) h.0)

spelled_show : (words : List (List ℕ)) (ordered : Order) → option_map (λ uid. order.Ask (question.Show uid)) (only_uid words) ≡ Some ordered → SpellsOrder (codes "show" ∷ words) ordered
unfolding SpellsOrder
spelled_show words ordered e =
    let h = mapped_from (λ uid. order.Ask (question.Show uid)) (only_uid words) ordered e in
    let k = one_uid_from words h.0 h.1 in
    subst (λ (o : Order). SpellsOrder (codes "show" ∷ words) o) h.2 (k.0, ap (λ ws. codes "show" ∷ ws) k.1, k.2)

spelled_waits : (words : List (List ℕ)) (ordered : Order) → option_map (λ uid. order.Ask (question.Waits uid)) (only_uid words) ≡ Some ordered → SpellsOrder (codes "waits" ∷ words) ordered
unfolding SpellsOrder
spelled_waits words ordered e =
    let h = mapped_from (λ uid. order.Ask (question.Waits uid)) (only_uid words) ordered e in
    let k = one_uid_from words h.0 h.1 in
    subst (λ (o : Order). SpellsOrder (codes "waits" ∷ words) o) h.2 (k.0, ap (λ ws. codes "waits" ∷ ws) k.1, k.2)

spelled_rollouts : (words : List (List ℕ)) (ordered : Order) → alone (order.Ask question.Rollouts) words ≡ Some ordered → SpellsOrder (codes "rollouts" ∷ words) ordered
unfolding SpellsOrder
spelled_rollouts words ordered e =
    let h = alone_from (order.Ask question.Rollouts) ordered words e in
    subst (λ (o : Order). SpellsOrder (codes "rollouts" ∷ words) o) h.1 (ap (λ ws. codes "rollouts" ∷ ws) h.0)

spelled_ages : (words : List (List ℕ)) (ordered : Order) → alone (order.Ask question.Ages) words ≡ Some ordered → SpellsOrder (codes "ages" ∷ words) ordered
unfolding SpellsOrder
spelled_ages words ordered e =
    let h = alone_from (order.Ask question.Ages) ordered words e in
    subst (λ (o : Order). SpellsOrder (codes "ages" ∷ words) o) h.1 (ap (λ ws. codes "ages" ∷ ws) h.0)

spelled_count : (words : List (List ℕ)) (ordered : Order) → alone (order.Ask question.Count) words ≡ Some ordered → SpellsOrder (codes "count" ∷ words) ordered
unfolding SpellsOrder
spelled_count words ordered e =
    let h = alone_from (order.Ask question.Count) ordered words e in
    subst (λ (o : Order). SpellsOrder (codes "count" ∷ words) o) h.1 (ap (λ ws. codes "count" ∷ ws) h.0)

-- the word is the name that it is read as
id_from : (word id : List ℕ) → id_in word ≡ Some id → (word ≡ id) × (is_id word ≡ true)
unfolding id_in
id_from word id e = by_test (is_id word) refl e
  where
    by_test : (b : Bool) → is_id word ≡ b → then_some b word ≡ Some id → (word ≡ id) × (is_id word ≡ true)
    by_test true is some = ((cc), is)
    by_test false is some = absurd (cc)

one_id_from : (words : List (List ℕ)) (id : List ℕ) → only_id words ≡ Some id → (words ≡ id ∷ []) × (is_id id ≡ true)
one_id_from [] id e = absurd (cc)
one_id_from (word ∷ []) id e = let h = id_from word id e in (ap (λ w. w ∷ []) h.0, subst (λ w. is_id w ≡ true) h.0 h.1)
one_id_from (word ∷ other ∷ words) id e = absurd (cc)

spelled_members : (words : List (List ℕ)) (ordered : Order) → option_map (λ id. order.Ask (question.Members id)) (only_id words) ≡ Some ordered → SpellsOrder (codes "members" ∷ words) ordered
unfolding SpellsOrder
spelled_members words ordered e =
    let h = mapped_from (λ id. order.Ask (question.Members id)) (only_id words) ordered e in
    let k = one_id_from words h.0 h.1 in
    subst (λ (o : Order). SpellsOrder (codes "members" ∷ words) o) h.2 (ap (λ ws. codes "members" ∷ ws) k.0, k.1)

-- ---- rollouts

-- a first word that is of files isn't `where`
spelled_all : (width allowed : ℕ) (words : List (List ℕ)) (done : Steering) → opens_where words ≡ false → begin_with width allowed None words ≡ Some done
    → (finder : Option Finder) × (named : List (List ℕ)) × (files : AgentConfigMap) × SpellsWhere words finder named × (files_of named ≡ Some files)
    × (steering.Begin width allowed finder files ≡ done)
spelled_all width allowed words done other e =
    let h = mapped_from (λ files. steering.Begin width allowed None files) (files_of words) done e in
    (None, words, h.0, (refl, other), h.1, h.2)

spelled_where : (width allowed : ℕ) (pair : List ℕ) (named : List (List ℕ)) (done : Steering) → begin_where width allowed pair named ≡ Some done
    → (finder : Option Finder) × (behind : List (List ℕ)) × (files : AgentConfigMap) × SpellsWhere (codes "where" ∷ pair ∷ named) finder behind × (files_of behind ≡ Some files)
    × (steering.Begin width allowed finder files ≡ done)
spelled_where width allowed pair named done e =
    let k = bound_from (λ finder. begin_with width allowed (Some finder) named) (finder_in pair) done e in
    let h = mapped_from (λ files. steering.Begin width allowed (Some k.0) files) (files_of named) done k.2 in
    (Some k.0, named, h.0, (pair, refl, k.1), h.1, h.2)

spelled_behind : (width allowed : ℕ) (words : List (List ℕ)) (done : Steering) → begin_behind width allowed words ≡ Some done
    → (finder : Option Finder) × (named : List (List ℕ)) × (files : AgentConfigMap) × SpellsWhere words finder named × (files_of named ≡ Some files)
    × (steering.Begin width allowed finder files ≡ done)
spelled_behind width allowed [] done e = absurd (cc)
spelled_behind width allowed (word ∷ []) done e = absurd (cc)
spelled_behind width allowed (word ∷ pair ∷ named) done e = by_test (bytes_eq word (codes "where")) refl e
  where
    by_test : (b : Bool) → bytes_eq word (codes "where") ≡ b → cond b (begin_where width allowed pair named) (begin_with width allowed None (word ∷ pair ∷ named)) ≡ Some done
        → (finder : Option Finder) × (behind : List (List ℕ)) × (files : AgentConfigMap) × SpellsWhere (word ∷ pair ∷ named) finder behind × (files_of behind ≡ Some files)
        × (steering.Begin width allowed finder files ≡ done)
    by_test true same some =
        let h = spelled_where width allowed pair named done some in
        let is : codes "where" ≡ word = sym ((bytes_eq-Decides word (codes "where")).0 same) in
        (h.0, h.1, h.2, subst (λ w. SpellsWhere (w ∷ pair ∷ named) h.0 h.1) is h.3, h.4, h.5)
    by_test false other some = spelled_all width allowed (word ∷ pair ∷ named) done other some

spelled_begin : (words : List (List ℕ)) (done : Steering) → begin_of words ≡ Some done → SpellsSteering (codes "rollout") words done
spelled_begin [] done e = absurd (cc)
spelled_begin (terms ∷ words) done e =
    let k = bound_from (λ (p : ℕ × ℕ). begin_behind p.0 p.1 words) (terms_in terms) done e in
    let h = spelled_behind k.0.0 k.0.1 words done k.2 in
    subst (λ (s : Steering). SpellsSteering (codes "rollout") (terms ∷ words) s) h.5 (terms, words, h.1, refl, refl, k.1, h.3, h.4)

spelled_halt : (words : List (List ℕ)) (done : Steering) → alone steering.Halt words ≡ Some done → SpellsSteering (codes "halt") words done
spelled_halt words done e =
    let h = alone_from steering.Halt done words e in
    subst (λ (s : Steering). SpellsSteering (codes "halt") words s) h.1 (refl, h.0)

spelled_resume : (words : List (List ℕ)) (done : Steering) → alone steering.Resume words ≡ Some done → SpellsSteering (codes "resume") words done
spelled_resume words done e =
    let h = alone_from steering.Resume done words e in
    subst (λ (s : Steering). SpellsSteering (codes "resume") words s) h.1 (refl, h.0)

spelled_finish : (words : List (List ℕ)) (done : Steering) → alone steering.Finish words ≡ Some done → SpellsSteering (codes "finish") words done
spelled_finish words done e =
    let h = alone_from steering.Finish done words e in
    subst (λ (s : Steering). SpellsSteering (codes "finish") words s) h.1 (refl, h.0)

steering_of_read : (verb : List ℕ) (words : List (List ℕ)) (done : Steering) → steering_with verb words ≡ Some done → SpellsSteering verb words done
unfolding steering_with
steering_of_read verb words done e =
    let Means = λ (v : List ℕ) (s : Steering). SpellsSteering v words s in
    either Means verb (codes "rollout") _ _ done (spelled_begin words done)
    (either Means verb (codes "halt") _ _ done (spelled_halt words done)
    (either Means verb (codes "resume") _ _ done (spelled_resume words done)
    (either Means verb (codes "finish") _ _ done (spelled_finish words done) (λ h. absurd (cc))))) e

spelled_steer : (verb : List ℕ) (words : List (List ℕ)) (ordered : Order) → steer_of verb words ≡ Some ordered → SpellsOrder (verb ∷ words) ordered
unfolding SpellsOrder steer_of
spelled_steer verb [] ordered e = absurd (cc)
spelled_steer verb (id ∷ words) ordered e =
    let k = bound_from (λ name. option_map (λ done. order.Steer name done) (steering_with verb words)) (id_in id) ordered e in
    let h = mapped_from (λ done. order.Steer k.0 done) (steering_with verb words) ordered k.2 in
    let is = id_from id k.0 k.1 in
    subst (λ (o : Order). SpellsOrder (verb ∷ id ∷ words) o) h.2
    (verb, words, ap (λ w. verb ∷ w ∷ words) is.0, subst (λ w. is_id w ≡ true) is.0 is.1, steering_of_read verb words h.0 h.1)

-- ---- and agents that have left

left_from : (words : List (List ℕ)) → is_left words ≡ true → words ≡ codes "left" ∷ []
left_from [] is = absurd (cc)
left_from (word ∷ []) is = ap (λ w. w ∷ []) ((bytes_eq-Decides word (codes "left")).0 is)
left_from (word ∷ other ∷ words) is = absurd (cc)

spelled_left : (verb : List ℕ) (words : List (List ℕ)) → bytes_eq verb (codes "forget") && is_left words ≡ true → SpellsOrder (verb ∷ words) order.ForgetLeft
unfolding SpellsOrder
spelled_left verb words is =
    let both = and_parts (bytes_eq verb (codes "forget")) (is_left words) is in
    ap (λ v. v ∷ words) ((bytes_eq-Decides verb (codes "forget")).0 both.0) ∙ ap (λ ws. codes "forget" ∷ ws) (left_from words both.1)

spelled_change : (verb : List ℕ) (words : List (List ℕ)) (ordered : Order) → change_with verb words ≡ Some ordered → SpellsOrder (verb ∷ words) ordered
unfolding change_with
spelled_change verb words ordered e = by_verb (is_steering verb) (bytes_eq verb (codes "forget") && is_left words) refl e
  where
    by_verb : (steers left : Bool) → bytes_eq verb (codes "forget") && is_left words ≡ left
        → cond steers (steer_of verb words) (cond left (Some order.ForgetLeft) (act_of verb words)) ≡ Some ordered → SpellsOrder (verb ∷ words) ordered
    by_verb true left is some = spelled_steer verb words ordered some
    by_verb false true is some =
        let same : order.ForgetLeft ≡ ordered = cc in
        subst (λ (o : Order). SpellsOrder (verb ∷ words) o) same (spelled_left verb words is)
    by_verb false false is some = spelled_act verb words ordered some

pub spelled_of_read : (words : List (List ℕ)) (ordered : Order) → order_of words ≡ Some ordered → SpellsOrder words ordered
unfolding order_of order_with
spelled_of_read [] ordered e = absurd (cc)
spelled_of_read (verb ∷ words) ordered e =
    let Means = λ (v : List ℕ) (o : Order). SpellsOrder (v ∷ words) o in
    either Means verb (codes "list") _ _ ordered (spelled_list words ordered)
    (either Means verb (codes "show") _ _ ordered (spelled_show words ordered)
    (either Means verb (codes "waits") _ _ ordered (spelled_waits words ordered)
    (either Means verb (codes "rollouts") _ _ ordered (spelled_rollouts words ordered)
    (either Means verb (codes "members") _ _ ordered (spelled_members words ordered)
    (either Means verb (codes "ages") _ _ ordered (spelled_ages words ordered)
    (either Means verb (codes "count") _ _ ordered (spelled_count words ordered)
    (either Means verb (codes "stop") _ _ ordered (spelled_stop words ordered) (spelled_change verb words ordered)))))))) e

-- words spell at most one order
pub one_order : (words : List (List ℕ)) (ordered other : Order) → SpellsOrder words ordered → SpellsOrder words other → ordered ≡ other
one_order words ordered other a b =
    let x = read_of_spelled words ordered a in let y = read_of_spelled words other b in cc
