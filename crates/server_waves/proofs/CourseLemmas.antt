-- What holds at every place of a rollout's course.
use Rattle.std.proofs.Common.{◌≡◌, ℕ, ◌-◌, ◌≤◌, nat_lt, min, List, [], ◌∷◌, ◌++◌, length, take, drop, filter, Bool, true, false, not, cond, ◌||◌, ◌&&◌, refl, sym, ◌∙◌, ap, subst, append-nil, append_assoc, arith}
use Rattle.std.specs.List.{list_all}
use Rattle.std.specs.Str.{bytes_eq}
use Rattle.std.proofs.lemmas.List.Sums.{fold-append}
use Rattle.server_core.specs.declared.rows.Record.{Record}
use Rattle.server_core.specs.History.{is_among}
use Rattle.server_core.specs.Table.{Table, find_record}
use Rattle.server_waves.specs.Courses.{Step, Joins, Points, Halts, Resumes, Leaves, after_step, course, course_from, is_no_leave, is_no_resume, unsettled, OffersNoMore, StillWait}
use Rattle.server_waves.specs.Waves.{Terms, Waves, can_join, decided, has_joined, has_place, hash_of, is_decided, no_agents, offers_at, others, passes, room, settled, table_at, taken_out, without}
use Rattle.server_waves.proofs.Among.{among_append, left_out}
use Rattle.server_waves.proofs.WaveLemmas.{fewer, places_move, places_stay, width_holds}

-- ---- who is among fewer

pub fewer_left : (test : List ℕ → Bool) (uids : List (List ℕ)) → length (filter test uids) ≤ length uids
fewer_left test [] = omega arith
fewer_left test (u ∷ uids) = by_test (test u) (fewer_left test uids)
  where
    by_test : (b : Bool) → length (filter test uids) ≤ length uids → length (cond b (u ∷ filter test uids) (filter test uids)) ≤ length (u ∷ uids)
    by_test true less = omega (arith, less)
    by_test false less = omega (arith, less)

pub among_fewer : (test : List ℕ → Bool) (uids : List (List ℕ)) (uid : List ℕ) → is_among (filter test uids) uid ≡ true → is_among uids uid ≡ true
among_fewer test [] uid there = there
among_fewer test (u ∷ uids) uid there = by_test (test u) there (among_fewer test uids uid)
  where
    by_uid : (b : Bool) → (b || is_among (filter test uids) uid) ≡ true → (is_among (filter test uids) uid ≡ true → is_among uids uid ≡ true) → (b || is_among uids uid) ≡ true
    by_uid true h more = refl
    by_uid false h more = more h

    or_right : (b c : Bool) → c ≡ true → (b || c) ≡ true
    or_right true c h = refl
    or_right false c h = h

    by_test : (t : Bool) → is_among (cond t (u ∷ filter test uids) (filter test uids)) uid ≡ true → (is_among (filter test uids) uid ≡ true → is_among uids uid ≡ true) → (bytes_eq u uid || is_among uids uid) ≡ true
    by_test true h more = by_uid (bytes_eq u uid) h more
    by_test false h more = or_right (bytes_eq u uid) (is_among uids uid) (more h)

and_first : (a b : Bool) → (a && b) ≡ true → a ≡ true
and_first true b e = refl
and_first false b e = absurd (cc e)

and_second : (a b : Bool) → (a && b) ≡ true → b ≡ true
and_second true b e = e
and_second false b e = absurd (cc e)

module _ (fine : Record → Bool) (terms : Terms) where
  width_step : (waves : Waves) (step : Step) → unsettled waves ≤ terms.width → unsettled (after_step fine terms waves step) ≤ terms.width
  width_step waves Halts within = within
  width_step waves Resumes within = omega (arith, within)
  width_step waves (Leaves uid) within =
      let one : length (without uid waves.offered) ≤ length waves.offered = fewer_left (λ u. not (bytes_eq u uid)) waves.offered in
      let two : length (without uid waves.failed) ≤ length waves.failed = fewer_left (λ u. not (bytes_eq u uid)) waves.failed in
      omega (arith, one, two, within)
  width_step waves (Joins agent) within = by_test (can_join waves agent)
    where
      by_test : (b : Bool) → unsettled (cond b (record waves { members = waves.members ++ agent.uid ∷ []; waiting = waves.waiting ++ agent.uid ∷ [] }) waves) ≤ terms.width
      by_test true = within
      by_test false = within
  width_step waves (Points table most) within =
      let less : unsettled (settled fine (hash_of terms) table.records waves) ≤ unsettled waves = fewer fine (hash_of terms) table.records waves in
      let few : min most (offers_at fine terms table waves) ≤ offers_at fine terms table waves = omega arith in
      width_holds terms.width (min most (offers_at fine terms table waves)) (decided fine terms table waves) (omega (arith, less, within)) few

  width_from : (steps : List Step) (waves : Waves) → unsettled waves ≤ terms.width → unsettled (course_from fine terms waves steps) ≤ terms.width
  width_from [] waves within = within
  width_from (step ∷ steps) waves within = width_from steps (after_step fine terms waves step) (width_step waves step within)

  pub width_always : (steps : List Step) → unsettled (course fine terms steps) ≤ terms.width
  width_always steps = width_from steps no_agents (omega arith)

  or_true : (b c : Bool) → b ≡ true → (b || c) ≡ true
  or_true true c e = refl
  or_true false c e = absurd (cc e)

  none_where : (b : Bool) (n : ℕ) → b ≡ true → cond b 0 n ≡ 0
  none_where true n e = refl
  none_where false n e = absurd (cc e)

  pub halted_then : (table : Table) (waves : Waves) → waves.halted ≡ true → (decided fine terms table waves).halted ≡ true
  halted_then table waves halted = or_true waves.halted (nat_lt terms.allowed (length (settled fine (hash_of terms) table.records waves).failed)) halted

  no_room : (width : ℕ) (waves : Waves) → waves.halted ≡ true → room width waves ≡ 0
  no_room width waves halted = none_where waves.halted (width - length waves.offered - length waves.failed) halted

  pub no_offers_then : (table : Table) (waves : Waves) → waves.halted ≡ true → offers_at fine terms table waves ≡ 0
  no_offers_then table waves halted = no_room terms.width (decided fine terms table waves) (halted_then table waves halted)

  pub table_stays : (table : Table) (waves : Waves) → waves.halted ≡ true → table_at fine terms table waves (offers_at fine terms table waves) ≡ table
  table_stays table waves halted = ap (λ n. table_at fine terms table waves n) (no_offers_then table waves halted)

  halted_step : (waves : Waves) (step : Step) → is_no_resume step ≡ true → waves.halted ≡ true → (after_step fine terms waves step).halted ≡ true
  halted_step waves Halts none halted = refl
  halted_step waves Resumes none halted = absurd (cc none)
  halted_step waves (Leaves uid) none halted = halted
  halted_step waves (Joins agent) none halted = by_test (can_join waves agent)
    where
      by_test : (b : Bool) → (cond b (record waves { members = waves.members ++ agent.uid ∷ []; waiting = waves.waiting ++ agent.uid ∷ [] }) waves).halted ≡ true
      by_test true = halted
      by_test false = halted
  halted_step waves (Points table most) none halted = halted_then table waves halted

  no_more : (table : Table) (most : ℕ) (waves : Waves) → waves.halted ≡ true → min most (offers_at fine terms table waves) ≡ 0
  no_more table most waves halted =
      let none : offers_at fine terms table waves ≡ 0 = no_offers_then table waves halted in
      omega (arith, none)

  -- the offer is made to no further agent
  offered_step : (waves : Waves) (step : Step) → is_no_resume step ≡ true → waves.halted ≡ true → OffersNoMore waves (after_step fine terms waves step)
  offered_step waves Halts none halted = λ uid there. there
  offered_step waves Resumes none halted = absurd (cc none)
  offered_step waves (Leaves uid) none halted = λ u there. among_fewer (λ v. not (bytes_eq v uid)) waves.offered u there
  offered_step waves (Joins agent) none halted = by_test (can_join waves agent)
    where
      by_test : (b : Bool) → OffersNoMore waves (cond b (record waves { members = waves.members ++ agent.uid ∷ []; waiting = waves.waiting ++ agent.uid ∷ [] }) waves)
      by_test true = λ uid there. there
      by_test false = λ uid there. there
  offered_step waves (Points table most) none halted =
      let stay : List (List ℕ) = others (is_decided fine (hash_of terms)) table.records waves.offered in
      let same : (stay ++ take (min most (offers_at fine terms table waves)) waves.waiting) ≡ stay =
      ap (λ n. stay ++ take n waves.waiting) (no_more table most waves halted) ∙ append-nil stay in
      λ uid there.
      among_fewer (λ u. not (passes (is_decided fine (hash_of terms)) (find_record table.records u))) waves.offered uid
      (subst (λ (us : List (List ℕ)). is_among us uid ≡ true) same there)

  -- and those that wait still do
  waits_step : (waves : Waves) (step : Step) → is_no_resume step ≡ true → is_no_leave step ≡ true → waves.halted ≡ true → StillWait waves (after_step fine terms waves step)
  waits_step waves Halts none stay halted = ([], sym (append-nil waves.waiting))
  waits_step waves Resumes none stay halted = absurd (cc none)
  waits_step waves (Leaves uid) none stay halted = absurd (cc stay)
  waits_step waves (Joins agent) none stay halted = by_test (can_join waves agent)
    where
      by_test : (b : Bool) → StillWait waves (cond b (record waves { members = waves.members ++ agent.uid ∷ []; waiting = waves.waiting ++ agent.uid ∷ [] }) waves)
      by_test true = (agent.uid ∷ [], refl)
      by_test false = ([], sym (append-nil waves.waiting))
  waits_step waves (Points table most) none stay halted =
      ([], ap (λ n. drop n waves.waiting) (no_more table most waves halted) ∙ sym (append-nil waves.waiting))

  waits_trans : (a b c : Waves) → StillWait a b → StillWait b c → StillWait a c
  waits_trans a b c p q = (p.0 ++ q.0, q.1 ∙ ap (λ us. us ++ q.0) p.1 ∙ append_assoc a.waiting p.0 q.0)

  halted_from : (steps : List Step) (waves : Waves) → list_all is_no_resume steps ≡ true → waves.halted ≡ true → (course_from fine terms waves steps).halted ≡ true
  halted_from [] waves none halted = halted
  halted_from (step ∷ steps) waves none halted =
      halted_from steps (after_step fine terms waves step) (and_second (is_no_resume step) (list_all is_no_resume steps) none)
      (halted_step waves step (and_first (is_no_resume step) (list_all is_no_resume steps) none) halted)

  offered_from : (steps : List Step) (waves : Waves) → list_all is_no_resume steps ≡ true → waves.halted ≡ true → OffersNoMore waves (course_from fine terms waves steps)
  offered_from [] waves none halted = λ uid there. there
  offered_from (step ∷ steps) waves none halted =
      let one = and_first (is_no_resume step) (list_all is_no_resume steps) none in
      λ uid there.
      offered_step waves step one halted uid
      (offered_from steps (after_step fine terms waves step) (and_second (is_no_resume step) (list_all is_no_resume steps) none) (halted_step waves step one halted) uid there)

  waits_from : (steps : List Step) (waves : Waves) → list_all is_no_resume steps ≡ true → list_all is_no_leave steps ≡ true → waves.halted ≡ true → StillWait waves (course_from fine terms waves steps)
  waits_from [] waves none stay halted = ([], sym (append-nil waves.waiting))
  waits_from (step ∷ steps) waves none stay halted =
      let one = and_first (is_no_resume step) (list_all is_no_resume steps) none in
      waits_trans waves (after_step fine terms waves step) (course_from fine terms (after_step fine terms waves step) steps)
      (waits_step waves step one (and_first (is_no_leave step) (list_all is_no_leave steps) stay) halted)
      (waits_from steps (after_step fine terms waves step) (and_second (is_no_resume step) (list_all is_no_resume steps) none) (and_second (is_no_leave step) (list_all is_no_leave steps) stay)
      (halted_step waves step one halted))

  goes_on : (steps more : List Step) → course fine terms (steps ++ more) ≡ course_from fine terms (course fine terms steps) more
  goes_on steps more = fold-append (after_step fine terms) no_agents steps more

  pub halted_always : (steps more : List Step) → (course fine terms steps).halted ≡ true → list_all is_no_resume more ≡ true → (course fine terms (steps ++ more)).halted ≡ true
  halted_always steps more halted none = ap (λ w. w.halted) (goes_on steps more) ∙ halted_from more (course fine terms steps) none halted

  pub offered_always : (steps more : List Step) → (course fine terms steps).halted ≡ true → list_all is_no_resume more ≡ true → OffersNoMore (course fine terms steps) (course fine terms (steps ++ more))
  offered_always steps more halted none =
      subst (λ (w : Waves). OffersNoMore (course fine terms steps) w) (sym (goes_on steps more)) (offered_from more (course fine terms steps) none halted)

  pub wait_always : (steps more : List Step) → (course fine terms steps).halted ≡ true → list_all is_no_resume more ≡ true → list_all is_no_leave more ≡ true
      → StillWait (course fine terms steps) (course fine terms (steps ++ more))
  wait_always steps more halted none stay =
      subst (λ (w : Waves). StillWait (course fine terms steps) w) (sym (goes_on steps more)) (waits_from more (course fine terms steps) none stay halted)

  -- ---- each agent that joined is in one of the lists

  shuffle : (w r own : Bool) → ((w || (own || false)) || r) ≡ ((w || r) || (own || false))
  shuffle true r own = refl
  shuffle false true true = refl
  shuffle false true false = refl
  shuffle false false true = refl
  shuffle false false false = refl

  excuse : (w o a f e : Bool) → (w || (o || (a || (false || (e || f))))) ≡ (w || (o || (a || (f || e))))
  excuse true o a f e = refl
  excuse false true a f e = refl
  excuse false false true f e = refl
  excuse false false false true true = refl
  excuse false false false true false = refl
  excuse false false false false true = refl
  excuse false false false false false = refl

  shared : (a b n : Bool) → ((a && n) || (b && n)) ≡ ((a || b) && n)
  shared true true true = refl
  shared true false true = refl
  shared true true false = refl
  shared true false false = refl
  shared false b n = refl

  shared_all : (w o a f e n : Bool) → ((w && n) || ((o && n) || ((a && n) || ((f && n) || (e && n))))) ≡ ((w || (o || (a || (f || e)))) && n)
  shared_all w o a f e n =
      ap (λ b. (w && n) || ((o && n) || ((a && n) || b))) (shared f e n)
      ∙ ap (λ b. (w && n) || ((o && n) || b)) (shared a (f || e) n)
      ∙ ap (λ b. (w && n) || b) (shared o (a || (f || e)) n)
      ∙ shared w (o || (a || (f || e))) n

  out_of_all : (uid : List ℕ) (waves : Waves) (u : List ℕ) → has_place (taken_out uid waves) u ≡ (has_place waves u && not (bytes_eq u uid))
  out_of_all uid waves u =
      ap (λ b. b || (is_among (without uid waves.offered) u || (is_among (without uid waves.applied) u || (is_among (without uid waves.failed) u || is_among (without uid waves.excused) u)))) (left_out uid waves.waiting u)
      ∙ ap (λ b. (is_among waves.waiting u && not (bytes_eq u uid)) || (b || (is_among (without uid waves.applied) u || (is_among (without uid waves.failed) u || is_among (without uid waves.excused) u)))) (left_out uid waves.offered u)
      ∙ ap (λ b. (is_among waves.waiting u && not (bytes_eq u uid)) || ((is_among waves.offered u && not (bytes_eq u uid)) || (b || (is_among (without uid waves.failed) u || is_among (without uid waves.excused) u)))) (left_out uid waves.applied u)
      ∙ ap (λ b. (is_among waves.waiting u && not (bytes_eq u uid)) || ((is_among waves.offered u && not (bytes_eq u uid)) || ((is_among waves.applied u && not (bytes_eq u uid)) || (b || is_among (without uid waves.excused) u)))) (left_out uid waves.failed u)
      ∙ ap (λ b. (is_among waves.waiting u && not (bytes_eq u uid)) || ((is_among waves.offered u && not (bytes_eq u uid)) || ((is_among waves.applied u && not (bytes_eq u uid)) || ((is_among waves.failed u && not (bytes_eq u uid)) || b)))) (left_out uid waves.excused u)
      ∙ shared_all (is_among waves.waiting u) (is_among waves.offered u) (is_among waves.applied u) (is_among waves.failed u) (is_among waves.excused u) (not (bytes_eq u uid))

  places_step : (waves : Waves) (step : Step) (uid : List ℕ) → has_place waves uid ≡ has_joined waves uid → has_place (after_step fine terms waves step) uid ≡ has_joined (after_step fine terms waves step) uid
  places_step waves Halts uid same = same
  places_step waves Resumes uid same =
      ap (λ b. is_among waves.waiting uid || (is_among waves.offered uid || (is_among waves.applied uid || (false || b)))) (among_append waves.excused waves.failed uid)
      ∙ excuse (is_among waves.waiting uid) (is_among waves.offered uid) (is_among waves.applied uid) (is_among waves.failed uid) (is_among waves.excused uid) ∙ same
  places_step waves (Leaves left) uid same = out_of_all left waves uid ∙ ap (λ b. b && not (bytes_eq uid left)) same ∙ sym (left_out left waves.members uid)
  places_step waves (Joins agent) uid same = by_test (can_join waves agent)
    where
      rest : Bool
      rest = is_among waves.offered uid || (is_among waves.applied uid || (is_among waves.failed uid || is_among waves.excused uid))

      by_test : (b : Bool) → has_place (cond b (record waves { members = waves.members ++ agent.uid ∷ []; waiting = waves.waiting ++ agent.uid ∷ [] }) waves) uid
          ≡ has_joined (cond b (record waves { members = waves.members ++ agent.uid ∷ []; waiting = waves.waiting ++ agent.uid ∷ [] }) waves) uid
      by_test true =
          ap (λ b. b || rest) (among_append waves.waiting (agent.uid ∷ []) uid) ∙ shuffle (is_among waves.waiting uid) rest (bytes_eq agent.uid uid)
          ∙ ap (λ b. b || (bytes_eq agent.uid uid || false)) same ∙ sym (among_append waves.members (agent.uid ∷ []) uid)
      by_test false = same
  places_step waves (Points table most) uid same =
      places_move (min most (offers_at fine terms table waves)) (decided fine terms table waves) uid ∙ places_stay fine (hash_of terms) table.records waves uid ∙ same

  places_from : (steps : List Step) (waves : Waves) (uid : List ℕ) → has_place waves uid ≡ has_joined waves uid → has_place (course_from fine terms waves steps) uid ≡ has_joined (course_from fine terms waves steps) uid
  places_from [] waves uid same = same
  places_from (step ∷ steps) waves uid same = places_from steps (after_step fine terms waves step) uid (places_step waves step uid same)

  pub places_always : (steps : List Step) (uid : List ℕ) → has_place (course fine terms steps) uid ≡ has_joined (course fine terms steps) uid
  places_always steps uid = places_from steps no_agents uid refl
