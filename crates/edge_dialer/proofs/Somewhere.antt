-- What was asked over some connection.
use Rattle.std.proofs.Common.{◌≡◌, ℕ, List, Option, Ok, Err, subst}
use Rattle.std.specs.Prelude.{IfOk, Result}
use Rattle.edge_devices.specs.declared.dialers.LinkFail.{LinkFail}
use Rattle.edge_dialer.specs.Answers.{AnswersSomewhere, ExchangesOver, FetchesOver, FetchesSomewhere}

-- by a request that is this text
pub answered-somewhere : {S : Type 0} {contents remaining : S → Option (List ℕ)} {old : S} {request text : List ℕ} {kept : Option S} (answer : Result (List ℕ) LinkFail)
    → ExchangesOver contents remaining old request answer kept → request ≡ text → IfOk answer (λ came. AnswersSomewhere contents remaining text came kept)
answered-somewhere {S} {contents} {remaining} {old} {request} {text} {kept} (Ok came) done is =
    (old, subst (λ (asked : List ℕ). ExchangesOver contents remaining old asked (Ok came) kept) is done)
answered-somewhere (Err fail) done is = tt

pub fetched-somewhere : {S : Type 0} (old new : S) (contents remaining : S → Option (List ℕ)) (request text : List ℕ) (result : Result (List ℕ) LinkFail)
    → IfOk result (FetchesOver contents remaining old new request) → request ≡ text → IfOk result (FetchesSomewhere contents remaining text)
fetched-somewhere old new contents remaining request text (Ok file) done is =
    (old, new, subst (λ (asked : List ℕ). FetchesOver contents remaining old new asked file) is done)
fetched-somewhere old new contents remaining request text (Err fail) done is = tt
