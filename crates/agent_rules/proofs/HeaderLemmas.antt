-- A header by the name of the agent's identifier can't be offered.
use Rattle.std.proofs.Common.{◌≡◌, Bool, true, false, refl}
use Rattle.std.proofs.lemmas.Bool.{false≢true}
use Rattle.std.specs.Prelude.{codes, not, ◌&&◌, ◌||◌}
use Rattle.std.specs.List.{list_all}
use Rattle.plain_values.specs.declared.headers.Header.{Header}
use Rattle.http_header.specs.Token.{is_value_byte}
use Rattle.agent_rules.specs.Offers.{is_header_name, is_offered_header, is_own_name, same_name}

last_of : (a b c d e f : Bool) → f ≡ true → (a || (b || (c || (d || (e || f))))) ≡ true
last_of true b c d e f is = refl
last_of false true c d e f is = refl
last_of false false true d e f is = refl
last_of false false false true e f is = refl
last_of false false false false true f is = refl
last_of false false false false false f is = is

not_own : (named own value : Bool) → own ≡ true → (named && (not own && value)) ≡ false
not_own true true value is = refl
not_own false own value is = refl
not_own true false value is = absurd (false≢true is)

pub own_refused : (header : Header) → same_name header.key (codes "OpAMP-Instance-UID") ≡ true → is_offered_header header ≡ false
unfolding is_offered_header is_own_name
own_refused header is =
    not_own (is_header_name header.key) (is_own_name header.key) (list_all is_value_byte header.value)
    (last_of (same_name header.key (codes "host")) (same_name header.key (codes "connection")) (same_name header.key (codes "content-length"))
    (same_name header.key (codes "content-type")) (same_name header.key (codes "transfer-encoding")) (same_name header.key (codes "opamp-instance-uid")) is)
