use Rattle.std.proofs.Common.{◌≡◌, ℕ, Bool, true, false, List, [], ◌∷◌, ap, sym, ◌∙◌, subst, if◌then◌else◌, codes, refl}
use Rattle.std.specs.Str.Parse.{digits_value}
use Rattle.edge_heads.specs.declared.values.BodyForm.TheVariants.{Sized, Chunked, Wrong}
use Rattle.edge_heads.specs.declared.rules.Lone.{Lone}
use Rattle.edge_heads.specs.Headers.{Header, values, form_by, is_length, is_chunked, body_form}
use Rattle.edge_heads.specs.Rules.{headers_at, IsLone}
use Rattle.edge_heads.proofs.rules.body_form.Goals as goal

lone_is : (bytes : List ℕ) (found : List (List ℕ)) (a b : Lone) → a ≡ b → IsLone bytes found a → IsLone bytes found b
lone_is bytes found a b e x = subst (λ (l : Lone). IsLone bytes found l) e x

many_first : (x y : List ℕ) (more b : List (List ℕ)) → form_by (x ∷ y ∷ more) b ≡ Wrong
many_first x y more [] = refl
many_first x y more (c ∷ []) = refl
many_first x y more (c ∷ d ∷ b) = refl

many_second : (a : List (List ℕ)) (x y : List ℕ) (more : List (List ℕ)) → form_by a (x ∷ y ∷ more) ≡ Wrong
many_second [] x y more = refl
many_second (n ∷ []) x y more = refl
many_second (n ∷ m ∷ a) x y more = refl

sized : (v w : List ℕ) (n : ℕ) → v ≡ w → (is_length v ≡ true) × (n ≡ digits_value 10 v) → Sized n ≡ form_by (w ∷ []) []
sized v w n e x = ap Sized x.1 ∙ sym (ap (λ (t : Bool). if t then Sized (digits_value 10 v) else Wrong) x.0) ∙ ap (λ (u : List ℕ). form_by (u ∷ []) []) e

unsized : (v w : List ℕ) → v ≡ w → is_length v ≡ false → Wrong ≡ form_by (w ∷ []) []
unsized v w e x = sym (ap (λ (t : Bool). if t then Sized (digits_value 10 v) else Wrong) x) ∙ ap (λ (u : List ℕ). form_by (u ∷ []) []) e

in_chunks : (v w : List ℕ) → v ≡ w → true ≡ is_chunked v → Chunked ≡ form_by [] (w ∷ [])
in_chunks v w e x = ap (λ (t : Bool). if t then Chunked else Wrong) x ∙ ap (λ (u : List ℕ). form_by [] (u ∷ [])) e

no_chunks : (v w : List ℕ) → v ≡ w → false ≡ is_chunked v → Wrong ≡ form_by [] (w ∷ [])
no_chunks v w e x = ap (λ (t : Bool). if t then Chunked else Wrong) x ∙ ap (λ (u : List ℕ). form_by [] (u ∷ [])) e

abbrev sizes : List ℕ → List Header → List (List ℕ)
sizes name headers = values name headers

pub returns-in-Nowhere-Nowhere : goal.returns-in-Nowhere-Nowhere
unfolding body_form
returns-in-Nowhere-Nowhere c =
    let a = lone_is c.args.bytes.now _ _ _ c.in-Nowhere-Nowhere.is-0 c.find_lone-size.ensures in
    let b = lone_is c.args.bytes.now _ _ _ c.in-Nowhere-Nowhere.is-1 c.find_lone-coding.ensures in
    sym (λ i. form_by (a i) (b i))

pub returns-then-is_chunked : goal.returns-then-is_chunked
unfolding body_form
returns-then-is_chunked c =
    let a = lone_is c.args.bytes.now _ _ _ c.in-Nowhere-Once.is-0 c.find_lone-size.ensures in
    let b = lone_is c.args.bytes.now _ _ _ c.in-Nowhere-Once.is-1 c.find_lone-coding.ensures in
    in_chunks _ _ c.of.ensures (sym c.if-is_chunked.true ∙ c.is_chunked.ensures) ∙ sym (λ i. form_by (a i) (b.0 i))

pub returns-else-is_chunked : goal.returns-else-is_chunked
unfolding body_form
returns-else-is_chunked c =
    let a = lone_is c.args.bytes.now _ _ _ c.in-Nowhere-Once.is-0 c.find_lone-size.ensures in
    let b = lone_is c.args.bytes.now _ _ _ c.in-Nowhere-Once.is-1 c.find_lone-coding.ensures in
    no_chunks _ _ c.of.ensures (sym c.if-is_chunked.false ∙ c.is_chunked.ensures) ∙ sym (λ i. form_by (a i) (b.0 i))

pub returns-in-Some : goal.returns-in-Some
unfolding body_form
returns-in-Some c =
    let a = lone_is c.args.bytes.now _ _ _ c.in-Once-Nowhere.is-0 c.find_lone-size.ensures in
    let b = lone_is c.args.bytes.now _ _ _ c.in-Once-Nowhere.is-1 c.find_lone-coding.ensures in
    sized _ _ c.in-Some.number c.of-in-Once-Nowhere.ensures c.in-Some.ensures ∙ sym (λ i. form_by (a.0 i) (b i))

pub returns-in-None : goal.returns-in-None
unfolding body_form
returns-in-None c =
    let a = lone_is c.args.bytes.now _ _ _ c.in-Once-Nowhere.is-0 c.find_lone-size.ensures in
    let b = lone_is c.args.bytes.now _ _ _ c.in-Once-Nowhere.is-1 c.find_lone-coding.ensures in
    unsized _ _ c.of-in-Once-Nowhere.ensures c.in-None.ensures ∙ sym (λ i. form_by (a.0 i) (b i))

pub returns-in-Once-Once : goal.returns-in-Once-Once
unfolding body_form
returns-in-Once-Once c =
    let a = lone_is c.args.bytes.now _ _ _ c.in-Once-Once.is-0 c.find_lone-size.ensures in
    let b = lone_is c.args.bytes.now _ _ _ c.in-Once-Once.is-1 c.find_lone-coding.ensures in
    sym (λ i. form_by (a.0 i) (b.0 i))

pub returns-in-Several-default : goal.returns-in-Several-default
unfolding body_form
returns-in-Several-default c =
    let coding = values (codes "transfer-encoding") (headers_at c.args.bytes.now c.args.headers.now) in
    let a = lone_is c.args.bytes.now _ _ _ c.in-Several-default.is-0 c.find_lone-size.ensures in
    sym (many_first a.0 a.1 a.2 coding) ∙ sym (λ i. form_by (a.3 i) coding)

pub returns-in_default-Several : goal.returns-in_default-Several
unfolding body_form
returns-in_default-Several c =
    let size = values (codes "content-length") (headers_at c.args.bytes.now c.args.headers.now) in
    let b = lone_is c.args.bytes.now _ _ _ c.in_default-Several.is-1 c.find_lone-coding.ensures in
    sym (many_second size b.0 b.1 b.2) ∙ sym (λ i. form_by size (b.3 i))

pub returns-in_default-Several-2 : goal.returns-in_default-Several-2
unfolding body_form
returns-in_default-Several-2 c =
    let size = values (codes "content-length") (headers_at c.args.bytes.now c.args.headers.now) in
    let b = lone_is c.args.bytes.now _ _ _ c.in_default-Several.is-1 c.find_lone-coding.ensures in
    sym (many_second size b.0 b.1 b.2) ∙ sym (λ i. form_by size (b.3 i))
