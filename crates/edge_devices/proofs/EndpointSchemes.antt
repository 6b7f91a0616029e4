-- Endpoints by their schemes.
use Rattle.std.proofs.Common.{◌≡◌, ℕ, List, Bool, true, false, cond, drop, sym, ◌∙◌, ap, subst}
use Rattle.std.specs.Prelude.{◌||◌, ◌&&◌, Result, IfOk}
use Rattle.edge_devices.specs.Endpoints.{is_ws, is_http, after_scheme, is_authority, is_endpoint, endpoint_with, endpoint_of}
use Rattle.edge_devices.specs.declared.endpoints.Endpoint.{Endpoint}

pub by_ws : (text : List ℕ) (rest : List ℕ) (ws r : Bool) → ws ≡ is_ws text → ws ≡ true → rest ≡ drop 5 text → r ≡ is_authority rest → r ≡ is_endpoint text
unfolding after_scheme
by_ws text rest ws r is e after so =
    so ∙ ap is_authority after ∙ sym (ap (λ b. (b || is_http text) && is_authority (cond b (drop 5 text) (drop 7 text))) (sym is ∙ e))

pub by_http : (text : List ℕ) (rest : List ℕ) (ws http r : Bool) → ws ≡ is_ws text → ws ≡ false → http ≡ is_http text → http ≡ true → rest ≡ drop 7 text
    → r ≡ is_authority rest → r ≡ is_endpoint text
unfolding after_scheme
by_http text rest ws http r is e h f after so =
    so ∙ ap is_authority after ∙ sym (ap (λ b. b && is_authority (drop 7 text)) (sym h ∙ f))
    ∙ sym (ap (λ b. (b || is_http text) && is_authority (cond b (drop 5 text) (drop 7 text))) (sym is ∙ e))

pub by_none : (text : List ℕ) (ws http : Bool) → ws ≡ is_ws text → ws ≡ false → http ≡ is_http text → http ≡ false → false ≡ is_endpoint text
unfolding after_scheme
by_none text ws http is e h f =
    sym (ap (λ b. b && is_authority (drop 7 text)) (sym h ∙ f))
    ∙ sym (ap (λ b. (b || is_http text) && is_authority (cond b (drop 5 text) (drop 7 text))) (sym is ∙ e))

module _ {E : Type 0} (text rest : List ℕ) (ws : Bool) (is : ws ≡ is_ws text) (result : Result Endpoint E) where
  pub reads_ws : ws ≡ true → rest ≡ drop 5 text → IfOk result (λ endpoint. endpoint ≡ endpoint_with true rest) → IfOk result (λ endpoint. endpoint ≡ endpoint_of text)
  unfolding after_scheme
  reads_ws e after so =
      subst (λ wanted. IfOk result (λ endpoint. endpoint ≡ wanted))
      (ap (endpoint_with true) after ∙ sym (ap (λ b. endpoint_with b (cond b (drop 5 text) (drop 7 text))) (sym is ∙ e))) so

  pub reads_http : ws ≡ false → rest ≡ drop 7 text → IfOk result (λ endpoint. endpoint ≡ endpoint_with false rest) → IfOk result (λ endpoint. endpoint ≡ endpoint_of text)
  unfolding after_scheme
  reads_http e after so =
      subst (λ wanted. IfOk result (λ endpoint. endpoint ≡ wanted))
      (ap (endpoint_with false) after ∙ sym (ap (λ b. endpoint_with b (cond b (drop 5 text) (drop 7 text))) (sym is ∙ e))) so
