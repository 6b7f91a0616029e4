-- A desk's work, with one report more.
use Rattle.std.proofs.Common.{◌≡◌, ◌≢◌, ℕ, ◌+◌, ◌%◌, ◌<◌, ◌==◌, List, [], ◌∷◌, ◌++◌, length, get_or, take, Bool, true, false, cond, refl, sym, ◌∙◌, ap, arith}
use Rattle.std.proofs.lemmas.Bool.{eq-eqb, ne_eqb}
use Rattle.std.proofs.lemmas.List.{append_assoc, length-take-le, map-append}
use Rattle.message_values.specs.declared.reply.ServerToAgent.{ServerToAgent}
use Rattle.message_values.specs.declared.report.AgentToServer.{AgentToServer}
use Rattle.shard_servers.specs.declared.desks.Told.{Told}
use Rattle.shard_servers.specs.Desks.{AtDesk, IsToldNext}
use Rattle.shard_servers.specs.Work.{HasWorked, work_of}
use Rattle.shard_servers.proofs.Lists.{take_one_more}
use Rattle.shard_servers.proofs.WorkLemmas.{share-push}

append_nothing : {X : Type 0} (xs : List X) → xs ++ [] ≡ xs
append_nothing [] = refl
append_nothing (x ∷ xs) = ap (λ ys. x ∷ ys) (append_nothing xs)

module _ (items : List AgentToServer) (at : ℕ) (m : AgentToServer) (desks : ℕ) (before d : AtDesk) (within : at < length items) (here : m ≡ get_or items at m)
    (is : HasWorked (take at items) desks before d) where
  len : 0 + length (take at items) ≡ at
  len = let l = length-take-le at items (omega (arith, within)) in omega (arith, l)

  -- the share of the reports up to this one
  next : (b : Bool) → (at % desks == before.number) ≡ b → work_of before.number desks (take (at + 1) items) ≡ work_of before.number desks (take at items) ++ cond b ((at, m) ∷ []) []
  next b e =
      ap (work_of before.number desks) (take_one_more items at m within here)
      ∙ share-push before.number desks (take at items) 0 m
      ∙ ap (λ n. work_of before.number desks (take at items) ++ cond (n % desks == before.number) ((n, m) ∷ []) []) len
      ∙ ap (λ c. work_of before.number desks (take at items) ++ cond c ((at, m) ∷ []) []) e

  pub passes : at % desks ≢ before.number → HasWorked (take (at + 1) items) desks before d
  passes other = record {
    number = is.number;
    parts = is.parts;
    more = is.more;
    told = is.told;
    work = is.work ∙ sym (next false (ne_eqb (at % desks) before.number other) ∙ append_nothing (work_of before.number desks (take at items)));
  }

  pub goes_on_with : (after : AtDesk) (reply : ServerToAgent) → at % desks ≡ before.number → IsToldNext d after at m reply → HasWorked (take (at + 1) items) desks before after
  goes_on_with after reply own next_told =
      let t = next_told.told in
      let row_is = next_told.answer.is in
      let handled_is : (t.row.item, t.row.report) ≡ (at, m) = ap (λ r. (r.item, r.report)) row_is in
      record {
        number = ap (λ (x : AtDesk). x.number) next_told.grows ∙ is.number;
        parts = ap (λ (x : AtDesk). x.parts) next_told.grows ∙ is.parts;
        more = is.more ++ t ∷ [];
        told = ap (λ (x : AtDesk). x.told) next_told.grows ∙ ap (λ ts. ts ++ t ∷ []) is.told ∙ append_assoc before.told is.more (t ∷ []);
        work =
            map-append (λ (x : Told). (x.row.item, x.row.report)) is.more (t ∷ [])
            ∙ (λ i. is.work i ++ handled_is i ∷ [])
            ∙ sym (next true (eq-eqb (at % desks) before.number own));
      }
