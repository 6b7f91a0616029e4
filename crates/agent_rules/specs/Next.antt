-- What bytes mean as a payload and as a change can be told of any list, and it is one thing.
use Rattle.std.proofs.Common.{◌≡◌, ℕ, suc, List, refl, ap, sym, subst, ◌∙◌, inl, inr}
use Rattle.message_codec.specs.Tables as tables
use Rattle.message_codec.specs.Tables.{rows_of}
use Rattle.message_codec.specs.Values.{Value, Content, Absent, Values, End, And}
use Rattle.message_codec.specs.Means.{Means}
use Rattle.message_codec.proofs.Laws.{one_meaning}
use Rattle.agent_rules.specs.Columns.{column_at}
use Rattle.agent_rules.specs.Payloads.{all_filled, MeansFields}
use Rattle.agent_rules.specs.Changes.{TakesColumn, TakesColumns, Changes}
use Rattle.agent_rules.specs.Deciding.{Decided, means_or}

-- ---- payloads

pub fields_or : (bytes : List ℕ) → Decided ((vs : Values) × MeansFields bytes vs)
fields_or bytes =
    elim (means_or 99 tables.SavedState bytes) [
      | inl m ↦ inl (all_filled (rows_of tables.SavedState) m.0, record { columns = m.0; means = m.1; filled = refl })
      | inr never ↦ inr (λ (f : (vs : Values) × MeansFields bytes vs). never (f.1.columns, f.1.means))
    ]

pub fields_one : (bytes : List ℕ) (vs ws : Values) → MeansFields bytes vs → MeansFields bytes ws → vs ≡ ws
fields_one bytes vs ws f g = f.filled ∙ ap (all_filled (rows_of tables.SavedState)) (one_meaning 100 tables.SavedState bytes f.columns g.columns f.means g.means) ∙ sym g.filled

-- ---- changes

column_or : (place : ℕ) (c v : Value) → Decided ((w : Value) × TakesColumn place c v w)
column_or place Absent v = inl (v, refl)
column_or place (Content bytes) v =
    elim (fields_or bytes) [
      | inl f ↦ inl (column_at place f.0, (f.0, f.1, refl))
      | inr never ↦ inr (λ (t : (w : Value) × TakesColumn place (Content bytes) v w). never (t.1.0, t.1.1))
    ]
column_or place _ v = inr (λ t. t.1)

takes_or : (place : ℕ) (cs vs : Values) → Decided ((ws : Values) × TakesColumns place cs vs ws)
takes_or place End End = inl (End, refl)
takes_or place End (And v vs) = inr (λ t. t.1)
takes_or place (And c cs) End = inr (λ t. t.1)
takes_or place (And c cs) (And v vs) =
    elim (column_or place c v) [
      | inl here ↦ elim (takes_or (suc place) cs vs) [
        | inl later ↦ inl (And here.0 later.0, (here.0, later.0, refl, here.1, later.1))
        | inr never ↦ inr (λ (t : (ws : Values) × TakesColumns place (And c cs) (And v vs) ws). never (t.1.1, t.1.4))
      ]
      | inr never ↦ inr (λ (t : (ws : Values) × TakesColumns place (And c cs) (And v vs) ws). never (t.1.0, t.1.3))
    ]

pub changes_or : (fields : List ℕ) (vs : Values) → Decided ((ws : Values) × Changes fields vs ws)
changes_or fields vs = by_columns (means_or 99 tables.SavedChange fields)
  where
    by_takes : (cs : Values) → Means 100 tables.SavedChange fields cs → Decided ((ws : Values) × TakesColumns 0 cs vs ws) → Decided ((ws : Values) × Changes fields vs ws)
    by_takes cs m (inl t) = inl (t.0, record { columns = cs; means = m; takes = t.1 })
    by_takes cs m (inr never) = inr (λ (h : (ws : Values) × Changes fields vs ws).
        never (h.0, subst (λ (xs : Values). TakesColumns 0 xs vs h.0) (one_meaning 100 tables.SavedChange fields h.1.columns cs h.1.means m) h.1.takes))

    by_columns : Decided ((cs : Values) × Means 100 tables.SavedChange fields cs) → Decided ((ws : Values) × Changes fields vs ws)
    by_columns (inl m) = by_takes m.0 m.1 (takes_or 0 m.0 vs)
    by_columns (inr never) = inr (λ (h : (ws : Values) × Changes fields vs ws). never (h.1.columns, h.1.means))

column_one : (place : ℕ) (c v w x : Value) → TakesColumn place c v w → TakesColumn place c v x → w ≡ x
column_one place Absent v w x t u = t ∙ sym u
column_one place (Content bytes) v w x t u = t.2 ∙ ap (column_at place) (fields_one bytes t.0 u.0 t.1 u.1) ∙ sym u.2
column_one place _ v w x t u = absurd t

takes_one : (place : ℕ) (cs vs ws xs : Values) → TakesColumns place cs vs ws → TakesColumns place cs vs xs → ws ≡ xs
takes_one place End End ws xs t u = t ∙ sym u
takes_one place End (And v vs) ws xs t u = absurd t
takes_one place (And c cs) End ws xs t u = absurd t
takes_one place (And c cs) (And v vs) ws xs t u =
    t.2 ∙ ap (λ (w : Value). And w t.1) (column_one place c v t.0 u.0 t.3 u.3) ∙ ap (And u.0) (takes_one (suc place) cs vs t.1 u.1 t.4 u.4) ∙ sym u.2

pub changes_one : (fields : List ℕ) (vs ws xs : Values) → Changes fields vs ws → Changes fields vs xs → ws ≡ xs
changes_one fields vs ws xs h k =
    takes_one 0 k.columns vs ws xs (subst (λ (cs : Values). TakesColumns 0 cs vs ws) (one_meaning 100 tables.SavedChange fields h.columns k.columns h.means k.means) h.takes) k.takes
