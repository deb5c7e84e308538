-- Joins and sequences keep the key that their tests tie.
use Rattle.std.proofs.Common.{◌≡◌, ℕ, inl, inr, List, [], ◌∷◌, ◌++◌, Bool, true, false, cond, ◌&&◌, refl, ap, sym, ◌∙◌}
use Rattle.std.specs.Prelude.{nat_lt, min, max}
use Rattle.std.specs.List.{slice_get}
use Rattle.std.proofs.lemmas.List.{append-nil}
use Rattle.cedr_base.specs.declared.field.Field.{Field}
use Rattle.cedr_base.specs.declared.row.Row.{Row}
use Rattle.change_laws.specs.Times.{later}
use Rattle.cedr_expr.specs.declared.test.Test.{Test}
use Rattle.cedr_expr.specs.Columns.{column}
use Rattle.cedr_expr.specs.Tests.{passes}
use Rattle.op_join.specs.Joins.{meet, joined_rows, join_of}
use Rattle.pat_state.specs.Ascending.{ascends, payloads_joined, choice_row, sequence}
use Rattle.pat_seq.specs.Sequences.{sequence_of}
use Rattle.plan_keys.specs.Keys.{KeyedPort, IsAnsweredByKey, IsTiedJoin}
use Rattle.plan_keys.proofs.Parts.{HaveKey}
use Rattle.plan_keys.proofs.Ties.{RowsFit, tied_rows}
use Rattle.plan_keys.proofs.Chosen.{IsOfOneKey, chosen_keyed}

met_key : (c : ℕ) (payload : List Field) (begin end : ℕ) (b : Bool) → HaveKey c (slice_get payload c) (cond b (record { end = end; begin = begin; payload = payload } ∷ []) [])
met_key c payload begin end true = (refl, tt)
met_key c payload begin end false = tt

both_payloads : (a b : List Field) (k : ℕ) → column a b k ≡ slice_get ((a ++ (b ++ [])) ++ []) k
both_payloads a b k = ap (λ (xs : List Field). slice_get xs k) (ap (λ (ys : List Field). a ++ ys) (sym (append-nil b)) ∙ sym (append-nil (a ++ (b ++ []))))

module _ (tests : List Test) (ports : List KeyedPort) (c : ℕ) (tied : IsTiedJoin tests ports c) where
  met_one : (a b : Row) (ok : Bool) → passes tests a.payload b.payload ≡ ok → RowsFit ports (a ∷ b ∷ []) → IsOfOneKey ports c (a ∷ b ∷ []) (meet ok (a.payload ++ b.payload) (max a.begin b.begin) (min a.end b.end))
  met_one a b false fails fit = inl refl
  met_one a b true pass fit = inr (
    column a.payload b.payload c,
    tied_rows tests ports c (a ∷ b ∷ []) a.payload b.payload tied fit (both_payloads a.payload b.payload) pass,
    met_key c (a.payload ++ b.payload) (max a.begin b.begin) (min a.end b.end) (nat_lt (max a.begin b.begin) (min a.end b.end)),
  )

  join_one : (rs : List Row) → RowsFit ports rs → IsOfOneKey ports c rs (joined_rows (passes tests) rs)
  join_one [] fit = inl refl
  join_one (a ∷ []) fit = inl refl
  join_one (a ∷ b ∷ []) fit = met_one a b (passes tests a.payload b.payload) refl fit
  join_one (a ∷ b ∷ d ∷ rs) fit = inl refl

  -- a join whose tests tie the key columns of its ports
  pub join_keyed : IsAnsweredByKey (join_of tests) ports c
  join_keyed = chosen_keyed (joined_rows (passes tests)) ports c join_one

  sequence_at : (scope : ℕ) (e : Row) (es : List Row) (a b : Bool) → passes tests (payloads_joined (e ∷ es)) [] ≡ b → RowsFit ports (e ∷ es) → IsOfOneKey ports c (e ∷ es) (cond (a && b) (choice_row scope e es ∷ []) [])
  sequence_at scope e es false b is fit = inl refl
  sequence_at scope e es true false is fit = inl refl
  sequence_at scope e es true true is fit =
      let all = payloads_joined (e ∷ es) in
      inr (column all [] c, tied_rows tests ports c (e ∷ es) all [] tied fit (λ k. refl) is, (ap (λ (xs : List Field). slice_get xs c) (sym (append-nil all)), tt))

  -- the rows of a choice in a sequence have one key
  pub sequence_one : (scope : ℕ) (rs : List Row) → RowsFit ports rs → IsOfOneKey ports c rs (sequence scope tests rs)
  sequence_one scope [] fit = inl refl
  sequence_one scope (e ∷ es) fit = sequence_at scope e es (ascends e.begin (later e.begin scope) es) (passes tests (payloads_joined (e ∷ es)) []) refl fit

  -- a sequence whose tests tie the key columns of its ports
  pub sequence_keyed : (count scope : ℕ) → IsAnsweredByKey (sequence_of count scope tests) ports c
  sequence_keyed count scope = chosen_keyed (sequence scope tests) ports c (sequence_one scope)
