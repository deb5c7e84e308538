-- What a change does to the row of a pair.
use Rattle.std.proofs.Common.{◌≡◌, ℕ, ◌+◌, ◌<◌, ◌≤◌, List, [], ◌∷◌, ◌++◌, Bool, true, false, cond, ◌&&◌, refl, ap, ◌∙◌, arith, min, max}
use Rattle.std.specs.Prelude.{nat_lt, sum_by, map}
use Rattle.std.specs.List.{flat_map}
use Rattle.std.proofs.lemmas.Bool.{ltb-true}
use Rattle.cedr_base.specs.declared.field.Field.{Field}
use Rattle.cedr_base.specs.declared.row.Row.{Row}
use Rattle.cedr_base.specs.declared.change.Change.{Change}
use Rattle.cedr_base.specs.declared.change.Change.TheVariants.{Add, Cut}
use Rattle.cedr_base.specs.Rows.{IsRow, count_of, one_if_same, same_row}
use Rattle.cedr_base.specs.Changes.{sync_of, IsChange, puts, takes, all_puts, all_takes, changed_row}
use Rattle.change_laws.specs.Repairs.{AllFrom}
use Rattle.cedr_base.proofs.Bags.{same_row_exact}
use Rattle.change_laws.proofs.Moves.{count_one, sum_one}
use Rattle.change_laws.proofs.RepairLemmas.{AllChanges, takes_adds, puts_adds}
use Rattle.cedr_expr.specs.declared.side.Side.{Side}
use Rattle.op_join.specs.Joins.{PairTest}
use Rattle.op_join.specs.Pairs.{passes_on, both_on, met, cut_to, pair_changes}
use Rattle.op_join.proofs.CutLemmas.{weighed}

-- a row is no copy of one that ends elsewhere
other_end : (r x : Row) (b : Bool) → same_row r x ≡ b → (r.end ≡ x.end → ⊥) → cond {A = ℕ} b 1 0 ≡ 0
other_end r x true h apart = absurd (apart (ap (λ (y : Row). y.end) (same_row_exact r x h)))
other_end r x false h apart = refl

-- the copies of a row in what a pair has, and in what a cut takes and puts in there
module _ (r : Row) (w : List Field) (s e t : ℕ) where
  abbrev f : ℕ → ℕ
  f n = one_if_same r (record { begin = s; end = n; payload = w })

  count_meet : (q b : Bool) → count_of r (cond (q && b) (record { begin = s; end = t; payload = w } ∷ []) []) ≡ cond q (cond b (f t) 0) 0
  count_meet true b = count_one r _ b
  count_meet false b = refl

  takes_cut : (b : Bool) → count_of r (all_takes (cond b (Cut (record { begin = s; end = t; payload = w }) (max e s) ∷ []) [] ++ [])) ≡ cond b (f t) 0
  takes_cut true = omega arith
  takes_cut false = refl

  takes_meet : (q b : Bool) → count_of r (all_takes (flat_map (cut_to e) (cond (q && b) (record { begin = s; end = t; payload = w } ∷ []) []))) ≡ cond q (cond b (cond (nat_lt e t) (f t) 0) 0) 0
  takes_meet true true = takes_cut (nat_lt e t)
  takes_meet true false = refl
  takes_meet false b = refl

  one_and_none : (x : Row) (b : Bool) → count_of r (cond b (x ∷ []) [] ++ []) ≡ cond b (one_if_same r x) 0
  one_and_none x true = omega arith
  one_and_none x false = refl

  puts_cut : (b : Bool) → count_of r (all_puts (cond b (Cut (record { begin = s; end = t; payload = w }) (max e s) ∷ []) [] ++ [])) ≡ cond b (cond (nat_lt s (max e s)) (f (max e s)) 0) 0
  puts_cut true = one_and_none (record { begin = s; end = max e s; payload = w }) (nat_lt s (max e s))
  puts_cut false = refl

  puts_meet : (q b : Bool) → count_of r (all_puts (flat_map (cut_to e) (cond (q && b) (record { begin = s; end = t; payload = w } ∷ []) []))) ≡ cond q (cond b (cond (nat_lt e t) (cond (nat_lt s (max e s)) (f (max e s)) 0) 0) 0) 0
  puts_meet true true = puts_cut (nat_lt e t)
  puts_meet true false = refl
  puts_meet false b = refl

module _ (p : PairTest) (side : Side) where
  -- the copies of r in the row of a pair
  abbrev part : Row → Row → Row → ℕ
  part r o x = count_of r (met p side x o)

  -- a test that fails makes all of it 0
  by_test : (q : Bool) (g : ℕ → ℕ) (ab ae oe s e t : ℕ) → t ≡ min ae oe → ab ≤ s → ab ≤ e → e < ae
      → cond (nat_lt ab e) (cond q (cond (nat_lt s (min e oe)) (g (min e oe)) 0) 0) 0 + cond q (cond (nat_lt s t) (cond (nat_lt e t) (g t) 0) 0) 0
      ≡ cond q (cond (nat_lt s t) (g t) 0) 0 + cond q (cond (nat_lt s t) (cond (nat_lt e t) (cond (nat_lt s (max e s)) (g (max e s)) 0) 0) 0) 0
  by_test true g ab ae oe s e t is after within shorter = weighed g ab ae oe s e t is after within shorter
  by_test false g ab ae oe s e t is after within shorter = nothing (nat_lt ab e) where
    nothing : (b : Bool) → cond b 0 0 + 0 ≡ 0
    nothing true = refl
    nothing false = refl

  -- the deltas of a pair's changes lead from its old row to its new one
  pub pair_sums : (c : Change) (o r : Row) → IsChange c
      → sum_by (part r o) (puts c) + count_of r (all_takes (pair_changes c (met p side (changed_row c) o))) ≡ sum_by (part r o) (takes c) + count_of r (all_puts (pair_changes c (met p side (changed_row c) o)))
  pair_sums (Add a) o r h =
      let none = ap (count_of r) (takes_adds (met p side a o)) in
      let all = ap (count_of r) (puts_adds (met p side a o)) in
      omega (arith, none, all)
  pair_sums (Cut a e) o r h =
      let q = passes_on p side a.payload o.payload in
      let w = both_on side a.payload o.payload in
      let s = max a.begin o.begin in
      let t = min a.end o.end in
      let from = sum_one (part r o) (record a { end = e }) (nat_lt a.begin e) ∙ ap {B = ℕ} (λ n. cond (nat_lt a.begin e) n 0) (count_meet r w s e (min e o.end) q (nat_lt s (min e o.end))) in
      omega (
        arith,
        from,
        takes_meet r w s e t q (nat_lt s t),
        puts_meet r w s e t q (nat_lt s t),
        count_meet r w s e t q (nat_lt s t),
        by_test q (λ n. one_if_same r (record { begin = s; end = n; payload = w })) a.begin a.end o.end s e t refl (omega arith) h.1 h.2,
      )

  below : (q b d : Bool) (n : ℕ) → cond q (cond b (cond d n 0) 0) 0 ≤ cond q (cond b n 0) 0
  below true true true n = omega arith
  below true true false n = omega arith
  below true false d n = omega arith
  below false b d n = omega arith

  -- a change takes away only what the pair has
  pub pair_there : (c : Change) (o r : Row) → count_of r (all_takes (pair_changes c (met p side (changed_row c) o))) ≤ sum_by (part r o) (takes c)
  pair_there (Add a) o r = let none = ap (count_of r) (takes_adds (met p side a o)) in omega (arith, none)
  pair_there (Cut a e) o r =
      let q = passes_on p side a.payload o.payload in
      let w = both_on side a.payload o.payload in
      let s = max a.begin o.begin in
      let t = min a.end o.end in
      omega (arith, takes_meet r w s e t q (nat_lt s t), count_meet r w s e t q (nat_lt s t), below q (nat_lt s t) (nat_lt e t) (one_if_same r (record { begin = s; end = t; payload = w })))

  late_takes : (r x : Row) (e : ℕ) (q b d : Bool) → nat_lt e x.end ≡ d → r.end ≤ e → cond q (cond b (cond d (one_if_same r x) 0) 0) 0 ≡ 0
  late_takes r x e true true true h k = let long = ltb-true e x.end h in other_end r x (same_row r x) refl (λ same. omega arith)
  late_takes r x e true true false h k = refl
  late_takes r x e true false d h k = refl
  late_takes r x e false b d h k = refl

  early_puts : (r : Row) (w : List Field) (s e : ℕ) (q b d l : Bool) → nat_lt s (max e s) ≡ l → e < r.end
      → cond q (cond b (cond d (cond l (one_if_same r (record { begin = s; end = max e s; payload = w })) 0) 0) 0) 0 ≡ 0
  early_puts r w s e true true true true h k = let long = ltb-true s (max e s) h in other_end r (record { begin = s; end = max e s; payload = w }) (same_row r (record { begin = s; end = max e s; payload = w })) refl (λ same. omega arith)
  early_puts r w s e true true true false h k = refl
  early_puts r w s e true true false l h k = refl
  early_puts r w s e true false d l h k = refl
  early_puts r w s e false b d l h k = refl

  -- a cut takes only rows that end after it, and puts in only rows that don't
  pub cut_takes_late : (a o r : Row) (e : ℕ) → r.end ≤ e → count_of r (all_takes (pair_changes (Cut a e) (met p side a o))) ≡ 0
  cut_takes_late a o r e h =
      let q = passes_on p side a.payload o.payload in
      let w = both_on side a.payload o.payload in
      let s = max a.begin o.begin in
      let t = min a.end o.end in
      takes_meet r w s e t q (nat_lt s t) ∙ late_takes r (record { begin = s; end = t; payload = w }) e q (nat_lt s t) (nat_lt e t) refl h

  pub cut_puts_early : (a o r : Row) (e : ℕ) → e < r.end → count_of r (all_puts (pair_changes (Cut a e) (met p side a o))) ≡ 0
  cut_puts_early a o r e h =
      let q = passes_on p side a.payload o.payload in
      let w = both_on side a.payload o.payload in
      let s = max a.begin o.begin in
      let t = min a.end o.end in
      puts_meet r w s e t q (nat_lt s t) ∙ early_puts r w s e q (nat_lt s t) (nat_lt e t) (nat_lt s (max e s)) refl h

  -- the changes of a pair are changes, and late enough
  adds_good : (m : ℕ) (w : List Field) (a o : Row) (q b : Bool) → nat_lt (max a.begin o.begin) (min a.end o.end) ≡ b → IsRow a → IsRow o → m ≤ a.begin
      → AllChanges (map (λ r. Add r) (cond (q && b) (record { begin = max a.begin o.begin; end = min a.end o.end; payload = w } ∷ []) [])) × AllFrom m (map (λ r. Add r) (cond (q && b) (record { begin = max a.begin o.begin; end = min a.end o.end; payload = w } ∷ []) []))
  adds_good m w a o true true h ra ro late =
      let lives = ltb-true _ _ h in
      ((record { lives = lives; begins = let x = ra.begins in let y = ro.begins in omega arith; ends = let x = ra.ends in omega arith }, tt), (omega arith, tt))
  adds_good m w a o true false h ra ro late = (tt, tt)
  adds_good m w a o false b h ra ro late = (tt, tt)

  cut_good : (m : ℕ) (x : Row) (e : ℕ) (d : Bool) → nat_lt e x.end ≡ d → IsRow x → m ≤ e
      → AllChanges (cond d (Cut x (max e x.begin) ∷ []) [] ++ []) × AllFrom m (cond d (Cut x (max e x.begin) ∷ []) [] ++ [])
  cut_good m x e true h rx late = let long = ltb-true e x.end h in let lives = rx.lives in (((rx, omega arith, omega arith), tt), (omega arith, tt))
  cut_good m x e false h rx late = (tt, tt)

  cuts_good : (m : ℕ) (w : List Field) (a o : Row) (e : ℕ) (q b : Bool) → nat_lt (max a.begin o.begin) (min a.end o.end) ≡ b → IsRow a → IsRow o → m ≤ e
      → AllChanges (flat_map (cut_to e) (cond (q && b) (record { begin = max a.begin o.begin; end = min a.end o.end; payload = w } ∷ []) [])) × AllFrom m (flat_map (cut_to e) (cond (q && b) (record { begin = max a.begin o.begin; end = min a.end o.end; payload = w } ∷ []) []))
  cuts_good m w a o e true true h ra ro late =
      let lives = ltb-true _ _ h in
      cut_good m (record { begin = max a.begin o.begin; end = min a.end o.end; payload = w }) e (nat_lt e (min a.end o.end)) refl
      (record { lives = lives; begins = let x = ra.begins in let y = ro.begins in omega arith; ends = let x = ra.ends in omega arith }) late
  cuts_good m w a o e true false h ra ro late = (tt, tt)
  cuts_good m w a o e false b h ra ro late = (tt, tt)

  pub pair_good : (m : ℕ) (c : Change) (o : Row) → IsChange c → IsRow o → m ≤ sync_of c → AllChanges (pair_changes c (met p side (changed_row c) o)) × AllFrom m (pair_changes c (met p side (changed_row c) o))
  pair_good m (Add a) o h ro late = adds_good m (both_on side a.payload o.payload) a o (passes_on p side a.payload o.payload) (nat_lt (max a.begin o.begin) (min a.end o.end)) refl h ro late
  pair_good m (Cut a e) o h ro late = cuts_good m (both_on side a.payload o.payload) a o e (passes_on p side a.payload o.payload) (nat_lt (max a.begin o.begin) (min a.end o.end)) refl h.0 ro late
