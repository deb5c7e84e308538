-- Rows that begin one after the other do so in one order.
use Rattle.std.proofs.Common.{◌≡◌, ℕ, zero, suc, ◌+◌, ◌<◌, ◌≤◌, inl, inr, List, [], ◌∷◌, Bool, true, false, cond, refl, ◌∙◌, arith}
use Rattle.std.specs.Prelude.{sum_by, map, nat_lt, ◌&&◌}
use Rattle.std.specs.List.{flat_map}
use Rattle.std.proofs.lemmas.Bool.{and_cases, and_left, and_right, ltb-true, ltb-false, le-ltb}
use Rattle.std.proofs.lemmas.List.Sums.{sum_by-cons, sum_by-append}
use Rattle.cedr_base.specs.declared.row.Row.{Row}
use Rattle.cedr_table.specs.Operators.{Tables}
use Rattle.cedr_table.specs.Choices.{choices}
use Rattle.cedr_table.proofs.ChoiceLemmas.{sum_chosen, sum_chosen-cons, sum_by-like}
use Rattle.pat_atleast.specs.Arrangements.{placed, arranged}
use Rattle.pat_atleast.specs.AtLeasts.{put_in, by_begin}
use Rattle.pat_atleast.specs.Sums.{sum_some}
use Rattle.pat_atleast.specs.SomeLaws.{sum_by-zero, sum_by-plus, sum_by-turned, sum_by-mapped, sum_by-made, sum_some-more}

-- each row begins after a time, and after the one before it
abbrev pub climbs_from : ℕ → List Row → Bool
climbs_from after [] = true
climbs_from after (e ∷ es) = nat_lt after e.begin && climbs_from e.begin es

-- each row begins after the one before it
abbrev pub climbs : List Row → Bool
climbs [] = true
climbs (e ∷ es) = climbs_from e.begin es

-- nothing weighs anything but rows of which each begins after the one before it
pub record Climbing (w : List Row → ℕ) : Type 0 where
  pub none : (rs : List Row) → climbs rs ≡ false → w rs ≡ 0

-- one row more in front
more_from : (after : ℕ) (rs : List Row) → climbs rs ≡ false → climbs_from after rs ≡ false
more_from after [] h = absurd (let e = h in cc)
more_from after (e ∷ es) h = and_right (nat_lt after e.begin) (climbs_from e.begin es) h

behind : (w : List Row → ℕ) (e : Row) → Climbing w → Climbing (λ rs. w (e ∷ rs))
behind w e climbing = record { none = λ rs h. climbing.none (e ∷ rs) (more_from e.begin rs h) }

-- Behind a time, a row that begins by then stands nowhere.
stuck : (w : List Row → ℕ) (after : ℕ) (r : Row) (es : List Row) → r.begin ≤ after → ((rs : List Row) → climbs_from after rs ≡ false → w rs ≡ 0) → sum_by w (placed r es) ≡ 0
stuck w after r [] early none = omega (arith, sum_by-cons w (r ∷ []) [], none (r ∷ []) (and_left (nat_lt after r.begin) true (le-ltb after r.begin early)))
stuck w after r (e ∷ es) early none =
    at (nat_lt after e.begin) refl (λ less. stuck (λ zs. w (e ∷ zs)) e.begin r es (omega arith) (λ rs h. none (e ∷ rs) (and_right (nat_lt after e.begin) (climbs_from e.begin rs) h))) where
      first : w (r ∷ e ∷ es) ≡ 0
      first = none (r ∷ e ∷ es) (and_left (nat_lt after r.begin) (climbs_from r.begin (e ∷ es)) (le-ltb after r.begin early))

      at : (b : Bool) → nat_lt after e.begin ≡ b → (after < e.begin → sum_by (λ zs. w (e ∷ zs)) (placed r es) ≡ 0) → sum_by w (placed r (e ∷ es)) ≡ 0
      at true up rest = omega (arith, first, sum_by-cons w (r ∷ e ∷ es) (map (λ zs. e ∷ zs) (placed r es)), sum_by-mapped w (λ zs. e ∷ zs) (placed r es), rest (ltb-true after e.begin up))
      at false up rest =
          omega (arith, first, sum_by-cons w (r ∷ e ∷ es) (map (λ zs. e ∷ zs) (placed r es)), sum_by-mapped w (λ zs. e ∷ zs) (placed r es), sum_by-zero (λ zs. w (e ∷ zs)) (placed r es) (λ zs. none (e ∷ zs) (and_left (nat_lt after e.begin) (climbs_from e.begin zs) up)))

-- Among the places of a row only one is where it stands in ascending order of begin.
one_place : (w : List Row → ℕ) (r : Row) (rs : List Row) → Climbing w → sum_by w (placed r rs) ≡ w (put_in r rs)
one_place w r [] climbing = omega (arith, sum_by-cons w (r ∷ []) [])
one_place w r (e ∷ es) climbing = at (nat_lt r.begin e.begin) refl (one_place (λ zs. w (e ∷ zs)) r es (behind w e climbing)) where
  at : (b : Bool) → nat_lt r.begin e.begin ≡ b → sum_by (λ zs. w (e ∷ zs)) (placed r es) ≡ w (e ∷ put_in r es) → sum_by w (placed r (e ∷ es)) ≡ w (cond b (r ∷ e ∷ es) (e ∷ put_in r es))
  at true less rest =
      let before = ltb-true r.begin e.begin less in
      omega (arith, sum_by-cons w (r ∷ e ∷ es) (map (λ zs. e ∷ zs) (placed r es)), sum_by-mapped w (λ zs. e ∷ zs) (placed r es), stuck (λ zs. w (e ∷ zs)) e.begin r es (omega arith) (λ rs h. climbing.none (e ∷ rs) h))
  at false more rest = omega (
    arith,
    rest,
    sum_by-cons w (r ∷ e ∷ es) (map (λ zs. e ∷ zs) (placed r es)),
    sum_by-mapped w (λ zs. e ∷ zs) (placed r es),
    climbing.none (r ∷ e ∷ es) (and_left (nat_lt r.begin e.begin) (climbs_from e.begin es) more),
  )

-- what doesn't climb doesn't with one row more
put_from : (after : ℕ) (r : Row) (es : List Row) → climbs_from after es ≡ false → climbs_from after (put_in r es) ≡ false
put_from after r [] h = absurd (let e = h in cc)
put_from after r (e ∷ es) h = at (nat_lt r.begin e.begin) refl (λ rest. put_from e.begin r es rest) where
  at : (b : Bool) → nat_lt r.begin e.begin ≡ b → (climbs_from e.begin es ≡ false → climbs_from e.begin (put_in r es) ≡ false) → climbs_from after (cond b (r ∷ e ∷ es) (e ∷ put_in r es)) ≡ false
  at true less still =
      let before = ltb-true r.begin e.begin less in
      elim (and_cases (nat_lt after e.begin) (climbs_from e.begin es) h) [
        | inl early ↦ (let upto = ltb-false after e.begin early in and_left (nat_lt after r.begin) (nat_lt r.begin e.begin && climbs_from e.begin es) (le-ltb after r.begin (omega arith)))
        | inr rest ↦ and_right (nat_lt after r.begin) (nat_lt r.begin e.begin && climbs_from e.begin es) (and_right (nat_lt r.begin e.begin) (climbs_from e.begin es) rest)
      ]
  at false more still =
      elim (and_cases (nat_lt after e.begin) (climbs_from e.begin es) h) [
        | inl early ↦ and_left (nat_lt after e.begin) (climbs_from e.begin (put_in r es)) early
        | inr rest ↦ and_right (nat_lt after e.begin) (climbs_from e.begin (put_in r es)) (still rest)
      ]

put_climbs : (r : Row) (rs : List Row) → climbs rs ≡ false → climbs (put_in r rs) ≡ false
put_climbs r [] h = absurd (let e = h in cc)
put_climbs r (e ∷ es) h = at (nat_lt r.begin e.begin) refl where
  at : (b : Bool) → nat_lt r.begin e.begin ≡ b → climbs (cond b (r ∷ e ∷ es) (e ∷ put_in r es)) ≡ false
  at true less = and_right (nat_lt r.begin e.begin) (climbs_from e.begin es) h
  at false more = put_from e.begin r es h

put_climbing : (w : List Row → ℕ) (r : Row) → Climbing w → Climbing (λ rs. w (put_in r rs))
put_climbing w r climbing = record { none = λ rs h. climbing.none (put_in r rs) (put_climbs r rs h) }

-- the choices with a table at each place, by its row
placed_tables : (w : List Row → ℕ) (t : List Row) (ts : Tables) → sum_by (λ order. sum_chosen w order) (placed t ts) ≡ sum_by (λ r. sum_chosen (λ rs. sum_by w (placed r rs)) ts) t
placed_tables w t [] =
    let one = λ (r : Row). sum_by-cons w (r ∷ []) [] in
    omega (
      arith,
      sum_by-cons (λ order. sum_chosen w order) (t ∷ []) [],
      sum_chosen-cons w t [],
      sum_by-like (λ r. sum_chosen (λ rs. w (r ∷ rs)) []) (λ r. sum_chosen (λ rs. sum_by w (placed r rs)) []) t
          (λ r. omega (arith, one r, sum_by-cons (λ rs. w (r ∷ rs)) [] [], sum_by-cons (λ rs. sum_by w (placed r rs)) [] [])),
    )
placed_tables w t (u ∷ us) =
    let first = λ (r x : Row). sum_chosen (λ rs. w (r ∷ x ∷ rs)) us in
    let rest = λ (r x : Row). sum_chosen (λ rs. sum_by (λ zs. w (x ∷ zs)) (placed r rs)) us in
    let split : (r x : Row) (rs : List Row) → sum_by w (placed r (x ∷ rs)) ≡ w (r ∷ x ∷ rs) + sum_by (λ zs. w (x ∷ zs)) (placed r rs) = λ r x rs. omega (arith, sum_by-cons w (r ∷ x ∷ rs) (map (λ zs. x ∷ zs) (placed r rs)), sum_by-mapped w (λ zs. x ∷ zs) (placed r rs)) in
    omega (
      arith,
      sum_by-cons (λ order. sum_chosen w order) (t ∷ u ∷ us) (map (λ order. u ∷ order) (placed t us)),
      sum_by-mapped (λ order. sum_chosen w order) (λ order. u ∷ order) (placed t us),
      sum_chosen-cons w t (u ∷ us),
      sum_by-like (λ r. sum_chosen (λ rs. w (r ∷ rs)) (u ∷ us)) (λ r. sum_by (λ x. first r x) u) t (λ r. sum_chosen-cons (λ rs. w (r ∷ rs)) u us),
      sum_by-like (λ order. sum_chosen w (u ∷ order)) (λ order. sum_by (λ x. sum_chosen (λ rs. w (x ∷ rs)) order) u) (placed t us) (λ order. sum_chosen-cons w u order),
      sum_by-turned (λ order x. sum_chosen (λ rs. w (x ∷ rs)) order) (placed t us) u,
      sum_by-like (λ x. sum_by (λ order. sum_chosen (λ rs. w (x ∷ rs)) order) (placed t us)) (λ x. sum_by (λ r. rest r x) t) u (λ x. placed_tables (λ rs. w (x ∷ rs)) t us),
      sum_by-turned (λ x r. rest r x) u t,
      sum_by-plus (λ r. sum_by (λ x. first r x) u) (λ r. sum_by (λ x. rest r x) u) t,
      sum_by-like (λ r. sum_chosen (λ rs. sum_by w (placed r rs)) (u ∷ us)) (λ r. sum_by (λ x. first r x) u + sum_by (λ x. rest r x) u) t
          (λ r.
          sum_chosen-cons (λ rs. sum_by w (placed r rs)) u us
          ∙ (sum_by-like (λ x. sum_chosen (λ rs. sum_by w (placed r (x ∷ rs))) us) (λ x. first r x + rest r x) u
          (λ x. sum_by-like (λ rs. sum_by w (placed r (x ∷ rs))) (λ rs. w (r ∷ x ∷ rs) + sum_by (λ zs. w (x ∷ zs)) (placed r rs)) (choices us) (λ rs. split r x rs)
          ∙ sum_by-plus (λ rs. w (r ∷ x ∷ rs)) (λ rs. sum_by (λ zs. w (x ∷ zs)) (placed r rs)) (choices us))
          ∙ sum_by-plus (λ x. first r x) (λ x. rest r x) u)),
    )

-- What weighs only rows of which each begins after the one before it: over all orders of so many tables it adds up to what
-- it does over the choices of so many tables with their rows put in ascending order of begin.
pub all_orders : (w : List Row → ℕ) (n : ℕ) (ts : Tables) → Climbing w → sum_by (λ order. sum_chosen w order) (arranged n ts) ≡ sum_some (λ rs. w (by_begin rs)) n ts
all_orders w zero ts climbing = refl
all_orders w (suc n) [] climbing = refl
all_orders w (suc n) (t ∷ ts) climbing =
    let put = λ (r : Row) (rs : List Row). w (put_in r rs) in
    omega (
      arith,
      sum_by-append (λ order. sum_chosen w order) (flat_map (placed t) (arranged n ts)) (arranged (suc n) ts),
      sum_by-made (λ order. sum_chosen w order) (placed t) (arranged n ts),
      sum_by-like (λ order. sum_by (λ longer. sum_chosen w longer) (placed t order)) (λ order. sum_by (λ r. sum_chosen (put r) order) t) (arranged n ts)
          (λ order. placed_tables w t order
          ∙ sum_by-like (λ r. sum_chosen (λ rs. sum_by w (placed r rs)) order) (λ r. sum_chosen (put r) order) t (λ r. sum_by-like (λ rs. sum_by w (placed r rs)) (put r) (choices order) (λ rs. one_place w r rs climbing))),
      sum_by-turned (λ order r. sum_chosen (put r) order) (arranged n ts) t,
      sum_by-like (λ r. sum_by (λ order. sum_chosen (put r) order) (arranged n ts)) (λ r. sum_some (λ rs. w (by_begin (r ∷ rs))) n ts) t (λ r. all_orders (put r) n ts (put_climbing w r climbing)),
      sum_some-more (λ rs. w (by_begin rs)) n t ts,
      all_orders w (suc n) ts climbing,
    )
