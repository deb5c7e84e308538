-- The parts of a row depend on the bag of the others alone, and before a time on what is before it.
use Rattle.std.proofs.Common.{◌≡◌, ℕ, ◌+◌, ◌<◌, ◌≤◌, List, [], ◌∷◌, ◌++◌, Bool, true, false, cond, refl, ap, sym, ◌∙◌, arith, min, max, inl, inr}
use Rattle.std.specs.Prelude.{sum_by, nat_lt}
use Rattle.std.specs.List.{flat_map, filter}
use Rattle.std.proofs.lemmas.Bool.{ltb-true, ltb-false, lt-ltb, le-ltb, cases_lt}
use Rattle.std.proofs.lemmas.List.Sums.{sum_by-append}
use Rattle.cedr_base.specs.declared.time.TheConstants.{FOREVER}
use Rattle.cedr_base.specs.declared.field.Field.{Field}
use Rattle.cedr_base.specs.declared.row.Row.{Row}
use Rattle.cedr_base.specs.Rows.{IsRow, AreRows, count_of, same_row, one_if_same, SameRows}
use Rattle.cedr_base.proofs.Bags.{same_row_exact, count_of-cons}
use Rattle.change_laws.specs.Bags.{without}
use Rattle.change_laws.specs.Agreeing.{rows_up_to, AgreeUpTo}
use Rattle.change_laws.proofs.BagSums.{sum_by-same, sum_by-flat_map, sum_by-without, count_of-itself}
use Rattle.cedr_table.proofs.RowsLemmas.{first_is, others_are}
use Rattle.cedr_table.proofs.RowsLemmas.{fewer_are}
use Rattle.cedr_table.proofs.FilterLemmas.{count-filter}
use Rattle.cedr_expr.specs.declared.test.Test.{Test}
use Rattle.cedr_expr.specs.Tests.{passes}
use Rattle.op_except.specs.Parts.{row_until, row_since, parts, matching, excepted}
use Rattle.change_laws.proofs.AgreeLemmas.{share}
use Rattle.change_laws.proofs.AgreeSums.{SeesUpTo, agree_sum, shares_agree, late_share}
use Rattle.change_laws.proofs.BagSums.{sum_by-alike_there}
use Rattle.cedr_table.proofs.ChoiceLemmas.{sum_by-like}
use Rattle.op_except.specs.SumLaws.{share_sees, sum_by-filter}

none_either : (b : Bool) → cond {A = ℕ} b 0 0 ≡ 0
none_either true = refl
none_either false = refl

some_in : (b : Bool) (n m : ℕ) → m ≡ cond b n 0 → 0 < m → 0 < n
some_in true n m is h = omega (arith, is)
some_in false n m is h = absurd (omega (arith, is))

module _ (w : Row → ℕ) where
  -- a sum over the parts of a row
  pub over_parts : Row → List Row → ℕ
  over_parts x bs = sum_by w (parts x bs)

  pub split_sum : (x b : Row) (bs : List Row) → sum_by w (parts x (b ∷ bs)) ≡ sum_by w (parts (row_until b.begin x) bs) + sum_by w (parts (row_since b.end x) bs)
  split_sum x b bs = sum_by-append w (parts (row_until b.begin x) bs) (parts (row_since b.end x) bs)

  untils : (x : Row) (s t : ℕ) → row_until s (row_until t x) ≡ row_until t (row_until s x)
  untils x s t = let is : min (min x.end t) s ≡ min (min x.end s) t = omega arith in ap (λ n. record x { end = n }) is

  sinces : (x : Row) (s t : ℕ) → row_since s (row_since t x) ≡ row_since t (row_since s x)
  sinces x s t = let is : max (max x.begin t) s ≡ max (max x.begin s) t = omega arith in ap (λ n. record x { begin = n }) is

  -- the order of the others doesn't matter
  pub parts_swap : (x b c : Row) (bs : List Row) → sum_by w (parts x (b ∷ c ∷ bs)) ≡ sum_by w (parts x (c ∷ b ∷ bs))
  parts_swap x b c bs =
      omega (
        arith,
        split_sum x b (c ∷ bs),
        split_sum (row_until b.begin x) c bs,
        split_sum (row_since b.end x) c bs,
        split_sum x c (b ∷ bs),
        split_sum (row_until c.begin x) b bs,
        split_sum (row_since c.end x) b bs,
        ap (λ y. sum_by w (parts y bs)) (untils x c.begin b.begin),
        ap (λ y. sum_by w (parts y bs)) (sinces x c.end b.end),
      )

  parts-without_at : (x b c : Row) (cs : List Row) (same : Bool) → same_row b c ≡ same
      → (same ≡ false → (y : Row) → sum_by w (parts y (b ∷ without b cs)) ≡ sum_by w (parts y cs))
      → sum_by w (parts x (b ∷ cond same cs (c ∷ without b cs))) ≡ sum_by w (parts x (c ∷ cs))
  parts-without_at x b c cs true is rest = ap (λ y. sum_by w (parts x (y ∷ cs))) (same_row_exact b c is)
  parts-without_at x b c cs false is rest =
      parts_swap x b c (without b cs)
      ∙ omega (arith, split_sum x c (b ∷ without b cs), split_sum x c cs, rest refl (row_until c.begin x), rest refl (row_since c.end x))

  -- one of the others may come first
  pub parts-without : (x b : Row) (cs : List Row) → 0 < count_of b cs → sum_by w (parts x (b ∷ without b cs)) ≡ sum_by w (parts x cs)
  parts-without x b [] there = absurd (omega arith)
  parts-without x b (c ∷ cs) there = parts-without_at x b c cs (same_row b c) refl (λ d y. parts-without y b cs (
      let none = ap {B = ℕ} (λ s. cond s 1 0) d in omega (arith, count_of-cons b c cs, none)))

  -- the parts depend on the bag of the others alone
  pub parts_same : (x : Row) (bs cs : List Row) → SameRows bs cs → sum_by w (parts x bs) ≡ sum_by w (parts x cs)
  parts_same x [] [] same = refl
  parts_same x [] (c ∷ cs) same = absurd (omega (arith, same.each c, count_of-itself c cs))
  parts_same x (b ∷ bs) cs same =
      let there : 0 < count_of b cs = omega (arith, same.each b, count_of-itself b bs) in
      let rest : SameRows bs (without b cs) = record { each = λ r. omega (arith, same.each r, count_of-cons r b bs, sum_by-without (one_if_same r) b cs there) } in
      omega (
        arith,
        split_sum x b bs,
        split_sum x b (without b cs),
        parts_same (row_until b.begin x) bs (without b cs) rest,
        parts_same (row_since b.end x) bs (without b cs) rest,
        parts-without x b cs there,
      )

  base_void : (t : ℕ) (x : Row) (lives : Bool) → nat_lt x.begin x.end ≡ lives → SeesUpTo t w → x.end ≤ FOREVER → min x.end t ≤ x.begin → sum_by w (cond lives (x ∷ []) []) ≡ 0
  base_void t x true is sees time void =
      let less = ltb-true x.begin x.end is in
      omega (arith, sees.late x (record { lives = less; begins = omega arith; ends = time }) (omega arith))
  base_void t x false is sees time void = refl

  -- of a row of which nothing is left before a time, nothing is seen up to it
  pub parts_void : (t : ℕ) (x : Row) (bs : List Row) → SeesUpTo t w → x.end ≤ FOREVER → min x.end t ≤ x.begin → sum_by w (parts x bs) ≡ 0
  parts_void t x [] sees time void = base_void t x (nat_lt x.begin x.end) refl sees time void
  parts_void t x (b ∷ bs) sees time void =
      omega (arith, split_sum x b bs, parts_void t (row_until b.begin x) bs sees (omega arith) (omega arith), parts_void t (row_since b.end x) bs sees time (omega arith))

  abbrev row_of : ℕ → ℕ → List Field → Row
  row_of begin end payload = record { end = end; begin = begin; payload = payload }

  base_early : (t begin e : ℕ) (payload : List Field) (lives : Bool) → nat_lt begin e ≡ lives → SeesUpTo t w → e ≤ FOREVER → begin < t
      → sum_by w (cond lives (row_of begin e payload ∷ []) []) ≡ sum_by w (cond (nat_lt begin (min e t)) (row_of begin (min e t) payload ∷ []) [])
  base_early t begin e payload true is sees time before =
      let less = ltb-true begin e is in
      let row : IsRow (row_of begin e payload) = record { lives = less; begins = omega arith; ends = time } in
      omega (arith, sees.early (row_of begin e payload) row before, ap (λ b. sum_by w (cond b (row_of begin (min e t) payload ∷ []) [])) (lt-ltb begin (min e t) (omega arith)))
  base_early t begin e payload false is sees time before =
      let over = ltb-false begin e is in
      sym (ap (λ b. sum_by w (cond b (row_of begin (min e t) payload ∷ []) [])) (le-ltb begin (min e t) (omega arith)))

  -- the parts of two rows that are the same before a time
  base_like : (t begin e f : ℕ) (payload : List Field) → SeesUpTo t w → e ≤ FOREVER → f ≤ FOREVER → min e t ≡ min f t → sum_by w (parts (row_of begin e payload) []) ≡ sum_by w (parts (row_of begin f payload) [])
  base_like t begin e f payload sees e_time f_time like = elim (cases_lt begin t) [
    | inl before ↦
        base_early t begin e payload (nat_lt begin e) refl sees e_time before
        ∙ (ap (λ n. sum_by w (cond (nat_lt begin n) (row_of begin n payload ∷ []) [])) like
        ∙ sym (base_early t begin f payload (nat_lt begin f) refl sees f_time before))
    | inr late ↦ parts_void t (row_of begin e payload) [] sees e_time (omega arith) ∙ sym (parts_void t (row_of begin f payload) [] sees f_time (omega arith))
  ]

  clip_at : (t begin e f : ℕ) (payload : List Field) (b : Row) (bs : List Row) (early : Bool) → nat_lt b.begin (min b.end t) ≡ early → SeesUpTo t w → IsRow b → e ≤ FOREVER → f ≤ FOREVER → min e t ≡ min f t
      → ((p g h : ℕ) → g ≤ FOREVER → h ≤ FOREVER → min g t ≡ min h t → sum_by w (parts (row_of p g payload) bs) ≡ sum_by w (parts (row_of p h payload) (rows_up_to t bs)))
      → sum_by w (parts (row_of begin e payload) (b ∷ bs)) ≡ sum_by w (parts (row_of begin f payload) (cond early (record b { end = min b.end t } ∷ []) [] ++ rows_up_to t bs))
  clip_at t begin e f payload b bs false is sees row e_time f_time like rest =
      let over = ltb-false b.begin (min b.end t) is in
      let lives = row.lives in
      omega (
        arith,
        split_sum (row_of begin e payload) b bs,
        parts_void t (row_of (max begin b.end) e payload) bs sees e_time (omega arith),
        rest begin (min e b.begin) f (omega arith) f_time (omega arith),
      )
  clip_at t begin e f payload b bs true is sees row e_time f_time like rest =
      let less = ltb-true b.begin (min b.end t) is in
      elim (cases_lt t b.end) [
        | inl beyond ↦ omega (
          arith,
          split_sum (row_of begin e payload) b bs,
          split_sum (row_of begin f payload) (record b { end = min b.end t }) (rows_up_to t bs),
          rest begin (min e b.begin) (min f b.begin) (omega arith) (omega arith) (omega arith),
          parts_void t (row_of (max begin b.end) e payload) bs sees e_time (omega arith),
          parts_void t (row_of (max begin (min b.end t)) f payload) (rows_up_to t bs) sees f_time (omega arith),
        )
        | inr within ↦
            let same : max begin b.end ≡ max begin (min b.end t) = omega arith in
            omega (
              arith,
              split_sum (row_of begin e payload) b bs,
              split_sum (row_of begin f payload) (record b { end = min b.end t }) (rows_up_to t bs),
              rest begin (min e b.begin) (min f b.begin) (omega arith) (omega arith) (omega arith),
              rest (max begin b.end) e f e_time f_time like,
              ap (λ n. sum_by w (parts (row_of n f payload) (rows_up_to t bs))) same,
            )
      ]

  -- before a time the parts depend on what is before it
  pub parts_clip : (t begin e f : ℕ) (payload : List Field) (bs : List Row) → SeesUpTo t w → AreRows bs → e ≤ FOREVER → f ≤ FOREVER → min e t ≡ min f t
      → sum_by w (parts (row_of begin e payload) bs) ≡ sum_by w (parts (row_of begin f payload) (rows_up_to t bs))
  parts_clip t begin e f payload [] sees are e_time f_time like = base_like t begin e f payload sees e_time f_time like
  parts_clip t begin e f payload (b ∷ bs) sees are e_time f_time like =
      clip_at t begin e f payload b bs (nat_lt b.begin (min b.end t)) refl sees (first_is b bs are) e_time f_time like
      (λ p g h g_time h_time alike. parts_clip t p g h payload bs sees (others_are b bs are) g_time h_time alike)

  -- of others that agree up to a time the parts are alike before it
  pub parts_agree : (t : ℕ) (x : Row) (bs cs : List Row) → SeesUpTo t w → AreRows bs → AreRows cs → x.end ≤ FOREVER → AgreeUpTo t bs cs → sum_by w (parts x bs) ≡ sum_by w (parts x cs)
  parts_agree t x bs cs sees bs_are cs_are time agree =
      parts_clip t x.begin x.end x.end x.payload bs sees bs_are time time refl
      ∙ (parts_same x (rows_up_to t bs) (rows_up_to t cs) agree.same
      ∙ sym (parts_clip t x.begin x.end x.end x.payload cs sees cs_are time time refl))

-- rows that agree up to a time agree so among those whose payload passes
pub filter_agree : (t : ℕ) (p : List Field → Bool) (bs cs : List Row) → AreRows bs → AreRows cs → AgreeUpTo t bs cs → AgreeUpTo t (filter (λ b. p b.payload) bs) (filter (λ b. p b.payload) cs)
filter_agree t p bs cs bs_are cs_are agree =
    shares_agree t (filter (λ b. p b.payload) bs) (filter (λ b. p b.payload) cs)
    (λ q.
    sum_by-filter (share t q) (λ b. p b.payload) bs
    ∙ (agree_sum t (λ b. cond (p b.payload) (share t q b) 0) bs cs bs_are cs_are (record {
      late = λ x row from. ap (λ n. cond (p x.payload) n 0) (late_share t q x from) ∙ none_either (p x.payload);
      early = λ x row before. ap (λ n. cond (p x.payload) n 0) ((share_sees t q).early x row before);
    }) agree
    ∙ sym (sum_by-filter (share t q) (λ b. p b.payload) cs)))

pub filter_same : (p : Row → Bool) (bs cs : List Row) → SameRows bs cs → SameRows (filter p bs) (filter p cs)
filter_same p bs cs same = record { each = λ r. count-filter r p bs ∙ (ap (λ n. cond (p r) n 0) (same.each r) ∙ sym (count-filter r p cs)) }

pub filter_are : (p : Row → Bool) (bs : List Row) → AreRows bs → AreRows (filter p bs)
filter_are p bs are = fewer_are (filter p bs) bs (λ r there. some_in (p r) (count_of r bs) (count_of r (filter p bs)) (count-filter r p bs) there) are

module _ (tests : List Test) where
  -- what a row gives depends on the bag of the others alone
  pub excepted_same : (w : Row → ℕ) (bs cs : List Row) (a : Row) → SameRows bs cs → sum_by w (excepted tests bs a) ≡ sum_by w (excepted tests cs a)
  excepted_same w bs cs a same = parts_same w a (matching tests a bs) (matching tests a cs) (filter_same (λ b. passes tests a.payload b.payload) bs cs same)

  -- tables that are the same bags have the same result
  pub same_excepted : (w : Row → ℕ) (xs ys bs cs : List Row) → SameRows xs ys → SameRows bs cs → sum_by w (flat_map (excepted tests bs) xs) ≡ sum_by w (flat_map (excepted tests cs) ys)
  same_excepted w xs ys bs cs same k =
      sum_by-flat_map w (excepted tests bs) xs
      ∙ (sum_by-like (λ a. sum_by w (excepted tests bs a)) (λ a. sum_by w (excepted tests cs a)) xs (λ a. excepted_same w bs cs a k)
      ∙ (sum_by-same (λ a. sum_by w (excepted tests cs a)) xs ys same
      ∙ sym (sum_by-flat_map w (excepted tests cs) ys)))

  -- what a row gives is seen up to a time where the row is
  pub excepted_sees : (t : ℕ) (w : Row → ℕ) (bs : List Row) → SeesUpTo t w → AreRows bs → SeesUpTo t (λ a. sum_by w (excepted tests bs a))
  excepted_sees t w bs sees are = record {
    late = λ a row from. let ends = row.ends in parts_void w t a (matching tests a bs) sees ends (omega arith);
    early = λ a row before.
        let ends = row.ends in
        let others = matching tests a bs in
        let others_are = filter_are (λ b. passes tests a.payload b.payload) bs are in
        parts_clip w t a.begin (min a.end t) a.end a.payload others sees others_are (omega arith) ends (omega arith)
        ∙ sym (parts_clip w t a.begin a.end a.end a.payload others sees others_are ends ends refl);
  }

  -- before a time the result depends on what the tables are before it
  pub excepted_agree : (t : ℕ) (w : Row → ℕ) (xs ys bs cs : List Row) → SeesUpTo t w → AreRows xs → AreRows ys → AreRows bs → AreRows cs → AgreeUpTo t xs ys → AgreeUpTo t bs cs
      → sum_by w (flat_map (excepted tests bs) xs) ≡ sum_by w (flat_map (excepted tests cs) ys)
  excepted_agree t w xs ys bs cs sees xs_are ys_are bs_are cs_are agree k =
      sum_by-flat_map w (excepted tests bs) xs
      ∙ (sum_by-alike_there (λ a. sum_by w (excepted tests bs a)) (λ a. sum_by w (excepted tests cs a)) xs (λ a there.
      parts_agree w t a (matching tests a bs) (matching tests a cs) sees
      (filter_are (λ b. passes tests a.payload b.payload) bs bs_are) (filter_are (λ b. passes tests a.payload b.payload) cs cs_are)
      (xs_are.each a there).ends
      (filter_agree t (passes tests a.payload) bs cs bs_are cs_are k))
      ∙ (agree_sum t (λ a. sum_by w (excepted tests cs a)) xs ys xs_are ys_are (excepted_sees t w cs sees cs_are) agree
      ∙ sym (sum_by-flat_map w (excepted tests cs) ys)))
