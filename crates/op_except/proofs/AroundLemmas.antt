-- The parts of a row around a time: a row made narrower, what its parts are free of, and the sweep over that.
use Rattle.std.proofs.Common.{◌≡◌, ℕ, zero, suc, ◌+◌, ◌<◌, ◌≤◌, ◌⊎◌, inl, inr, List, [], ◌∷◌, ◌++◌, Bool, true, false, cond, refl, ap, sym, ◌∙◌, subst, arith, min, replicate}
use Rattle.std.specs.Prelude.{nat_lt, ◌&&◌}
use Rattle.std.specs.List.{filter}
use Rattle.std.proofs.lemmas.Bool.{cases_lt, ltb-true, leb-true, lt-ltb, le-ltb, and_parts}
use Rattle.cedr_base.specs.declared.time.TheConstants.{FOREVER}
use Rattle.cedr_base.specs.declared.row.Row.{Row}
use Rattle.cedr_base.specs.Rows.{IsRow, AreRows, count_of, one_if_same, SameRows}
use Rattle.cedr_base.proofs.Bags.{count_of-append, count_of-cons, one_if_same_exact}
use Rattle.change_laws.specs.Bags.{without}
use Rattle.change_laws.proofs.BagSums.{sum_by-same, count_of-itself, same_along, same_flat_map}
use Rattle.cedr_table.specs.Counted.{IsFirst}
use Rattle.cedr_table.proofs.FilterLemmas.{count-filter, among_along, ends_first}
use Rattle.cedr_table.proofs.RowsLemmas.{first_is, others_are, none_are, both_are, fewer_are}
use Rattle.cedr_expr.specs.declared.test.Test.{Test}
use Rattle.cedr_expr.specs.Tests.{passes}
use Rattle.filed_rows.specs.Spans.{AreAmong, ends_by, lives_within}
use Rattle.op_except.specs.Parts.{row_until, row_since, parts, matching, excepted}
use Rattle.op_except.specs.Around.{Narrows, Gathers, flipped, unflipped, AreFlipped}
use Rattle.op_except.specs.Standing.{NeverMeet}
use Rattle.op_except.specs.PartLaws.{split_sum, parts-without, parts_same}
use Rattle.op_except.proofs.PartLemmas.{parts_within, parts_apart, parts_last}

-- what lives within a time
record LivesIn (from to : ℕ) (r : Row) : Type 0 where
  after : from < r.end
  before : r.begin < to

lives_in : (from to : ℕ) (r : Row) → lives_within from to r ≡ true → LivesIn from to r
lives_in from to r is =
    let both = and_parts (nat_lt from r.end) (nat_lt r.begin to) is in
    record { after = ltb-true from r.end both.0; before = ltb-true r.begin to both.1 }

none_or : (n : ℕ) → (0 < n → ⊥) → n ≡ 0
none_or n never = elim (cases_lt 0 n) [ inl some ↦ absurd (never some) | inr none ↦ omega arith ]

module _ (x n r : Row) (bs : List Row) (lives : n.begin < n.end) (there : 0 < count_of n bs) where
  -- the other rows, one of them first
  first_sum : count_of r (parts x (n ∷ without n bs)) ≡ count_of r (parts x bs)
  first_sum = parts-without (one_if_same r) x n bs there

  -- what lies from its end on has the same parts without it
  late_sum : count_of r (parts (row_since n.end x) bs) ≡ count_of r (parts (row_since n.end x) (without n bs))
  late_sum = sym (parts-without (one_if_same r) (row_since n.end x) n bs there) ∙ parts_apart (one_if_same r) (row_since n.end x) n (without n bs) lives (inr (omega arith))

  early_sum : count_of r (parts (row_until n.begin x) bs) ≡ count_of r (parts (row_until n.begin x) (without n bs))
  early_sum = sym (parts-without (one_if_same r) (row_until n.begin x) n bs there) ∙ parts_apart (one_if_same r) (row_until n.begin x) n (without n bs) lives (inl (omega arith))

  -- the parts that live after a time are those of what lies from the end of a row on that ended by then
  pub since_same : (from to : ℕ) → n.end ≤ from → lives_within from to r ≡ true → count_of r (parts (row_since n.end x) bs) ≡ count_of r (parts x bs)
  since_same from to ended is =
      let lives_r = lives_in from to r is in
      let none : count_of r (parts (row_until n.begin x) (without n bs)) ≡ 0 = none_or _ (λ has. let by = (parts_within (row_until n.begin x) r (without n bs) has).by in let after = lives_r.after in omega arith) in
      omega (arith, first_sum, late_sum, none, split_sum (one_if_same r) x n (without n bs))

  -- the parts that live before a time are those of what lies up to the begin of a row that begins then or later, or that lasts
  -- for as long as the row
  pub until_same : (from to : ℕ) → (to ≤ n.begin) ⊎ (x.end ≤ n.end) → lives_within from to r ≡ true → count_of r (parts (row_until n.begin x) bs) ≡ count_of r (parts x bs)
  until_same from to beyond is =
      let lives_r = lives_in from to r is in
      let none : count_of r (parts (row_since n.end x) (without n bs)) ≡ 0 = none_or _ (λ has.
      let h = parts_within (row_since n.end x) r (without n bs) has in
      let first = h.from in
      let last = h.by in
      let lives_too = h.lives in
      let before = lives_r.before in
      elim beyond [ inl late ↦ omega arith | inr lasts ↦ omega arith ]) in
      omega (arith, first_sum, early_sum, none, split_sum (one_if_same r) x n (without n bs))

some_matching : (b : Bool) (n m : ℕ) → b ≡ true → m ≡ cond b n 0 → 0 < n → 0 < m
some_matching true n m is e there = omega (arith, e)
some_matching false n m is e there = cc

module _ (tests : List Test) where
  -- a row that passes is among those that pass
  matches : (a n : Row) (others : List Row) → passes tests a.payload n.payload ≡ true → 0 < count_of n others → 0 < count_of n (matching tests a others)
  matches a n others pass there = some_matching (passes tests a.payload n.payload) (count_of n others) (count_of n (matching tests a others)) pass (count-filter n (λ b. passes tests a.payload b.payload) others) there

  module _ (from to : ℕ) where
    pub narrow_none : (rows : List Row) (x : Row) → Narrows tests from to rows x x
    narrow_none rows x = record { payload = refl; same = λ others are among. record { each = λ r is. refl } }

    pub narrow_along : (rows : List Row) (x y z : Row) → Narrows tests from to rows x y → Narrows tests from to rows y z → Narrows tests from to rows x z
    narrow_along rows x y z h k = record {
      payload = k.payload ∙ h.payload;
      same = λ others are among. among_along (lives_within from to) (excepted tests others z) (excepted tests others y) (excepted tests others x) (k.same others are among) (h.same others are among);
    }

    pub narrow_more : (rows all : List Row) (x y : Row) → AreAmong rows all → Narrows tests from to rows x y → Narrows tests from to all x y
    narrow_more rows all x y among h = record { payload = h.payload; same = λ others are within. h.same others are (λ r there. within r (among r there)) }

    -- the row begins where one of the rows ends that ended by the time from which on parts are looked for
    pub narrow_begin : (rows : List Row) (x n : Row) → 0 < count_of n rows → passes tests x.payload n.payload ≡ true → n.end ≤ from → Narrows tests from to rows x (row_since n.end x)
    narrow_begin rows x n there pass ended = record {
      payload = refl;
      same = λ others are among. record {
        each = λ r is. since_same x n r (matching tests x others) (are.each n (among n there)).lives (matches x n others pass (among n there)) from to ended is;
      };
    }

    -- it ends where one of them begins that begins by then or later, or lasts as long
    pub narrow_end : (rows : List Row) (x n : Row) → 0 < count_of n rows → passes tests x.payload n.payload ≡ true → (to ≤ n.begin) ⊎ (x.end ≤ n.end) → Narrows tests from to rows x (row_until n.begin x)
    narrow_end rows x n there pass beyond = record {
      payload = refl;
      same = λ others are among. record {
        each = λ r is. until_same x n r (matching tests x others) (are.each n (among n there)).lives (matches x n others pass (among n there)) from to beyond is;
      };
    }

-- ---- what the parts are free of

-- what is the same without more rows is so with them
pub same_with : (x : Row) (more cs ds : List Row) → SameRows (parts x cs) (parts x ds) → SameRows (parts x (more ++ cs)) (parts x (more ++ ds))
same_with x [] cs ds same = same
same_with x (b ∷ more) cs ds same = record {
  each = λ q.
      parts_last (one_if_same q) x b (more ++ cs)
      ∙ (sum_by-same (λ y. count_of q (parts y (b ∷ []))) (parts x (more ++ cs)) (parts x (more ++ ds)) (same_with x more cs ds same)
      ∙ sym (parts_last (one_if_same q) x b (more ++ ds)));
}

-- copies of a row that doesn't meet x
drop_copies : (r x b : Row) (n : ℕ) (bs : List Row) → b.begin < b.end → NeverMeet x b → count_of r (parts x (replicate n b ++ bs)) ≡ count_of r (parts x bs)
drop_copies r x b zero bs lives apart = refl
drop_copies r x b (suc n) bs lives apart = parts_apart (one_if_same r) x b (replicate n b ++ bs) lives apart ∙ drop_copies r x b n bs lives apart

-- rows of which none meets x
drop_all : (r x : Row) (bs : List Row) → ((b : Row) → 0 < count_of b bs → (b.begin < b.end) × NeverMeet x b) → count_of r (parts x bs) ≡ count_of r (parts x [])
drop_all r x [] apart = refl
drop_all r x (b ∷ bs) apart =
    let first = apart b (count_of-itself b bs) in
    parts_apart (one_if_same r) x b bs first.0 first.1 ∙ drop_all r x bs (λ c there. apart c (omega (arith, count_of-cons c b bs)))

-- copies say what one says
pub one_of_copies : (r x b : Row) (n : ℕ) (bs : List Row) → 0 < n → b.begin < b.end → count_of r (parts x (replicate n b ++ bs)) ≡ count_of r (parts x (b ∷ bs))
one_of_copies r x b zero bs some lives = absurd (omega arith)
one_of_copies r x b (suc n) bs some lives =
    omega (
      arith,
      split_sum (one_if_same r) x b (replicate n b ++ bs),
      split_sum (one_if_same r) x b bs,
      drop_copies r (row_until b.begin x) b n bs lives (inl (omega arith)),
      drop_copies r (row_since b.end x) b n bs lives (inr (omega arith)),
    )

-- a sum over flipped rows
flip_counts : (n : ℕ) (b : Row) (rows rest : List Row) → SameRows (replicate n b ++ rest) rows → SameRows (unflipped rows) (replicate n (flipped b) ++ unflipped rest)
flip_counts n b rows rest same = record {
  each = λ r. sym ((same_flat_map (λ (q : Row). flipped q ∷ []) (replicate n b ++ rest) rows same).each r) ∙ at n r;
}
  where
    at : (n : ℕ) (r : Row) → count_of r (unflipped (replicate n b ++ rest)) ≡ count_of r (replicate n (flipped b) ++ unflipped rest)
    at zero r = refl
    at (suc n) r = omega (arith, count_of-cons r (flipped b) (unflipped (replicate n b ++ rest)), count_of-cons r (flipped b) (replicate n (flipped b) ++ unflipped rest), at n r)

-- the canonical order of flipped rows is that of the begins
begins_first : (a b : Row) → a.end ≤ b.end → (flipped a).begin ≤ (flipped b).begin
begins_first a b h = h

there_unflipped : (b : Row) (rows : List Row) → 0 < count_of b (unflipped rows) → (a : Row) × (0 < count_of a rows) × (b ≡ flipped a)
there_unflipped b [] there = absurd (omega arith)
there_unflipped b (a ∷ rows) there = elim (cases_lt 0 (count_of b (unflipped rows))) [
  | inl more ↦ (let h = there_unflipped b rows more in (h.0, omega (arith, count_of-cons h.0 a rows, h.1), h.2))
  | inr none ↦ (a, count_of-itself a rows, one_if_same_exact b (flipped a) (omega (arith, count_of-cons b (flipped a) (unflipped rows))))
]

-- One step of the sweep: what lies before the first begin is free, and the rest lies from that row's end on.
pub sweep_step : (x next : Row) (n : ℕ) (busy rest : List Row) → AreFlipped busy → ((q : Row) → 0 < count_of q busy → next.end ≤ q.end) → 0 < n → SameRows (replicate n next ++ rest) busy
    → SameRows (parts x (unflipped busy)) (parts (row_until next.end x) [] ++ parts (row_since next.begin x) (unflipped rest))
sweep_step x next n busy rest flip first some out = record {
  each = λ r.
      let b = flipped next in
      let next_there : 0 < count_of next busy = omega (arith, out.each next, count_of-append next (replicate n next) rest, copies n some) in
      let lives = flip next next_there in
      parts_same (one_if_same r) x (unflipped busy) (replicate n (flipped next) ++ unflipped rest) (flip_counts n next busy rest out)
      ∙ (one_of_copies r x (flipped next) n (unflipped rest) some lives
      ∙ (split_sum (one_if_same r) x (flipped next) (unflipped rest)
      ∙ omega (
        arith,
        drop_all r (row_until next.end x) (unflipped rest) (λ c there. later c there),
        count_of-append r (parts (row_until next.end x) []) (parts (row_since next.begin x) (unflipped rest)),
      )));
}
  where
    copies : (n : ℕ) → 0 < n → 0 < count_of next (replicate n next)
    copies zero some = absurd (omega arith)
    copies (suc n) some = count_of-itself next (replicate n next)

    later : (c : Row) → 0 < count_of c (unflipped rest) → (c.begin < c.end) × NeverMeet (row_until next.end x) c
    later c there =
        let h = there_unflipped c rest there in
        let a = h.0 in
        let in_rest = h.1 in
        let in_busy : 0 < count_of h.0 busy = omega (arith, out.each h.0, count_of-append h.0 (replicate n next) rest, in_rest) in
        let lives = flip h.0 in_busy in
        let after = first h.0 in_busy in
        subst (λ (q : Row). (q.begin < q.end) × NeverMeet (row_until next.end x) q) (sym h.2) (lives, inl (omega arith))

pub fewer_flipped : (next : Row) (n : ℕ) (busy rest : List Row) → SameRows (replicate n next ++ rest) busy → AreFlipped busy → AreFlipped rest
fewer_flipped next n busy rest out flip r there = flip r (omega (arith, out.each r, count_of-append r (replicate n next) rest))

-- ---- what is gathered

module _ (tests : List Test) (x : Row) where
  pub gathers_none : (busy : List Row) → Gathers tests [] x busy busy
  gathers_none busy = record { flip = λ h. h; same = record { each = λ r. parts_same (one_if_same r) x (unflipped busy) (unflipped busy ++ []) (record { each = λ q. omega (arith, count_of-append q (unflipped busy) []) }) } }

  pub gathers_along : (xs ys busy mid after : List Row) → Gathers tests xs x busy mid → Gathers tests ys x mid after → Gathers tests (xs ++ ys) x busy after
  gathers_along xs ys busy mid after h k = record {
    flip = λ flip. k.flip (h.flip flip);
    same = record {
      each = λ r.
          k.same.each r
          ∙ (parts_same (one_if_same r) x (unflipped mid ++ matching tests x ys) (matching tests x ys ++ unflipped mid) (record { each = λ q. omega (arith, count_of-append q (unflipped mid) (matching tests x ys), count_of-append q (matching tests x ys) (unflipped mid)) })
          ∙ ((same_with x (matching tests x ys) (unflipped mid) (unflipped busy ++ matching tests x xs) h.same).each r
          ∙ parts_same (one_if_same r) x (matching tests x ys ++ (unflipped busy ++ matching tests x xs)) (unflipped busy ++ matching tests x (xs ++ ys)) (record {
            each = λ q. omega (
              arith,
              count_of-append q (matching tests x ys) (unflipped busy ++ matching tests x xs),
              count_of-append q (unflipped busy) (matching tests x xs),
              count_of-append q (unflipped busy) (matching tests x (xs ++ ys)),
              count-filter q (λ b. passes tests x.payload b.payload) (xs ++ ys),
              count-filter q (λ b. passes tests x.payload b.payload) xs,
              count-filter q (λ b. passes tests x.payload b.payload) ys,
              both (passes tests x.payload q.payload) q,
            );
          })));
    };
  }
    where
      both : (b : Bool) (q : Row) → cond b (count_of q (xs ++ ys)) 0 ≡ cond b (count_of q xs) 0 + cond b (count_of q ys) 0
      both true q = count_of-append q xs ys
      both false q = refl

  away : (o : Row) → lives_within x.begin x.end o ≡ false → NeverMeet x o
  away o is = elim (cases_lt x.begin o.end) [
    | inl less ↦ elim (cases_lt o.begin x.end) [
      | inl under ↦ absurd (let yes : lives_within x.begin x.end o ≡ true = λ i. lt-ltb x.begin o.end less i && lt-ltb o.begin x.end under i in let wrong = sym yes ∙ is in cc)
      | inr over ↦ inl over
    ]
    | inr over ↦ inr over
  ]

  meet_step : (o : Row) (os os' : List Row) (pass lives : Bool) → passes tests x.payload o.payload ≡ pass → lives_within x.begin x.end o ≡ lives → IsRow o → SameRows (parts x (matching tests x os)) (parts x (matching tests x os'))
      → SameRows (parts x (cond pass (o ∷ matching tests x os) (matching tests x os))) (parts x (matching tests x (cond lives (o ∷ os') os')))
  meet_step o os os' true true p l row same =
      subst (λ (c : Bool). SameRows (parts x (o ∷ matching tests x os)) (parts x (cond c (o ∷ matching tests x os') (matching tests x os')))) (sym p) (same_with x (o ∷ []) (matching tests x os) (matching tests x os') same)
  meet_step o os os' true false p l row same = record { each = λ r. parts_apart (one_if_same r) x o (matching tests x os) row.lives (away o l) ∙ same.each r }
  meet_step o os os' false true p l row same =
      subst (λ (c : Bool). SameRows (parts x (matching tests x os)) (parts x (cond c (o ∷ matching tests x os') (matching tests x os')))) (sym p) same
  meet_step o os os' false false p l row same = same

  -- only rows that meet x matter for it
  only_meeting : (os : List Row) → AreRows os → SameRows (parts x (matching tests x os)) (parts x (matching tests x (filter (lives_within x.begin x.end) os)))
  only_meeting [] are = record { each = λ r. refl }
  only_meeting (o ∷ os) are = meet_step o os (filter (lives_within x.begin x.end) os) (passes tests x.payload o.payload) (lives_within x.begin x.end o) refl refl (first_is o os are) (only_meeting os (others_are o os are))

  -- rows that are the same, but for those that don't meet x
  pub gathers_like : (xs ys busy after : List Row) → AreRows xs → AreRows ys → filter (lives_within x.begin x.end) xs ≡ filter (lives_within x.begin x.end) ys → Gathers tests xs x busy after → Gathers tests ys x busy after
  gathers_like xs ys busy after xs_are ys_are like h = record {
    flip = h.flip;
    same = same_along (parts x (unflipped after)) (parts x (unflipped busy ++ matching tests x xs)) (parts x (unflipped busy ++ matching tests x ys)) h.same (same_with x (unflipped busy) (matching tests x xs) (matching tests x ys) (record {
      each = λ r. (only_meeting xs xs_are).each r ∙ ((λ i. count_of r (parts x (matching tests x (like i)))) ∙ sym ((only_meeting ys ys_are).each r));
    }));
  }

  -- one row more, as often as it stands there
  pub gathers_copies : (o : Row) (n : ℕ) (busy after : List Row) → 0 < n → IsRow o → passes tests x.payload o.payload ≡ true → SameRows after (flipped o ∷ busy) → Gathers tests (replicate n o) x busy after
  gathers_copies o n busy after some row pass same = record {
    flip = λ flip r there. elim (cases_lt 0 (count_of r busy)) [
      | inl was ↦ flip r was
      | inr none ↦ (let lives = row.lives in subst (λ (q : Row). q.end < q.begin) (sym (one_if_same_exact r (flipped o) (omega (arith, same.each r, count_of-cons r (flipped o) busy)))) lives)
    ];
    same = record {
      each = λ r.
          parts_same (one_if_same r) x (unflipped after) (bare ∷ unflipped busy) (same_flat_map (λ (q : Row). flipped q ∷ []) after (flipped o ∷ busy) same)
          ∙ (sym (one_of_copies r x o n (unflipped busy) some row.lives)
          ∙ parts_same (one_if_same r) x (replicate n o ++ unflipped busy) (unflipped busy ++ matching tests x (replicate n o)) (record {
            each = λ q. omega (arith, count_of-append q (replicate n o) (unflipped busy), count_of-append q (unflipped busy) (matching tests x (replicate n o)), ap (count_of q) (all_pass n));
          }));
    };
  }
    where
      bare : Row
      bare = record { end = o.end; begin = o.begin; payload = [] }

      all_pass : (n : ℕ) → matching tests x (replicate n o) ≡ replicate n o
      all_pass zero = refl
      all_pass (suc n) = ap {B = List Row} (λ c. cond c (o ∷ matching tests x (replicate n o)) (matching tests x (replicate n o))) pass ∙ ap (λ (rows : List Row). o ∷ rows) (all_pass n)

  -- rows that don't pass, or don't meet x
  pub gathers_away : (o : Row) (n : ℕ) (busy : List Row) → IsRow o → (passes tests x.payload o.payload ≡ true → lives_within x.begin x.end o ≡ true → ⊥) → Gathers tests (replicate n o) x busy busy
  gathers_away o n busy row not_both = record {
    flip = λ flip. flip;
    same = record {
      each = λ r.
          parts_same (one_if_same r) x (unflipped busy) (unflipped busy ++ []) (record { each = λ q. omega (arith, count_of-append q (unflipped busy) []) })
          ∙ sym ((same_with x (unflipped busy) (matching tests x (replicate n o)) [] (record { each = λ q. none_at q (passes tests x.payload o.payload) refl n })).each r);
    };
  }
    where
      apart : passes tests x.payload o.payload ≡ true → NeverMeet x o
      apart pass = away o (not_true (lives_within x.begin x.end o) (not_both pass))
        where
          not_true : (b : Bool) → (b ≡ true → ⊥) → b ≡ false
          not_true true wrong = absurd (wrong refl)
          not_true false wrong = refl

      none_at : (q : Row) (pass : Bool) → passes tests x.payload o.payload ≡ pass → (n : ℕ) → count_of q (parts x (matching tests x (replicate n o))) ≡ count_of q (parts x [])
      none_at q pass p zero = refl
      none_at q true p (suc n) =
          ap (λ (c : Bool). count_of q (parts x (cond c (o ∷ matching tests x (replicate n o)) (matching tests x (replicate n o))))) p
          ∙ (parts_apart (one_if_same q) x o (matching tests x (replicate n o)) row.lives (apart p)
          ∙ none_at q true p n)
      none_at q false p (suc n) = ap (λ (c : Bool). count_of q (parts x (cond c (o ∷ matching tests x (replicate n o)) (matching tests x (replicate n o))))) p ∙ none_at q false p n

-- what isn't both
pub not_both : (tests : List Test) (x o : Row) → (lives_within x.begin x.end o && passes tests x.payload o.payload) ≡ false → passes tests x.payload o.payload ≡ true → lives_within x.begin x.end o ≡ true → ⊥
not_both tests x o none pass lives = absurd (let yes : (lives_within x.begin x.end o && passes tests x.payload o.payload) ≡ true = λ i. lives i && pass i in let wrong = sym yes ∙ none in cc)

kept_some : (b : Bool) (n m : ℕ) → m ≡ cond b n 0 → 0 < m → (b ≡ true) × (0 < n)
kept_some true n m is there = (refl, omega (arith, is))
kept_some false n m is there = absurd (omega (arith, is))

-- a row that is found among those that ended by a time
pub ended_found : (time : ℕ) (n : Row) (rows found : List Row) → SameRows found (filter (ends_by time) rows) → 0 < count_of n found → (0 < count_of n rows) × (n.end ≤ time)
ended_found time n rows found same there =
    let h = kept_some (ends_by time n) (count_of n rows) (count_of n found) (same.each n ∙ count-filter n (ends_by time) rows) there in
    (h.1, leb-true n.end time h.0)

module _ (from to : ℕ) where
  window : (r : Row) (xs ys zs : List Row) → count_of r xs ≡ count_of r ys + count_of r zs → count_of r (filter (lives_within from to) xs) ≡ count_of r (filter (lives_within from to) ys) + count_of r (filter (lives_within from to) zs)
  window r xs ys zs is = omega (
    arith,
    count-filter r (lives_within from to) xs,
    count-filter r (lives_within from to) ys,
    count-filter r (lives_within from to) zs,
    pick (lives_within from to r),
  )
    where
      pick : (b : Bool) → cond b (count_of r xs) 0 ≡ cond b (count_of r ys) 0 + cond b (count_of r zs) 0
      pick true = is
      pick false = refl

  -- the sweep goes on behind the next row
  pub sweep_on : (x next x' : Row) (n : ℕ) (busy rest found found' target : List Row) → AreFlipped busy → IsFirst next busy → (n ≡ count_of next busy) → SameRows (replicate n next ++ rest) busy → found' ≡ found ++ filter (lives_within from to) (parts (row_until next.end x) []) → x' ≡ row_since next.begin x
      → SameRows (found ++ filter (lives_within from to) (parts x (unflipped busy))) target → SameRows (found' ++ filter (lives_within from to) (parts x' (unflipped rest))) target
  sweep_on x next x' n busy rest found found' target flip first is out appended moved so_far =
      let some = first.there in
      let step = sweep_step x next n busy rest flip (λ q there. ends_first next q (first.least q there)) (omega (arith, is)) out in
      subst (λ (y : Row). SameRows (found' ++ filter (lives_within from to) (parts y (unflipped rest))) target) (sym moved)
      (record {
        each = λ r. omega (
          arith,
          so_far.each r,
          ap (count_of r) appended,
          count_of-append r found (filter (lives_within from to) (parts x (unflipped busy))),
          count_of-append r found (filter (lives_within from to) (parts (row_until next.end x) [])),
          count_of-append r found' (filter (lives_within from to) (parts (row_since next.begin x) (unflipped rest))),
          window r (parts x (unflipped busy)) (parts (row_until next.end x) []) (parts (row_since next.begin x) (unflipped rest)) (step.each r ∙ count_of-append r (parts (row_until next.end x) []) (parts (row_since next.begin x) (unflipped rest))),
        );
      })

  -- and ends where no row is left
  pub sweep_ends : (x : Row) (busy found found' target : List Row) → busy ≡ [] → found' ≡ found ++ filter (lives_within from to) (parts (row_until x.end x) []) → SameRows (found ++ filter (lives_within from to) (parts x (unflipped busy))) target → SameRows found' target
  sweep_ends x busy found found' target none appended so_far =
      let whole : min x.end x.end ≡ x.end = omega arith in
      record {
        each = λ r.
            ap (count_of r) appended
            ∙ (ap (λ n. count_of r (found ++ filter (lives_within from to) (parts (record x { end = n }) []))) whole
            ∙ (ap (λ (rows : List Row). count_of r (found ++ filter (lives_within from to) (parts x (unflipped rows)))) (sym none)
            ∙ so_far.each r));
      }

none_lives : (x : Row) (rows : List Row) → FOREVER ≤ x.begin → AreRows rows → filter (lives_within x.begin x.end) rows ≡ []
none_lives x [] late are = refl
none_lives x (o ∷ rows) late are =
    let row = first_is o rows are in
    let ends = row.ends in
    let fails : lives_within x.begin x.end o ≡ false = λ i. le-ltb x.begin o.end (omega arith) i && nat_lt o.begin x.end in
    ap {B = List Row} (λ b. cond b (o ∷ filter (lives_within x.begin x.end) rows) (filter (lives_within x.begin x.end) rows)) fails ∙ none_lives x rows late (others_are o rows are)

-- a row that begins after all times meets none
pub gathers_beyond : (tests : List Test) (x : Row) (rows busy : List Row) → FOREVER ≤ x.begin → AreRows rows → Gathers tests rows x busy busy
gathers_beyond tests x rows busy late are = gathers_like tests x [] rows busy busy none_are are (sym (none_lives x rows late are)) (gathers_none tests x busy)

-- both ranges of rows that were found
pub gathers_both : (tests : List Test) (x : Row) (first second rows busy mid after : List Row) → AreRows rows → AreAmong first rows → AreAmong second rows → filter (lives_within x.begin x.end) (first ++ second) ≡ filter (lives_within x.begin x.end) rows
    → (AreRows first → Gathers tests first x busy mid) → (AreRows second → Gathers tests second x mid after) → Gathers tests rows x busy after
gathers_both tests x first second rows busy mid after are in_first in_second like h k =
    let first_are = fewer_are first rows in_first are in
    let second_are = fewer_are second rows in_second are in
    gathers_like tests x (first ++ second) rows busy after (both_are first second first_are second_are) are like (gathers_along tests x first second busy mid after (h first_are) (k second_are))

-- what is found is what a row has of parts that meet a time
pub around_is : (tests : List Test) (from to : ℕ) (others : List Row) (row start part : Row) (none busy found : List Row) → start ≡ row → none ≡ [] → Narrows tests from to others start part → AreRows others → Gathers tests others part none busy
    → (AreFlipped busy → SameRows found (filter (lives_within from to) (parts part (unflipped busy)))) → SameRows found (filter (lives_within from to) (excepted tests others row))
around_is tests from to others row start part none busy found at empty narrows are gathers found_is =
    let narrowed = subst (λ (x : Row). Narrows tests from to others x part) at narrows in
    let gathered = subst (λ (rows : List Row). Gathers tests others part rows busy) empty gathers in
    record {
      each = λ r.
          (found_is (gathered.flip (λ q there. absurd (omega arith)))).each r
          ∙ (count-filter r (lives_within from to) (parts part (unflipped busy))
          ∙ (pick r (lives_within from to r) refl (gathered.same.each r) (λ is. (narrowed.same others are (λ q there. there)).each r is)
          ∙ sym (count-filter r (lives_within from to) (excepted tests others row))));
    }
  where
    pick : (r : Row) (b : Bool) → lives_within from to r ≡ b → count_of r (parts part (unflipped busy)) ≡ count_of r (excepted tests others part) → (lives_within from to r ≡ true → count_of r (excepted tests others part) ≡ count_of r (excepted tests others row))
        → cond b (count_of r (parts part (unflipped busy))) 0 ≡ cond b (count_of r (excepted tests others row)) 0
    pick r true is one two = one ∙ two is
    pick r false is one two = refl
