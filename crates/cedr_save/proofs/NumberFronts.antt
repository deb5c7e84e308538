-- Numbers whose digits begin with others.
use Rattle.std.proofs.Common.{◌≡◌, ◌≢◌, ℕ, zero, suc, ◌+◌, ◌*◌, ◌/◌, ◌%◌, ◌^◌, ◌<◌, ◌≤◌, ◌⊎◌, inl, inr, min, List, [], ◌∷◌, ◌++◌, get_or, refl, ap, sym, ◌∙◌, arith, append_assoc, append-nil}
use Rattle.std.specs.Prelude.{decimal}
use Rattle.std.proofs.lemmas.Bool.{cases_lt}
use Rattle.std.proofs.lemmas.Fmt.{decimal_by_steps, decimal_digit, decimal_step, first_decimal}
use Rattle.cedr_save.specs.Fronts.{DropsDigits, IsHighest}
use Rattle.cedr_save.proofs.ListLemmas.{first_same, rest_same}

-- ---- the last byte of a text

pub both_none : (t r : List ℕ) → ◌≡◌ {A = List ℕ} [] (t ++ r) → (t ≡ []) × (r ≡ [])
both_none [] r h = (refl, sym h)
both_none (c ∷ t) r h = absurd (let e = h in cc)

-- of a text with one more byte a front is the whole, or a front of the text
last_byte : (xs : List ℕ) (x : ℕ) (t r : List ℕ) → xs ++ x ∷ [] ≡ t ++ r → ((r ≡ []) × (t ≡ xs ++ x ∷ [])) ⊎ ((more : List ℕ) × (xs ≡ t ++ more))
last_byte xs x [] r h = inr (xs, refl)
last_byte [] x (c ∷ t) r h =
    let none = both_none t r (rest_same x c [] (t ++ r) h) in
    inl (none.1, ap (λ (b : ℕ). b ∷ t) (sym (first_same x c [] (t ++ r) h)) ∙ ap (λ (bs : List ℕ). x ∷ bs) none.0)
last_byte (d ∷ xs) x (c ∷ t) r h = elim (last_byte xs x t r (rest_same d c (xs ++ x ∷ []) (t ++ r) h)) [
  | inl all ↦ inl (all.0, ap (λ (b : ℕ). b ∷ t) (sym (first_same d c (xs ++ x ∷ []) (t ++ r) h)) ∙ ap (λ (bs : List ℕ). d ∷ bs) all.1)
  | inr front ↦ inr (front.0, ap (λ (b : ℕ). b ∷ xs) (first_same d c (xs ++ x ∷ []) (t ++ r) h) ∙ ap (λ (bs : List ℕ). c ∷ bs) front.1)
]

-- ---- fronts of numbers

-- the number whose digits a front of a number's digits is
pub record IsNumberFront (m : ℕ) (front : List ℕ) : Type 0 where
  pub number : ℕ
  pub count : ℕ
  pub shortens : DropsDigits count m number
  pub low : number ≤ m
  pub is : front ≡ decimal number

record FrontsOf (m : ℕ) (ds : List ℕ) : Type 0 where
  same : ds ≡ decimal m
  front : (t r : List ℕ) → t ≢ [] → ds ≡ t ++ r → IsNumberFront m t

one_digit : (m : ℕ) → m < 10 → FrontsOf m ((48 + m) ∷ [])
one_digit m low = record {
  same = sym (decimal_digit m low);
  front = λ t r some h. whole t r some (last_byte [] (48 + m) t r h);
} where
  whole : (t r : List ℕ) → t ≢ [] → ((r ≡ []) × (t ≡ (48 + m) ∷ [])) ⊎ ((more : List ℕ) × ([] ≡ t ++ more)) → IsNumberFront m t
  whole t r some (inl all) = record { number = m; count = 0; shortens = refl; low = omega arith; is = all.1 ∙ sym (decimal_digit m low) }
  whole t r some (inr none) = absurd (some (both_none t none.0 none.1).0)

more_digits : (m : ℕ) (ds : List ℕ) → m < 2 ^ 64 → 10 ≤ m → FrontsOf (m / 10) ds → FrontsOf m (ds ++ (48 + m % 10) ∷ [])
more_digits m ds fits high rest = record {
  same = ap (λ (bs : List ℕ). bs ++ (48 + m % 10) ∷ []) rest.same ∙ sym (decimal_step m high fits);
  front = λ t r some h. at t r some (last_byte ds (48 + m % 10) t r h);
} where
  at : (t r : List ℕ) → t ≢ [] → ((r ≡ []) × (t ≡ ds ++ (48 + m % 10) ∷ [])) ⊎ ((more : List ℕ) × (ds ≡ t ++ more)) → IsNumberFront m t
  at t r some (inl all) = record { number = m; count = 0; shortens = refl; low = omega arith; is = all.1 ∙ (ap (λ (bs : List ℕ). bs ++ (48 + m % 10) ∷ []) rest.same ∙ sym (decimal_step m high fits)) }
  at t r some (inr front) =
      let f = rest.front t front.0 some front.1 in
      let low = f.low in
      record { number = f.number; count = suc f.count; shortens = f.shortens; low = omega arith; is = f.is }

-- each front of a number's digits is the digits of that number without some of the last
pub number_front : (m : ℕ) → m < 2 ^ 64 → (t r : List ℕ) → t ≢ [] → decimal m ≡ t ++ r → IsNumberFront m t
number_front m fits t r some h = (fronts m fits).front t r some h where
  step : (n : ℕ) (ds : List ℕ) → 10 ≤ n → (n / 10 < 2 ^ 64 → FrontsOf (n / 10) ds) → n < 2 ^ 64 → FrontsOf n (ds ++ (48 + n % 10) ∷ [])
  step n ds high rest low = more_digits n ds low high (rest (omega arith))

  fronts : (n : ℕ) → n < 2 ^ 64 → FrontsOf n (decimal n)
  fronts n low = decimal_by_steps (λ k ds. k < 2 ^ 64 → FrontsOf k ds) (λ k one fit. one_digit k one) step n low low

-- ---- the greatest number with some digits in front

abbrev pub lows : ℕ → ℕ → ℕ
lows zero n = n
lows (suc k) n = lows k n * 10

abbrev pub tops : ℕ → ℕ → ℕ
tops zero n = n
tops (suc k) n = tops k n * 10 + 9

within : (k m n : ℕ) → DropsDigits k m n → (lows k n ≤ m) × (m ≤ tops k n)
within zero m n is = (omega arith, omega arith)
within (suc k) m n is = let r = within k (m / 10) n is in let low = r.0 in let high = r.1 in (omega arith, omega arith)

back : (k m n : ℕ) → lows k n ≤ m → m ≤ tops k n → DropsDigits k m n
back zero m n low high = omega arith
back (suc k) m n low high = back k (m / 10) n (omega arith) (omega arith)

lows_none : (k : ℕ) → lows k 0 ≡ 0
lows_none zero = refl
lows_none (suc k) = let r = lows_none k in omega arith

least : (k n : ℕ) → n ≤ lows k n
least zero n = omega arith
least (suc k) n = let r = least k n in omega arith

lows_grow : (j k n : ℕ) → j ≤ k → lows j n ≤ lows k n
lows_grow zero k n low = least k n
lows_grow (suc j) zero n low = absurd (omega arith)
lows_grow (suc j) (suc k) n low = let r = lows_grow j k n (omega arith) in omega arith

least_top : (k n : ℕ) → n ≤ tops k n
least_top zero n = omega arith
least_top (suc k) n = let r = least_top k n in omega arith

tops_grow : (j k n : ℕ) → j ≤ k → tops j n ≤ tops k n
tops_grow zero k n low = least_top k n
tops_grow (suc j) zero n low = absurd (omega arith)
tops_grow (suc j) (suc k) n low = let r = tops_grow j k n (omega arith) in omega arith

lows_tops : (k n : ℕ) → lows k n ≤ tops k n
lows_tops zero n = omega arith
lows_tops (suc k) n = let r = lows_tops k n in omega arith

-- the digits of a number begin with those of the number without its last ones
pub front_text : (k m n : ℕ) → m < 2 ^ 64 → 1 ≤ n → DropsDigits k m n → (r : List ℕ) × (decimal m ≡ decimal n ++ r)
front_text zero m n fits some is = ([], ap decimal is ∙ sym (append-nil (decimal n)))
front_text (suc k) m n fits some is =
    let r = front_text k (m / 10) n (omega arith) some is in
    let low = (within k (m / 10) n is).0 in
    let one = least k n in
    (r.0 ++ (48 + m % 10) ∷ [], decimal_step m (omega arith) fits ∙ (ap (λ (bs : List ℕ). bs ++ (48 + m % 10) ∷ []) r.1 ∙ append_assoc (decimal n) r.0 ((48 + m % 10) ∷ [])))

-- how far digits were added behind a number
pub record IsRaised (number last low high : ℕ) : Type 0 where
  pub count : ℕ
  pub low_is : low ≡ lows count number
  pub high_is : high ≡ min (tops count number) last
  pub within : low ≤ last
  pub none : number ≡ 0 → count ≡ 0

pub not_raised : (number last : ℕ) → number ≤ last → IsRaised number last number number
not_raised number last low = record { count = 0; low_is = refl; high_is = omega arith; within = low; none = λ e. refl }

pub raise : (number last low high : ℕ) → IsRaised number last low high → 0 < low → low ≤ last / 10 → IsRaised number last (low * 10) (min (high * 10 + 9) last)
raise number last low high r some more =
    let h = r.high_is in
    let l = r.low_is in
    record { count = suc r.count; low_is = omega arith; high_is = omega arith; within = omega arith; none = λ e. absurd (omega (arith, some, l, ap (lows r.count) e, lows_none r.count)) }

most_at : (number last low high m k : ℕ) (r : IsRaised number last low high) → last < lows (suc r.count) number → m ≤ last → lows k number ≤ m → m ≤ tops k number → m ≤ high
most_at number last low high m k r past fits begins ends = elim (cases_lt r.count k) [
  | inl more ↦ absurd (omega (arith, lows_grow (suc r.count) k number more, past, fits, begins))
  | inr fewer ↦ omega (arith, tops_grow k r.count number fewer, ends, fits, r.high_is)
]

pub raised_highest : (number last low high : ℕ) → IsRaised number last low high → ((0 < low → ⊥) ⊎ (last / 10 < low)) → IsHighest number last high
raised_highest number last low high r ends = record {
  low = (let h = r.high_is in omega arith);
  count = r.count;
  shortens = back r.count high number (let h = r.high_is in let l = r.low_is in let w = r.within in let t = lows_tops r.count number in omega arith) (let h = r.high_is in omega arith);
  most = λ m k some fits is.
      let bounds = within k m number is in
      elim ends [
        | inl none ↦ absurd (none (let l = r.low_is in let one = least r.count number in omega arith))
        | inr past ↦ most_at number last low high m k r (let l = r.low_is in omega arith) fits bounds.0 bounds.1
      ];
  none = λ e. omega (arith, e, r.high_is, ap (λ (k : ℕ). tops k number) (r.none e));
}

-- a number that isn't nought has no digits that begin with a nought
pub digits_some : (m : ℕ) (t r : List ℕ) (d : IsNumberFront m t) → m < 2 ^ 64 → decimal m ≡ t ++ r → d.number ≡ 0 → m ≡ 0
digits_some m t r d fits h none = at (cases_lt 0 m) where
  digits : decimal m ≡ 48 ∷ r
  digits = h ∙ ap (λ (bs : List ℕ). bs ++ r) (d.is ∙ (ap decimal none ∙ decimal_digit 0 (omega arith)))

  at : (0 < m) ⊎ (m ≤ 0) → m ≡ 0
  at (inl some) = absurd (omega (arith, first_decimal m some fits, ap (λ (bs : List ℕ). get_or bs 0 0) digits))
  at (inr low) = omega arith
