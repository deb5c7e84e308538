-- What a change does to one part turns it into what it is after the change.
use Rattle.std.proofs.Common.{◌≡◌, ℕ, ◌<◌, ◌≤◌, ◌⊎◌, inl, inr, List, [], ◌∷◌, ◌++◌, Bool, true, false, cond, refl, ap, sym, ◌∙◌, subst, arith, min, max}
use Rattle.std.specs.Prelude.{nat_lt, nat_le, ◌&&◌, not}
use Rattle.std.proofs.lemmas.Bool.{ltb-true, ltb-false, lt-ltb, le-ltb, le-leb, leb-true, and_parts, cases_lt}
use Rattle.std.proofs.lemmas.List.{append-nil}
use Rattle.cedr_base.specs.declared.row.Row.{Row}
use Rattle.cedr_base.specs.declared.change.Change.TheVariants.{Add, Cut}
use Rattle.cedr_base.specs.Rows.{IsRow, count_of, one_if_same}
use Rattle.cedr_base.specs.Changes.{remnant}
use Rattle.cedr_base.proofs.Bags.{count_of-cons, one_if_same_exact}
use Rattle.change_laws.proofs.Moves.{remnant_some, remnant_none}
use Rattle.op_except.specs.Parts.{row_until, row_since, parts, meets}
use Rattle.op_except.specs.Steps.{shortened_at, rest_added, came_at, before_withdrawn, rest_withdrawn, went_at, unfreed}
use Rattle.op_except.specs.PartLaws.{split_sum}
use Rattle.op_except.specs.Turns.{TurnsBy}
use Rattle.op_except.specs.Standing.{NeverMeet}
use Rattle.op_except.proofs.PartLemmas.{single, nothing_left, parts_empty, parts_apart}
use Rattle.op_except.proofs.TurnLemmas.{turns_none, turns_alike, turns_append, turn_add, turn_cut, turn_withdrawn}

-- a row that ends after a time is taken where the row of port 0 ends then
abbrev pub past : ℕ → Row → Bool
past e r = nat_lt e r.end

remnant_fails : (goes : Row → Bool) (x r : Row) (e : ℕ) (lives : Bool) → nat_lt x.begin e ≡ lives → (x.begin < e → goes (record x { end = e }) ≡ false) → goes r ≡ true → count_of r (cond lives (record x { end = e } ∷ []) []) ≡ 0
remnant_fails goes x r e false is fails goes_r = refl
remnant_fails goes x r e true is fails goes_r = elim (cases_lt 0 (one_if_same r (record x { end = e }))) [
  | inl there ↦
      let same = ap goes (one_if_same_exact r (record x { end = e }) there) in
      absurd (let wrong = sym (fails (ltb-true x.begin e is)) ∙ (sym same ∙ goes_r) in cc)
  | inr none ↦ omega (arith, count_of-cons r (record x { end = e }) [], none)
]

module _ (t : ℕ) where
  shorten_at : (x : Row) (e : ℕ) (long : Bool) → nat_lt e x.end ≡ long → IsRow x → t ≤ e → TurnsBy t (past e) (x ∷ []) (parts (row_until e x) []) (cond long (Cut x (max x.begin e) ∷ []) [])
  shorten_at x e true is row from =
      let longer = ltb-true e x.end is in
      let lives = row.lives in
      turns_alike t (past e) (x ∷ []) (x ∷ []) (remnant x (max x.begin e)) (parts (row_until e x) []) (Cut x (max x.begin e) ∷ [])
      (λ r. refl)
      (λ r. ap (count_of r) (left longer))
      (turn_cut t (past e) x (max x.begin e) row (omega arith) (omega arith) (omega arith) is
      (λ r goes. remnant_fails (past e) x r (max x.begin e) (nat_lt x.begin (max x.begin e)) refl (λ less. le-ltb e (max x.begin e) (omega arith)) goes))
    where
      left : e < x.end → parts (row_until e x) [] ≡ remnant x (max x.begin e)
      left longer = elim (cases_lt x.begin e) [
        | inl less ↦ let is : min x.end e ≡ max x.begin e = omega arith in ap {B = List Row} (λ n. cond (nat_lt x.begin n) (record x { end = n } ∷ []) []) is
        | inr over ↦ nothing_left (row_until e x) (omega arith) ∙ sym (remnant_none x (max x.begin e) (omega arith))
      ]
  shorten_at x e false is row from =
      let over = ltb-false e x.end is in
      let same : min x.end e ≡ x.end = omega arith in
      turns_none t (past e) (x ∷ []) (parts (row_until e x) []) (λ r. ap (λ n. count_of r (parts (record x { end = n }) [])) same ∙ ap (count_of r) (single x row.lives))

  -- where the row of port 0 ends earlier
  pub shorten_turns : (x : Row) (e : ℕ) → IsRow x → t ≤ e → TurnsBy t (past e) (x ∷ []) (parts (row_until e x) []) (shortened_at e x)
  shorten_turns x e row from = shorten_at x e (nat_lt e x.end) refl row from

  add_rest : (b x : Row) (lives : Bool) → nat_lt b.end x.end ≡ lives → IsRow x → x.begin < b.end → t ≤ b.begin → b.begin < b.end → TurnsBy t (λ r. meets r b) [] (parts (row_since b.end x) []) (cond lives (Add (row_since b.end x) ∷ []) [])
  add_rest b x true is row before from b_lives =
      let less = ltb-true b.end x.end is in
      let time = row.ends in
      let rest : IsRow (row_since b.end x) = record { lives = omega arith; begins = omega arith; ends = time } in
      turns_alike t (λ r. meets r b) [] [] (row_since b.end x ∷ []) (parts (row_since b.end x) []) (Add (row_since b.end x) ∷ []) (λ r. refl) (λ r. ap (count_of r) (single (row_since b.end x) (omega arith)))
      (turn_add t (λ r. meets r b) (row_since b.end x) rest (omega arith) (ap (λ c. c && nat_lt b.begin x.end) (le-ltb (max x.begin b.end) b.end (omega arith))))
  add_rest b x false is row before from b_lives =
      let over = ltb-false b.end x.end is in
      turns_none t (λ r. meets r b) [] (parts (row_since b.end x) []) (λ r. ap (count_of r) (nothing_left (row_since b.end x) (omega arith)))

  came_first : (b x : Row) → meets x b ≡ true → IsRow x → t ≤ b.begin → TurnsBy t (λ r. meets r b) (x ∷ []) (parts (row_until b.begin x) []) (Cut x (max x.begin b.begin) ∷ [])
  came_first b x is row from =
      let both = and_parts (nat_lt x.begin b.end) (nat_lt b.begin x.end) is in
      let before = ltb-true x.begin b.end both.0 in
      let after = ltb-true b.begin x.end both.1 in
      let lives = row.lives in
      turns_alike t (λ r. meets r b) (x ∷ []) (x ∷ []) (remnant x (max x.begin b.begin)) (parts (row_until b.begin x) []) (Cut x (max x.begin b.begin) ∷ [])
      (λ r. refl)
      (λ r. ap (count_of r) (left after))
      (turn_cut t (λ r. meets r b) x (max x.begin b.begin) row (omega arith) (omega arith) (omega arith) is
      (λ r goes. remnant_fails (λ r. meets r b) x r (max x.begin b.begin) (nat_lt x.begin (max x.begin b.begin)) refl (λ less. fails less) goes))
    where
      left : b.begin < x.end → parts (row_until b.begin x) [] ≡ remnant x (max x.begin b.begin)
      left after = elim (cases_lt x.begin b.begin) [
        | inl less ↦ let is : min x.end b.begin ≡ max x.begin b.begin = omega arith in ap {B = List Row} (λ n. cond (nat_lt x.begin n) (record x { end = n } ∷ []) []) is
        | inr over ↦ nothing_left (row_until b.begin x) (omega arith) ∙ sym (remnant_none x (max x.begin b.begin) (omega arith))
      ]

      fails : x.begin < max x.begin b.begin → (nat_lt x.begin b.end && nat_lt b.begin (max x.begin b.begin)) ≡ false
      fails less = ap (λ c. nat_lt x.begin b.end && c) (le-ltb b.begin (max x.begin b.begin) (omega arith)) ∙ none (nat_lt x.begin b.end)
        where
          none : (c : Bool) → (c && false) ≡ false
          none true = refl
          none false = refl

  pub apart_by : (b x : Row) → meets x b ≡ false → NeverMeet x b
  apart_by b x is = elim (cases_lt x.begin b.end) [
    | inl less ↦ elim (cases_lt b.begin x.end) [
      | inl under ↦ absurd (let yes : meets x b ≡ true = λ i. lt-ltb x.begin b.end less i && lt-ltb b.begin x.end under i in let wrong = sym yes ∙ is in cc)
      | inr over ↦ inl over
    ]
    | inr over ↦ inr over
  ]

  came_by : (b x : Row) (meeting : Bool) → meets x b ≡ meeting → IsRow x → b.begin < b.end → t ≤ b.begin → TurnsBy t (λ r. meets r b) (x ∷ []) (parts x (b ∷ [])) (cond meeting (Cut x (max x.begin b.begin) ∷ rest_added b x) [])
  came_by b x true is row lives from =
      let before = ltb-true x.begin b.end (and_parts (nat_lt x.begin b.end) (nat_lt b.begin x.end) is).0 in
      turns_append t (λ r. meets r b) (x ∷ []) [] (parts (row_until b.begin x) []) (parts (row_since b.end x) []) (Cut x (max x.begin b.begin) ∷ []) (rest_added b x)
      (came_first b x is row from)
      (add_rest b x (nat_lt b.end x.end) refl row before from lives)
  came_by b x false is row lives from =
      turns_none t (λ r. meets r b) (x ∷ []) (parts x (b ∷ [])) (λ r. parts_apart (one_if_same r) x b [] lives (apart_by b x is) ∙ ap (count_of r) (single x row.lives))

  -- where a matching row comes on port 1
  pub came_turns : (b x : Row) → IsRow x → b.begin < b.end → t ≤ b.begin → TurnsBy t (λ r. meets r b) (x ∷ []) (parts x (b ∷ [])) (came_at b x)
  came_turns b x row lives from = came_by b x (meets x b) refl row lives from

  no_part : (x b : Row) (r : Row) → x.end ≤ b.begin ⊎ b.end ≤ x.begin → IsRow x → b.begin < b.end → count_of r (parts x (b ∷ [])) ≡ count_of r (x ∷ [])
  no_part x b r apart row lives = parts_apart (one_if_same r) x b [] lives apart ∙ ap (count_of r) (single x row.lives)

  after_goes : (b : Row) (e : ℕ) (r : Row) → b.end ≤ r.begin → unfreed b e r ≡ true
  after_goes b e r after = ap (λ c. not (c && nat_lt e r.end)) (le-ltb r.begin b.end after)

  before_goes : (b : Row) (e : ℕ) (r : Row) → r.end ≤ e → unfreed b e r ≡ true
  before_goes b e r before = ap (λ c. not (nat_lt r.begin b.end && c)) (le-ltb e r.end before) ∙ none (nat_lt r.begin b.end)
    where
      none : (c : Bool) → not (c && false) ≡ true
      none true = refl
      none false = refl

  freed_stays : (b : Row) (e : ℕ) (r : Row) → r.begin < b.end → e < r.end → unfreed b e r ≡ false
  freed_stays b e r before after = λ i. not (lt-ltb r.begin b.end before i && lt-ltb e r.end after i)

  rest_goes : (b x : Row) (e : ℕ) (lives : Bool) → nat_lt b.end x.end ≡ lives → IsRow x → x.begin < b.end → t ≤ b.end → TurnsBy t (unfreed b e) (parts (row_since b.end x) []) [] (cond lives (Cut (row_since b.end x) b.end ∷ []) [])
  rest_goes b x e true is row before from =
      let less = ltb-true b.end x.end is in
      let time = row.ends in
      let at : max x.begin b.end ≡ b.end = omega arith in
      let rest : IsRow (row_since b.end x) = record { lives = omega arith; begins = omega arith; ends = time } in
      subst (λ (n : ℕ). TurnsBy t (unfreed b e) (parts (row_since b.end x) []) [] (Cut (row_since b.end x) n ∷ [])) at
      (turns_alike t (unfreed b e) (row_since b.end x ∷ []) (parts (row_since b.end x) []) [] [] (Cut (row_since b.end x) (max x.begin b.end) ∷ []) (λ r. ap (count_of r) (single (row_since b.end x) (omega arith))) (λ r. refl)
      (turn_withdrawn t (unfreed b e) (row_since b.end x) rest (omega arith) (after_goes b e (row_since b.end x) (omega arith))))
  rest_goes b x e false is row before from =
      let over = ltb-false b.end x.end is in
      turns_none t (unfreed b e) (parts (row_since b.end x) []) [] (λ r. sym (ap (count_of r) (nothing_left (row_since b.end x) (omega arith))))

  first_goes : (b x : Row) (e : ℕ) (lives : Bool) → nat_lt x.begin b.begin ≡ lives → IsRow x → b.begin < x.end → b.begin ≤ e → (x.begin < b.begin → t ≤ x.begin)
      → TurnsBy t (unfreed b e) (parts (row_until b.begin x) []) [] (cond lives (Cut (row_until b.begin x) x.begin ∷ []) [])
  first_goes b x e true is row before from late =
      let less = ltb-true x.begin b.begin is in
      let time = row.ends in
      let begins = row.begins in
      let part : IsRow (row_until b.begin x) = record { lives = omega arith; begins = begins; ends = omega arith } in
      turns_alike t (unfreed b e) (row_until b.begin x ∷ []) (parts (row_until b.begin x) []) [] [] (Cut (row_until b.begin x) x.begin ∷ []) (λ r. ap (count_of r) (single (row_until b.begin x) (omega arith))) (λ r. refl)
      (turn_withdrawn t (unfreed b e) (row_until b.begin x) part (late less) (before_goes b e (row_until b.begin x) (omega arith)))
  first_goes b x e false is row before from late =
      let over = ltb-false x.begin b.begin is in
      turns_none t (unfreed b e) (parts (row_until b.begin x) []) [] (λ r. sym (ap (count_of r) (nothing_left (row_until b.begin x) (omega arith))))

  -- nothing stays of b: its neighbours are joined
  went_whole : (b x : Row) (e : ℕ) → IsRow x → b.begin < b.end → e ≡ b.begin → t ≤ e → x.begin < b.end → e < x.end → (x.begin < b.begin → t ≤ x.begin)
      → TurnsBy t (unfreed b e) (parts x (b ∷ [])) (parts x []) (cond (nat_lt x.begin b.begin) (Cut (row_until b.begin x) x.begin ∷ []) [] ++ (rest_withdrawn b x ++ Add x ∷ []))
  went_whole b x e row lives at from before after late =
      turns_alike t (unfreed b e) (parts (row_until b.begin x) [] ++ (parts (row_since b.end x) [] ++ [])) (parts x (b ∷ [])) (x ∷ []) (parts x []) (cond (nat_lt x.begin b.begin) (Cut (row_until b.begin x) x.begin ∷ []) [] ++ (rest_withdrawn b x ++ Add x ∷ []))
      (λ r. ap (λ rows. count_of r (parts (row_until b.begin x) [] ++ rows)) (sym (append-nil (parts (row_since b.end x) []))))
      (λ r. ap (count_of r) (single x row.lives))
      (turns_append t (unfreed b e) (parts (row_until b.begin x) []) (parts (row_since b.end x) [] ++ []) [] (x ∷ []) (cond (nat_lt x.begin b.begin) (Cut (row_until b.begin x) x.begin ∷ []) []) (rest_withdrawn b x ++ Add x ∷ [])
      (first_goes b x e (nat_lt x.begin b.begin) refl row (omega arith) (omega arith) late)
      (turns_append t (unfreed b e) (parts (row_since b.end x) []) [] [] (x ∷ []) (rest_withdrawn b x) (Add x ∷ [])
      (rest_goes b x e (nat_lt b.end x.end) refl row before (omega arith))
      (turn_add t (unfreed b e) x row (begun (cases_lt x.begin b.begin)) (freed_stays b e x before after))))
    where
      begun : (x.begin < b.begin) ⊎ (b.begin ≤ x.begin) → t ≤ x.begin
      begun (inl less) = late less
      begun (inr over) = omega arith

  -- b ends earlier
  went_part : (b x : Row) (e : ℕ) → IsRow x → b.begin < e → e < b.end → t ≤ e → x.begin < b.end → e < x.end
      → TurnsBy t (unfreed b e) (parts x (b ∷ [])) (parts x (record b { end = e } ∷ [])) (rest_withdrawn b x ++ Add (row_since e x) ∷ [])
  went_part b x e row stays shorter from before after =
      let time = row.ends in
      let begins = row.begins in
      let freed : IsRow (row_since e x) = record { lives = omega arith; begins = omega arith; ends = time } in
      turns_append t (unfreed b e) (parts (row_until b.begin x) []) (parts (row_since b.end x) []) (parts (row_until b.begin x) []) (parts (row_since e x) []) [] (rest_withdrawn b x ++ Add (row_since e x) ∷ [])
      (turns_none t (unfreed b e) (parts (row_until b.begin x) []) (parts (row_until b.begin x) []) (λ r. refl))
      (turns_alike t (unfreed b e) (parts (row_since b.end x) [] ++ []) (parts (row_since b.end x) []) (row_since e x ∷ []) (parts (row_since e x) []) (rest_withdrawn b x ++ Add (row_since e x) ∷ [])
      (λ r. sym (ap (count_of r) (append-nil (parts (row_since b.end x) []))))
      (λ r. ap (count_of r) (single (row_since e x) (omega arith)))
      (turns_append t (unfreed b e) (parts (row_since b.end x) []) [] [] (row_since e x ∷ []) (rest_withdrawn b x) (Add (row_since e x) ∷ [])
      (rest_goes b x e (nat_lt b.end x.end) refl row before (omega arith))
      (turn_add t (unfreed b e) (row_since e x) freed (omega arith) (freed_stays b e (row_since e x) (omega arith) after))))

  went_in : (b x : Row) (e : ℕ) (whole : Bool) → nat_le e b.begin ≡ whole → IsRow x → b.begin < b.end → b.begin ≤ e → e < b.end → t ≤ e → x.begin < b.end → e < x.end → (e ≡ b.begin → x.begin < b.begin → t ≤ x.begin)
      → TurnsBy t (unfreed b e) (parts x (b ∷ [])) (parts x (remnant b e)) (cond (whole && nat_lt x.begin b.begin) (Cut (row_until b.begin x) x.begin ∷ []) [] ++ (rest_withdrawn b x ++ Add (cond whole x (row_since e x)) ∷ []))
  went_in b x e true is row lives within shorter from before after late =
      let low = leb-true e b.begin is in
      let at : e ≡ b.begin = omega arith in
      subst (λ (bs : List Row). TurnsBy t (unfreed b e) (parts x (b ∷ [])) (parts x bs) (cond (nat_lt x.begin b.begin) (Cut (row_until b.begin x) x.begin ∷ []) [] ++ (rest_withdrawn b x ++ Add x ∷ []))) (sym (remnant_none b e low))
      (went_whole b x e row lives at from before after (late at))
  went_in b x e false is row lives within shorter from before after late = elim (cases_lt b.begin e) [
    | inl stays ↦
        subst (λ (bs : List Row). TurnsBy t (unfreed b e) (parts x (b ∷ [])) (parts x bs) (rest_withdrawn b x ++ Add (row_since e x) ∷ [])) (sym (remnant_some b e stays))
        (went_part b x e row stays shorter from before after)
    | inr low ↦ absurd (let wrong = sym is ∙ le-leb e b.begin low in cc)
  ]

  remnant_parts : (b x r : Row) (e : ℕ) → IsRow x → b.begin < b.end → e < b.end → (x.end ≤ e ⊎ b.end ≤ x.begin) → b.begin ≤ e → count_of r (parts x (remnant b e)) ≡ count_of r (parts x (b ∷ []))
  remnant_parts b x r e row lives shorter (inr after) within = elim (cases_lt b.begin e) [
    | inl stays ↦ ap (λ bs. count_of r (parts x bs)) (remnant_some b e stays) ∙ (no_part x (record b { end = e }) r (inr (omega arith)) row stays ∙ sym (no_part x b r (inr after) row lives))
    | inr low ↦ ap (λ bs. count_of r (parts x bs)) (remnant_none b e low) ∙ (ap (count_of r) (single x row.lives) ∙ sym (no_part x b r (inr after) row lives))
  ]
  remnant_parts b x r e row lives shorter (inl before) within = elim (cases_lt b.begin e) [
    | inl stays ↦
        ap (λ bs. count_of r (parts x bs)) (remnant_some b e stays)
        ∙ omega (arith, split_sum (one_if_same r) x b [], split_sum (one_if_same r) x (record b { end = e }) [], parts_empty (one_if_same r) (row_since b.end x) [] (omega arith), parts_empty (one_if_same r) (row_since e x) [] (omega arith))
    | inr low ↦ ap (λ bs. count_of r (parts x bs)) (remnant_none b e low) ∙ (ap (count_of r) (single x row.lives) ∙ sym (no_part x b r (inl (omega arith)) row lives))
  ]

  went_by : (b x : Row) (e : ℕ) (freeing : Bool) → (nat_lt x.begin b.end && nat_lt e x.end) ≡ freeing → IsRow x → b.begin < b.end → b.begin ≤ e → e < b.end → t ≤ e → (e ≡ b.begin → x.begin < b.begin → b.begin < x.end → t ≤ x.begin)
      → TurnsBy t (unfreed b e) (parts x (b ∷ [])) (parts x (remnant b e)) (cond freeing (before_withdrawn b e x ++ (rest_withdrawn b x ++ Add (cond (nat_le e b.begin) x (row_since e x)) ∷ [])) [])
  went_by b x e true is row lives within shorter from late =
      let both = and_parts (nat_lt x.begin b.end) (nat_lt e x.end) is in
      let before = ltb-true x.begin b.end both.0 in
      let after = ltb-true e x.end both.1 in
      went_in b x e (nat_le e b.begin) refl row lives within shorter from before after (λ at less. late at less (omega arith))
  went_by b x e false is row lives within shorter from late =
      turns_none t (unfreed b e) (parts x (b ∷ [])) (parts x (remnant b e))
      (λ r. remnant_parts b x r e row lives shorter (sides (cases_lt x.begin b.end) (cases_lt e x.end)) within)
    where
      sides : (x.begin < b.end) ⊎ (b.end ≤ x.begin) → (e < x.end) ⊎ (x.end ≤ e) → (x.end ≤ e ⊎ b.end ≤ x.begin)
      sides (inr after) other = inr after
      sides (inl less) (inr before) = inl before
      sides (inl less) (inl under) = absurd (let yes : (nat_lt x.begin b.end && nat_lt e x.end) ≡ true = λ i. lt-ltb x.begin b.end less i && lt-ltb e x.end under i in let wrong = sym yes ∙ is in cc)

  -- where a matching row of port 1 is cut
  pub went_turns : (b x : Row) (e : ℕ) → IsRow x → b.begin < b.end → b.begin ≤ e → e < b.end → t ≤ e → (e ≡ b.begin → x.begin < b.begin → b.begin < x.end → t ≤ x.begin)
      → TurnsBy t (unfreed b e) (parts x (b ∷ [])) (parts x (remnant b e)) (went_at b e x)
  went_turns b x e row lives within shorter from late = went_by b x e (nat_lt x.begin b.end && nat_lt e x.end) refl row lives within shorter from late
