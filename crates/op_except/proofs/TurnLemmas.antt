-- Changes that turn some rows into others, of which a test says which are taken and which are put.
use Rattle.std.proofs.Common.{◌≡◌, ℕ, ◌<◌, ◌≤◌, ◌⊎◌, inl, inr, List, [], ◌∷◌, ◌++◌, Bool, true, false, cond, refl, ap, sym, ◌∙◌, arith}
use Rattle.std.specs.Prelude.{sum_by}
use Rattle.std.specs.List.{flat_map, filter}
use Rattle.std.proofs.lemmas.Bool.{cases_lt}
use Rattle.cedr_base.specs.declared.row.Row.{Row}
use Rattle.cedr_base.specs.declared.change.Change.{Change}
use Rattle.cedr_base.specs.declared.change.Change.TheVariants.{Add, Cut}
use Rattle.cedr_base.specs.Rows.{IsRow, count_of, one_if_same, SameRows}
use Rattle.cedr_base.specs.Changes.{all_puts, all_takes, remnant}
use Rattle.cedr_base.proofs.Bags.{count_of-append, count_of-cons, one_if_same_exact}
use Rattle.change_laws.specs.Repairs.{AllFrom}
use Rattle.change_laws.proofs.BagSums.{count_of-itself, sum_by-same, sum_by-alike_there}
use Rattle.cedr_table.proofs.FilterLemmas.{count-filter}
use Rattle.op_except.specs.SumLaws.{sum_by-filter}
use Rattle.op_except.specs.Turns.{TurnsBy}
use Rattle.change_laws.proofs.Moves.{remnant_none}
use Rattle.change_laws.proofs.RepairLemmas.{AllChanges, AllChanges-append, AllFrom-append, takes-append, puts-append, takes-flat_map, puts-flat_map, Turns}

found_at : (b : Bool) (n : ℕ) → (b ≡ false → n ≡ 0) → cond b n 0 ≡ n
found_at true n none = refl
found_at false n none = sym (none refl)

-- a sum over those that were found, where the others weigh nothing
pub found_sum : (w : Row → ℕ) (p : Row → Bool) (xs found : List Row) → SameRows found (filter p xs) → ((x : Row) → 0 < count_of x xs → p x ≡ false → w x ≡ 0) → sum_by w found ≡ sum_by w xs
found_sum w p xs found finds nothing =
    sum_by-same w found (filter p xs) finds
    ∙ (sum_by-filter w p xs
    ∙ sum_by-alike_there (λ x. cond (p x) (w x) 0) w xs (λ x there. found_at (p x) (w x) (nothing x there)))

module _ (t : ℕ) (goes : Row → Bool) where
  apart_at : (olds news : List Row) (cs : List Change) (r : Row) (b : Bool) → goes r ≡ b → TurnsBy t goes olds news cs → (count_of r (all_takes cs) ≡ 0) ⊎ (count_of r (all_puts cs) ≡ 0)
  apart_at olds news cs r true is h = inr (h.leaves r is)
  apart_at olds news cs r false is h = inl (h.stays r is)

  pub turns_are : (olds news : List Row) (cs : List Change) → TurnsBy t goes olds news cs → Turns t olds news cs
  turns_are olds news cs h = record { changes = h.changes; from = h.from; sums = h.sums; there = h.there; apart = λ r. apart_at olds news cs r (goes r) refl h }

  pub turns_none : (olds news : List Row) → ((r : Row) → count_of r news ≡ count_of r olds) → TurnsBy t goes olds news []
  turns_none olds news same = record { changes = tt; from = tt; sums = λ r. omega (arith, same r); there = λ r. omega arith; stays = λ r h. refl; leaves = λ r h. refl }

  pub turns_alike : (olds olds' news news' : List Row) (cs : List Change) → ((r : Row) → count_of r olds' ≡ count_of r olds) → ((r : Row) → count_of r news' ≡ count_of r news) → TurnsBy t goes olds news cs → TurnsBy t goes olds' news' cs
  turns_alike olds olds' news news' cs same same' h = record {
    changes = h.changes;
    from = h.from;
    sums = λ r. omega (arith, h.sums r, same r, same' r);
    there = λ r. omega (arith, h.there r, same r);
    stays = h.stays;
    leaves = h.leaves;
  }

  pub turns_append : (xs xs' ys ys' : List Row) (cs ds : List Change) → TurnsBy t goes xs ys cs → TurnsBy t goes xs' ys' ds → TurnsBy t goes (xs ++ xs') (ys ++ ys') (cs ++ ds)
  turns_append xs xs' ys ys' cs ds h k = record {
    changes = AllChanges-append cs ds h.changes k.changes;
    from = AllFrom-append t cs ds h.from k.from;
    sums = λ r. omega (arith, h.sums r, k.sums r, count_of-append r xs xs', count_of-append r ys ys', takes-append r cs ds, puts-append r cs ds);
    there = λ r. omega (arith, h.there r, k.there r, count_of-append r xs xs', takes-append r cs ds);
    stays = λ r is. omega (arith, h.stays r is, k.stays r is, takes-append r cs ds);
    leaves = λ r is. omega (arith, h.leaves r is, k.leaves r is, puts-append r cs ds);
  }

  pub turns_flat : (f g : Row → List Row) (step : Row → List Change) (xs : List Row) → ((x : Row) → 0 < count_of x xs → TurnsBy t goes (f x) (g x) (step x)) → TurnsBy t goes (flat_map f xs) (flat_map g xs) (flat_map step xs)
  turns_flat f g step [] each = turns_none [] [] (λ r. refl)
  turns_flat f g step (x ∷ xs) each =
      turns_append (f x) (flat_map f xs) (g x) (flat_map g xs) (step x) (flat_map step xs) (each x (count_of-itself x xs)) (turns_flat f g step xs (λ y there. each y (omega (arith, count_of-cons y x xs))))

  other : (r x : Row) (b : Bool) → goes x ≡ b → (goes r ≡ b → ⊥) → one_if_same r x ≡ 0
  other r x b is not_so = absurd_or r x (one_if_same r x) refl (λ there. not_so (ap goes (one_if_same_exact r x there) ∙ is))
    where
      absurd_or : (r x : Row) (n : ℕ) → one_if_same r x ≡ n → (0 < one_if_same r x → ⊥) → one_if_same r x ≡ 0
      absurd_or r x n is none = elim (cases_lt 0 (one_if_same r x)) [ inl there ↦ absurd (none there) | inr gone ↦ omega (arith, gone) ]

  differ : {b : Bool} → b ≡ true → b ≡ false → ⊥
  differ h k = let wrong = sym h ∙ k in cc

  -- a row of the kind that is put comes
  pub turn_add : (x : Row) → IsRow x → t ≤ x.begin → goes x ≡ false → TurnsBy t goes [] (x ∷ []) (Add x ∷ [])
  turn_add x row from stays_here = record {
    changes = (row, tt);
    from = (from, tt);
    sums = λ r. omega arith;
    there = λ r. omega arith;
    stays = λ r is. refl;
    leaves = λ r is. omega (arith, count_of-cons r x [], other r x false stays_here (λ k. differ is k));
  }

  -- a row of the kind that is taken is cut
  pub turn_cut : (x : Row) (e : ℕ) → IsRow x → x.begin ≤ e → e < x.end → t ≤ e → goes x ≡ true → ((r : Row) → goes r ≡ true → count_of r (remnant x e) ≡ 0) → TurnsBy t goes (x ∷ []) (remnant x e) (Cut x e ∷ [])
  turn_cut x e row from shorter late goes_here left = record {
    changes = ((row, from, shorter), tt);
    from = (late, tt);
    sums = λ r. omega (arith, count_of-append r (remnant x e) [], count_of-append r (x ∷ []) []);
    there = λ r. omega (arith, count_of-append r (x ∷ []) []);
    stays = λ r is. omega (arith, count_of-append r (x ∷ []) [], count_of-cons r x [], other r x true goes_here (λ k. differ k is));
    leaves = λ r is. omega (arith, count_of-append r (remnant x e) [], left r is);
  }

  -- a row of the kind that is taken is withdrawn
  pub turn_withdrawn : (x : Row) → IsRow x → t ≤ x.begin → goes x ≡ true → TurnsBy t goes (x ∷ []) [] (Cut x x.begin ∷ [])
  turn_withdrawn x row late goes_here =
      let lives = row.lives in
      let none = remnant_none x x.begin (omega arith) in
      turns_alike (x ∷ []) (x ∷ []) (remnant x x.begin) [] (Cut x x.begin ∷ []) (λ r. refl) (λ r. sym (ap (count_of r) none))
      (turn_cut x x.begin row (omega arith) lives late goes_here (λ r is. ap (count_of r) none))

  all_good : (step : Row → List Change) (xs : List Row) → ((x : Row) → 0 < count_of x xs → AllChanges (step x) × AllFrom t (step x)) → AllChanges (flat_map step xs) × AllFrom t (flat_map step xs)
  all_good step [] each = (tt, tt)
  all_good step (x ∷ xs) each =
      let first = each x (count_of-itself x xs) in
      let rest = all_good step xs (λ y there. each y (omega (arith, count_of-cons y x xs))) in
      (AllChanges-append (step x) (flat_map step xs) first.0 rest.0, AllFrom-append t (step x) (flat_map step xs) first.1 rest.1)

  kept_in : (b : Bool) (n m : ℕ) → m ≡ cond b n 0 → 0 < m → 0 < n
  kept_in true n m is there = omega (arith, is)
  kept_in false n m is there = absurd (omega (arith, is))

  -- where only those rows are looked at that pass a test, and the others give no change
  pub turns_found : (p : Row → Bool) (f g : Row → List Row) (step : Row → List Change) (xs found : List Row) → SameRows found (filter p xs) → ((x : Row) → 0 < count_of x xs → p x ≡ false → step x ≡ [])
      → ((x : Row) → 0 < count_of x xs → TurnsBy t goes (f x) (g x) (step x)) → TurnsBy t goes (flat_map f xs) (flat_map g xs) (flat_map step found)
  turns_found p f g step xs found finds nothing each =
      let all = turns_flat f g step xs each in
      let in_all : (x : Row) → 0 < count_of x found → 0 < count_of x xs = λ x there. kept_in (p x) (count_of x xs) (count_of x found) (finds.each x ∙ count-filter x p xs) there in
      let good = all_good step found (λ x there. let h = each x (in_all x there) in (h.changes, h.from)) in
      let took : (r : Row) → count_of r (all_takes (flat_map step found)) ≡ count_of r (all_takes (flat_map step xs)) = λ r.
      takes-flat_map r step found
      ∙ (found_sum (λ x. count_of r (all_takes (step x))) p xs found finds (λ x there fails. ap (λ (cs : List Change). count_of r (all_takes cs)) (nothing x there fails))
      ∙ sym (takes-flat_map r step xs)) in
      let put : (r : Row) → count_of r (all_puts (flat_map step found)) ≡ count_of r (all_puts (flat_map step xs)) = λ r.
      puts-flat_map r step found
      ∙ (found_sum (λ x. count_of r (all_puts (step x))) p xs found finds (λ x there fails. ap (λ (cs : List Change). count_of r (all_puts cs)) (nothing x there fails))
      ∙ sym (puts-flat_map r step xs)) in
      record {
        changes = good.0;
        from = good.1;
        sums = λ r. omega (arith, all.sums r, took r, put r);
        there = λ r. omega (arith, all.there r, took r);
        stays = λ r is. took r ∙ all.stays r is;
        leaves = λ r is. put r ∙ all.leaves r is;
      }
