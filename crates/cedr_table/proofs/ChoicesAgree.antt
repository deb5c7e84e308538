-- Choices of one row of each of some tables that agree up to a time.
use Rattle.std.proofs.Common.{◌≡◌, ℕ, ◌<◌, ◌≤◌, List, [], ◌∷◌, ◌++◌, refl, sym, ◌∙◌, arith, min}
use Rattle.std.specs.Prelude.{sum_by}
use Rattle.cedr_base.specs.declared.row.Row.{Row}
use Rattle.cedr_base.specs.Rows.{IsRow}
use Rattle.change_laws.specs.Agreeing.{AgreeUpTo}
use Rattle.std.proofs.lemmas.List.Sums.{sum_by-cons}
use Rattle.cedr_table.specs.Operators.{Tables}
use Rattle.cedr_table.specs.Choices.{choices, chosen}
use Rattle.cedr_table.proofs.ChoiceLemmas.{sum_chosen, sum_chosen-cons, sum_by-like}
use Rattle.change_laws.proofs.AgreeLemmas.{share}
use Rattle.change_laws.proofs.AgreeSums.{SeesUpTo, agree_sum, shares_agree}
use Rattle.change_laws.proofs.BagSums.{sum_by-flat_map}
use Rattle.cedr_table.proofs.PortsAgree.{AllAgree}

-- A weight of choices sees each row of them up to a time: with a row that begins then or later a choice weighs nothing, and it
-- doesn't matter how long an earlier one is valid from then on.
pub record SeesChoicesUpTo (t : ℕ) (w : List Row → ℕ) : Type 0 where
  pub late : (before after : List Row) (x : Row) → IsRow x → t ≤ x.begin → w (before ++ x ∷ after) ≡ 0
  pub early : (before after : List Row) (x : Row) → IsRow x → x.begin < t → w (before ++ record x { end = min x.end t } ∷ after) ≡ w (before ++ x ∷ after)

sum_by-none : {X : Type 0} (f : X → ℕ) (xs : List X) → ((x : X) → f x ≡ 0) → sum_by f xs ≡ 0
sum_by-none f [] h = refl
sum_by-none f (x ∷ xs) h = omega (arith, sum_by-cons f x xs, h x, sum_by-none f xs h)

-- what the choices with a row add up to sees that row up to a time, where each choice does
first_sees : (t : ℕ) (w : List Row → ℕ) (ts : Tables) → SeesChoicesUpTo t w → SeesUpTo t (λ r. sum_chosen (λ rs. w (r ∷ rs)) ts)
first_sees t w ts sees = record {
  late = λ x row from. sum_by-none (λ rs. w (x ∷ rs)) (choices ts) (λ rs. sees.late [] rs x row from);
  early = λ x row before. sum_by-like (λ rs. w (record x { end = min x.end t } ∷ rs)) (λ rs. w (x ∷ rs)) (choices ts) (λ rs. sees.early [] rs x row before);
}

rest_sees : (t : ℕ) (w : List Row → ℕ) (r : Row) → SeesChoicesUpTo t w → SeesChoicesUpTo t (λ rs. w (r ∷ rs))
rest_sees t w r sees = record {
  late = λ before after x row from. sees.late (r ∷ before) after x row from;
  early = λ before after x row from. sees.early (r ∷ before) after x row from;
}

-- the choices of tables that agree up to a time have the same sum of each weight that sees no further
pub chosen_sum : (t : ℕ) (w : List Row → ℕ) (tables others : Tables) → SeesChoicesUpTo t w → AllAgree t tables others → sum_chosen w tables ≡ sum_chosen w others
chosen_sum t w [] [] sees h = refl
chosen_sum t w [] (y ∷ ys) sees h = absurd h
chosen_sum t w (x ∷ xs) [] sees h = absurd h
chosen_sum t w (x ∷ xs) (y ∷ ys) sees h =
    sum_chosen-cons w x xs
    ∙ (agree_sum t (λ r. sum_chosen (λ rs. w (r ∷ rs)) xs) x y h.0.rows h.0.others (first_sees t w xs sees) h.0.agree
    ∙ (sum_by-like (λ r. sum_chosen (λ rs. w (r ∷ rs)) xs) (λ r. sum_chosen (λ rs. w (r ∷ rs)) ys) y (λ r. chosen_sum t (λ rs. w (r ∷ rs)) xs ys (rest_sees t w r sees) h.1)
    ∙ sym (sum_chosen-cons w y ys)))

-- what the choices of tables that agree up to a time give agrees up to it, where each choice is seen no further
pub chosen_agree : (t : ℕ) (image : List Row → List Row) (tables others : Tables) → ((q : Row) → SeesChoicesUpTo t (λ rs. sum_by (share t q) (image rs))) → AllAgree t tables others → AgreeUpTo t (chosen image tables) (chosen image others)
chosen_agree t image tables others sees h =
    shares_agree t (chosen image tables) (chosen image others)
    (λ q. sum_by-flat_map (share t q) image (choices tables) ∙ (chosen_sum t (λ rs. sum_by (share t q) (image rs)) tables others (sees q) h ∙ sym (sum_by-flat_map (share t q) image (choices others))))
