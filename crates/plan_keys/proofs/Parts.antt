-- Parts of tables: what is made of the rows of some keys.
use Rattle.std.proofs.Common.{◌≡◌, ℕ, List, [], ◌∷◌, ◌++◌, Bool, true, false, cond, refl, ap, sym, ◌∙◌}
use Rattle.std.specs.Prelude.{Option}
use Rattle.std.specs.List.{flat_map, filter, AllByRecursion}
use Rattle.std.proofs.lemmas.List.Elements.{filter-append}
use Rattle.cedr_base.specs.declared.field.Field.{Field}
use Rattle.cedr_base.specs.declared.row.Row.{Row}
use Rattle.plan_keys.specs.Keys.{row_key, key_part}

-- each row has this key
abbrev pub HaveKey : ℕ → Option Field → List Row → Type 0
HaveKey column key rows = AllByRecursion (λ (r : Row). row_key column r ≡ key) rows

module _ (mine : Option Field → Bool) (column : ℕ) where
  first_kept : (r : Row) (rows : List Row) (b : Bool) → b ≡ true → cond b (r ∷ rows) rows ≡ r ∷ rows
  first_kept r rows true h = refl
  first_kept r rows false h = cc

  first_left : (r : Row) (rows : List Row) (b : Bool) → b ≡ false → cond b (r ∷ rows) rows ≡ rows
  first_left r rows true h = cc
  first_left r rows false h = refl

  -- rows of a key that is mine are all in the part
  pub all_mine : (key : Option Field) (rows : List Row) → HaveKey column key rows → mine key ≡ true → rows ≡ key_part mine column rows
  all_mine key [] have h = refl
  all_mine key (r ∷ rows) have h = sym (first_kept r (key_part mine column rows) (mine (row_key column r)) (ap mine have.0 ∙ h) ∙ ap (λ rs. r ∷ rs) (sym (all_mine key rows have.1 h)))

  -- and of another key none is
  pub none_mine : (key : Option Field) (rows : List Row) → HaveKey column key rows → mine key ≡ false → [] ≡ key_part mine column rows
  none_mine key [] have h = refl
  none_mine key (r ∷ rows) have h = none_mine key rows have.1 h ∙ sym (first_left r (key_part mine column rows) (mine (row_key column r)) (ap mine have.0 ∙ h))

one : {X Y : Type 0} (f g : X → List Y) (q : Y → Bool) (x : X) (xs : List X) (b : Bool) → (b ≡ true → f x ≡ filter q (g x)) → (b ≡ false → [] ≡ filter q (g x)) → flat_map f (cond b (x ∷ xs) xs) ≡ filter q (g x) ++ flat_map f xs
one f g q x xs true pass fail = ap (λ ys. ys ++ flat_map f xs) (pass refl)
one f g q x xs false pass fail = ap (λ ys. ys ++ flat_map f xs) (fail refl)

-- what the elements that pass make is what passes of what all make
pub parted : {X Y : Type 0} (P : X → Type 0) (f g : X → List Y) (p : X → Bool) (q : Y → Bool) → ((x : X) → P x → p x ≡ true → f x ≡ filter q (g x)) → ((x : X) → P x → p x ≡ false → [] ≡ filter q (g x))
    → (xs : List X) → AllByRecursion P xs → flat_map f (filter p xs) ≡ filter q (flat_map g xs)
parted P f g p q passed failed [] all = refl
parted P f g p q passed failed (x ∷ xs) all =
    one f g q x (filter p xs) (p x) (passed x all.0) (failed x all.0)
    ∙ (ap (λ ys. filter q (g x) ++ ys) (parted P f g p q passed failed xs all.1) ∙ sym (filter-append q (g x) (flat_map g xs)))

-- where each element makes rows of its own key, what the elements of my keys make is my part of what all make
pub parted_by_key : {X : Type 0} (P : X → Type 0) (key : X → Option Field) (mine : Option Field → Bool) (column : ℕ) (f g : X → List Row)
    → ((x : X) → P x → mine (key x) ≡ true → f x ≡ g x) → ((x : X) → P x → HaveKey column (key x) (g x))
    → (xs : List X) → AllByRecursion P xs → flat_map f (filter (λ x. mine (key x)) xs) ≡ key_part mine column (flat_map g xs)
parted_by_key P key mine column f g same have =
    parted P f g (λ x. mine (key x)) (λ (r : Row). mine (row_key column r))
    (λ x is h. same x is h ∙ all_mine mine column (key x) (g x) (have x is) h)
    (λ x is h. none_mine mine column (key x) (g x) (have x is) h)
