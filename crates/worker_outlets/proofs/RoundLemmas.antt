-- A round over the elements of a list.
use Rattle.std.proofs.Common.{◌≡◌, ◌≢◌, ℕ, ◌+◌, ◌<◌, ◌≤◌, Bool, true, false, true≢false, ◌||◌, List, [], ◌∷◌, length, map, set, get_or, refl, sym, ◌∙◌, ap, subst, arith, ⊎_elim, zero, suc}
use Rattle.std.proofs.lemmas.List.{length-set, get_or-set_same, get_or-set_other, get_or_default, map-set, set-get_or, length-map}
use Rattle.std.proofs.lemmas.Bool.{cases_eq, or_parts}
use Rattle.worker_outlets.specs.Rounds.{Swept, Round}

-- either k is i, and then the element is y, or it is another
pub at_set_or : {X : Type 0} (P : X → Type 0) (xs : List X) (i k : ℕ) (y d : X) → k < length xs → (k ≡ i → P y) → (k ≢ i → P (get_or xs k d)) → P (get_or (set xs i y) k d)
at_set_or {X} P xs i k y d less here there =
    ⊎_elim (λ (e : k ≡ i). subst P (sym (subst (λ (j : ℕ). get_or (set xs i y) j d ≡ y) (sym e) (get_or-set_same xs i y d (subst (λ (j : ℕ). j < length xs) e less)))) (here e))
    (λ (n : k ≢ i). subst P (sym (get_or-set_other xs i k y d n)) (there n)) (cases_eq k i)

-- what an element is written back with stays under f
pub map_back : {X Y : Type 0} (f : X → Y) (xs : List X) (i : ℕ) (o y : X) → i < length xs → o ≡ get_or xs i o → f y ≡ f o → map f (set xs i y) ≡ map f xs
map_back f xs i o y less there same =
    let here : f y ≡ f (get_or xs i y) = same ∙ ap f (there ∙ get_or_default xs i o y less) in
    map-set f xs i y ∙ (ap (λ t. set (map f xs) i t) here ∙ (sym (map-set f xs i (get_or xs i y)) ∙ ap (λ l. map f l) (set-get_or xs i y)))

-- lists that are alike under f have the same length
pub map_length : {X Y : Type 0} (f : X → Y) (xs ys : List X) → map f xs ≡ map f ys → length xs ≡ length ys
map_length f xs ys e = sym (length-map xs f) ∙ (ap (λ l. length l) e ∙ length-map ys f)

-- at each place of a list under f stands the element there under f
pub map_at : {X Y : Type 0} (f : X → Y) (xs : List X) (k : ℕ) (d : X) → get_or (map f xs) k (f d) ≡ f (get_or xs k d)
map_at f [] k d = refl
map_at f (x ∷ xs) zero d = refl
map_at f (x ∷ xs) (suc k) d = map_at f xs k d

-- lists that are alike under f are so at each place
pub same_at : {X Y : Type 0} (f : X → Y) (xs ys : List X) (k : ℕ) (d : X) → map f xs ≡ map f ys → f (get_or xs k d) ≡ f (get_or ys k d)
same_at f xs ys k d e = sym (map_at f xs k d) ∙ (ap (λ l. get_or l k (f d)) e ∙ map_at f ys k d)

-- lists of one length that are alike under f at each place are alike under f
pub map_ext : {X Y : Type 0} (f : X → Y) (old new : List X) → length new ≡ length old → ((k : ℕ) (d : X) → k < length old → f (get_or new k d) ≡ f (get_or old k d)) → map f new ≡ map f old
map_ext f [] [] len h = refl
map_ext f [] (n ∷ ns) len h = absurd (omega (arith, len))
map_ext f (o ∷ os) [] len h = absurd (omega (arith, len))
map_ext f (o ∷ os) (n ∷ ns) len h =
    let rest : map f ns ≡ map f os = map_ext f os ns (omega (arith, len)) (λ k d less. h (suc k) d (omega arith)) in
    λ j. h 0 o (omega arith) j ∷ rest j

-- where each element has Q, none is swept yet
pub swept_begins : {X : Type 0} (P Q : X → Type 0) (xs : List X) → ((k : ℕ) (d : X) → k < length xs → Q (get_or xs k d)) → Swept P Q xs 0
swept_begins P Q xs all = record { done = λ k d less. absurd (omega arith); rest = λ k d le in_xs. all k d in_xs }

-- one element more is swept once one that has P stands at its place
pub swept_step : {X : Type 0} (P Q : X → Type 0) (xs : List X) (i : ℕ) (y : X) → P y → Swept P Q xs i → Swept P Q (set xs i y) (i + 1)
swept_step P Q xs i y is so = record {
  done = λ k d less in_set. at_set_or P xs i k y d (omega (arith, in_set, length-set xs i y)) (λ (e : k ≡ i). is) (λ (n : k ≢ i). so.done k d (omega arith) (omega (arith, in_set, length-set xs i y)));
  rest = λ k d le in_set. subst Q (sym (get_or-set_other xs i k y d (λ e. omega arith))) (so.rest k d (omega arith) (omega (arith, in_set, length-set xs i y)));
}

-- once all are swept, each element has P
pub swept_ends : {X : Type 0} (P Q : X → Type 0) (xs : List X) (i : ℕ) → length xs ≤ i → Swept P Q xs i → (k : ℕ) (d : X) → k < length xs → P (get_or xs k d)
swept_ends P Q xs i all so k d less = so.done k d (omega arith) less

module _ {X : Type 0} (Kept Rested Moves : X → X → Type 0) where
  pub round_begins : (old : List X) → Round Kept Rested Moves old old false 0
  round_begins old = record {
    length_is = refl;
    kept = λ k d less. absurd (omega arith);
    rested = λ _ k d less. absurd (omega arith);
    some = λ e. absurd (true≢false (sym e));
    rest = λ k d le. refl;
  }

  some_moved : (old new : List X) (moved b : Bool) (i : ℕ) (o y : X) → Round Kept Rested Moves old new moved i → i < length old → o ≡ get_or new i o → (b ≡ true → Moves o y) → (moved || b) ≡ true
      → (k : ℕ) × (k < i + 1) × (k < length old) × ((d : X) → Moves (get_or old k d) (get_or (set new i y) k d))
  some_moved old new true b i o y so less there moves e =
      let s = so.some refl in
      let below : s.0 < i = s.1 in
      (s.0, omega arith, s.2, λ d. subst (Moves (get_or old s.0 d)) (sym (get_or-set_other new i s.0 y d (λ e'. omega arith))) (s.3 d))
  some_moved old new false b i o y so less there moves e =
      let in_new : i < length new = omega (arith, so.length_is) in (
        i,
        omega arith,
        less,
        λ d.
            subst (λ (n : X). Moves (get_or old i d) n) (sym (get_or-set_same new i y d in_new))
            (subst (λ (x : X). Moves x y) (there ∙ (get_or_default new i o d in_new ∙ so.rest i d (omega arith))) (moves e)),
      )

  pub round_step : (old new : List X) (moved b : Bool) (i : ℕ) (o y : X) → Round Kept Rested Moves old new moved i → i < length old → o ≡ get_or new i o → Kept o y → (b ≡ false → Rested o y) → (b ≡ true → Moves o y)
      → Round Kept Rested Moves old (set new i y) (moved || b) (i + 1)
  round_step old new moved b i o y so less there kept rested moves =
      let in_new : i < length new = omega (arith, so.length_is) in
      let here : (d : X) → o ≡ get_or old i d = λ d. there ∙ (get_or_default new i o d in_new ∙ so.rest i d (omega arith)) in
      record {
        length_is = length-set new i y ∙ so.length_is;
        kept = λ k d less' in_old.
            at_set_or (λ (n : X). Kept (get_or old k d) n) new i k y d (omega (arith, in_old, so.length_is))
            (λ (e : k ≡ i). subst (λ (j : ℕ). Kept (get_or old j d) y) (sym e) (subst (λ (x : X). Kept x y) (here d) kept))
            (λ (n : k ≢ i). so.kept k d (omega arith) in_old);
        rested = λ none k d less' in_old.
            at_set_or (λ (n : X). Rested (get_or old k d) n) new i k y d (omega (arith, in_old, so.length_is))
            (λ (e : k ≡ i). subst (λ (j : ℕ). Rested (get_or old j d) y) (sym e) (subst (λ (x : X). Rested x y) (here d) (rested (or_parts moved b none).1)))
            (λ (n : k ≢ i). so.rested (or_parts moved b none).0 k d (omega arith) in_old);
        some = some_moved old new moved b i o y so less there moves;
        rest = λ k d le. get_or-set_other new i k y d (λ e. omega arith) ∙ so.rest k d (omega arith);
      }
