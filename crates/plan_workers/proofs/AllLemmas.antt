-- Things that each stand for a role, in order.
use Rattle.std.proofs.Common.{◌≡◌, ℕ, zero, suc, ◌<◌, List, [], ◌∷◌, ◌++◌, length, slice_index_or, slice_set, refl, sym, ap, ◌∙◌, subst, append_assoc, arith}
use Rattle.std.proofs.lemmas.List.{append-nil}
use Rattle.plan_workers.specs.Roles.{AllAs, Role}

-- the one at a place stands for some role
pub all_at : {X : Type 0} (As : Role → X → Type 0) (roles : List Role) (xs : List X) (k : ℕ) → AllAs As roles xs → k < length xs → (role : Role) × ((d : X) → As role (slice_index_or xs k d))
all_at As roles [] k all within = absurd (omega (arith, within))
all_at As [] (x ∷ xs) k all within = absurd all
all_at As (r ∷ rs) (x ∷ xs) zero all within = (r, λ d. all.0)
all_at As (r ∷ rs) (x ∷ xs) (suc k) all within = all_at As rs xs k all.1 (omega (arith, within))

-- one that stands for whatever the one at a place did may be put there
pub all_set : {X : Type 0} (As : Role → X → Type 0) (roles : List Role) (xs : List X) (k : ℕ) (y : X) → AllAs As roles xs → ((role : Role) → ((d : X) → As role (slice_index_or xs k d)) → As role y) → AllAs As roles (slice_set xs k y)
all_set As [] [] k y all stands = tt
all_set As (r ∷ rs) [] k y all stands = absurd all
all_set As [] (x ∷ xs) k y all stands = absurd all
all_set As (r ∷ rs) (x ∷ xs) zero y all stands = (stands r (λ d. all.0), all.1)
all_set As (r ∷ rs) (x ∷ xs) (suc k) y all stands = (all.0, all_set As rs xs k y all.1 stands)

-- some may stand after others
pub all_join : {X : Type 0} (As : Role → X → Type 0) (rs ss : List Role) (xs ys : List X) → AllAs As rs xs → AllAs As ss ys → AllAs As (rs ++ ss) (xs ++ ys)
all_join As [] ss [] ys first later = later
all_join As [] ss (x ∷ xs) ys first later = absurd first
all_join As (r ∷ rs) ss [] ys first later = absurd first
all_join As (r ∷ rs) ss (x ∷ xs) ys first later = (first.0, all_join As rs ss xs ys first.1 later)

-- there is one for each role
pub all_count : {X : Type 0} (As : Role → X → Type 0) (roles : List Role) (xs : List X) → AllAs As roles xs → length xs ≡ length roles
all_count As [] [] all = refl
all_count As [] (x ∷ xs) all = absurd all
all_count As (r ∷ rs) [] all = absurd all
all_count As (r ∷ rs) (x ∷ xs) all = omega (arith, all_count As rs xs all.1)

-- the first one, and the role that it stands for
pub record First {X : Type 0} (As : Role → X → Type 0) (roles : List Role) (x : X) (xs : List X) : Type 0 where
  pub role : Role
  pub others : List Role
  pub are : roles ≡ role ∷ others
  pub head : As role x
  pub tail : AllAs As others xs

-- where there is a first thing it stands for a first role, and the others stand for the others
pub all_first : {X : Type 0} (As : Role → X → Type 0) (roles : List Role) (x : X) (xs : List X) → AllAs As roles (x ∷ xs) → First As roles x xs
all_first As [] x xs all = absurd all
all_first As (r ∷ rs) x xs all = record { role = r; others = rs; are = refl; head = all.0; tail = all.1 }

-- nothing stands for no role
pub all_none : {X Y : Type 0} (As : Role → X → Type 0) (Bs : Role → Y → Type 0) (before roles : List Role) (xs : List X) (ys : List Y) → xs ≡ [] → AllAs As roles xs → AllAs Bs before ys → AllAs Bs (before ++ roles) ys
all_none As Bs before [] xs ys none all stand = subst (λ rs. AllAs Bs rs ys) (sym (append-nil before)) stand
all_none As Bs before (r ∷ rs) [] ys none all stand = absurd all
all_none As Bs before (r ∷ rs) (x ∷ xs) ys none all stand = absurd (cc none)

-- one more stands after others for the first of some roles, and the rest after it for the others
pub all_more : {X Y : Type 0} (As : Role → X → Type 0) (Bs : Role → Y → Type 0) (before roles : List Role) (x : X) (xs : List X) (ys after : List Y) (y : Y) → AllAs As roles (x ∷ xs) → AllAs Bs before ys → ((role : Role) → As role x → Bs role y)
    → ((rs ss : List Role) → AllAs As rs xs → AllAs Bs ss (ys ++ y ∷ []) → AllAs Bs (ss ++ rs) after) → AllAs Bs (before ++ roles) after
all_more As Bs before roles x xs ys after y all stand one rest =
    let f = all_first As roles x xs all in
    let last : AllAs Bs (f.role ∷ []) (y ∷ []) = (one f.role f.head, tt) in
    let done = rest f.others (before ++ f.role ∷ []) f.tail (all_join Bs before (f.role ∷ []) ys (y ∷ []) stand last) in
    subst (λ rs. AllAs Bs rs after) (append_assoc before (f.role ∷ []) f.others ∙ ap (λ rs. before ++ rs) (sym f.are)) done
