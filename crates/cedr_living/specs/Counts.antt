-- How many of each key a map counts.
use Rattle.std.specs.Prelude.{ℕ, ◌≡◌, ◌+◌, ◌-◌, List, Bool, true, false, Option, Some, None, nat_eq, unwrap_or, if◌then◌else◌}
use Rattle.std.specs.declared.cmp.Ordering.{Ordering}
use Rattle.std.specs.Map.{lookup}
use Rattle.std.specs.BTreeMap.{is_at}

-- a count that isn't kept where it is 0
abbrev pub counted : ℕ → Option ℕ
counted n = if nat_eq n 0 then None else Some n

-- so many more, or so many less
abbrev pub moved_by : Bool → ℕ → ℕ → ℕ
moved_by true n k = n + k
moved_by false n k = n - k

-- what a map has at a key
abbrev pub key_count : {K : Type 0} → (K → K → Ordering) → List (K × ℕ) → K → Option ℕ
key_count cmp entries q = lookup (is_at (cmp q)) entries

-- the new map has something at a key, and at each other key what the old map has
abbrev pub IsUpdate : {K : Type 0} → (K → K → Ordering) → K → Option ℕ → List (K × ℕ) → List (K × ℕ) → Type 0
IsUpdate cmp key w old new = (q : _) → key_count cmp new q ≡ (if is_at (cmp key) q then w else key_count cmp old q)

-- the new map counts one more of a key, or one less
abbrev pub CountsOne : {K : Type 0} → Bool → (K → K → Ordering) → K → List (K × ℕ) → List (K × ℕ) → Type 0
CountsOne up cmp key old new = IsUpdate cmp key (counted (moved_by up (unwrap_or (key_count cmp old key) 0) 1)) old new

-- where an old map has some counts, the new one has them but for one more of a key, or one less
abbrev pub Shifts : {K : Type 0} → Bool → (K → K → Ordering) → K → List (K × ℕ) → List (K × ℕ) → Type 0
Shifts up cmp key old new = (counts : _ → ℕ) → ((q : _) → key_count cmp old q ≡ counted (counts q)) → (q : _) → key_count cmp new q ≡ counted (moved_by up (counts q) (if is_at (cmp key) q then 1 else 0))
