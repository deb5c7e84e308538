-- Projections and groups keep a key that is among the columns that they keep.
use Rattle.std.proofs.Common.{◌≡◌, ℕ, ◌<◌, arith, length, List, [], ◌∷◌, Bool, true, false, cond, refl, ap, sym, ◌∙◌}
use Rattle.std.specs.Prelude.{Option, Some, map}
use Rattle.std.specs.List.{slice_get, filter, flat_map, list_any, AllByRecursion}
use Rattle.std.proofs.lemmas.Option.{slice_get_within}
use Rattle.std.proofs.lemmas.Map.Views.{any-filter_same}
use Rattle.cedr_base.specs.declared.field.Field.{Field}
use Rattle.cedr_base.specs.declared.row.Row.{Row}
use Rattle.cedr_expr.proofs.TieLemmas.{column_left}
use Rattle.cedr_table.specs.RowWise.{row_wise}
use Rattle.op_row.specs.Rows.{projected}
use Rattle.op_group.specs.Groups.{Grouping, key_of, same_payload, distinct, rows_of, cut_points, neighbours, spans, totals_of, row_between, segments, grouped, group_of}
use Rattle.op_group.specs.PayloadLaws.{payload_exact}
use Rattle.plan_keys.specs.Keys.{KeyedPort, IsAnsweredByKey, AreRenamed, AreInPorts, row_key, key_part}
use Rattle.plan_keys.proofs.Columns.{kept_at, kept_length}
use Rattle.plan_keys.proofs.Parts.{HaveKey, parted_by_key}
use Rattle.plan_keys.proofs.RowsAlone.{image_keyed}
use Rattle.plan_keys.proofs.Chosen.{all_append, all_mapped}
use Rattle.plan_keys.proofs.Firsts.{same_passing}

projected_key : (keep : List ℕ) (ports : List KeyedPort) (column : ℕ) → AreRenamed keep ports column → AreInPorts keep ports → AllByRecursion (λ (p : KeyedPort). (r : Row) → length r.payload ≡ p.width → HaveKey column (row_key p.column r) (projected keep r)) ports
projected_key keep [] column renamed within = tt
projected_key keep (p ∷ ports) column renamed within = (λ r wide. (kept_at keep r.payload p.width column p.column wide within.0 renamed.0, tt), projected_key keep ports column renamed.1 within.1)

-- a projection that keeps the key column
pub project_keyed : (keep : List ℕ) (guarantee : ℕ → ℕ) (ports : List KeyedPort) (column : ℕ) → AreRenamed keep ports column → AreInPorts keep ports → IsAnsweredByKey (row_wise (projected keep) guarantee) ports column
project_keyed keep guarantee ports column renamed within = image_keyed (projected keep) guarantee ports column (projected_key keep ports column renamed within)

module _ (key_of_row : Row → List Field) (row_mine : Row → Bool) (key_mine : List Field → Bool) where
  mapped_one : (r : Row) (xs : List Row) (ys : List (List Field)) (b d : Bool) → b ≡ d → map key_of_row xs ≡ ys → map key_of_row (cond b (r ∷ xs) xs) ≡ cond d (key_of_row r ∷ ys) ys
  mapped_one r xs ys true d h e = ap (λ zs. key_of_row r ∷ zs) e ∙ ap (λ z. cond z (key_of_row r ∷ ys) ys) h
  mapped_one r xs ys false d h e = e ∙ ap (λ z. cond z (key_of_row r ∷ ys) ys) h

  -- the keys of the rows that are mine are the keys that are mine
  keys_of_part : (P : Row → Type 0) (rows : List Row) → AllByRecursion P rows → ((r : Row) → P r → row_mine r ≡ key_mine (key_of_row r)) → map key_of_row (filter row_mine rows) ≡ filter key_mine (map key_of_row rows)
  keys_of_part P [] have same = refl
  keys_of_part P (r ∷ rows) have same = mapped_one r (filter row_mine rows) (filter key_mine (map key_of_row rows)) (row_mine r) (key_mine (key_of_row r)) (same r have.0) (keys_of_part P rows have.1 same)

module _ (mine : List Field → Bool) where
  distinct_one : (k : List Field) (F ks : List (List Field)) (m b : Bool) → mine k ≡ m → list_any (same_payload k) ks ≡ b → (m ≡ true → list_any (same_payload k) F ≡ list_any (same_payload k) ks) → distinct F ≡ filter mine (distinct ks)
      → distinct (cond m (k ∷ F) F) ≡ filter mine (cond b (distinct ks) (k ∷ distinct ks))
  distinct_one k F ks true true is some same e = ap (λ d. cond d (distinct F) (k ∷ distinct F)) (same refl ∙ some) ∙ e
  distinct_one k F ks true false is some same e =
      ap (λ d. cond d (distinct F) (k ∷ distinct F)) (same refl ∙ some) ∙ (ap (λ zs. k ∷ zs) e ∙ sym (ap (λ d. cond d (k ∷ filter mine (distinct ks)) (filter mine (distinct ks))) is))
  distinct_one k F ks false true is some same e = e
  distinct_one k F ks false false is some same e = e ∙ sym (ap (λ d. cond d (k ∷ filter mine (distinct ks)) (filter mine (distinct ks))) is)

  -- of the keys that are mine, each once, are the keys, each once, that are mine
  distinct_mine : (keys : List (List Field)) → distinct (filter mine keys) ≡ filter mine (distinct keys)
  distinct_mine [] = refl
  distinct_mine (k ∷ keys) =
      distinct_one k (filter mine keys) keys (mine k) (list_any (same_payload k) keys) refl refl
      (λ is. any-filter_same (same_payload k) mine true (λ x h. ap mine (sym (payload_exact k x h)) ∙ is) keys) (distinct_mine keys)

-- what holds of each key holds of each once
pub distinct_have : (P : List Field → Type 0) (keys : List (List Field)) → AllByRecursion P keys → AllByRecursion P (distinct keys)
distinct_have P [] have = tt
distinct_have P (k ∷ keys) have = one (list_any (same_payload k) keys) (distinct_have P keys have.1) where
  one : (b : Bool) → AllByRecursion P (distinct keys) → AllByRecursion P (cond b (distinct keys) (k ∷ distinct keys))
  one true rest = rest
  one false rest = (have.0, rest)

between_key : (g : Grouping) (key : List Field) (column p q : ℕ) (rows : List Row) → column < length key → HaveKey column (slice_get key column) (row_between g key p q rows)
between_key g key column p q [] h = tt
between_key g key column p q (r ∷ rows) h = (column_left key (totals_of g (r ∷ rows)) column h, tt)

segments_at : (g : Grouping) (key : List Field) (column : ℕ) (rows : List Row) (ns : List (ℕ × ℕ)) → column < length key → HaveKey column (slice_get key column) (flat_map (λ (n : ℕ × ℕ). row_between g key n.0 n.1 (filter (spans n.0 n.1) rows)) ns)
segments_at g key column rows [] h = tt
segments_at g key column rows (n ∷ ns) h =
    all_append (λ (r : Row). row_key column r ≡ slice_get key column) (row_between g key n.0 n.1 (filter (spans n.0 n.1) rows)) (flat_map (λ (n : ℕ × ℕ). row_between g key n.0 n.1 (filter (spans n.0 n.1) rows)) ns)
    (between_key g key column n.0 n.1 (filter (spans n.0 n.1) rows) h) (segments_at g key column rows ns h)

module _ (g : Grouping) (p : KeyedPort) (column : ℕ) (renamed : slice_get g.keys column ≡ Some p.column) (within : AllByRecursion (λ k. k < p.width) g.keys) (mine : Option Field → Bool) where
  abbrev key_mine : List Field → Bool
  key_mine key = mine (slice_get key column)

  abbrev row_mine : Row → Bool
  row_mine r = mine (row_key p.column r)

  abbrev IsLong : List Field → Type 0
  IsLong key = length key ≡ length g.keys

  row_like_key : (r : Row) → length r.payload ≡ p.width → row_mine r ≡ key_mine (key_of g r)
  row_like_key r wide = ap mine (sym (kept_at g.keys r.payload p.width column p.column wide within renamed))

  same_group : (rows : List Row) → AllByRecursion (λ (r : Row). length r.payload ≡ p.width) rows → (key : List Field) → key_mine key ≡ true → segments g key (rows_of g key (filter row_mine rows)) ≡ segments g key (rows_of g key rows)
  same_group rows wide key h =
      ap (segments g key)
      (same_passing row_mine (λ r. same_payload key (key_of g r)) (λ (r : Row). length r.payload ≡ p.width) rows wide (λ r w same. row_like_key r w ∙ (ap key_mine (sym (payload_exact key (key_of g r) same)) ∙ h)))

  group_parts : (rows : List Row) → AllByRecursion (λ (r : Row). length r.payload ≡ p.width) rows → grouped g (key_part mine p.column rows) ≡ key_part mine column (grouped g rows)
  group_parts rows wide =
      let inside = slice_get_within g.keys column p.column renamed in
      ap (λ (keys : List (List Field)). flat_map (λ key. segments g key (rows_of g key (filter row_mine rows))) keys)
      (ap distinct (keys_of_part (key_of g) row_mine key_mine (λ (r : Row). length r.payload ≡ p.width) rows wide row_like_key) ∙ distinct_mine key_mine (map (key_of g) rows))
      ∙ parted_by_key IsLong (λ key. slice_get key column) mine column (λ key. segments g key (rows_of g key (filter row_mine rows))) (λ key. segments g key (rows_of g key rows))
      (λ key long h. same_group rows wide key h) (λ key long. segments_at g key column (rows_of g key rows) (neighbours (cut_points (rows_of g key rows))) (omega arith)) (distinct (map (key_of g) rows))
      (distinct_have IsLong (map (key_of g) rows) (all_mapped (λ (r : Row). length r.payload ≡ p.width) IsLong (key_of g) rows wide (λ r w. kept_length g.keys r.payload p.width w within)))

-- a grouping with the key column among its keys
pub group_keyed : (g : Grouping) (ports : List KeyedPort) (column : ℕ) → AreRenamed g.keys ports column → AreInPorts g.keys ports → IsAnsweredByKey (group_of g) ports column
group_keyed g [] column renamed within mine [] fit = refl
group_keyed g [] column renamed within mine (t ∷ ts) fit = absurd fit
group_keyed g (p ∷ ports) column renamed within mine [] fit = absurd fit
group_keyed g (p ∷ ports) column renamed within mine (t ∷ ts) fit = group_parts g p column renamed.0 within.0 mine t fit.0
