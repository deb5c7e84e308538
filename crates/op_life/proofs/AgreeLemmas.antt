-- Operators that make each row's valid interval anew.
use Rattle.std.proofs.Common.{◌≡◌, ℕ, ◌<◌, ◌≤◌, ◌⊎◌, inl, inr, Bool, true, false, cond, refl, ap, sym, ◌∙◌, arith, min}
use Rattle.std.specs.Prelude.{sum_by, nat_eq}
use Rattle.std.proofs.lemmas.Bool.{cases_lt}
use Rattle.cedr_base.specs.declared.interval.Interval.{Interval}
use Rattle.cedr_base.specs.declared.row.Row.{Row}
use Rattle.change_laws.specs.Times.{later}
use Rattle.cedr_table.specs.RowWise.{row_wise, row_during, lives, IsLife}
use Rattle.op_life.specs.Lifetimes.{with_life, windowed, shifted, hopped, started, ended, shifted_mark, hopped_mark}
use Rattle.op_life.specs.LifetimeLaws.{shifted_below, hopped_below}
use Rattle.cedr_table.specs.Agreements.{KeepsAgreement}
use Rattle.change_laws.proofs.AgreeLemmas.{share}
use Rattle.change_laws.proofs.AgreeSums.{late_share, same_share, one_share}
use Rattle.cedr_table.proofs.RowWiseAgree.{row_wise_keeps}

-- before a time two intervals are the same: both begin then or later, or they begin together and end together but for what is
-- from then on
abbrev pub SameBefore : ℕ → Interval → Interval → Type 0
SameBefore b i j = ((i.begin ≡ j.begin) × (min i.end b ≡ min j.end b)) ⊎ ((b ≤ i.begin) × (b ≤ j.begin))

life_share : (life : ℕ → ℕ → Interval) (b : ℕ) (q x : Row) → sum_by (share b q) (with_life life x) ≡ share b q (row_during (life x.begin x.end) x.payload)
life_share life b q x = one_share b q (row_during (life x.begin x.end) x.payload) (lives (life x.begin x.end)) refl

same_lives : (b : ℕ) (q x : Row) (i j : Interval) → SameBefore b i j → share b q (row_during i x.payload) ≡ share b q (row_during j x.payload)
same_lives b q x i j (inl same) =
    same_share b q i.begin i.end j.end x.payload same.1
    ∙ ap (λ n. share b q (record { end = j.end; begin = n; payload = x.payload })) same.0
same_lives b q x i j (inr late) = late_share b q (row_during i x.payload) late.0 ∙ sym (late_share b q (row_during j x.payload) late.1)

-- The law where a row from a time on gives a row from the guarantee at that time on, and where what an earlier row gives is the
-- same before the guarantee whatever becomes of the row from the time on.
pub life_keeps : (life : ℕ → ℕ → Interval) (guarantee : ℕ → ℕ) → ((t begin end : ℕ) → IsLife begin end → t ≤ begin → guarantee t ≤ (life begin end).begin)
    → ((t begin end : ℕ) → IsLife begin end → begin < t → SameBefore (guarantee t) (life begin (min end t)) (life begin end))
    → KeepsAgreement (row_wise (with_life life) guarantee)
life_keeps life guarantee late early = row_wise_keeps (with_life life) guarantee (λ t q. record {
  late = λ x row from.
      life_share life (guarantee t) q x
      ∙ late_share (guarantee t) q (row_during (life x.begin x.end) x.payload) (late t x.begin x.end (record { lives = row.lives; begins = row.begins; ends = row.ends }) from);
  early = λ x row before.
      life_share life (guarantee t) q (record x { end = min x.end t })
      ∙ (same_lives (guarantee t) q x (life x.begin (min x.end t)) (life x.begin x.end) (early t x.begin x.end (record { lives = row.lives; begins = row.begins; ends = row.ends }) before)
      ∙ sym (life_share life (guarantee t) q x));
})

-- a row begins as it did, and ends no later than it did
pub window_keeps : (width : ℕ) → KeepsAgreement (row_wise (with_life (windowed width)) (λ mark. mark))
window_keeps width = life_keeps (windowed width) (λ mark. mark) (λ t begin end row from. from) (λ t begin end row before. inl (refl, omega arith))

shifted_ends_at : (by t end : ℕ) (b : Bool) → min (later (min end t) by) (cond b 0 (later t by)) ≡ min (later end by) (cond b 0 (later t by))
shifted_ends_at by t end true = omega arith
shifted_ends_at by t end false = omega arith

-- a row is a while later, and so is the guarantee
pub shift_keeps : (by : ℕ) → KeepsAgreement (row_wise (with_life (shifted by)) (shifted_mark by))
shift_keeps by = life_keeps (shifted by) (shifted_mark by) (λ t begin end row from. shifted_below by t begin from) (λ t begin end row before. inl (refl, shifted_ends_at by t end (nat_eq t 0)))

-- a row's hop depends on its begin alone
pub hop_keeps : (every width : ℕ) → 1 ≤ every → KeepsAgreement (row_wise (with_life (hopped every width)) (hopped_mark every))
hop_keeps every width h = life_keeps (hopped every width) (hopped_mark every) (λ t begin end row from. hopped_below every t begin h from row.begins) (λ t begin end row before. inl (refl, refl))

-- and so does what it starts
pub starts_keep : KeepsAgreement (row_wise (with_life started) (λ mark. mark))
starts_keep = life_keeps started (λ mark. mark) (λ t begin end row from. from) (λ t begin end row before. inl (refl, refl))

same_ends : (t end : ℕ) → SameBefore t (ended 0 (min end t)) (ended 0 end)
same_ends t end = elim (cases_lt end t) [ inl early ↦ inl (omega arith, refl) | inr late ↦ inr (omega arith, late) ]

-- what ends from the mark on begins from the mark on
pub ends_keep : KeepsAgreement (row_wise (with_life ended) (λ mark. mark))
ends_keep = life_keeps ended (λ mark. mark) (λ t begin end row from. let lives = row.lives in omega arith) (λ t begin end row before. same_ends t end)
