-- What is released, forgotten and remembered, put together.
use Rattle.std.proofs.Common.{◌≡◌, ℕ, ◌+◌, List, [], ◌++◌, Bool, true, false, cond, refl, ap, sym, ◌∙◌, subst, arith, append_assoc}
use Rattle.std.specs.Prelude.{Option, Some, None, filter}
use Rattle.cedr_base.specs.declared.row.Row.{Row}
use Rattle.cedr_base.specs.declared.change.Message.{Message}
use Rattle.cedr_base.specs.Rows.{count_of, SameRows}
use Rattle.cedr_base.proofs.Bags.{count_of-append}
use Rattle.cedr_table.proofs.FilterLemmas.{count-filter}
use Rattle.node_laws.specs.Lists.{mark_above}
use Rattle.node_laws.specs.Pass.{front_at, additions}
use Rattle.cedr_align.specs.declared.aligner.Aligner.{Aligner}
use Rattle.cedr_align.specs.Aligner.{HasSameTimes, must_remember}
use Rattle.cedr_align.specs.Remembered.{is_remembered}
use Rattle.cedr_align.specs.Released.{IsReleased, IsSettled}

-- a bag that is emptied keeps what passes a test that no row passes
pub none_kept : (remembers : Row → Bool) (rows : List Row) → ((r : Row) → remembers r ≡ false) → SameRows [] (filter remembers rows)
none_kept remembers rows none = record { each = λ r. sym (count-filter r remembers rows ∙ ap (λ (b : Bool). cond b (count_of r rows) 0) (none r)) }

-- after the end no row is remembered
pub none_at_end : (memory : Option ℕ) (ended : Bool) (mark high : ℕ) → ended ≡ true → (r : Row) → is_remembered memory ended mark high r ≡ false
none_at_end None ended mark high h r = refl
none_at_end (Some m) true mark high h r = refl
none_at_end (Some m) false mark high h r = cc

-- without a limit of the memory no row is remembered
pub none_without : (memory : Option ℕ) (ended : Bool) (mark high : ℕ) → ((m : ℕ) → memory ≡ Some m → ⊥) → (r : Row) → is_remembered memory ended mark high r ≡ false
none_without None ended mark high h r = refl
none_without (Some m) ended mark high h r = absurd (h m refl)

-- aligners with the same times remember the same rows
pub same_memory : (old new : Aligner) → HasSameTimes old new → (r : Row) → must_remember new r ≡ must_remember old r
same_memory old new same r =
    ap (λ (v : Option ℕ). is_remembered v new.ended new.mark new.high r) (ap (λ v. v.memory) same.level)
    ∙ (ap (λ (b : Bool). is_remembered old.level.memory b new.mark new.high r) same.ended
    ∙ (ap (λ n. is_remembered old.level.memory old.ended n new.high r) same.mark ∙ ap (λ n. is_remembered old.level.memory old.ended old.mark n r) same.high))

both_kept : (b d : Bool) (n k : ℕ) → d ≡ b → cond b n 0 + cond d k 0 ≡ cond b (n + k) 0
both_kept true true n k h = refl
both_kept false false n k h = refl
both_kept true false n k h = cc
both_kept false true n k h = cc

-- An aligner settles in steps: it releases held rows, forgets passed ones, passes the released ones on and
-- remembers those of them that it must, and gives a mark where the front is above the one before.
pub all_settled : (stays : Row → Bool) (held rows : List Row) (released forgot passed : Aligner) (before front : ℕ) (out out1 out2 : List Message)
    → IsReleased stays held rows → SameRows released.held (filter stays held)
    → SameRows forgot.passed (filter (must_remember released) released.passed) → forgot.held ≡ released.held → HasSameTimes released forgot
    → SameRows passed.passed (forgot.passed ++ filter (must_remember forgot) rows) → passed.held ≡ forgot.held → HasSameTimes forgot passed
    → out1 ≡ out ++ additions rows → front ≡ front_at passed.ended passed.mark passed.held → out2 ≡ out1 ++ mark_above before front
    → IsSettled stays (must_remember released) released.ended released.mark before held released.passed out passed.held passed.passed out2
all_settled stays held rows released forgot passed before front out out1 out2 are held_are forgot_are forgot_held forgot_same passed_are passed_held passed_same out1_is front_is out2_is = record {
  released = rows;
  are = are;
  held_are = subst (λ (xs : List Row). SameRows xs (filter stays held)) (sym (passed_held ∙ forgot_held)) held_are;
  passed_are = record {
    each = λ r.
        omega (
          arith,
          passed_are.each r,
          count_of-append r forgot.passed (filter (must_remember forgot) rows),
          forgot_are.each r,
          count-filter r (must_remember released) released.passed,
          count-filter r (must_remember forgot) rows,
          count-filter r (must_remember released) (released.passed ++ rows),
          count_of-append r released.passed rows,
          both_kept (must_remember released r) (must_remember forgot r) (count_of r released.passed) (count_of r rows) (same_memory released forgot forgot_same r),
          ap (λ n. cond (must_remember released r) n 0) (count_of-append r released.passed rows),
        );
  };
  out_is =
      let front_now : front ≡ front_at released.ended released.mark passed.held =
      front_is ∙ (ap (λ (b : Bool). front_at b passed.mark passed.held) (passed_same.ended ∙ forgot_same.ended) ∙ ap (λ n. front_at released.ended n passed.held) (passed_same.mark ∙ forgot_same.mark)) in
      out2_is
      ∙ (ap (λ (xs : List Message). xs ++ mark_above before front) out1_is
      ∙ (append_assoc out (additions rows) (mark_above before front) ∙ ap (λ n. out ++ (additions rows ++ mark_above before n)) front_now));
}
