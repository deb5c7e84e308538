-- A node that took nothing.
use Rattle.std.proofs.Common.{◌≡◌, ℕ, zero, suc, ◌<◌, List, [], ◌∷◌, Bool, true, false, length, replicate, refl, ap, subst, sym, ◌∙◌, arith}
use Rattle.std.specs.Prelude.{filter, not}
use Rattle.cedr_base.specs.declared.level.Level.{Level}
use Rattle.cedr_base.specs.declared.change.Change.{Change}
use Rattle.cedr_base.specs.declared.change.Message.{Message}
use Rattle.cedr_base.specs.Messages.{IsTableOf}
use Rattle.cedr_base.proofs.Bags.{count_of-append}
use Rattle.cedr_table.specs.Operators.{Tables, Meaning}
use Rattle.node_laws.specs.Surplus.{table_of}
use Rattle.node_laws.specs.Lists.{Lists}
use Rattle.node_laws.specs.Pass.{holds, held, passed_table, least_begin, front}
use Rattle.node_laws.specs.Lawful.{tables_of, fronts_of, all_end, any_broken, any_came, no_lists, Fits, IsLawful}
use Rattle.node_laws.proofs.Giving.{lists_count, lawful_fits, lawful_waits, passes_none}
use Rattle.node_laws.proofs.Grows.{kept-nil}
use Rattle.op_node.specs.MeaningLaws.{MeaningLaws}

passed_none : (v : Level) → passed_table v [] ≡ []
passed_none v = ap (λ (cs : List Change). filter (λ r. not (holds v [] r)) (table_of cs)) (kept-nil v.memory)

held_none : (v : Level) → held v [] ≡ []
held_none v = ap (λ (cs : List Change). filter (holds v []) (table_of cs)) (kept-nil v.memory)

tables_none : (vs : List Level) → tables_of vs (replicate (length vs) []) ≡ replicate (length vs) []
tables_none [] = refl
tables_none (v ∷ vs) = let a = passed_none v in let b = tables_none vs in cc

fronts_none : (vs : List Level) → fronts_of vs (replicate (length vs) []) ≡ replicate (length vs) 0
fronts_none [] = refl
fronts_none (v ∷ vs) = let a : front v [] ≡ 0 = ap (least_begin 0) (held_none v) in let b = fronts_none vs in cc

none_end : (n : ℕ) → 0 < n → all_end (replicate n []) ≡ false
none_end zero h = absurd (omega arith)
none_end (suc n) h = refl

one_none : (n : ℕ) → n ≡ 1 → replicate {A = List Message} n [] ≡ [] ∷ []
one_none n h = ap (λ (k : ℕ). replicate {A = List Message} k []) h

-- nothing given fits nothing taken
pub first_fits : (meaning : Meaning) (levels : List Level) → MeaningLaws meaning (length levels) → Fits meaning levels (no_lists levels) []
first_fits meaning levels laws =
    let tables = tables_none levels in
    let fronts = fronts_none levels in
    let some = laws.ports.1 in
    let n = length levels in
    record {
      legal = tt;
      table = subst (λ (ts : Tables). IsTableOf [] (meaning.result ts)) (sym tables) (record { sums = record { each = λ r. omega (arith, laws.nothing.each r, count_of-append r (meaning.result (replicate (length levels) [])) []) } });
      mark = sym (ap (λ (ts : Tables). meaning.bound ts (fronts_of levels (no_lists levels))) tables ∙ (ap (λ (ns : List ℕ). meaning.bound (replicate (length levels) []) ns) fronts ∙ laws.first_bound));
      ended = sym (none_end (length levels) some);
      unbroken = refl;
      real = λ r there. absurd (omega arith);
      passed_on = λ echoes. passes_none levels ∙ one_none (length levels) (laws.echo echoes).0;
    }

-- lists without a message
none_came : (ls : Lists) → any_came ls ≡ false → ls ≡ replicate (length ls) []
none_came [] none = refl
none_came ([] ∷ ls) none = let rest = none_came ls none in cc
none_came ((m ∷ ms) ∷ ls) none = absurd (let e = none in cc)

-- what a lawful node gave fits what it took, also before any message
pub lawful_fits_always : (meaning : Meaning) (levels : List Level) (lists : Lists) (given : List Message) → MeaningLaws meaning (length levels) → IsLawful meaning levels lists given → any_broken lists ≡ false → Fits meaning levels lists given
lawful_fits_always meaning levels lists given laws lawful unbroken = at (any_came lists) refl where
  at : (b : Bool) → any_came lists ≡ b → Fits meaning levels lists given
  at true some = lawful_fits meaning levels lists given lawful some unbroken
  at false none =
      let lists_are : lists ≡ no_lists levels = none_came lists none ∙ ap (λ (n : ℕ). replicate {A = List Message} n []) (lists_count meaning levels lists given lawful) in
      subst (λ (ms : List Message). Fits meaning levels lists ms) (sym (lawful_waits meaning levels lists given lawful none))
      (subst (λ (ls : Lists). Fits meaning levels ls []) (sym lists_are) (first_fits meaning levels laws))
