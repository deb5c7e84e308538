-- What a node gave is on the way to its result at the tables that its lists are on the way to.
use Rattle.std.proofs.Common.{◌≡◌, ℕ, zero, suc, List, [], ◌∷◌, Bool, true, false, ◌||◌, length, refl, ap, ◌∙◌, sym, subst, arith}
use Rattle.std.proofs.lemmas.Bool.{and_parts}
use Rattle.cedr_base.specs.declared.level.Level.{Level}
use Rattle.cedr_base.specs.declared.change.Message.{Message}
use Rattle.cedr_base.specs.Rows.{AreRows, SameRows}
use Rattle.change_laws.specs.Agreeing.{AgreeUpTo}
use Rattle.change_laws.proofs.AgreeLemmas.{agree_along, agree_itself, agree_same}
use Rattle.change_laws.proofs.BagSums.{same_back}
use Rattle.cedr_table.specs.Operators.{Tables, Meaning, HaveRows, SameTables, table_at, mark_at}
use Rattle.cedr_table.specs.Agreements.{AgreeOnPorts, KeepsAgreement}
use Rattle.cedr_table.proofs.RowsLemmas.{none_are}
use Rattle.node_laws.specs.Lists.{Lists}
use Rattle.node_laws.specs.Pass.{has_end}
use Rattle.node_laws.specs.Lawful.{tables_of, fronts_of, any_broken, all_end, Fits}
use Rattle.node_laws.proofs.Passes.{one_table, table_alike}
use Rattle.node_laws.specs.Approaching.{Approaches, AllApproach, RememberAll}
use Rattle.node_laws.proofs.PortApproach.{passed_whole, port_agrees, passed_rows}

-- the passed table of each port agrees up to its front
ports_agree : (vs : List Level) (ls : Lists) (ts : Tables) → RememberAll vs → length ls ≡ length vs → AllApproach ls ts → (k : ℕ) → AgreeUpTo (mark_at (fronts_of vs ls) k) (table_at (tables_of vs ls) k) (table_at ts k)
ports_agree [] [] [] endless count all k = agree_itself 0 []
ports_agree [] [] (t ∷ ts) endless count all k = absurd all
ports_agree [] (l ∷ ls) ts endless count all k = absurd (omega arith)
ports_agree (v ∷ vs) [] ts endless count all k = absurd (omega arith)
ports_agree (v ∷ vs) (l ∷ ls) [] endless count all k = absurd all
ports_agree (v ∷ vs) (l ∷ ls) (t ∷ ts) endless count all zero = port_agrees v l t endless.0 all.0
ports_agree (v ∷ vs) (l ∷ ls) (t ∷ ts) endless count all (suc k) = ports_agree vs ls ts endless.1 (omega arith) all.1 k

-- and is the same once each list has its End
ports_same : (vs : List Level) (ls : Lists) (ts : Tables) → RememberAll vs → length ls ≡ length vs → AllApproach ls ts → all_end ls ≡ true → SameTables (tables_of vs ls) ts
ports_same [] [] [] endless count all ended = tt
ports_same [] [] (t ∷ ts) endless count all ended = absurd all
ports_same [] (l ∷ ls) ts endless count all ended = absurd (omega arith)
ports_same (v ∷ vs) [] ts endless count all ended = absurd (omega arith)
ports_same (v ∷ vs) (l ∷ ls) [] endless count all ended = absurd all
ports_same (v ∷ vs) (l ∷ ls) (t ∷ ts) endless count all ended =
    let both = and_parts (has_end l) (all_end ls) ended in
    (passed_whole v l t endless.0 all.0 both.0, ports_same vs ls ts endless.1 (omega arith) all.1 both.1)

passed_have_rows : (vs : List Level) (ls : Lists) (ts : Tables) → RememberAll vs → AllApproach ls ts → (k : ℕ) → AreRows (table_at (tables_of vs ls) k)
passed_have_rows [] ls ts endless all k = none_are
passed_have_rows (v ∷ vs) [] ts endless all k = none_are
passed_have_rows (v ∷ vs) (l ∷ ls) [] endless all k = absurd all
passed_have_rows (v ∷ vs) (l ∷ ls) (t ∷ ts) endless all zero = passed_rows v l t endless.0 all.0
passed_have_rows (v ∷ vs) (l ∷ ls) (t ∷ ts) endless all (suc k) = passed_have_rows vs ls ts endless.1 all.1 k

theirs_have_rows : (ls : Lists) (ts : Tables) → AllApproach ls ts → (k : ℕ) → AreRows (table_at ts k)
theirs_have_rows [] [] all k = none_are
theirs_have_rows [] (t ∷ ts) all k = absurd all
theirs_have_rows (l ∷ ls) [] all k = absurd all
theirs_have_rows (l ∷ ls) (t ∷ ts) all zero = all.0.are_rows
theirs_have_rows (l ∷ ls) (t ∷ ts) all (suc k) = theirs_have_rows ls ts all.1 k

fronts_count : (vs : List Level) (ls : Lists) → length ls ≡ length vs → length (fronts_of vs ls) ≡ length vs
fronts_count [] ls count = refl
fronts_count (v ∷ vs) [] count = absurd (omega arith)
fronts_count (v ∷ vs) (l ∷ ls) count = omega (arith, fronts_count vs ls (omega arith))

passed_count : (vs : List Level) (ls : Lists) → length ls ≡ length vs → length (tables_of vs ls) ≡ length vs
passed_count [] ls count = refl
passed_count (v ∷ vs) [] count = absurd (omega arith)
passed_count (v ∷ vs) (l ∷ ls) count = omega (arith, passed_count vs ls (omega arith))

tables_count : (ls : Lists) (ts : Tables) → AllApproach ls ts → length ts ≡ length ls
tables_count [] [] all = refl
tables_count [] (t ∷ ts) all = absurd all
tables_count (l ∷ ls) [] all = absurd all
tables_count (l ∷ ls) (t ∷ ts) all = omega (arith, tables_count ls ts all.1)

-- none of the lists is broken
pub none_broken : (ls : Lists) (ts : Tables) → AllApproach ls ts → any_broken ls ≡ false
none_broken [] ts all = refl
none_broken (l ∷ ls) [] all = absurd all
none_broken (l ∷ ls) (t ∷ ts) all = ap (λ (b : Bool). b || any_broken ls) all.0.unbroken ∙ none_broken ls ts all.1

-- what a node gave that fits its lists is on the way to its result
pub node_approaches : (meaning : Meaning) (levels : List Level) (lists : Lists) (given : List Message) (tables : Tables) → KeepsAgreement meaning → ((some : Tables) → HaveRows some → AreRows (meaning.result some))
    → ((some others : Tables) → SameTables some others → SameRows (meaning.result some) (meaning.result others)) → RememberAll levels → length lists ≡ length levels → AllApproach lists tables → Fits meaning levels lists given → Approaches given (meaning.result tables)
node_approaches meaning levels lists given tables keeps makes same_result endless count all fits =
    let passed = tables_of levels lists in
    let fronts = fronts_of levels lists in
    let mine : HaveRows (tables_of levels lists) = record { each = passed_have_rows levels lists tables endless all } in
    let theirs : HaveRows tables = record { each = theirs_have_rows lists tables all } in
    let on_ports : AgreeOnPorts (fronts_of levels lists) (tables_of levels lists) tables = record {
      tables_are = passed_count levels lists count ∙ sym (fronts_count levels lists count);
      others_are = tables_count lists tables all ∙ (count ∙ sym (fronts_count levels lists count));
      each = ports_agree levels lists tables endless count all;
    } in
    let agree = keeps.agree passed tables fronts mine theirs on_ports in
    record {
      legal = fits.legal;
      unbroken = fits.unbroken;
      are_rows = makes tables theirs;
      agrees = λ made is.
          subst (λ (t : ℕ). AgreeUpTo t made (meaning.result tables)) (sym fits.mark)
          (agree_along (meaning.bound passed fronts) made (meaning.result passed) (meaning.result tables) (agree_same (meaning.bound passed fronts) made (meaning.result passed) (one_table given made (meaning.result passed) is fits.table)) agree);
      whole = λ ended.
          table_alike given (meaning.result passed) (meaning.result tables) (same_back (meaning.result passed) (meaning.result tables) (same_result passed tables (ports_same levels lists tables endless count all (sym fits.ended ∙ ended)))) fits.table;
    }
