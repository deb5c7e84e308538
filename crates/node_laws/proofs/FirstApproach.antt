-- The first messages of a list that is on the way to a table.
use Rattle.std.proofs.Common.{◌≡◌, List, [], ◌∷◌, ◌++◌, true, false, refl, ap, ◌∙◌, subst, arith}
use Rattle.std.specs.Prelude.{Some, None}
use Rattle.std.proofs.lemmas.List.{append-nil}
use Rattle.cedr_base.specs.declared.level.Level.{Level}
use Rattle.cedr_base.specs.declared.row.Row.{Row}
use Rattle.cedr_base.specs.declared.change.Message.{Message}
use Rattle.cedr_base.specs.Messages.{IsLegal, IsTableOf, mark_of}
use Rattle.change_laws.proofs.Legal.{legal_first, may_come_in, mark-append}
use Rattle.change_laws.proofs.AgreeLemmas.{going_on_agrees, agree_earlier, agree_along, agree_same, table_rows}
use Rattle.node_laws.specs.Pass.{has_end, passed_table}
use Rattle.node_laws.specs.Lawful.{has_broken}
use Rattle.node_laws.proofs.Ends.{unbroken_front}
use Rattle.node_laws.proofs.Holds.{open_is}
use Rattle.node_laws.proofs.Middle.{middle_table}
use Rattle.node_laws.proofs.Passes.{one_table}
use Rattle.node_laws.specs.Approaching.{Approaches}

-- nothing follows the End of a legal list
ended_last : (ms more : List Message) → IsLegal (ms ++ more) → has_end ms ≡ true → more ≡ []
ended_last ms [] legal ended = refl
ended_last ms (m ∷ more) legal ended = absurd (let e = open_is ms (may_come_in ms more m legal).0 in cc)

-- a level under which a legal list's passed table is its own table
abbrev middle : Level
middle = record { block = Some 0; memory = None }

-- the first messages of a list that is on the way to a table are on the way to it
pub first_approach : (ms more : List Message) (rows : List Row) → Approaches (ms ++ more) rows → Approaches ms rows
first_approach ms more rows a = record {
  legal = legal_first [] ms more a.legal;
  unbroken = unbroken_front ms more a.unbroken;
  are_rows = a.are_rows;
  agrees = λ made table.
      let later = passed_table middle (ms ++ more) in
      let is = middle_table middle (ms ++ more) refl refl a.legal in
      agree_along (mark_of ms) made later rows (going_on_agrees ms more made later a.legal table is)
      (agree_earlier (mark_of ms) (mark_of (ms ++ more)) later rows (omega (arith, mark-append ms more)) (a.agrees later is));
  whole = λ ended.
      let same : ms ++ more ≡ ms = ap (λ (xs : List Message). ms ++ xs) (ended_last ms more a.legal ended) ∙ append-nil ms in
      subst (λ (xs : List Message). IsTableOf xs rows) same (a.whole (ap has_end same ∙ ended));
}

-- a legal list that isn't broken is on the way to its own table
pub approach_itself : (ms : List Message) (rows : List Row) → IsLegal ms → has_broken ms ≡ false → IsTableOf ms rows → Approaches ms rows
approach_itself ms rows legal unbroken table = record {
  legal = legal;
  unbroken = unbroken;
  are_rows = table_rows ms rows legal table;
  agrees = λ made is. agree_same (mark_of ms) made rows (one_table ms made rows is table);
  whole = λ ended. table;
}
