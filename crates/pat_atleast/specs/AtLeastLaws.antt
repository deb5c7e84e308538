-- The laws of patterns of some number of different inputs.
use Rattle.std.proofs.Common.{ℕ, List, [], refl, sym, ◌∙◌, replicate, length, arith}
use Rattle.cedr_base.specs.Rows.{count_of, SameRows}
use Rattle.cedr_table.specs.Operators.{Tables, SameTables}
use Rattle.cedr_table.specs.OperatorLaws.{OperatorLaws}
use Rattle.cedr_table.specs.PortLaws.{least_rises, least_is_time}
use Rattle.cedr_expr.specs.declared.test.Test.{Test}
use Rattle.pat_state.proofs.EndlessLemmas.{stands_later, stands_alike}
use Rattle.pat_atleast.specs.declared.kept.Kept.{Kept}
use Rattle.pat_atleast.specs.AtLeasts.{together, at_least, at_least_of}
use Rattle.pat_atleast.specs.Keeping.{bags_in, AtLeastStands}
use Rattle.pat_atleast.specs.SomeLaws.{sum_some-same, sum_some-none, count_some}

-- the result depends on bags alone
pub same_at_least : (number scope : ℕ) (tests : List Test) (tables others : Tables) → SameTables tables others → SameRows (at_least number scope tests tables) (at_least number scope tests others)
same_at_least number scope tests tables others same = record {
  each = λ r. count_some r (together scope tests) number tables ∙ (sum_some-same (λ rs. count_of r (together scope tests rs)) number tables others same ∙ sym (count_some r (together scope tests) number others));
}

-- empty tables give no row
pub no_at_least : (number scope : ℕ) (tests : List Test) (ports : ℕ) → SameRows (at_least number scope tests (replicate ports [])) []
no_at_least number scope tests ports = record {
  each = λ r. count_some r (together scope tests) number (replicate ports []) ∙ sum_some-none (λ rs. count_of r (together scope tests rs)) refl number ports;
}

-- the laws of the meaning, and of what the state stands for
pub at_least_laws : (number scope : ℕ) (tests : List Test) (orders : List (List ℕ)) (kept : Kept) → OperatorLaws (at_least_of (length (bags_in kept)) number scope tests) (AtLeastStands number scope tests orders kept)
at_least_laws number scope tests orders kept = record {
  sized = λ tables marks h. (h.kept_stand.table, h.kept_stand.mark);
  rising = λ tables marks later h k. record { kept_stand = stands_later scope (bags_in kept) tables marks later h.kept_stand k; orders_are = h.orders_are; tags = h.tags; suits = h.suits };
  alike = λ tables others marks k h. record { kept_stand = stands_alike scope (bags_in kept) tables others marks k h.kept_stand; orders_are = h.orders_are; tags = h.tags; suits = h.suits };
  same_rows = λ tables others k. same_at_least number scope tests tables others k;
  nothing = no_at_least number scope tests (length (bags_in kept));
  bound_rises = λ tables marks later h k. least_rises marks later k;
  bound_stays = λ tables marks port change after h k m. omega arith;
  bound_is_time = λ tables marks h k. least_is_time marks;
  echo_bound = λ tables marks e h. cc;
}
