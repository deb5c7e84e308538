-- A change of a port repairs a union.
use Rattle.std.proofs.Common.{◌≡◌, ℕ, ◌+◌, ◌<◌, ◌≤◌, List, [], ◌∷◌, zero, suc, length, refl, ap, ◌∙◌, arith}
use Rattle.std.specs.Prelude.{replicate}
use Rattle.cedr_base.specs.declared.row.Row.{Row}
use Rattle.cedr_base.specs.declared.change.Change.{Change}
use Rattle.cedr_base.specs.declared.change.Change.TheVariants.{Add, Cut}
use Rattle.cedr_base.specs.Rows.{count_of, SameRows}
use Rattle.cedr_base.specs.Changes.{puts, takes, MayFollow}
use Rattle.cedr_base.proofs.Bags.{count_of-append}
use Rattle.change_laws.specs.Repairs.{IsMoved, Repair}
use Rattle.change_laws.proofs.BagSums.{same_itself}
use Rattle.change_laws.proofs.RepairLemmas.{own_repair}
use Rattle.cedr_table.specs.Operators.{Tables, table_at, with_table, least_of, SameTables, CanTake}
use Rattle.cedr_table.specs.PortLaws.{least_below, rise_length, same_length, least_rises, least_is_time}
use Rattle.cedr_table.specs.OperatorLaws.{OperatorLaws}
use Rattle.op_row.specs.Unions.{united, union_of, StandsOnPorts}

-- the union of tables that are the same bags is the same bag
pub same_united : (tables others : Tables) → SameTables tables others → SameRows (united tables) (united others)
same_united [] [] h = same_itself []
same_united [] (u ∷ us) h = absurd h
same_united (t ∷ ts) [] h = absurd h
same_united (t ∷ ts) (u ∷ us) h = record { each = λ r. omega (arith, h.0.each r, (same_united ts us h.1).each r, count_of-append r t (united ts), count_of-append r u (united us)) }

none_united : (n : ℕ) → united (replicate n []) ≡ []
none_united zero = refl
none_united (suc n) = none_united n

-- the union of empty tables has no row
pub nothing_united : (n : ℕ) → SameRows (united (replicate n [])) []
nothing_united n = record { each = λ r. ap (count_of r) (none_united n) }

-- the rows of one port are among all
united_has : (tables : Tables) (port : ℕ) (r : Row) → count_of r (table_at tables port) ≤ count_of r (united tables)
united_has [] port r = omega arith
united_has (t ∷ ts) zero r = omega (arith, count_of-append r t (united ts))
united_has (t ∷ ts) (suc port) r = let rest = united_has ts port r in omega (arith, count_of-append r t (united ts))

united_with : (tables : Tables) (port : ℕ) (after : List Row) (r : Row) → port < length tables → count_of r (united (with_table tables port after)) + count_of r (table_at tables port) ≡ count_of r (united tables) + count_of r after
united_with [] port after r h = absurd (omega arith)
united_with (t ∷ ts) zero after r h = omega (arith, count_of-append r t (united ts), count_of-append r after (united ts))
united_with (t ∷ ts) (suc port) after r h = omega (arith, united_with ts port after r (omega arith), count_of-append r t (united ts), count_of-append r t (united (with_table ts port after)))

may_in_all : (rows all : List Row) (c : Change) → ((r : Row) → count_of r rows ≤ count_of r all) → MayFollow rows [] c → MayFollow all [] c
may_in_all rows all (Add a) more h = h
may_in_all rows all (Cut a e) more h = (h.0, (let there = h.1 in let few = more a in omega arith))

-- a change of a port repairs the union by itself
pub union_repairs : (tables : Tables) (marks : List ℕ) (port : ℕ) (c : Change) (after : List Row) → length marks ≡ length tables → CanTake tables marks port c → IsMoved c (table_at tables port) after
    → Repair (united tables) (united (with_table tables port after)) (least_of marks) (c ∷ [])
union_repairs tables marks port c after sizes can moved =
    let within = can.port_is in
    let from = can.from in
    let below = least_below port marks (omega arith) in
    own_repair (united tables) (united (with_table tables port after)) (least_of marks) c (may_in_all (table_at tables port) (united tables) c (united_has tables port) can.legal) (omega arith)
    (record {
      sums = record {
        each = λ r. omega (
          arith,
          moved.sums.each r,
          united_with tables port after r within,
          count_of-append r after (takes c),
          count_of-append r (table_at tables port) (puts c),
          count_of-append r (united (with_table tables port after)) (takes c),
          count_of-append r (united tables) (puts c),
        );
      };
    })

-- the laws of the meaning of a union, and of what its state stands for
pub union_laws : (ports : ℕ) → OperatorLaws (union_of ports) (StandsOnPorts ports)
union_laws ports = record {
  sized = λ tables marks h. (h.table, h.mark);
  rising = λ tables marks later h k. record { table = h.table; mark = rise_length marks later k ∙ h.mark };
  alike = λ tables others marks k h. record { table = same_length tables others k ∙ h.table; mark = h.mark };
  same_rows = same_united;
  nothing = nothing_united ports;
  bound_rises = λ tables marks later h k. least_rises marks later k;
  bound_stays = λ tables marks port change after h k m. omega arith;
  bound_is_time = λ tables marks h k. least_is_time marks;
  echo_bound = λ tables marks e h. cc;
}
