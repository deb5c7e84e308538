-- Changes that are applied to a table one after the other.
use Rattle.std.proofs.Common.{ℕ, zero, suc, ◌+◌, ◌<◌, inl, inr, List, [], ◌∷◌, ◌++◌, length, get_or, take, refl, subst, sym, arith, append_assoc}
use Rattle.std.proofs.lemmas.List.{append-nil, take_more}
use Rattle.cedr_base.specs.declared.row.Row.{Row}
use Rattle.cedr_base.specs.declared.change.Change.{Change}
use Rattle.cedr_base.specs.declared.change.Change.TheVariants.{Add, Cut}
use Rattle.cedr_base.specs.Rows.{count_of, SameRows, IsRow, AreRows}
use Rattle.cedr_base.specs.Changes.{puts, takes, all_puts, all_takes, MayFollow}
use Rattle.cedr_base.proofs.Bags.{count_of-append}
use Rattle.std.proofs.lemmas.Bool.{cases_lt}
use Rattle.change_laws.specs.Repairs.{IsMoved, AreLegal, Leads}
use Rattle.change_laws.proofs.Moves.{may_is, puts_are_rows}
use Rattle.change_laws.proofs.RepairLemmas.{takes-append, puts-append}

-- what may follow changes may follow in the table that they lead to
follows_led : (old now : List Row) (before : List Change) (c : Change) → Leads old before now → MayFollow old before c → MayFollow now [] c
follows_led old now before (Add a) leads may = may
follows_led old now before (Cut a e) leads may =
    (may.0, let there = may.1 in omega (arith, leads.sums.each a, count_of-append a now (all_takes before), count_of-append a old (all_puts before)))

follows_behind : (old : List Row) (before cs : List Change) (i : ℕ) (d : Change) → AreLegal old before cs → i < length cs → MayFollow old (before ++ take i cs) (get_or cs i d)
follows_behind old before [] i d legal within = absurd (omega arith)
follows_behind old before (c ∷ cs) zero d legal within = rw append-nil legal.0
follows_behind old before (c ∷ cs) (suc i) d legal within = rw append_assoc at (follows_behind old (before ++ c ∷ []) cs i d legal.1 (omega arith))

-- each of legal changes may follow in the table that those before it lead to
pub next_follows : (old now : List Row) (cs : List Change) (i : ℕ) (d : Change) → AreLegal old [] cs → i < length cs → Leads old (take i cs) now → MayFollow now [] (get_or cs i d)
next_follows old now cs i d legal within leads = follows_led old now (take i cs) (get_or cs i d) leads (follows_behind old [] cs i d legal within)

-- an empty list of changes leads from a table to itself
pub leads_nowhere : (old : List Row) → Leads old [] old
leads_nowhere old = record { sums = record { each = λ r. refl } }

leads_on : (old now after : List Row) (before : List Change) (c : Change) → Leads old before now → IsMoved c now after → Leads old (before ++ c ∷ []) after
leads_on old now after before c leads moved = record {
  sums = record {
    each = λ r. omega (
      arith,
      leads.sums.each r,
      moved.sums.each r,
      takes-append r before (c ∷ []),
      puts-append r before (c ∷ []),
      count_of-append r after (all_takes (before ++ c ∷ [])),
      count_of-append r old (all_puts (before ++ c ∷ [])),
      count_of-append r now (all_takes before),
      count_of-append r old (all_puts before),
      count_of-append r after (takes c),
      count_of-append r now (puts c),
      count_of-append r (takes c) [],
      count_of-append r (puts c) [],
    );
  };
}

-- one change more
pub leads_further : (old now after : List Row) (cs : List Change) (i : ℕ) (d : Change) → i < length cs → Leads old (take i cs) now → IsMoved (get_or cs i d) now after → Leads old (take (i + 1) cs) after
leads_further old now after cs i d within leads moved = subst (λ (before : List Change). Leads old before after) (sym (take_more cs i d within)) (leads_on old now after (take i cs) (get_or cs i d) leads moved)

may_alike : (xs ys : List Row) (before : List Change) (c : Change) → SameRows xs ys → MayFollow xs before c → MayFollow ys before c
may_alike xs ys before (Add a) same may = may
may_alike xs ys before (Cut a e) same may = (may.0, let there = may.1 in omega (arith, same.each a))

-- what is legal from a table is so from the same bag
pub legal_alike : (xs ys : List Row) (before cs : List Change) → SameRows xs ys → AreLegal xs before cs → AreLegal ys before cs
legal_alike xs ys before [] same legal = tt
legal_alike xs ys before (c ∷ cs) same legal = (may_alike xs ys before c same legal.0, legal_alike xs ys (before ++ c ∷ []) cs same legal.1)

-- the same changes lead from the same bag to the same bag
pub leads_alike : (xs xs' ys ys' : List Row) (cs : List Change) → SameRows xs ys → Leads xs cs xs' → Leads ys cs ys' → SameRows xs' ys'
leads_alike xs xs' ys ys' cs same one other = record {
  each = λ r. omega (
    arith,
    same.each r,
    one.sums.each r,
    other.sums.each r,
    count_of-append r xs' (all_takes cs),
    count_of-append r ys' (all_takes cs),
    count_of-append r xs (all_puts cs),
    count_of-append r ys (all_puts cs),
  );
}

put_rows : (old : List Row) (before cs : List Change) (r : Row) → AreLegal old before cs → 0 < count_of r (all_puts cs) → IsRow r
put_rows old before [] r legal there = absurd (omega arith)
put_rows old before (c ∷ cs) r legal there = elim (cases_lt 0 (count_of r (puts c))) [
  | inl here ↦ puts_are_rows c r (may_is old before c legal.0) here
  | inr not_here ↦ put_rows old (before ++ c ∷ []) cs r legal.1 (omega (arith, count_of-append r (puts c) (all_puts cs)))
]

-- legal changes lead from rows to rows
pub rows_led : (old new : List Row) (cs : List Change) → AreRows old → AreLegal old [] cs → Leads old cs new → AreRows new
rows_led old new cs rows legal leads = record {
  each = λ r there. elim (cases_lt 0 (count_of r old)) [
    | inl was ↦ rows.each r was
    | inr wasnt ↦ put_rows old [] cs r legal (omega (arith, leads.sums.each r, count_of-append r new (all_takes cs), count_of-append r old (all_puts cs)))
  ];
}
