-- What may come where a table and a mark are known, and what is known after it.
use Rattle.std.proofs.Common.{◌≡◌, ℕ, List, [], ◌∷◌, ◌++◌, false, refl, subst, sym, arith}
use Rattle.cedr_base.specs.declared.row.Row.{Row}
use Rattle.cedr_base.specs.declared.change.Change.{Change}
use Rattle.cedr_base.specs.declared.change.Change.TheVariants.{Add, Cut}
use Rattle.cedr_base.specs.declared.change.Message.{Message}
use Rattle.cedr_base.specs.declared.change.Message.TheVariants as message
use Rattle.cedr_base.specs.Rows.{SameRows}
use Rattle.cedr_base.specs.Changes.{all_takes, MayFollow, puts, takes}
use Rattle.cedr_base.specs.Messages.{changes_of, mark_of, IsTableOf, MayCome}
use Rattle.cedr_base.proofs.Bags.{count_of-append}
use Rattle.change_laws.proofs.Legal.{table_moved, table_stays, mark-append, open-append}
use Rattle.test_feeding.specs.declared.came.Came.{Came}
use Rattle.test_feeding.specs.Came.{CameFor}

-- what may follow in a table may follow after the changes that make it
pub may_follow_changes : (ms : List Message) (rows : List Row) (c : Change) → IsTableOf ms rows → MayFollow rows [] c → MayFollow [] (changes_of ms) c
may_follow_changes ms rows (Add a) is h = h
may_follow_changes ms rows (Cut a e) is h = (h.0, (let there = h.1 in let counts = is.sums.each a in omega (arith, counts, count_of-append a rows (all_takes (changes_of ms)))))

-- a change came that may
pub change_came : (came : Came) (ms : List Message) (m : Message) (c : Change) (rows : List Row) → m ≡ message.Change c → CameFor came ms → MayCome ms m → SameRows (rows ++ takes c) (came.table ++ puts c)
    → CameFor (record { table = rows; mark = came.mark; «open» = came.open }) (ms ++ m ∷ [])
change_came came ms m c rows is stands may moved = subst (λ (n : Message). CameFor (record { table = rows; mark = came.mark; «open» = came.open }) (ms ++ n ∷ [])) (sym is) (record {
  table_is = table_moved ms c came.table rows stands.table_is (record { sums = moved });
  mark_is = let was = stands.mark_is in omega (arith, mark-append ms (message.Change c ∷ []));
  opened = λ o. open-append ms (message.Change c ∷ []) may.0 tt;
})

-- a mark came that may
pub mark_came : (came : Came) (ms : List Message) (m : Message) (t : ℕ) → m ≡ message.Mark t → CameFor came ms → MayCome ms m → CameFor (record { table = came.table; mark = t; «open» = came.open }) (ms ++ m ∷ [])
mark_came came ms m t is stands may =
    let comes = subst (MayCome ms) is may in
    let above = comes.1.0 in
    subst (λ (n : Message). CameFor (record { table = came.table; mark = t; «open» = came.open }) (ms ++ n ∷ [])) (sym is) (record {
      table_is = table_stays ms (message.Mark t) came.table stands.table_is refl;
      mark_is = omega (arith, mark-append ms (message.Mark t ∷ []));
      opened = λ o. open-append ms (message.Mark t ∷ []) comes.0 tt;
    })

-- the last message came
pub last_came : (came : Came) (ms : List Message) (m last : Message) → m ≡ last → changes_of (last ∷ []) ≡ [] → mark_of (last ∷ []) ≡ 0 → CameFor came ms → CameFor (record { table = came.table; mark = came.mark; «open» = false }) (ms ++ m ∷ [])
last_came came ms m last is none no_mark stands = subst (λ (n : Message). CameFor (record { table = came.table; mark = came.mark; «open» = false }) (ms ++ n ∷ [])) (sym is) (record {
  table_is = table_stays ms last came.table stands.table_is none;
  mark_is = let was = stands.mark_is in omega (arith, mark-append ms (last ∷ []), no_mark);
  opened = λ o. cc;
})
