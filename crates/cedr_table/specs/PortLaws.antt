-- Tables and marks by port.
use Rattle.std.proofs.Common.{◌≡◌, ℕ, ◌<◌, ◌≤◌, List, [], ◌∷◌, ◌++◌, min, zero, suc, refl, ap, arith, length, set, ◌≢◌, get_or-set_same, get_or-set_other}
use Rattle.cedr_base.specs.declared.row.Row.{Row}
use Rattle.cedr_base.specs.Rows.{SameRows}
use Rattle.change_laws.proofs.BagSums.{same_itself}
use Rattle.cedr_table.specs.Operators.{Tables, table_at, mark_at, AllRise, SameTables, AreTimes, with_table, least_of}
use Rattle.cedr_base.specs.declared.time.TheConstants.{FOREVER}

-- marks of which none is below the earlier one are as many as these
pub rise_length : (ms ns : List ℕ) → AllRise ms ns → length ns ≡ length ms
rise_length [] [] h = refl
rise_length [] (n ∷ ns) h = absurd h
rise_length (m ∷ ms) [] h = absurd h
rise_length (m ∷ ms) (n ∷ ns) h = ap (λ k. suc k) (rise_length ms ns h.1)

-- on each port a mark that rose is at least the earlier one
pub rise_at : (k : ℕ) (ms ns : List ℕ) → AllRise ms ns → mark_at ms k ≤ mark_at ns k
rise_at k [] [] h = omega arith
rise_at k [] (n ∷ ns) h = absurd h
rise_at k (m ∷ ms) [] h = absurd h
rise_at zero (m ∷ ms) (n ∷ ns) h = h.0
rise_at (suc k) (m ∷ ms) (n ∷ ns) h = rise_at k ms ns h.1

-- marks that stay are none below the earlier ones
pub rise_itself : (ns : List ℕ) → AllRise ns ns
rise_itself [] = tt
rise_itself (n ∷ ns) = (omega arith, rise_itself ns)

-- where the mark of one port rises or stays, and the others stay, none is below the earlier one
pub rise_set : (k : ℕ) (ns : List ℕ) (t : ℕ) → mark_at ns k ≤ t → AllRise ns (set ns k t)
rise_set k [] t h = tt
rise_set zero (n ∷ ns) t h = (h, rise_itself ns)
rise_set (suc k) (n ∷ ns) t h = (omega arith, rise_set k ns t h)

-- where no mark is above FOREVER, none is once one of them is set to a time that isn't
pub times_set : (k : ℕ) (ns : List ℕ) (t : ℕ) → AreTimes ns → t ≤ FOREVER → AreTimes (set ns k t)
times_set k [] t h time = tt
times_set zero (n ∷ ns) t h time = (time, h.1)
times_set (suc k) (n ∷ ns) t h time = (h.0, times_set k ns t h.1 time)

-- the same tables are equally many
pub same_length : (ts us : Tables) → SameTables ts us → length us ≡ length ts
same_length [] [] h = refl
same_length [] (u ∷ us) h = absurd h
same_length (t ∷ ts) [] h = absurd h
same_length (t ∷ ts) (u ∷ us) h = ap (λ k. suc k) (same_length ts us h.1)

-- the same tables have the same bag on each port
pub same_at : (k : ℕ) (ts us : Tables) → SameTables ts us → SameRows (table_at ts k) (table_at us k)
same_at k [] [] h = same_itself []
same_at k [] (u ∷ us) h = absurd h
same_at k (t ∷ ts) [] h = absurd h
same_at zero (t ∷ ts) (u ∷ us) h = h.0
same_at (suc k) (t ∷ ts) (u ∷ us) h = same_at k ts us h.1

-- a table that is put on a port is the one there
pub table_at-with : (tables : Tables) (port : ℕ) (rows : List Row) → port < length tables → table_at (with_table tables port rows) port ≡ rows
table_at-with tables port rows h = get_or-set_same tables port rows [] h

-- a table that is put on a port leaves those on the others
pub table_at-with_other : (tables : Tables) (port k : ℕ) (rows : List Row) → k ≢ port → table_at (with_table tables port rows) k ≡ table_at tables k
table_at-with_other tables port k rows h = get_or-set_other tables port k rows [] h

-- where no mark is above FOREVER, the mark of a port isn't
pub time_at : (k : ℕ) (ms : List ℕ) → AreTimes ms → mark_at ms k ≤ FOREVER
time_at k [] h = omega arith
time_at zero (m ∷ ms) h = h.0
time_at (suc k) (m ∷ ms) h = time_at k ms h.1

-- the least mark isn't above that of any port
pub least_below : (k : ℕ) (ms : List ℕ) → k < length ms → least_of ms ≤ mark_at ms k
least_below k [] h = absurd (omega arith)
least_below zero (m ∷ ms) h = omega arith
least_below (suc k) (m ∷ ms) h = let below = least_below k ms (omega arith) in omega arith

-- the least mark never falls while the marks rise
pub least_rises : (ms ns : List ℕ) → AllRise ms ns → least_of ms ≤ least_of ns
least_rises [] [] h = omega arith
least_rises [] (n ∷ ns) h = absurd h
least_rises (m ∷ ms) [] h = absurd h
least_rises (m ∷ ms) (n ∷ ns) h = let rest = least_rises ms ns h.1 in let first = h.0 in omega arith

-- the least mark isn't above FOREVER
pub least_is_time : (ms : List ℕ) → least_of ms ≤ FOREVER
least_is_time [] = omega arith
least_is_time (m ∷ ms) = let rest = least_is_time ms in omega arith

-- the least of one mark more
pub least_more : (ms : List ℕ) (m : ℕ) → least_of (ms ++ m ∷ []) ≡ min (least_of ms) m
least_more [] m = omega arith
least_more (n ∷ ms) m = omega (arith, least_more ms m)
