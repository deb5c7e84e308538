-- The messages of a list that go to a part are legal, and their table is the part of its table.
use Rattle.std.proofs.Common.{◌≡◌, ℕ, ◌+◌, ◌<◌, ◌≤◌, List, [], ◌∷◌, ◌++◌, Bool, true, false, cond, max, refl, ap, sym, ◌∙◌, subst, arith, append-nil}
use Rattle.std.specs.Prelude.{Option, filter, nat_lt}
use Rattle.std.specs.List.{AllByRecursion}
use Rattle.std.proofs.lemmas.List.Elements.{filter-append}
use Rattle.cedr_base.specs.declared.field.Field.{Field}
use Rattle.cedr_base.specs.declared.row.Row.{Row}
use Rattle.cedr_base.specs.declared.change.Change.{Change}
use Rattle.cedr_base.specs.declared.change.Change.TheVariants.{Add, Cut}
use Rattle.cedr_base.specs.declared.change.Message.{Message}
use Rattle.cedr_base.specs.declared.change.Message.TheVariants as message
use Rattle.cedr_base.specs.Rows.{count_of}
use Rattle.cedr_base.specs.Changes.{changed_row, sync_of, puts, takes, all_puts, all_takes, MayFollow}
use Rattle.cedr_base.specs.Messages.{changes_of, mark_of, IsOpen, Suits, MayCome, IsLegalBehind, IsLegal, IsTableOf}
use Rattle.cedr_base.proofs.Bags.{count_of-append}
use Rattle.cedr_table.proofs.FilterLemmas.{count-filter}
use Rattle.node_laws.specs.Pass.{has_end}
use Rattle.node_laws.specs.Lawful.{has_broken}
use Rattle.plan_keys.specs.Keys.{row_key, key_part}
use Rattle.plan_keys.proofs.Parts.{HaveKey, parted_by_key}
use Rattle.plan_runs.specs.Runs.{IsWhole}
use Rattle.plan_parts.specs.Parts.{goes_to, list_part}

-- ---- a change that is left out or not

one_open : (b : Bool) (c : Change) (xs : List Message) → IsOpen xs → IsOpen (cond b (message.Change c ∷ xs) xs)
one_open true c xs h = h
one_open false c xs h = h

one_mark : (b : Bool) (c : Change) (xs : List Message) → mark_of (cond b (message.Change c ∷ xs) xs) ≡ mark_of xs
one_mark true c xs = refl
one_mark false c xs = refl

one_end : (b : Bool) (c : Change) (xs : List Message) → has_end (cond b (message.Change c ∷ xs) xs) ≡ has_end xs
one_end true c xs = refl
one_end false c xs = refl

one_broken : (b : Bool) (c : Change) (xs : List Message) → has_broken (cond b (message.Change c ∷ xs) xs) ≡ has_broken xs
one_broken true c xs = refl
one_broken false c xs = refl

one_change : (b : Bool) (c : Change) (xs : List Message) → changes_of (cond b (message.Change c ∷ xs) xs) ≡ cond b (c ∷ changes_of xs) (changes_of xs)
one_change true c xs = refl
one_change false c xs = refl

all_unit : (cs : List Change) → AllByRecursion (λ (c : Change). Unit {0}) cs
all_unit [] = tt
all_unit (c ∷ cs) = (tt, all_unit cs)

both_kept : (b : Bool) (a t p : ℕ) → a + t ≡ p → cond b a 0 + cond b t 0 ≡ cond b p 0
both_kept true a t p h = h
both_kept false a t p h = omega arith

module _ (mine : Option Field → Bool) (column : ℕ) where
  abbrev change_key : Change → Option Field
  change_key c = row_key column (changed_row c)

  open_part : (ms : List Message) → IsOpen ms → IsOpen (list_part mine column ms)
  open_part [] h = tt
  open_part (message.Change c ∷ ms) h = one_open (mine (change_key c)) c (list_part mine column ms) (open_part ms h)
  open_part (message.Mark t ∷ ms) h = open_part ms h
  open_part (message.End ∷ ms) h = absurd h
  open_part (message.Broken ∷ ms) h = absurd h

  mark_part : (ms : List Message) → mark_of (list_part mine column ms) ≡ mark_of ms
  mark_part [] = refl
  mark_part (message.Change c ∷ ms) = one_mark (mine (change_key c)) c (list_part mine column ms) ∙ mark_part ms
  mark_part (message.Mark t ∷ ms) = ap (max t) (mark_part ms)
  mark_part (message.End ∷ ms) = mark_part ms
  mark_part (message.Broken ∷ ms) = mark_part ms

  end_part : (ms : List Message) → has_end (list_part mine column ms) ≡ has_end ms
  end_part [] = refl
  end_part (message.Change c ∷ ms) = one_end (mine (change_key c)) c (list_part mine column ms) ∙ end_part ms
  end_part (message.Mark t ∷ ms) = end_part ms
  end_part (message.End ∷ ms) = refl
  end_part (message.Broken ∷ ms) = end_part ms

  broken_part : (ms : List Message) → has_broken (list_part mine column ms) ≡ has_broken ms
  broken_part [] = refl
  broken_part (message.Change c ∷ ms) = one_broken (mine (change_key c)) c (list_part mine column ms) ∙ broken_part ms
  broken_part (message.Mark t ∷ ms) = broken_part ms
  broken_part (message.End ∷ ms) = broken_part ms
  broken_part (message.Broken ∷ ms) = refl

  changes_part : (ms : List Message) → changes_of (list_part mine column ms) ≡ filter (λ (c : Change). mine (change_key c)) (changes_of ms)
  changes_part [] = refl
  changes_part (message.Change c ∷ ms) =
      one_change (mine (change_key c)) c (list_part mine column ms)
      ∙ ap (λ (cs : List Change). cond (mine (change_key c)) (c ∷ cs) cs) (changes_part ms)
  changes_part (message.Mark t ∷ ms) = changes_part ms
  changes_part (message.End ∷ ms) = changes_part ms
  changes_part (message.Broken ∷ ms) = changes_part ms

  -- what a change puts and takes has the key of its row
  remnant_key : (r : Row) (e : ℕ) (b : Bool) → HaveKey column (row_key column r) (cond b (record r { end = e } ∷ []) [])
  remnant_key r e true = (refl, tt)
  remnant_key r e false = tt

  puts_key : (c : Change) → Unit {0} → HaveKey column (change_key c) (puts c)
  puts_key (Add r) h = (refl, tt)
  puts_key (Cut r e) h = remnant_key r e (nat_lt r.begin e)

  takes_key : (c : Change) → Unit {0} → HaveKey column (change_key c) (takes c)
  takes_key (Add r) h = tt
  takes_key (Cut r e) h = (refl, tt)

  puts_part : (ms : List Message) → all_puts (changes_of (list_part mine column ms)) ≡ key_part mine column (all_puts (changes_of ms))
  puts_part ms = ap all_puts (changes_part ms) ∙ parted_by_key (λ (c : Change). Unit {0}) change_key mine column puts puts (λ c h is. refl) puts_key (changes_of ms) (all_unit (changes_of ms))

  takes_part : (ms : List Message) → all_takes (changes_of (list_part mine column ms)) ≡ key_part mine column (all_takes (changes_of ms))
  takes_part ms = ap all_takes (changes_part ms) ∙ parted_by_key (λ (c : Change). Unit {0}) change_key mine column takes takes (λ c h is. refl) takes_key (changes_of ms) (all_unit (changes_of ms))

  -- of a row whose key is in the part all copies are
  count_mine : (r : Row) (rows : List Row) → mine (row_key column r) ≡ true → count_of r (key_part mine column rows) ≡ count_of r rows
  count_mine r rows is = count-filter r (λ (x : Row). mine (row_key column x)) rows ∙ ap (λ b. cond b (count_of r rows) 0) is

  -- ---- legal

  may_follow_part : (before : List Message) (c : Change) → mine (change_key c) ≡ true → MayFollow [] (changes_of before) c → MayFollow [] (changes_of (list_part mine column before)) c
  may_follow_part before (Add r) is h = h
  may_follow_part before (Cut r e) is h =
      let put : count_of r (all_puts (changes_of (list_part mine column before))) ≡ count_of r (all_puts (changes_of before)) = ap (count_of r) (puts_part before) ∙ count_mine r (all_puts (changes_of before)) is in
      let took : count_of r (all_takes (changes_of (list_part mine column before))) ≡ count_of r (all_takes (changes_of before)) = ap (count_of r) (takes_part before) ∙ count_mine r (all_takes (changes_of before)) is in
      (h.0, omega (arith, h.1, put, took))

  suits_part : (before : List Message) (m : Message) → goes_to mine column m ≡ true → Suits before m → Suits (list_part mine column before) m
  suits_part before (message.Change c) is h = (may_follow_part before c is h.0, subst (λ t. t ≤ sync_of c) (sym (mark_part before)) h.1)
  suits_part before (message.Mark t) is h = (subst (λ s. s < t) (sym (mark_part before)) h.0, h.1)
  suits_part before message.End is h = tt
  suits_part before message.Broken is h = tt

  part_with : (before : List Message) (m : Message) → goes_to mine column m ≡ true → list_part mine column (before ++ m ∷ []) ≡ list_part mine column before ++ m ∷ []
  part_with before m is = filter-append (goes_to mine column) before (m ∷ []) ∙ ap (λ (b : Bool). list_part mine column before ++ cond b (m ∷ []) []) is

  part_without : (before : List Message) (m : Message) → goes_to mine column m ≡ false → list_part mine column (before ++ m ∷ []) ≡ list_part mine column before
  part_without before m isnt =
      filter-append (goes_to mine column) before (m ∷ [])
      ∙ (ap (λ (b : Bool). list_part mine column before ++ cond b (m ∷ []) []) isnt ∙ append-nil (list_part mine column before))

  legal_at : (before ms : List Message) (m : Message) (b : Bool) → goes_to mine column m ≡ b → MayCome before m → IsLegalBehind (list_part mine column (before ++ m ∷ [])) (list_part mine column ms)
      → IsLegalBehind (list_part mine column before) (cond b (m ∷ list_part mine column ms) (list_part mine column ms))
  legal_at before ms m true is may rest = ((open_part before may.0, suits_part before m is may.1), subst (λ (xs : List Message). IsLegalBehind xs (list_part mine column ms)) (part_with before m is) rest)
  legal_at before ms m false isnt may rest = subst (λ (xs : List Message). IsLegalBehind xs (list_part mine column ms)) (part_without before m isnt) rest

  legal_behind : (before ms : List Message) → IsLegalBehind before ms → IsLegalBehind (list_part mine column before) (list_part mine column ms)
  legal_behind before [] h = tt
  legal_behind before (m ∷ ms) h = legal_at before ms m (goes_to mine column m) refl h.0 (legal_behind (before ++ m ∷ []) ms h.1)

  -- the messages that go to a part are legal
  pub legal_part : (ms : List Message) → IsLegal ms → IsLegal (list_part mine column ms)
  legal_part ms h = legal_behind [] ms h

  -- and whole
  pub whole_part : (ms : List Message) → IsWhole ms → IsWhole (list_part mine column ms)
  whole_part ms h = record { legal = legal_part ms h.legal; ended = end_part ms ∙ h.ended; unbroken = broken_part ms ∙ h.unbroken }

  -- ---- the table

  sums_part : (ms : List Message) (rows : List Row) (r : Row) → count_of r (rows ++ all_takes (changes_of ms)) ≡ count_of r (all_puts (changes_of ms))
      → count_of r (key_part mine column rows ++ all_takes (changes_of (list_part mine column ms))) ≡ count_of r (all_puts (changes_of (list_part mine column ms)))
  sums_part ms rows r h =
      let has = λ (x : Row). mine (row_key column x) in
      let took = all_takes (changes_of ms) in
      let put = all_puts (changes_of ms) in
      count_of-append r (key_part mine column rows) (all_takes (changes_of (list_part mine column ms)))
      ∙ (ap (λ (xs : List Row). count_of r (key_part mine column rows) + count_of r xs) (takes_part ms)
      ∙ (ap (λ n. n + count_of r (key_part mine column took)) (count-filter r has rows)
      ∙ (ap (λ n. cond (has r) (count_of r rows) 0 + n) (count-filter r has took)
      ∙ (both_kept (has r) (count_of r rows) (count_of r took) (count_of r put) (sym (count_of-append r rows took) ∙ h)
      ∙ (sym (count-filter r has put) ∙ ap (count_of r) (sym (puts_part ms)))))))

  -- their table is the part of the table
  pub table_part : (ms : List Message) (rows : List Row) → IsTableOf ms rows → IsTableOf (list_part mine column ms) (key_part mine column rows)
  table_part ms rows h = record { sums = record { each = λ r. sums_part ms rows r (h.sums.each r) } }
