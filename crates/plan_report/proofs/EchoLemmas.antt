-- What a port passes on of a list that isn't broken is lawful of an output.
use Rattle.std.proofs.Common.{◌≡◌, ℕ, ◌<◌, Bool, true, false, ◌&&◌, ◌||◌, List, [], ◌∷◌, ◌++◌, inl, inr, refl, sym, ap, ◌∙◌, subst, arith, append_assoc}
use Rattle.std.specs.Prelude.{nat_lt, Some, None}
use Rattle.std.proofs.lemmas.Bool.{cases_lt}
use Rattle.std.proofs.lemmas.List.{append-nil}
use Rattle.cedr_base.specs.declared.change.Change.{Change}
use Rattle.cedr_base.specs.declared.change.Change.TheVariants.{Add, Cut}
use Rattle.cedr_base.specs.declared.change.Message.{Message}
use Rattle.cedr_base.specs.declared.change.Message.TheVariants as message
use Rattle.cedr_base.specs.declared.level.Level.{Level}
use Rattle.cedr_base.specs.declared.row.Row.{Row}
use Rattle.cedr_base.specs.Changes.{all_puts, all_takes}
use Rattle.cedr_base.specs.Messages.{changes_of, IsLegal, IsOpen, IsTableOf, MayCome}
use Rattle.cedr_base.specs.Rows.{count_of}
use Rattle.cedr_base.proofs.Bags.{count_of-append}
use Rattle.change_laws.specs.Repairs.{wrapped}
use Rattle.change_laws.proofs.Legal.{changes-append, legal-push, legal_first, open-wrapped}
use Rattle.change_laws.proofs.RepairLemmas.{takes-append}
use Rattle.node_laws.specs.Lists.{IsTableOfPrefix, mark_above}
use Rattle.node_laws.specs.Pass.{additions, front, gained, has_end, itself, pass, passed_of, passed_table}
use Rattle.node_laws.specs.Lawful.{has_broken, Fits, IsLawful, IsRight}
use Rattle.node_laws.proofs.Ends.{broken-append, ends_broken, open_unbroken}
use Rattle.node_laws.proofs.Grows.{end-append, pass-nil, pass-push}
use Rattle.node_laws.proofs.Holds.{open_is}
use Rattle.node_laws.proofs.Induct.{by_legal}
use Rattle.node_laws.proofs.Middle.{middle_table}
use Rattle.node_laws.proofs.Passes.{passes}
use Rattle.node_laws.proofs.Splits.{in_one}
use Rattle.cedr_node.proofs.Goes.{lawful_push}
use Rattle.op_node.specs.Outputs.{handed_on}
use Rattle.plan_report.specs.SoFar.{unbroken}
use Rattle.plan_report.proofs.CutLemmas.{unbroken_all, unbroken_pushed}

-- the first messages of a list have a table with a row in it
record OnceThere (ms : List Message) (r : Row) : Type 0 where
  rows : List Row
  prefix : IsTableOfPrefix ms rows
  there : 0 < count_of r rows

-- the level of a port that passes on all
abbrev open_level : Level
open_level = record { block = Some 0; memory = None }

-- a legal list has a table
table_there : (ms : List Message) → IsLegal ms → IsTableOf ms (passed_table open_level ms)
table_there ms legal = middle_table open_level ms refl refl legal

-- a message takes no row that wasn't put
none_taken : (ms : List Message) (m : Message) (r : Row) → MayCome ms m → count_of r (all_puts (changes_of ms)) ≡ 0 → count_of r (all_takes (changes_of (m ∷ []))) ≡ 0
none_taken ms (message.Change (Add a)) r may none = refl
none_taken ms (message.Change (Cut a e)) r may none = elim (cases_lt 0 (count_of r (a ∷ []))) [
  | inl some ↦ (let same = ap (λ (x : Row). count_of x (all_puts (changes_of ms))) (in_one r a some) in let there = may.1.0.1 in absurd (omega (arith, same, there, none)))
  | inr gone ↦ omega (arith, gone)
]
none_taken ms (message.Mark t) r may none = refl
none_taken ms message.End r may none = refl
none_taken ms message.Broken r may none = refl

-- a row that a list put was once in its table
once_there : (r : Row) (ms : List Message) → IsLegal ms → 0 < count_of r (all_puts (changes_of ms)) → OnceThere ms r
once_there r ms legal = by_legal (λ (xs : List Message). 0 < count_of r (all_puts (changes_of xs)) → OnceThere xs r) more (λ put. absurd (omega arith)) ms legal
  where
    more : (xs : List Message) (m : Message) → IsLegal xs → MayCome xs m → (0 < count_of r (all_puts (changes_of xs)) → OnceThere xs r) → 0 < count_of r (all_puts (changes_of (xs ++ m ∷ []))) → OnceThere (xs ++ m ∷ []) r
    more xs m was may before put = elim (cases_lt 0 (count_of r (all_puts (changes_of xs)))) [
      | inl some ↦ (let h = before some in let p = h.prefix in record {
        rows = h.rows;
        prefix = record { before = p.before; after = p.after ++ m ∷ []; whole = ap (λ (ys : List Message). ys ++ m ∷ []) p.whole ∙ append_assoc p.before p.after (m ∷ []); table = p.table };
        there = h.there;
      })
      | inr none ↦ (let legal_now = legal-push xs m was may in let all = xs ++ m ∷ [] in record {
        rows = passed_table open_level all;
        prefix = record { before = all; after = []; whole = sym (append-nil all); table = table_there all legal_now };
        there = (
            let old = table_there xs was in
            let new = table_there all legal_now in
            let taken = none_taken xs m r may (omega arith) in
            omega (
              arith,
              old.sums.each r,
              new.sums.each r,
              count_of-append r (passed_table open_level xs) (all_takes (changes_of xs)),
              count_of-append r (passed_table open_level all) (all_takes (changes_of all)),
              ap (λ (cs : List Change). count_of r (all_takes cs)) (changes-append xs (m ∷ [])),
              takes-append r (changes_of xs) (changes_of (m ∷ [])),
              taken,
            ));
      })
    ]

-- messages end and break as others do
record EndAlike (xs ys : List Message) : Type 0 where
  ended : has_end xs ≡ has_end ys
  broken : has_broken xs ≡ has_broken ys

-- messages end and break as those do that stand last, where the others are open
behind_open : (xs ys : List Message) → IsOpen xs → EndAlike (xs ++ ys) ys
behind_open xs ys opened = record { ended = end-append xs ys (open_is xs opened); broken = broken-append xs ys (open_unbroken xs opened) }

-- alike in two steps
along : (xs ys zs : List Message) → EndAlike xs ys → EndAlike ys zs → EndAlike xs zs
along xs ys zs h k = record { ended = h.ended ∙ k.ended; broken = h.broken ∙ k.broken }

-- what is passed on before the close is open
additions_open : (rows : List Row) → IsOpen (additions rows)
additions_open [] = tt
additions_open (r ∷ rows) = additions_open rows

mark_open : (old t : ℕ) → IsOpen (mark_above old t)
mark_open old t = at (nat_lt old t) refl
  where
    at : (b : Bool) → nat_lt old t ≡ b → IsOpen (mark_above old t)
    at true h = rw h tt
    at false h = rw h tt

-- what is answered ends as the message closes
answer_ends : (v : Level) (ms : List Message) (m : Message) (closed : List Message) → EndAlike (wrapped (itself v ms m) ++ (additions (gained v ms m) ++ (mark_above (front v ms) (front v (ms ++ m ∷ [])) ++ closed))) closed
answer_ends v ms m closed =
    let mark = mark_above (front v ms) (front v (ms ++ m ∷ [])) in
    let added = additions (gained v ms m) in
    along _ (added ++ (mark ++ closed)) closed (behind_open (wrapped (itself v ms m)) (added ++ (mark ++ closed)) (open-wrapped (itself v ms m)))
    (along _ (mark ++ closed) closed (behind_open added (mark ++ closed) (additions_open (gained v ms m)))
    (behind_open mark closed (mark_open (front v ms) (front v (ms ++ m ∷ [])))))

-- what one message passes on ends as that message does
piece_ends : (v : Level) (ms : List Message) (m : Message) → EndAlike (passed_of v ms m) (m ∷ [])
piece_ends v ms (message.Change c) = let h = answer_ends v ms (message.Change c) [] in record { ended = h.ended; broken = h.broken }
piece_ends v ms (message.Mark t) = let h = answer_ends v ms (message.Mark t) [] in record { ended = h.ended; broken = h.broken }
piece_ends v ms message.End = answer_ends v ms message.End (message.End ∷ [])
piece_ends v ms message.Broken = record { ended = refl; broken = refl }

-- what a legal list passes on ends as the list does
pass_ends : (v : Level) (ms : List Message) → IsLegal ms → EndAlike (pass v ms) ms
pass_ends v ms legal = by_legal (λ (xs : List Message). EndAlike (pass v xs) xs) more first ms legal
  where
    first : EndAlike (pass v []) []
    first = subst (λ (xs : List Message). EndAlike xs []) (sym (pass-nil v)) (record { ended = refl; broken = refl })

    more : (xs : List Message) (m : Message) → IsLegal xs → MayCome xs m → EndAlike (pass v xs) xs → EndAlike (pass v (xs ++ m ∷ [])) (xs ++ m ∷ [])
    more xs m was may before =
        let piece = passed_of v xs m in
        let one = along _ piece (m ∷ []) (behind_open (pass v xs) piece ((passes v xs was).opened may.0)) (piece_ends v xs m) in
        let other = behind_open xs (m ∷ []) may.0 in
        subst (λ (ys : List Message). EndAlike ys (xs ++ m ∷ [])) (sym (pass-push v xs m)) (record { ended = one.ended ∙ sym other.ended; broken = one.broken ∙ sym other.broken })

-- what is passed on before the first break is passed on of what came before it
pub unbroken_passed : (v : Level) (ms : List Message) → IsLegal ms → unbroken (pass v ms) ≡ pass v (unbroken ms)
unbroken_passed v ms legal = at (has_broken ms) refl
  where
    at : (b : Bool) → has_broken ms ≡ b → unbroken (pass v ms) ≡ pass v (unbroken ms)
    at false none = unbroken_all (pass v ms) ((pass_ends v ms legal).broken ∙ none) ∙ ap (pass v) (sym (unbroken_all ms none))
    at true some =
        let h = ends_broken ms legal some in
        let before = legal_first [] h.before (message.Broken ∷ []) (subst IsLegal h.whole legal) in
        ap (λ (xs : List Message). unbroken (pass v xs)) h.whole
        ∙ (ap unbroken (pass-push v h.before message.Broken)
        ∙ (unbroken_pushed (pass v h.before)
        ∙ (unbroken_all (pass v h.before) ((pass_ends v h.before before).broken ∙ h.unbroken)
        ∙ ap (pass v) (sym (unbroken_all h.before h.unbroken) ∙ (sym (unbroken_pushed h.before) ∙ ap unbroken (sym h.whole))))))

-- what the port passes on of a legal list that isn't broken fits an output
passed_fits : (v : Level) (ms : List Message) → IsLegal ms → has_broken ms ≡ false → Fits handed_on (v ∷ []) (ms ∷ []) (pass v ms)
passed_fits v ms legal none =
    let p = passes v ms legal in
    let ends = pass_ends v ms legal in
    record {
      legal = p.legal;
      table = p.table;
      mark = p.mark;
      ended = ends.ended ∙ and_true (has_end ms);
      unbroken = ends.broken ∙ none;
      real = λ r put. let h = once_there r (pass v ms) p.legal put in record { tables = h.rows ∷ []; prefixes = (h.prefix, tt); there = h.there };
      passed_on = λ _. refl;
    }
  where
    and_true : (b : Bool) → b ≡ (b && true)
    and_true true = refl
    and_true false = refl

-- it is right after the last message
passed_right : (v : Level) (ms : List Message) (m : Message) → IsLegal (ms ++ m ∷ []) → has_broken (ms ++ m ∷ []) ≡ false → IsRight handed_on (v ∷ []) ((ms ++ m ∷ []) ∷ []) (pass v ms ++ passed_of v ms m) (passed_of v ms m)
passed_right v ms m legal none = record {
  whole = λ _. subst (Fits handed_on (v ∷ []) ((ms ++ m ∷ []) ∷ [])) (pass-push v ms m) (passed_fits v (ms ++ m ∷ []) legal none);
  last = λ some. absurd (broken some);
  empty = λ some. absurd (broken some);
}
  where
    broken : (has_broken (ms ++ m ∷ []) || false) ≡ true → ⊥
    broken some = let e = ap (λ (b : Bool). b || false) none in cc (e, some)

-- An output is lawful from a legal list that isn't broken to what its port passes on of it.
pub passed_lawful : (v : Level) (ms : List Message) → IsLegal ms → has_broken ms ≡ false → IsLawful handed_on (v ∷ []) (ms ∷ []) (pass v ms)
passed_lawful v ms legal = by_legal (λ (xs : List Message). has_broken xs ≡ false → IsLawful handed_on (v ∷ []) (xs ∷ []) (pass v xs)) more first ms legal
  where
    first : has_broken [] ≡ false → IsLawful handed_on (v ∷ []) ([] ∷ []) (pass v [])
    first _ = subst (IsLawful handed_on (v ∷ []) ([] ∷ [])) (sym (pass-nil v)) (record { steps = []; on_ports = tt; lists_are = refl; given_is = refl; right = tt })

    more : (xs : List Message) (m : Message) → IsLegal xs → MayCome xs m → (has_broken xs ≡ false → IsLawful handed_on (v ∷ []) (xs ∷ []) (pass v xs)) → has_broken (xs ++ m ∷ []) ≡ false → IsLawful handed_on (v ∷ []) ((xs ++ m ∷ []) ∷ []) (pass v (xs ++ m ∷ []))
    more xs m was may before none =
        subst (IsLawful handed_on (v ∷ []) ((xs ++ m ∷ []) ∷ [])) (sym (pass-push v xs m))
        (lawful_push handed_on (v ∷ []) (xs ∷ []) (pass v xs) 0 m (passed_of v xs m) (omega arith) (before (open_unbroken xs may.0)) (passed_right v xs m (legal-push xs m was may) none))
