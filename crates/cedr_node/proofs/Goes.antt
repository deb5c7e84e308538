-- An operator with an aligner on each port goes on when a message comes.
use Rattle.std.proofs.Common.{◌≡◌, ℕ, ◌<◌, List, [], ◌∷◌, ◌++◌, Bool, true, false, cond, refl, ap, sym, ◌∙◌, subst, arith, length, set, get_or, append_assoc}
use Rattle.std.specs.Prelude.{map, nat_eq}
use Rattle.std.proofs.lemmas.List.{append-nil, length-map}
use Rattle.cedr_base.specs.declared.row.Row.{Row}
use Rattle.cedr_base.specs.declared.change.Change.{Change}
use Rattle.cedr_base.specs.declared.change.Message.{Message}
use Rattle.cedr_base.specs.declared.change.Message.TheVariants as message
use Rattle.cedr_base.specs.Rows.{count_of}
use Rattle.cedr_base.specs.Changes.{all_puts}
use Rattle.cedr_base.specs.Messages.{changes_of, mark_of, IsOpen, IsTableOf, IsLegal}
use Rattle.change_laws.proofs.Legal.{legal-push, changes-append, mark-append, table_stays}
use Rattle.cedr_table.specs.Operators.{SameTables, Tables, Meaning, OnlyHolds}
use Rattle.cedr_base.specs.declared.level.Level.{Level}
use Rattle.node_laws.specs.Pass.{has_end}
use Rattle.node_laws.specs.Lists.{Lists, list_at, IsReal, AreTables, with_more}
use Rattle.node_laws.specs.Lawful.{tables_of, fronts_of, passes_of, has_broken, any_broken, all_end, all_over, IsRight, Step, AreRightBehind, lists_after, lists_behind, given_by, no_lists, AreOnPorts, IsLawful}
use Rattle.node_laws.proofs.Grows.{end-pushed}
use Rattle.node_laws.proofs.Holds.{open_is}
use Rattle.op_driver.specs.Driving.{MayTake, Drives, Answers}
use Rattle.cedr_node.specs.declared.port.Port.{Port}
use Rattle.cedr_node.specs.Standing.{AllStand, levels_of, waiting_of, StandsBetween, IsPortTaken, HoldsAtFronts, end_of_ports, breaking}
use Rattle.node_laws.proofs.Ends.{open_unbroken, broken-append, ends_over}
use Rattle.cedr_node.proofs.PortLists.{all_length, all_set, levels_set, passes_more, tables_same, fronts_are, over_is}

-- one more step
module _ (meaning : Meaning) (levels : List Level) where
  lists-append : (ls : Lists) (ss : List Step) (s : Step) → lists_behind ls (ss ++ s ∷ []) ≡ lists_after (lists_behind ls ss) s
  lists-append ls [] s = refl
  lists-append ls (x ∷ ss) s = lists-append (lists_after ls x) ss s

  given-append : (ss : List Step) (s : Step) → given_by (ss ++ s ∷ []) ≡ given_by ss ++ s.piece
  given-append [] s = append-nil s.piece
  given-append (x ∷ ss) s = ap (λ (xs : List Message). x.piece ++ xs) (given-append ss s) ∙ sym (append_assoc x.piece (given_by ss) s.piece)

  right-append : (ls : Lists) (g : List Message) (ss : List Step) (s : Step) → AreRightBehind meaning levels ls g ss
      → IsRight meaning levels (lists_after (lists_behind ls ss) s) ((g ++ given_by ss) ++ s.piece) s.piece → AreRightBehind meaning levels ls g (ss ++ s ∷ [])
  right-append ls g [] s h k = (subst (λ (xs : List Message). IsRight meaning levels (lists_after ls s) (xs ++ s.piece) s.piece) (append-nil g) k, tt)
  right-append ls g (x ∷ ss) s h k = (
    h.0,
    right-append (lists_after ls x) (g ++ x.piece) ss s h.1
        (subst (λ (xs : List Message). IsRight meaning levels (lists_after (lists_behind (lists_after ls x) ss) s) (xs ++ s.piece) s.piece) (sym (append_assoc g x.piece (given_by ss))) k),
  )

  on_ports-append : (n : ℕ) (ss : List Step) (s : Step) → AreOnPorts n ss → s.port < n → AreOnPorts n (ss ++ s ∷ [])
  on_ports-append n [] s h within = (within, tt)
  on_ports-append n (x ∷ ss) s h within = (h.0, on_ports-append n ss s h.1 within)

  pub lawful_push : (lists : Lists) (given : List Message) (port : ℕ) (m : Message) (piece : List Message) → port < length levels → IsLawful meaning levels lists given
      → IsRight meaning levels (with_more lists port (m ∷ [])) (given ++ piece) piece → IsLawful meaning levels (with_more lists port (m ∷ [])) (given ++ piece)
  lawful_push lists given port m piece within h right =
      let s : Step = record { port = port; message = m; piece = piece } in
      record {
        steps = h.steps ++ (record { port = port; message = m; piece = piece }) ∷ [];
        on_ports = on_ports-append (length levels) h.steps s h.on_ports within;
        lists_are = lists-append (no_lists levels) h.steps s ∙ ap (λ (ls : Lists). with_more ls port (m ∷ [])) h.lists_are;
        given_is = given-append h.steps s ∙ ap (λ (xs : List Message). xs ++ piece) h.given_is;
        right = right-append (no_lists levels) [] h.steps s h.right
            (subst (λ (ls : Lists). IsRight meaning levels (with_more ls port (m ∷ [])) (given_by h.steps ++ piece) piece) (sym h.lists_are)
            (subst (λ (xs : List Message). IsRight meaning levels (with_more lists port (m ∷ [])) (xs ++ piece) piece) (sym h.given_is) right));
      }

-- the end after what was given
record IsEnded (given : List Message) (rows : List Row) (t : ℕ) (over : Bool) (g : List Message) : Type 0 where
  legal : IsLegal g
  table : IsTableOf g rows
  mark : mark_of g ≡ t
  ended : has_end g ≡ over
  unbroken : has_broken g ≡ false
  changes : changes_of g ≡ changes_of given

ended_at : (given : List Message) (rows : List Row) (t : ℕ) (b : Bool) → IsLegal given → IsOpen given → IsTableOf given rows → mark_of given ≡ t → IsEnded given rows t b (given ++ cond b (message.End ∷ []) [])
ended_at given rows t true legal opened table mark = record {
  legal = legal-push given message.End legal (opened, tt);
  table = table_stays given message.End rows table refl;
  mark = omega (arith, mark-append given (message.End ∷ []));
  ended = end-pushed given;
  unbroken = broken-append given (message.End ∷ []) (open_unbroken given opened);
  changes = changes-append given (message.End ∷ []) ∙ append-nil (changes_of given);
}
ended_at given rows t false legal opened table mark = subst (λ (g : List Message). IsEnded given rows t false g) (sym (append-nil given)) (record {
  legal = legal;
  table = table;
  mark = mark;
  ended = open_is given opened;
  unbroken = open_unbroken given opened;
  changes = refl;
})

module _ (meaning : Meaning) (stands stands' : Tables → List ℕ → Type 0) (held : Tables) (ports : List Port) (marks marks' : List ℕ) (sent sent' waiting waiting' : ℕ) (broken : Bool) (lists : Lists) (given : List Message)
    (port : ℕ) (m : Message) (d p' : Port) (passed before after : List Message)
    (h : StandsBetween meaning stands ports marks sent waiting broken lists given) (may : MayTake lists port m)
    (taken : IsPortTaken (get_or ports port d) p' (list_at lists port) m [] passed)
    (waiting_now : waiting' ≡ waiting_of (with_more lists port (m ∷ []))) where
  ports_now : AllStand (set ports port p') (with_more lists port (m ∷ []))
  ports_now = all_set port ports lists p' (list_at lists port ++ m ∷ []) h.ports_stand taken.stands

  levels_now : levels_of (set ports port p') ≡ levels_of ports
  levels_now = levels_set port ports p' d taken.same_level

  pub passes_now : with_more (passes_of (levels_of ports) lists) port passed ≡ passes_of (levels_of (set ports port p')) (with_more lists port (m ∷ []))
  passes_now =
      ap (λ (ms : List Message). with_more (passes_of (levels_of ports) lists) port ms) taken.passed_on
      ∙ (sym (passes_more port ports lists d m h.ports_stand may.port_is) ∙ ap (λ (vs : List Level). passes_of vs (with_more lists port (m ∷ []))) (sym levels_now))

  within_now : port < length (levels_of (set ports port p'))
  within_now = let e = may.port_is in omega (arith, ap (λ (vs : List Level). length vs) levels_now, length-map ports (λ (q : Port). q.aligner.level), all_length ports lists h.ports_stand)

  lawful_now : IsLawful meaning (levels_of (set ports port p')) lists given
  lawful_now = subst (λ (vs : List Level). IsLawful meaning vs lists given) (sym levels_now) h.lawful

  -- a message that leaves no list broken
  module _ (none : any_broken (with_more lists port (m ∷ [])) ≡ false) (a : Answers meaning stands' held marks' sent sent' (passes_of (levels_of ports) lists) port passed given before after)
      (echo_next : meaning.echoes ≡ true → passes_of (levels_of (set ports port p')) (with_more lists port (m ∷ [])) ≡ (given ++ (a.gained ++ end_of_ports waiting')) ∷ []) where
    same_now : SameTables a.drives.works.tables (tables_of (levels_of (set ports port p')) (with_more lists port (m ∷ [])))
    same_now = tables_same (set ports port p') (with_more lists port (m ∷ [])) a.drives.works.tables ports_now (subst (λ (ls : Lists). AreTables ls a.drives.works.tables) passes_now a.drives.works.are)

    marks_now : marks' ≡ fronts_of (levels_of (set ports port p')) (with_more lists port (m ∷ []))
    marks_now = a.drives.works.marks_are ∙ (ap (λ (ls : Lists). map mark_of ls) passes_now ∙ fronts_are (set ports port p') (with_more lists port (m ∷ [])) ports_now)

    ended_now : IsEnded (given ++ a.gained) (meaning.result (tables_of (levels_of (set ports port p')) (with_more lists port (m ∷ [])))) (meaning.bound (tables_of (levels_of (set ports port p')) (with_more lists port (m ∷ []))) (fronts_of (levels_of (set ports port p')) (with_more lists port (m ∷ [])))) (all_end (with_more lists port (m ∷ []))) (given ++ (a.gained ++ end_of_ports waiting'))
    ended_now =
        let ts = tables_of (levels_of (set ports port p')) (with_more lists port (m ∷ [])) in
        let t : mark_of (given ++ a.gained) ≡ meaning.bound (tables_of (levels_of (set ports port p')) (with_more lists port (m ∷ []))) (fronts_of (levels_of (set ports port p')) (with_more lists port (m ∷ []))) = a.bound_is ts same_now ∙ ap (λ (ns : List ℕ). meaning.bound ts ns) marks_now in
        let over : nat_eq waiting' 0 ≡ all_end (with_more lists port (m ∷ [])) = ap (λ n. nat_eq n 0) waiting_now ∙ (sym (over_is (with_more lists port (m ∷ []))) ∙ sym (ends_over (with_more lists port (m ∷ [])) none)) in
        subst (λ (b : Bool). IsEnded (given ++ a.gained) (meaning.result ts) (meaning.bound ts (fronts_of (levels_of (set ports port p')) (with_more lists port (m ∷ [])))) b (given ++ (a.gained ++ end_of_ports waiting'))) over
        (subst (λ (g : List Message). IsEnded (given ++ a.gained) (meaning.result ts) (meaning.bound ts (fronts_of (levels_of (set ports port p')) (with_more lists port (m ∷ [])))) (nat_eq waiting' 0) g) (append_assoc given a.gained (end_of_ports waiting'))
        (ended_at (given ++ a.gained) (meaning.result ts) _ (nat_eq waiting' 0) a.drives.works.legal a.drives.works.opened (a.table_is ts same_now) t))

    -- the operator holds only rows that it may hold at the passed tables and the fronts
    pub holds_now : HoldsAtFronts meaning (levels_of (set ports port p')) (with_more lists port (m ∷ [])) held
    holds_now =
        let ts = tables_of (levels_of (set ports port p')) (with_more lists port (m ∷ [])) in
        subst (λ (ns : List ℕ). OnlyHolds meaning (tables_of (levels_of (set ports port p')) (with_more lists port (m ∷ []))) ns held) marks_now (a.holds ts same_now)

    right_now : IsRight meaning (levels_of (set ports port p')) (with_more lists port (m ∷ [])) (given ++ (a.gained ++ end_of_ports waiting')) (a.gained ++ end_of_ports waiting')
    right_now =
        let e = ended_now in
        record {
          whole = λ _. record {
            legal = e.legal;
            table = e.table;
            mark = e.mark;
            ended = e.ended;
            unbroken = e.unbroken;
            real = λ r there. subst (λ (ls : Lists). IsReal meaning ls r) passes_now (a.drives.works.real r (subst (λ (cs : List Change). 0 < count_of r (all_puts cs)) e.changes there));
            passed_on = echo_next;
          };
          last = λ e. cc;
          empty = λ e. cc;
        }

    no_end : (b : Bool) → b ≡ false → (given ++ (a.gained ++ cond b (message.End ∷ []) [])) ≡ given ++ a.gained
    no_end true e = cc
    no_end false e = ap (λ (g : List Message). given ++ g) (append-nil a.gained)

    pub goes : (broken' : Bool) → broken' ≡ any_broken (with_more lists port (m ∷ []))
        → StandsBetween meaning stands' (set ports port p') marks' sent' waiting' broken' (with_more lists port (m ∷ [])) (given ++ (a.gained ++ end_of_ports waiting'))
    goes broken' broken_is = record {
      ports_stand = ports_now;
      waiting_is = waiting_now;
      broken_is = broken_is;
      lawful = lawful_push meaning (levels_of (set ports port p')) lists given port m (a.gained ++ end_of_ports waiting') within_now lawful_now right_now;
      drives = λ _ not_over.
          let zero : nat_eq waiting' 0 ≡ false = ap (λ n. nat_eq n 0) waiting_now ∙ (sym (over_is (with_more lists port (m ∷ []))) ∙ not_over) in
          subst (λ (g : List Message). Drives meaning stands' marks' sent' (passes_of (levels_of (set ports port p')) (with_more lists port (m ∷ []))) g) (sym (no_end (nat_eq waiting' 0) zero))
          (subst (λ (ls : Lists). Drives meaning stands' marks' sent' ls (given ++ a.gained)) passes_now a.drives);
      echo = λ _. echo_next;
    }

  breaks_at : (b : Bool) → (b ≡ true → cond b (message.Broken ∷ []) [] ≡ message.Broken ∷ []) × (b ≡ false → cond b (message.Broken ∷ []) [] ≡ [])
  breaks_at true = (λ e. refl, λ e. cc)
  breaks_at false = (λ e. cc, λ e. refl)

  -- a message that leaves some list broken
  pub breaks_off : any_broken (with_more lists port (m ∷ [])) ≡ true → (broken' : Bool) → broken' ≡ any_broken (with_more lists port (m ∷ []))
      → StandsBetween meaning stands (set ports port p') marks sent waiting' broken' (with_more lists port (m ∷ [])) (given ++ breaking waiting')
  breaks_off some broken' broken_is =
      let over : nat_eq waiting' 0 ≡ all_over (with_more lists port (m ∷ [])) = ap (λ n. nat_eq n 0) waiting_now ∙ sym (over_is (with_more lists port (m ∷ []))) in
      let cases = breaks_at (nat_eq waiting' 0) in
      record {
        ports_stand = ports_now;
        waiting_is = waiting_now;
        broken_is = broken_is;
        lawful = lawful_push meaning (levels_of (set ports port p')) lists given port m (breaking waiting') within_now lawful_now
            (record { whole = λ e. cc; last = λ _ k. cases.0 (over ∙ k); empty = λ _ k. cases.1 (over ∙ k) });
        drives = λ e. cc;
        echo = λ e. cc;
      }
