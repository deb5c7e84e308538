-- Each of the six kinds of step keeps the rule of an edge.
use Rattle.std.proofs.Common.{◌≡◌, ◌≢◌, ◌≤◌, ℕ, zero, suc, true, false, true≢false, List, [], ◌∷◌, ◌++◌, length, set, sym, refl, ap, ◌∙◌, subst, ⊎_elim, append_assoc, length-append, arith}
use Rattle.std.proofs.lemmas.List.{append-nil}
use mathlib.Core.Option.{some, some-ne-none}
use lib.ListN.{get_elem?}
use Rattle.crossbeam_queue.specs.Fifo.{Pushes, Pops, Forks, Merges, Learns}
use Rattle.crossbeam_queue.proofs.Lists.{at_set, at_snoc}
use Rattle.cedr_base.specs.declared.change.Message.{Message}
use Rattle.cedr_base.specs.Messages.{IsLegal}
use Rattle.cedr_edge.specs.declared.line.Hand.{Hand}
use Rattle.cedr_edge.specs.Line.{hand, FitsHand, IsInOrder}
use Rattle.node_laws.specs.Lawful.{is_over}
use Rattle.cedr_edge.specs.Ends.{as_u64}
use Rattle.cedr_edge.proofs.Lists.{legal_front, nothing_behind}

at_end : (l : List Hand) (a b : Hand) (j : ℕ) → get_elem? l j ≢ some b → get_elem? (l ++ a ∷ []) j ≡ some b → j ≡ length l
at_end [] a b zero n e = refl
at_end [] a b (suc j) n e = absurd (some-ne-none b (sym e))
at_end (x ∷ xs) a b zero n e = absurd (n e)
at_end (x ∷ xs) a b (suc j) n e = ap suc (at_end xs a b j n e)

abbrev All : (ℕ → Hand → Type 0) → List Hand → Type 0
All F views = (port : ℕ) (v : Hand) → get_elem? views port ≡ some v → F port v

all_set : (F : ℕ → Hand → Type 0) (views : List Hand) (port : ℕ) (w : Hand) → F port w → ((j : ℕ) (u : Hand) → j ≢ port → get_elem? views j ≡ some u → F j u) → All F (set views port w)
all_set F views port w mine others j u e = ⊎_elim (λ (x : (j ≡ port) × (w ≡ u)). subst (λ (y : ℕ × Hand). F y.0 y.1) (λ i. (sym x.0 i, x.1 i)) mine)
    (λ (x : (j ≢ port) × (get_elem? views j ≡ some u)). others j u x.0 x.1) (at_set views port j w u e)

-- making the passes
pub begins : IsInOrder [] (hand true true [] [] ∷ [])
begins = (0, 0, [], [], refl, tt, all_set (FitsHand 0 0 [] []) (hand true true [] [] ∷ []) 0 (hand true true [] []) ((λ _. (refl, refl)), λ _. (refl, refl)) (λ j u other e. absurd (other (at_end [] _ u j (λ x. some-ne-none u (sym x)) e))))

-- parting the passes: one may put and has what was sent, the other may take and has what was taken
pub parts : (port : ℕ) (v : Hand) → v.puts ≡ true → v.takes ≡ true → Forks IsInOrder port v (hand true false v.sent []) (hand false true [] v.taken)
parts port v a b items views h at = let l : Hand = hand true false v.sent [] in let r : Hand = hand false true [] v.taken in let mine = h.6 port v at in let vs : List Hand = set views port l in
    let Old : ℕ → Hand → Type 0 = λ j u. (u.puts ≡ true → (j ≡ h.0) × (u.sent ≡ h.2)) × (u.takes ≢ true) in
    let old : All Old vs = all_set Old views port l ((λ _. mine.0 a), λ p. true≢false (sym p)) (λ j u other e. ((h.6 j u e).0, λ p. other (((h.6 j u e).1 p).0 ∙ sym (mine.1 b).0))) in (
      h.0,
      length vs,
      h.2,
      h.3,
      h.4,
      h.5,
      λ j u e. ⊎_elim (λ x. ((old j u x).0, λ p. absurd ((old j u x).1 p)))
          (λ (is : r ≡ u). ((λ p. absurd (true≢false (sym (ap (λ (y : Hand). y.puts) is ∙ p)))), λ p. (at_end vs r u j (λ x. (old j u x).1 p) e, ap (λ (y : Hand). y.taken) (sym is) ∙ (mine.1 b).1))) (at_snoc vs r u j e),
    )

-- a put that is taken
pub puts : (n port : ℕ) (v : Hand) (x : Message) → v.puts ≡ true → IsLegal (v.sent ++ x ∷ []) → Pushes IsInOrder n port v x (λ w. w ≡ hand v.puts v.takes (v.sent ++ x ∷ []) v.taken)
puts n port v x may legal items views _ h at = let w : Hand = hand v.puts v.takes (v.sent ++ x ∷ []) v.taken in let mine = h.6 port v at in let sent = h.2 ++ x ∷ [] in (
  w,
  (
    h.0,
    h.1,
    sent,
    h.3,
    ap (λ l. l ++ x ∷ []) h.4 ∙ append_assoc h.3 items (x ∷ []),
    subst (λ (l : List Message). IsLegal (l ++ x ∷ [])) (mine.0 may).1 legal,
    all_set (FitsHand h.0 h.1 sent h.3) views port w ((λ _. ((mine.0 may).0, ap (λ l. l ++ x ∷ []) (mine.0 may).1)), mine.1)
        (λ j u other e. ((λ p. absurd (other (((h.6 j u e).0 p).0 ∙ sym (mine.0 may).0))), (h.6 j u e).1)),
  ),
  refl,
)

-- a put that is refused
pub learns_full : (port : ℕ) (v : Hand) → v.puts ≡ true → Learns IsInOrder port v (λ items. length items ≤ length v.sent)
learns_full port v may items views h at =
    let sent : length v.sent ≡ length h.2 = ap length ((h.6 port v at).0 may).1 in
    let is : length h.2 ≡ length (h.3 ++ items) = ap length h.4 in
    omega (arith, length-append h.3 items)

-- a take that is given
pub takes : (port : ℕ) (v : Hand) → v.takes ≡ true → Pops IsInOrder port v (λ x w. (w ≡ hand v.puts v.takes v.sent (v.taken ++ x ∷ [])) × IsLegal (v.taken ++ x ∷ []))
takes port v may x items views h at = let w : Hand = hand v.puts v.takes v.sent (v.taken ++ x ∷ []) in let mine = h.6 port v at in let taken = h.3 ++ x ∷ [] in
    let is : h.2 ≡ taken ++ items = h.4 ∙ sym (append_assoc h.3 (x ∷ []) items) in (
      w,
      (
        h.0,
        h.1,
        h.2,
        taken,
        is,
        h.5,
        all_set (FitsHand h.0 h.1 h.2 taken) views port w (mine.0, λ _. ((mine.1 may).0, ap (λ l. l ++ x ∷ []) (mine.1 may).1))
            (λ j u other e. ((h.6 j u e).0, λ p. absurd (other (((h.6 j u e).1 p).0 ∙ sym (mine.1 may).0)))),
      ),
      (refl, subst (λ (l : List Message). IsLegal (l ++ x ∷ [])) (sym (mine.1 may).1) (legal_front taken items (subst IsLegal is h.5))),
    )

-- a take that is refused
pub learns_empty : (port : ℕ) (v : Hand) → Learns IsInOrder port v (λ items. Unit {0})
learns_empty port v items views h at = tt

-- joining the passes
pub joins : (port : ℕ) (v : Hand) (other : ℕ) (u : Hand) → v.takes ≡ true → u.puts ≡ true → Merges IsInOrder port v other u (hand true true u.sent v.taken) (hand false false [] [])
joins port v other u a b items views h at two at' = let both : Hand = hand true true u.sent v.taken in let mine = h.6 port v at in let vs : List Hand = set views port both in
    let was : get_elem? views other ≡ some u = ⊎_elim (λ x. absurd (two x.0)) (λ x. x.1) (at_set views port other both u at') in let theirs = (h.6 other u was).0 b in
    let Now : ℕ → Hand → Type 0 = λ j y. j ≢ other → FitsHand port h.1 h.2 h.3 j y in
    let now : All Now vs = all_set Now views port both (λ _. ((λ _. (refl, theirs.1)), λ _. mine.1 a)) (λ j y _ e apart. ((λ p. absurd (apart (((h.6 j y e).0 p).0 ∙ sym theirs.0))), (h.6 j y e).1)) in
    (port, h.1, h.2, h.3, h.4, h.5, all_set (FitsHand port h.1 h.2 h.3) vs other (hand false false [] []) ((λ p. absurd (true≢false (sym p))), λ p. absurd (true≢false (sym p))) (λ j y apart e. now j y e apart))

-- a pass that may put and take learns that what was sent is what was taken and then what the queue holds,
-- and that it is legal
pub totals : (port : ℕ) (v : Hand) → v.puts ≡ true → v.takes ≡ true → Learns IsInOrder port v (λ items. (v.sent ≡ v.taken ++ items) × IsLegal v.sent)
totals port v a b items views h at = let mine = h.6 port v at in ((mine.0 a).1 ∙ h.4 ∙ ap (λ l. l ++ items) (sym (mine.1 b).1), subst IsLegal (sym (mine.0 a).1) h.5)

-- what both ends know of an edge over which all has gone
pub all_gone : (sent taken items : List Message) → is_over taken ≡ true → sent ≡ taken ++ items → IsLegal sent → sent ≡ taken
all_gone sent taken items over is legal = is ∙ ap (λ l. taken ++ l) (nothing_behind taken items over (subst IsLegal is legal)) ∙ append-nil taken

-- what the joined pass shows of an edge over which all has gone
pub closes : (sent taken : List Message) (count : ℕ) (v w : Hand) → v ≡ hand true true sent taken → w ≡ v → is_over taken ≡ true → ((items : List Message) × ((v.sent ≡ v.taken ++ items) × IsLegal v.sent)) → count ≡ as_u64 (length taken)
    → (w.sent ≡ w.taken) × (count ≡ as_u64 (length w.taken)) × IsLegal w.sent
closes sent taken count v w is same over fact counted =
    let at : (items : List Message) × ((sent ≡ taken ++ items) × IsLegal sent) = subst (λ (z : Hand). (items : List Message) × ((z.sent ≡ z.taken ++ items) × IsLegal z.sent)) is fact in
    subst (λ (z : Hand). (z.sent ≡ z.taken) × (count ≡ as_u64 (length z.taken)) × IsLegal z.sent) (sym (same ∙ is)) (all_gone sent taken at.0 over at.1.0 at.1.1, counted, at.1.1)
