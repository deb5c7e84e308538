-- What is pending on an edge, as its queue has it.
use Rattle.std.proofs.Common.{◌≡◌, ◌≢◌, ℕ, zero, suc, ◌-◌, ◌≤◌, true, false, true≢false, List, [], ◌∷◌, ◌++◌, length, take, drop, Option, None, Some, refl, sym, ap, ◌∙◌, subst, append_assoc, arith}
use Rattle.std.specs.Prelude.{is_some}
use Rattle.std.proofs.lemmas.List.{append-nil}
use Rattle.cedr_base.specs.declared.change.Message.{Message}
use Rattle.cedr_base.specs.declared.change.Message.TheVariants as message
use Rattle.cedr_base.specs.Messages.{IsLegal}
use Rattle.cedr_edge.specs.Ends.{OutEnd}
use Rattle.node_laws.specs.Lawful.{is_over}
use Rattle.cedr_edge.proofs.Lists.{may_end, may_break, over_append, nothing_behind, split_legal, sends_first}
use Rattle.worker_outlets.specs.declared.last.Last.{Last}
use Rattle.worker_outlets.specs.declared.last.Last.TheVariants as last
use Rattle.worker_outlets.specs.Outgoing.{Outgoing, last_messages, last_message}
use Rattle.worker_outlets.specs.Outlets.{total_of}

last_over : (l : Last) (sent firm : List Message) → is_over (sent ++ (firm ++ last_message l ∷ [])) ≡ true
last_over last.End sent firm = over_append sent (firm ++ message.End ∷ []) (over_append firm (message.End ∷ []) refl)
last_over last.Broken sent firm = over_append sent (firm ++ message.Broken ∷ []) (over_append firm (message.Broken ∷ []) refl)

may_last : (l : Last) (xs : List Message) → is_over xs ≡ false → IsLegal xs → IsLegal (xs ++ last_message l ∷ [])
may_last last.End xs goes h = may_end xs goes h
may_last last.Broken xs goes h = may_break xs goes h

-- a last message may come after what isn't over
pub may_close : (o : Option Last) (l : Last) (sent firm : List Message) → is_over (sent ++ (firm ++ last_messages o)) ≡ false → IsLegal (sent ++ (firm ++ last_messages o)) → IsLegal (sent ++ (firm ++ last_message l ∷ []))
may_close (Some k) l sent firm goes h = absurd (true≢false (sym (last_over k sent firm) ∙ goes))
may_close None l sent firm goes h =
    let e : firm ++ [] ≡ firm = append-nil firm in
    let goes' : is_over (sent ++ firm) ≡ false = ap (λ (ms : List Message). is_over (sent ++ ms)) (sym e) ∙ goes in
    subst IsLegal (append_assoc sent firm (last_message l ∷ [])) (may_last l (sent ++ firm) goes' (subst (λ (ms : List Message). IsLegal (sent ++ ms)) e h))

closed_pending : (o : Option Last) (l : Last) (sent firm : List Message) → is_over (sent ++ (firm ++ last_messages o)) ≡ false → firm ++ last_message l ∷ [] ≡ (firm ++ last_messages o) ++ last_message l ∷ []
closed_pending (Some k) l sent firm goes = absurd (true≢false (sym (last_over k sent firm) ∙ goes))
closed_pending None l sent firm goes = ap (λ (ms : List Message). ms ++ last_message l ∷ []) (sym (append-nil firm))

-- and then it is pending after what was
pub closed_view : (o : Option Last) (l : Last) (inside now : Outgoing) (firm : List Message) → inside ≡ now → inside.pending ≡ firm ++ last_messages o → is_over (total_of now) ≡ false
    → record inside { pending = firm ++ last_message l ∷ [] } ≡ record now { pending = now.pending ++ last_message l ∷ [] }
closed_view o l inside now firm same is goes =
    let goes' : is_over (inside.sent ++ (firm ++ last_messages o)) ≡ false = ap (λ (ms : List Message). is_over (inside.sent ++ ms)) (sym is) ∙ (ap (λ (x : Outgoing). is_over (total_of x)) same ∙ goes) in
    let w : firm ++ last_message l ∷ [] ≡ inside.pending ++ last_message l ∷ [] = closed_pending o l inside.sent firm goes' ∙ ap (λ (ms : List Message). ms ++ last_message l ∷ []) (sym is) in
    ap (λ (ms : List Message). record inside { pending = ms }) w ∙ ap (λ (x : Outgoing). record x { pending = x.pending ++ last_message l ∷ [] }) same

-- after a last message nothing may be set down
pub commits_none : (o : Option Last) (now : Outgoing) (firm : List Message) → is_some o ≡ true → now.pending ≡ firm ++ last_messages o → IsLegal (total_of now ++ now.staged) → now ≡ record now { pending = now.pending ++ now.staged; staged = [] }
commits_none None now firm e is legal = absurd (true≢false (sym e))
commits_none (Some l) now firm e is legal =
    let over : is_over (total_of now) ≡ true = ap (λ (ms : List Message). is_over (now.sent ++ ms)) is ∙ last_over l now.sent firm in
    let none : now.staged ≡ [] = nothing_behind (total_of now) now.staged over legal in
    let same : now.pending ≡ now.pending ++ now.staged = sym (append-nil now.pending) ∙ ap (λ (ms : List Message). now.pending ++ ms) (sym none) in
    λ k. record now { pending = same k; staged = none k }

-- the first of what is pending, and the rest
pub take_first : (firm : ℕ) (items : List Message) (m : Message) (rest : List Message) → firm ≢ 0 → items ≡ m ∷ rest → take firm items ≡ m ∷ take (firm - 1) rest
take_first zero items m rest some is = absurd (some refl)
take_first (suc n) items m rest some is = let e : suc n - 1 ≡ n = omega arith in ap (λ (l : List Message). take (suc n) l) is ∙ ap (λ (k : ℕ). m ∷ take k rest) (sym e)

-- once the first of what is pending is taken out, what is set down after it stays
pub drop_first : (firm : ℕ) (items : List Message) (m : Message) (rest : List Message) → firm ≢ 0 → items ≡ m ∷ rest → drop (firm - 1) rest ≡ drop firm items
drop_first zero items m rest some is = absurd (some refl)
drop_first (suc n) items m rest some is = let e : suc n - 1 ≡ n = omega arith in ap (λ (k : ℕ). drop k rest) e ∙ sym (ap (λ (l : List Message). drop (suc n) l) is)

firm_below : (firm : ℕ) (items : List Message) (m : Message) (rest : List Message) → items ≡ m ∷ rest → firm ≤ length items → firm - 1 ≤ length rest
firm_below firm items m rest is below = omega (arith, below, ap (λ (l : List Message). length l) is)

module _ (firm : ℕ) (items : List Message) (m : Message) (rest end sent : List Message) (some : firm ≢ 0) (is : items ≡ m ∷ rest) where
  pub pending_legal : IsLegal (sent ++ (take firm items ++ end)) → IsLegal (sent ++ m ∷ [])
  pending_legal h = sends_first sent m (take (firm - 1) rest ++ end) (subst (λ (l : List Message). IsLegal (sent ++ (l ++ end))) (take_first firm items m rest some is) h)

  pub pending_put : (edge' : OutEnd) → edge'.sent ≡ sent ++ m ∷ [] → IsLegal (sent ++ (take firm items ++ end)) → firm ≤ length items → IsLegal (edge'.sent ++ (take (firm - 1) rest ++ end)) × (firm - 1 ≤ length rest)
  pending_put edge' e h below = (
    subst (λ (l : List Message). IsLegal (l ++ (take (firm - 1) rest ++ end))) (sym e) (split_legal sent m (take (firm - 1) rest ++ end) (subst (λ (l : List Message). IsLegal (sent ++ (l ++ end))) (take_first firm items m rest some is) h)),
    firm_below firm items m rest is below,
  )

  pub pending_total : (edge' : OutEnd) → edge'.sent ≡ sent ++ m ∷ [] → edge'.sent ++ (take (firm - 1) rest ++ end) ≡ sent ++ (take firm items ++ end)
  pending_total edge' e =
      ap (λ (l : List Message). l ++ (take (firm - 1) rest ++ end)) e ∙ (append_assoc sent (m ∷ []) (take (firm - 1) rest ++ end) ∙ ap (λ (l : List Message). sent ++ (l ++ end)) (sym (take_first firm items m rest some is)))
