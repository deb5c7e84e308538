-- What echoes hands on just what its port passes on.
use Rattle.std.proofs.Common.{◌≡◌, ℕ, ◌+◌, ◌<◌, zero, suc, List, [], ◌∷◌, ◌++◌, Bool, true, false, cond, refl, ap, sym, ◌∙◌, arith, length, get_or, append_assoc}
use Rattle.std.specs.Prelude.{map, nat_eq}
use Rattle.cedr_base.specs.declared.change.Change.{Change}
use Rattle.cedr_base.specs.declared.change.Message.{Message}
use Rattle.cedr_base.specs.declared.change.Message.TheVariants as message
use Rattle.cedr_base.specs.Messages.{changes_of, mark_of, MayCome}
use Rattle.change_laws.proofs.Legal.{legal-push}
use Rattle.cedr_base.specs.declared.level.Level.{Level}
use Rattle.node_laws.specs.Pass.{passed_of, front, pass, itself, gained, additions, closing, answer}
use Rattle.change_laws.specs.Repairs.{wrapped}
use Rattle.node_laws.specs.Lists.{mark_above, Lists, list_at, with_more}
use Rattle.node_laws.specs.Lawful.{passes_of, is_over}
use Rattle.cedr_node.specs.Standing.{is_broken, is_closing, AllStand, levels_of, waiting_of, end_of_ports}
use Rattle.node_laws.proofs.Grows.{pass-push}
use Rattle.node_laws.proofs.Strong.{changes_answer}
use Rattle.node_laws.proofs.Passes.{passes, adds, additions_wrapped, wrapped-append}
use Rattle.cedr_node.specs.declared.port.Port.{Port}
use Rattle.cedr_node.proofs.PortLists.{over_pushed}

answer_parts : (v : Level) (l : List Message) (m : Message) → answer v l m ≡ (wrapped (changes_of (answer v l m)) ++ mark_above (front v l) (front v (l ++ m ∷ []))) ++ closing m
answer_parts v l m =
    let own = itself v l m in
    let rows = gained v l m in
    let k = mark_above (front v l) (front v (l ++ m ∷ [])) in
    let e : wrapped (changes_of (answer v l m)) ≡ wrapped (itself v l m) ++ additions (gained v l m) =
    ap (λ (cs : List Change). wrapped cs) (changes_answer v l m) ∙ (wrapped-append own (adds rows) ∙ ap (λ (ms : List Message). wrapped own ++ ms) (sym (additions_wrapped rows))) in
    sym (ap (λ (ms : List Message). (ms ++ k) ++ closing m) e ∙ (ap (λ (ms : List Message). ms ++ closing m) (append_assoc (wrapped own) (additions rows) k) ∙ (append_assoc (wrapped own) (additions rows ++ k) (closing m) ∙ ap (λ (ms : List Message). wrapped own ++ ms) (append_assoc (additions rows) k (closing m)))))

parts_of : (v : Level) (l : List Message) (m : Message) → is_broken m ≡ false → passed_of v l m ≡ (wrapped (changes_of (passed_of v l m)) ++ mark_above (front v l) (front v (l ++ m ∷ []))) ++ closing m
parts_of v l (message.Change c) h = answer_parts v l (message.Change c)
parts_of v l (message.Mark t) h = answer_parts v l (message.Mark t)
parts_of v l message.End h = answer_parts v l message.End
parts_of v l message.Broken h = cc

closing_is : (m : Message) → is_broken m ≡ false → closing m ≡ cond (is_closing m) (message.End ∷ []) []
closing_is (message.Change c) h = refl
closing_is (message.Mark t) h = refl
closing_is message.End h = refl
closing_is message.Broken h = cc

zero_is : (b : Bool) → nat_eq (cond {A = ℕ} b 0 1 + 0) 0 ≡ b
zero_is true = refl
zero_is false = refl

head_is : (a b : ℕ) (xs ys : List ℕ) → a ∷ xs ≡ b ∷ ys → a ≡ b
head_is a b xs ys h = cc

head_of : (a b : List Message) (xs ys : Lists) → a ∷ xs ≡ b ∷ ys → a ≡ b
head_of a b xs ys h = cc

-- where the only port passed on just what was given, it did so too after a message other than Broken
-- whose changes were given as they are, with the new mark and the end
pub echo_single : (ports : List Port) (lists : Lists) (port : ℕ) (m : Message) (d : Port) (given gain passed : List Message) (marks : List ℕ) (sent sent' waiting : ℕ) → AllStand ports lists → port < length lists → MayCome (list_at lists port) m → is_broken m ≡ false
    → passes_of (levels_of ports) lists ≡ given ∷ [] → sent ≡ mark_of given → waiting ≡ waiting_of (with_more lists port (m ∷ []))
    → passed ≡ passed_of (get_or ports port d).aligner.level (list_at lists port) m
    → marks ≡ map mark_of (with_more (passes_of (levels_of ports) lists) port passed) → marks ≡ sent' ∷ [] → gain ≡ wrapped (changes_of passed) ++ mark_above sent sent'
    → with_more (passes_of (levels_of ports) lists) port passed ≡ (given ++ (gain ++ end_of_ports waiting)) ∷ []
echo_single [] [] port m d given gain passed marks sent sent' waiting h within may whole was sent_is waiting_is passed_is marks_are only gain_is = absurd (omega arith)
echo_single [] (l ∷ ls) port m d given gain passed marks sent sent' waiting h within may whole was sent_is waiting_is passed_is marks_are only gain_is = absurd h
echo_single (p ∷ ps) [] port m d given gain passed marks sent sent' waiting h within may whole was sent_is waiting_is passed_is marks_are only gain_is = absurd h
echo_single (p ∷ []) (l ∷ k ∷ ls) port m d given gain passed marks sent sent' waiting h within may whole was sent_is waiting_is passed_is marks_are only gain_is = absurd h.1
echo_single (p ∷ q ∷ ps) (l ∷ []) port m d given gain passed marks sent sent' waiting h within may whole was sent_is waiting_is passed_is marks_are only gain_is = absurd h.1
echo_single (p ∷ q ∷ ps) (l ∷ k ∷ ls) port m d given gain passed marks sent sent' waiting h within may whole was sent_is waiting_is passed_is marks_are only gain_is = cc
echo_single (p ∷ []) (l ∷ []) (suc n) m d given gain passed marks sent sent' waiting h within may whole was sent_is waiting_is passed_is marks_are only gain_is = absurd (omega arith)
echo_single (p ∷ []) (l ∷ []) zero m d given gain passed marks sent sent' waiting h within may whole was sent_is waiting_is passed_is marks_are only gain_is =
    let v = p.aligner.level in
    let stands = h.0 in
    let legal = stands.aligns.legal in
    let given_is : pass v l ≡ given = head_of _ _ _ _ was in
    let sent_front : sent ≡ front v l = sent_is ∙ (ap (λ (ms : List Message). mark_of ms) (sym given_is) ∙ (passes v l legal).mark) in
    let grown : pass v l ++ passed ≡ pass v (l ++ m ∷ []) = ap (λ (ms : List Message). pass v l ++ ms) passed_is ∙ sym (pass-push v l m) in
    let sent_next : sent' ≡ front v (l ++ m ∷ []) = head_is _ _ _ _ (sym only ∙ marks_are) ∙ (ap (λ (ms : List Message). mark_of ms) grown ∙ (passes v (l ++ m ∷ []) (legal-push l m legal may)).mark) in
    let ending_is : end_of_ports waiting ≡ closing m =
    ap (λ (n : ℕ). cond (nat_eq n 0) (message.End ∷ []) []) waiting_is
    ∙ (ap (λ (b : Bool). cond b (message.End ∷ []) []) (zero_is (is_over (l ++ m ∷ [])) ∙ over_pushed l m may.0) ∙ sym (closing_is m whole)) in
    let piece : gain ++ end_of_ports waiting ≡ passed =
    ap (λ (ms : List Message). ms ++ end_of_ports waiting) gain_is
    ∙ (ap (λ (ms : List Message). (wrapped (changes_of passed) ++ mark_above sent sent') ++ ms) ending_is
    ∙ (ap (λ (n : ℕ). (wrapped (changes_of passed) ++ mark_above n sent') ++ closing m) sent_front
    ∙ (ap (λ (n : ℕ). (wrapped (changes_of passed) ++ mark_above (front v l) n) ++ closing m) sent_next
    ∙ (ap (λ (ms : List Message). (wrapped (changes_of ms) ++ mark_above (front v l) (front v (l ++ m ∷ []))) ++ closing m) passed_is ∙ (sym (parts_of v l m whole) ∙ sym passed_is))))) in
    ap (λ (ms : List Message). ms ∷ []) (ap (λ (ms : List Message). ms ++ passed) given_is ∙ ap (λ (ms : List Message). given ++ ms) (sym piece))
