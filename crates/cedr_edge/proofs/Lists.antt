-- Parts of legal lists, and lists that are over.
use Rattle.std.proofs.Common.{◌≡◌, ℕ, true, false, true≢false, List, [], ◌∷◌, ◌++◌, refl, sym, ap, ◌∙◌, subst, append_assoc, ◌<◌, ◌≤◌, ◌^◌, ◌+◌, ◌-◌, arith, length, min}
use Rattle.std.proofs.lemmas.List.{append-nil, length-append}
use Rattle.cedr_base.specs.declared.change.Message.{Message}
use Rattle.cedr_base.specs.declared.change.Message.TheVariants as message
use Rattle.cedr_base.specs.Messages.{mark_of, IsOpen, IsLegal}
use Rattle.node_laws.specs.Lawful.{is_over}
use Rattle.node_laws.specs.Pass.{has_end}
use Rattle.node_laws.proofs.Ends.{or_true, over_open}
use Rattle.change_laws.proofs.Legal.{legal-push, legal_first, may_come_in, mark-append}
use Rattle.cedr_edge.specs.Ends.{as_u64}

-- the front of a legal list is legal
pub legal_front : (xs ys : List Message) → IsLegal (xs ++ ys) → IsLegal xs
legal_front xs ys h = legal_first [] xs ys h

-- what isn't over is open
pub open_if : (xs : List Message) → is_over xs ≡ false → IsOpen xs
open_if [] e = tt
open_if (message.Change c ∷ xs) e = open_if xs e
open_if (message.Mark t ∷ xs) e = open_if xs e
open_if (message.End ∷ xs) e = absurd (true≢false e)
open_if (message.Broken ∷ xs) e = absurd (true≢false (sym (or_true (has_end xs)) ∙ e))

-- nothing comes after an end or a break
pub nothing_behind : (xs ys : List Message) → is_over xs ≡ true → IsLegal (xs ++ ys) → ys ≡ []
nothing_behind xs [] over h = refl
nothing_behind xs (y ∷ ys) over h = absurd (true≢false (sym over ∙ over_open xs (may_come_in xs ys y h).0))

-- a list is over where a later part of it is
pub over_append : (xs ys : List Message) → is_over ys ≡ true → is_over (xs ++ ys) ≡ true
over_append [] ys e = e
over_append (message.Change c ∷ xs) ys e = over_append xs ys e
over_append (message.Mark t ∷ xs) ys e = over_append xs ys e
over_append (message.End ∷ xs) ys e = refl
over_append (message.Broken ∷ xs) ys e = or_true (has_end (xs ++ ys))

over_push : (xs : List Message) (m : Message) → IsOpen xs → is_over (xs ++ m ∷ []) ≡ is_over (m ∷ [])
over_push [] m h = refl
over_push (message.Change c ∷ xs) m h = over_push xs m h
over_push (message.Mark t ∷ xs) m h = over_push xs m h
over_push (message.End ∷ xs) m h = absurd h
over_push (message.Broken ∷ xs) m h = absurd h

-- a legal list is over where its last message is an end or a break
pub over_last : (xs : List Message) (m : Message) → IsLegal (xs ++ m ∷ []) → is_over (xs ++ m ∷ []) ≡ is_over (m ∷ [])
over_last xs m h = over_push xs m (may_come_in xs [] m h).0

-- an End may follow a legal list that isn't over
pub may_end : (xs : List Message) → is_over xs ≡ false → IsLegal xs → IsLegal (xs ++ message.End ∷ [])
may_end xs e h = legal-push xs message.End h (open_if xs e, tt)

-- a Broken may follow a legal list that isn't over
pub may_break : (xs : List Message) → is_over xs ≡ false → IsLegal xs → IsLegal (xs ++ message.Broken ∷ [])
may_break xs e h = legal-push xs message.Broken h (open_if xs e, tt)

-- a mark above those before it, and at most 2^62, may follow a legal list that isn't over
pub may_mark : (xs : List Message) (t : ℕ) → is_over xs ≡ false → IsLegal xs → mark_of xs < t → t ≤ 2 ^ 62 → IsLegal (xs ++ message.Mark t ∷ [])
may_mark xs t e h less most = legal-push xs (message.Mark t) h (open_if xs e, (less, most))

-- the mark of a list that a greater mark follows is that one
pub marked : (xs : List Message) (t : ℕ) → mark_of xs < t → mark_of (xs ++ message.Mark t ∷ []) ≡ t
marked xs t less = omega (arith, mark-append xs (message.Mark t ∷ []))

-- the first of what waits may be sent, and the rest after it
pub split_legal : (sent : List Message) (m : Message) (rest : List Message) → IsLegal (sent ++ m ∷ rest) → IsLegal ((sent ++ m ∷ []) ++ rest)
split_legal sent m rest h = subst IsLegal (sym (append_assoc sent (m ∷ []) rest)) h

-- where what was sent and what waits are legal together, so is what was sent with the first of what waits
pub sends_first : (sent : List Message) (m : Message) (rest : List Message) → IsLegal (sent ++ m ∷ rest) → IsLegal (sent ++ m ∷ [])
sends_first sent m rest h = legal_front (sent ++ m ∷ []) rest (split_legal sent m rest h)

-- where the end was sent, nothing waits
pub all_sent : (sent waiting : List Message) → is_over sent ≡ true → IsLegal (sent ++ waiting) → sent ≡ sent ++ waiting
all_sent sent waiting over h = sym (append-nil sent) ∙ ap (λ l. sent ++ l) (sym (nothing_behind sent waiting over h))

-- the number that a u64 can say of a list with one message more
pub told_more : (xs : List Message) (m : Message) (n : ℕ) → n ≡ as_u64 (length xs) → min (n + 1) (2 ^ 64 - 1) ≡ as_u64 (length (xs ++ m ∷ []))
told_more xs m n e = omega (arith, e, length-append xs (m ∷ []))

-- a list isn't over where neither of its two parts is
pub not_over_append : (xs ys : List Message) → is_over xs ≡ false → is_over ys ≡ false → is_over (xs ++ ys) ≡ false
not_over_append [] ys e f = f
not_over_append (message.Change c ∷ xs) ys e f = not_over_append xs ys e f
not_over_append (message.Mark t ∷ xs) ys e f = not_over_append xs ys e f
not_over_append (message.End ∷ xs) ys e f = absurd (true≢false e)
not_over_append (message.Broken ∷ xs) ys e f = absurd (true≢false (sym (or_true (has_end xs)) ∙ e))
