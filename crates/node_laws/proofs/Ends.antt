-- Lists that go on, ended or broke.
use Rattle.std.proofs.Common.{◌≡◌, ℕ, ◌<◌, zero, suc, List, [], ◌∷◌, ◌++◌, Bool, true, false, ◌&&◌, ◌||◌, refl, ap, sym, ◌∙◌, arith, length}
use Rattle.cedr_base.specs.declared.change.Message.{Message}
use Rattle.cedr_base.specs.declared.change.Message.TheVariants as message
use Rattle.cedr_base.specs.Messages.{IsOpen, IsLegal}
use Rattle.node_laws.specs.Pass.{has_end}
use Rattle.node_laws.specs.Lists.{Lists, list_at, with_more}
use Rattle.node_laws.specs.Lawful.{has_broken, any_broken, all_end, is_over, all_over, any_came, EndsBroken}
use Rattle.node_laws.proofs.Holds.{open_is}
use Rattle.node_laws.proofs.Induct.{by_legal}

-- an open list isn't broken
pub open_unbroken : (ms : List Message) → IsOpen ms → has_broken ms ≡ false
open_unbroken [] h = refl
open_unbroken (message.Change c ∷ ms) h = open_unbroken ms h
open_unbroken (message.Mark t ∷ ms) h = open_unbroken ms h
open_unbroken (message.End ∷ ms) h = absurd h
open_unbroken (message.Broken ∷ ms) h = absurd h

-- a list without its End that isn't broken is open
pub open_from : (ms : List Message) → has_end ms ≡ false → has_broken ms ≡ false → IsOpen ms
open_from [] h k = tt
open_from (message.Change c ∷ ms) h k = open_from ms h k
open_from (message.Mark t ∷ ms) h k = open_from ms h k
open_from (message.End ∷ ms) h k = absurd (let e = h in cc)
open_from (message.Broken ∷ ms) h k = absurd (let e = k in cc)

-- a list that begins with messages without Broken is broken exactly where its rest is
pub broken-append : (xs ys : List Message) → has_broken xs ≡ false → has_broken (xs ++ ys) ≡ has_broken ys
broken-append [] ys h = refl
broken-append (message.Change c ∷ xs) ys h = broken-append xs ys h
broken-append (message.Mark t ∷ xs) ys h = broken-append xs ys h
broken-append (message.End ∷ xs) ys h = broken-append xs ys h
broken-append (message.Broken ∷ xs) ys h = cc

-- the first messages of a list that isn't broken aren't
pub unbroken_front : (xs ys : List Message) → has_broken (xs ++ ys) ≡ false → has_broken xs ≡ false
unbroken_front [] ys h = refl
unbroken_front (message.Change c ∷ xs) ys h = unbroken_front xs ys h
unbroken_front (message.Mark t ∷ xs) ys h = unbroken_front xs ys h
unbroken_front (message.End ∷ xs) ys h = unbroken_front xs ys h
unbroken_front (message.Broken ∷ xs) ys h = h

-- a list to which Broken is added is broken
pub broken-pushed : (xs : List Message) → has_broken (xs ++ message.Broken ∷ []) ≡ true
broken-pushed [] = refl
broken-pushed (message.Change c ∷ xs) = broken-pushed xs
broken-pushed (message.Mark t ∷ xs) = broken-pushed xs
broken-pushed (message.End ∷ xs) = broken-pushed xs
broken-pushed (message.Broken ∷ xs) = refl

-- an alternative is true where its second part is
pub or_true : (b : Bool) → (b || true) ≡ true
or_true true = refl
or_true false = refl

or_none : (a b : Bool) → (a || b) ≡ false → (a ≡ false) × (b ≡ false)
or_none true b h = cc
or_none false b h = (refl, h)

or_false : (b : Bool) → (b || false) ≡ b
or_false true = refl
or_false false = refl

and_false : (b c : Bool) → c ≡ false → (b && c) ≡ false
and_false true c h = h
and_false false c h = refl

-- an open list isn't over
pub over_open : (l : List Message) → IsOpen l → is_over l ≡ false
over_open l h = ap (λ (b : Bool). b || has_broken l) (open_is l h) ∙ open_unbroken l h

-- what is over stays so
pub over_grows : (l ms : List Message) → is_over l ≡ true → is_over (l ++ ms) ≡ true
over_grows [] ms h = cc
over_grows (message.Change c ∷ l) ms h = over_grows l ms h
over_grows (message.Mark t ∷ l) ms h = over_grows l ms h
over_grows (message.End ∷ l) ms h = refl
over_grows (message.Broken ∷ l) ms h = or_true (has_end (l ++ ms))

over_before_at : (l ms : List Message) (rest b : Bool) → is_over l ≡ b → (is_over (l ++ ms) && rest) ≡ false → (b && rest) ≡ false
over_before_at l ms rest true e h = ap (λ (c : Bool). c && rest) (sym (over_grows l ms e)) ∙ h
over_before_at l ms rest false e h = refl

over_later_at : (b old new : Bool) → (new ≡ false → old ≡ false) → (b && new) ≡ false → (b && old) ≡ false
over_later_at true old new before h = before h
over_later_at false old new before h = refl

-- where not all is over with more messages, not all was
pub over_before : (ls : Lists) (k : ℕ) (ms : List Message) → all_over (with_more ls k ms) ≡ false → all_over ls ≡ false
over_before [] k ms h = h
over_before (l ∷ ls) zero ms h = over_before_at l ms (all_over ls) (is_over l) refl h
over_before (l ∷ ls) (suc k) ms h = over_later_at (is_over l) (all_over ls) (all_over (with_more ls k ms)) (over_before ls k ms) h

-- where some port's list is open, not all lists are over
pub open_not_over : (k : ℕ) (ls : Lists) → k < length ls → IsOpen (list_at ls k) → all_over ls ≡ false
open_not_over k [] within h = absurd (omega arith)
open_not_over zero (l ∷ ls) within h = ap (λ (b : Bool). b && all_over ls) (over_open l h)
open_not_over (suc k) (l ∷ ls) within h = and_false (is_over l) (all_over ls) (open_not_over k ls (omega arith) h)

-- where no list is broken, each has its End exactly where each is over
pub ends_over : (ls : Lists) → any_broken ls ≡ false → all_end ls ≡ all_over ls
ends_over [] h = refl
ends_over (l ∷ ls) h =
    let parts = or_none (has_broken l) (any_broken ls) h in
    ap (λ (b : Bool). has_end l && b) (ends_over ls parts.1) ∙ ap (λ (b : Bool). b && all_over ls) (sym (ap (λ (b : Bool). has_end l || b) parts.0 ∙ or_false (has_end l)))

-- a message came on one of the ports
pub came_set : (ls : Lists) (k : ℕ) (m : Message) → k < length ls → any_came (with_more ls k (m ∷ [])) ≡ true
came_set [] k m within = absurd (omega arith)
came_set ([] ∷ ls) zero m within = refl
came_set ((x ∷ l) ∷ ls) zero m within = refl
came_set ([] ∷ ls) (suc k) m within = came_set ls k m (omega arith)
came_set ((x ∷ l) ∷ ls) (suc k) m within = refl

ends_broken_more : (ms : List Message) (m : Message) → IsOpen ms → has_broken (ms ++ m ∷ []) ≡ true → EndsBroken (ms ++ m ∷ [])
ends_broken_more ms (message.Change c) opened h = let e = broken-append ms (message.Change c ∷ []) (open_unbroken ms opened) in cc
ends_broken_more ms (message.Mark t) opened h = let e = broken-append ms (message.Mark t ∷ []) (open_unbroken ms opened) in cc
ends_broken_more ms message.End opened h = let e = broken-append ms (message.End ∷ []) (open_unbroken ms opened) in cc
ends_broken_more ms message.Broken opened h = record { before = ms; whole = refl; unbroken = open_unbroken ms opened }

-- a legal list that is broken has its one Broken last
pub ends_broken : (ms : List Message) → IsLegal ms → has_broken ms ≡ true → EndsBroken ms
ends_broken ms legal = by_legal (λ (xs : List Message). has_broken xs ≡ true → EndsBroken xs) (λ xs m was may before some. ends_broken_more xs m may.0 some) (λ some. cc) ms legal
