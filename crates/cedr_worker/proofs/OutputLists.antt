-- The lists that messages come to, and how they end.
use Rattle.std.proofs.Common.{◌≡◌, ◌≢◌, ℕ, ◌<◌, Bool, true, false, cond, List, [], ◌∷◌, ◌++◌, length, take, get_or, refl, sym, ◌∙◌, ap, subst, arith, append_assoc, length-append}
use Rattle.std.proofs.lemmas.List.{append-nil}
use mathlib.Core.List.{IsPrefix}
use Rattle.cedr_base.specs.declared.change.Change.{Change}
use Rattle.cedr_base.specs.declared.change.Message.{Message}
use Rattle.cedr_base.specs.declared.change.Message.TheVariants as message
use Rattle.cedr_base.specs.declared.level.Level.{Level}
use Rattle.cedr_base.specs.Messages.{changes_of, mark_of, IsOpen, IsLegal, MayCome}
use Rattle.cedr_history.specs.declared.close.Close.TheVariants as close
use Rattle.cedr_history.specs.declared.listed.Listed.{Listed}
use Rattle.cedr_history.specs.Ends.{Writing}
use Rattle.cedr_history.specs.Lists.{Extends}
use Rattle.cedr_history.proofs.Extending.{extends_self}
use Rattle.node_laws.specs.Lists.{mark_above}
use Rattle.node_laws.specs.Lawful.{is_over}
use Rattle.node_laws.specs.Pass.{front, itself, gained, additions, closing, answer, passed_of, pass}
use Rattle.node_laws.proofs.Ends.{or_true}
use Rattle.node_laws.proofs.Grows.{pass-push, pass-nil}
use Rattle.node_laws.proofs.Induct.{by_legal}
use Rattle.node_laws.proofs.Passes.{adds, additions_wrapped, passes}
use Rattle.change_laws.specs.Repairs.{wrapped}
use Rattle.change_laws.proofs.Legal.{changes-append, mark-append, open-wrapped, may_come_in, legal_first}
use Rattle.cedr_worker.specs.Outputs.{close_of, list_from}

-- what goes on isn't closed
pub open_close : (ms : List Message) → IsOpen ms → close_of ms ≡ close.Open
open_close [] h = refl
open_close (message.Change c ∷ ms) h = open_close ms h
open_close (message.Mark t ∷ ms) h = open_close ms h
open_close (message.End ∷ ms) h = absurd h
open_close (message.Broken ∷ ms) h = absurd h

-- what is closed is over
pub closed_over : (ms : List Message) → close_of ms ≢ close.Open → is_over ms ≡ true
closed_over [] h = absurd (h refl)
closed_over (message.Change c ∷ ms) h = closed_over ms h
closed_over (message.Mark t ∷ ms) h = closed_over ms h
closed_over (message.End ∷ ms) h = refl
closed_over (message.Broken ∷ ms) h = or_true _

-- and what is over is closed
pub over_closed : (ms : List Message) → is_over ms ≡ true → close_of ms ≢ close.Open
over_closed [] h e = absurd (cc h)
over_closed (message.Change c ∷ ms) h e = over_closed ms h e
over_closed (message.Mark t ∷ ms) h e = over_closed ms h e
over_closed (message.End ∷ ms) h e = absurd (cc e)
over_closed (message.Broken ∷ ms) h e = absurd (cc e)

-- messages that come after ones that go on end all of them
pub close_behind : (xs ys : List Message) → IsOpen xs → close_of (xs ++ ys) ≡ close_of ys
close_behind [] ys h = refl
close_behind (message.Change c ∷ xs) ys h = close_behind xs ys h
close_behind (message.Mark t ∷ xs) ys h = close_behind xs ys h
close_behind (message.End ∷ xs) ys h = absurd h
close_behind (message.Broken ∷ xs) ys h = absurd h

close_mark : (b : Bool) (t : ℕ) (ms : List Message) → close_of (cond b (message.Mark t ∷ []) [] ++ ms) ≡ close_of ms
close_mark true t ms = refl
close_mark false t ms = refl

module _ (level : Level) (before : List Message) (m : Message) where
  close_answer : close_of (answer level before m) ≡ close_of (closing m)
  close_answer =
      let own = itself level before m in
      let rows = gained level before m in
      let marks = mark_above (front level before) (front level (before ++ m ∷ [])) ++ closing m in
      close_behind (wrapped own) (additions rows ++ marks) (open-wrapped own)
      ∙ (ap (λ (ms : List Message). close_of (ms ++ marks)) (additions_wrapped rows) ∙ (close_behind (wrapped (adds rows)) marks (open-wrapped (adds rows)) ∙ close_mark _ (front level (before ++ m ∷ [])) (closing m)))

-- what one message passes on ends as that message does
close_piece : (level : Level) (before : List Message) (m : Message) → close_of (passed_of level before m) ≡ close_of (m ∷ [])
close_piece level before (message.Change c) = close_answer level before (message.Change c)
close_piece level before (message.Mark t) = close_answer level before (message.Mark t)
close_piece level before message.End = close_answer level before message.End
close_piece level before message.Broken = refl

-- what is passed on of a legal list ends as that list does
pub close_passed : (level : Level) (ms : List Message) → IsLegal ms → close_of (pass level ms) ≡ close_of ms
close_passed level ms legal =
    by_legal (λ (xs : List Message). close_of (pass level xs) ≡ close_of xs)
    (λ xs m was may before.
    ap close_of (pass-push level xs m)
    ∙ (close_behind (pass level xs) (passed_of level xs m) ((passes level xs was).opened may.0) ∙ (close_piece level xs m ∙ sym (close_behind xs (m ∷ []) may.0))))
    (ap close_of (pass-nil level)) ms legal

-- the list of more messages goes on from that of fewer
pub list_extends : (xs ys : List Message) → IsLegal (xs ++ ys) → Extends (list_from xs) (list_from (xs ++ ys))
list_extends xs [] legal = subst (λ (ms : List Message). Extends (list_from xs) (list_from ms)) (sym (append-nil xs)) (extends_self (list_from xs))
list_extends xs (y ∷ ys) legal =
    let may = may_come_in xs ys y legal in
    ((changes_of (y ∷ ys), sym (changes-append xs (y ∷ ys))), omega (arith, mark-append xs (y ∷ ys)), λ closed. absurd (closed (open_close xs may.0)))

-- and is another one
pub list_differs : (xs ys : List Message) (y : Message) → IsLegal (xs ++ y ∷ ys) → list_from xs ≢ list_from (xs ++ y ∷ ys)
list_differs xs ys (message.Change c) legal e =
    absurd (omega (arith, ap (λ (l : Listed). length l.changes) e, ap length (changes-append xs (message.Change c ∷ ys)), length-append (changes_of xs) (c ∷ changes_of ys)))
list_differs xs ys (message.Mark t) legal e =
    let rises = (may_come_in xs ys (message.Mark t) legal).1.0 in absurd (omega (arith, rises, ap (λ (l : Listed). l.mark) e, mark-append xs (message.Mark t ∷ ys)))
list_differs xs ys message.End legal e =
    let opened = (may_come_in xs ys message.End legal).0 in absurd (cc (sym (open_close xs opened) ∙ (ap (λ (l : Listed). l.close) e ∙ close_behind xs (message.End ∷ ys) opened)))
list_differs xs ys message.Broken legal e =
    let opened = (may_come_in xs ys message.Broken legal).0 in absurd (cc (sym (open_close xs opened) ∙ (ap (λ (l : Listed). l.close) e ∙ close_behind xs (message.Broken ∷ ys) opened)))

-- first messages that are closed are all of a legal list
pub closed_whole : (given whole : List Message) → IsPrefix given whole → IsLegal whole → close_of given ≢ close.Open → given ≡ whole
closed_whole given whole first legal closed = at first.0 first.1 where
  at : (rest : List Message) → given ++ rest ≡ whole → given ≡ whole
  at [] e = sym (append-nil given) ∙ e
  at (y ∷ ys) e = absurd (closed (open_close given (may_come_in given ys y (subst IsLegal (sym e) legal)).0))

-- a list with one message more, which may come
module _ (all : Listed) (given : List Message) (is : all ≡ list_from given) where
  pub change_told : (c : Change) → MayCome given (message.Change c) → record all { changes = all.changes ++ c ∷ [] } ≡ list_from (given ++ message.Change c ∷ [])
  change_told c may =
      let more = message.Change c ∷ [] in
      let marks : mark_of given ≡ mark_of (given ++ more) = omega (arith, mark-append given more) in
      let closes : close_of given ≡ close_of (given ++ more) = open_close given may.0 ∙ sym (close_behind given more may.0) in
      ap (λ (l : Listed). record l { changes = l.changes ++ c ∷ [] }) is ∙ (λ i. record { changes = sym (changes-append given more) i; mark = marks i; close = closes i })

  pub mark_told : (t : ℕ) → MayCome given (message.Mark t) → record all { mark = t } ≡ list_from (given ++ message.Mark t ∷ [])
  mark_told t may =
      let more = message.Mark t ∷ [] in
      let changes : changes_of given ≡ changes_of (given ++ more) = sym (changes-append given more ∙ append-nil (changes_of given)) in
      let marks : t ≡ mark_of (given ++ more) = let rises = may.1.0 in omega (arith, rises, mark-append given more) in
      let closes : close_of given ≡ close_of (given ++ more) = open_close given may.0 ∙ sym (close_behind given more may.0) in
      ap (λ (l : Listed). record l { mark = t }) is ∙ (λ i. record { changes = changes i; mark = marks i; close = closes i })

  -- a message that closes the list
  close_told : (m : Message) → changes_of (m ∷ []) ≡ [] → mark_of (m ∷ []) ≡ 0 → IsOpen given → record all { close = close_of (m ∷ []) } ≡ list_from (given ++ m ∷ [])
  close_told m no_change no_mark opened =
      let more = m ∷ [] in
      let changes : changes_of given ≡ changes_of (given ++ more) = sym (changes-append given more ∙ (ap (λ (cs : List Change). changes_of given ++ cs) no_change ∙ append-nil (changes_of given))) in
      let marks : mark_of given ≡ mark_of (given ++ more) = omega (arith, no_mark, mark-append given more) in
      ap (λ (l : Listed). record l { close = close_of more }) is ∙ (λ i. record { changes = changes i; mark = marks i; close = sym (close_behind given more opened) i })

  pub end_told : MayCome given message.End → record all { close = close.Ended } ≡ list_from (given ++ message.End ∷ [])
  end_told may = close_told message.End refl refl may.0

  pub broken_told : MayCome given message.Broken → record all { close = close.Broken } ≡ list_from (given ++ message.Broken ∷ [])
  broken_told may = close_told message.Broken refl refl may.0

  -- the writer's list is open, and its mark is below the next one
  pub may_tell : (m : Message) → MayCome given m → all.close ≡ close.Open
  may_tell m may = ap (λ (l : Listed). l.close) is ∙ open_close given may.0

  pub mark_rises : (t : ℕ) → MayCome given (message.Mark t) → all.mark < t
  mark_rises t may = let rises = may.1.0 in omega (arith, rises, ap (λ (l : Listed). l.mark) is)

-- a writer to which a message was handed
pub writer_told : (w w' : Writing) (given : List Message) (m n : Message) (all : Listed) → m ≡ n → all ≡ list_from (given ++ n ∷ []) → w' ≡ record w { all = all } → w' ≡ record w { all = list_from (given ++ m ∷ []) }
writer_told w w' given m n all is told e = e ∙ ap (λ (l : Listed). record w { all = l }) (told ∙ ap (λ (x : Message). list_from (given ++ x ∷ [])) (sym is))

-- the next message of a piece, after those that were handed on
pub next_first : (done piece : List Message) (m : Message) → done ≡ take (length done) piece → (length done < length piece) × (m ≡ get_or piece (length done) m) → IsPrefix (done ++ m ∷ []) piece
next_first [] [] m so_far next = absurd (omega (arith, next.0))
next_first [] (x ∷ xs) m so_far next = (xs, ap (λ (y : Message). y ∷ xs) next.1)
next_first (d ∷ ds) [] m so_far next = absurd (omega (arith, next.0))
next_first (d ∷ ds) (x ∷ xs) m so_far next =
    let rest = next_first ds xs m (cc so_far) (omega (arith, next.0), next.1) in (rest.0, cc (so_far, rest.1))

-- a list with one message more isn't empty
pub pushed_some : (ms : List Message) (m : Message) → ms ++ m ∷ [] ≢ []
pushed_some [] m e = absurd (cc e)
pushed_some (x ∷ ms) m e = absurd (cc e)

-- it may come after what was given and those
pub next_comes : (given piece done : List Message) (m : Message) → IsLegal (given ++ piece) → IsPrefix (done ++ m ∷ []) piece → MayCome (given ++ done) m
next_comes given piece done m legal first =
    may_come_in (given ++ done) first.0 m
    (subst IsLegal (ap (λ (ms : List Message). given ++ ms) (sym first.1 ∙ append_assoc done (m ∷ []) first.0) ∙ sym (append_assoc given done (m ∷ first.0))) legal)

-- what was given and the first messages of a piece are legal
pub first_legal : (given piece done : List Message) → IsLegal (given ++ piece) → IsPrefix done piece → IsLegal (given ++ done)
first_legal given piece done legal first = legal_first [] (given ++ done) first.0 (subst IsLegal (ap (λ (ms : List Message). given ++ ms) (sym first.1) ∙ sym (append_assoc given done first.0)) legal)
