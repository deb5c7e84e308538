-- A script that is followed read by read.
use Rattle.std.proofs.Common.{◌≡◌, ◌==◌, ℕ, zero, suc, ◌<◌, ◌≤◌, ◌⊎◌, inl, inr, List, [], ◌∷◌, ◌++◌, Bool, true, false, cond, length, take, Option, Ok, Err, refl, ap, sym, ◌∙◌, subst, arith, append_assoc, append-nil}
use Rattle.std.proofs.lemmas.Bool.{eqb-true, eq-eqb}
use Rattle.std.proofs.lemmas.List.{length-append}
use Rattle.std.specs.Io.KnownBytes.{Consumes, Keeps, IsAtEnd}
use Rattle.std.proofs.KnownBytes.{Consumes-nil, Consumes-trans, Consumes-kept, Consumes-whole, Appends-kept}
use Rattle.cedr_base.specs.Bytes.{line_feed}
use Rattle.cedr_guard.specs.declared.refusal.Refusal.{Refusal}
use Rattle.cedr_io.specs.Asked.{AppendsFront}
use Rattle.cedr_plan.specs.declared.plan.PlanNode.{PlanNode}
use Rattle.cedr_script.specs.Begun.{Begun}
use Rattle.cedr_script.specs.Cutting.{script_answers, answers_left, line_answer}
use Rattle.cedr_script.specs.Logs.{came, went, LogGrows, AreWrites}
use Rattle.cedr_script.specs.declared.step.WireStep.{WireStep}
use Rattle.cedr_script.specs.declared.step.WireStep.TheVariants as wire_step
use Rattle.cedr_script.proofs.CutLemmas.{raw_ended}
use Rattle.cedr_script.proofs.LogLemmas.{grows_none, grows_along, came-append, went-append, none_came, sends_none}
use Rattle.cedr_text.specs.Lines.{raw_lines, has_line_feed}
use Rattle.node_laws.specs.Lists.{Lists}
use Rattle.plan_follow.proofs.FollowerLemmas.{gave_more}
use Rattle.plan_follow.proofs.SiftLemmas.{sifted-append}
use Rattle.plan_follow.specs.Followers.{FollowerAt, nothing_gone, IsClear, AreAnswers, FollowsLines, FollowsPiece, TakesMore}
use Rattle.plan_follow.specs.Following.{AreAllBytes, OutsideSeen, ComesOf, ToldAll, ToldFront, IsBrokenOff, IsAllWritten, IsWireRead, IsPrompt, WentPromptly, FollowsOn, refusals_text}
use Rattle.plan_follow.specs.Holding.{Followed, IsHeld, IsSent, AreHeard, IsUpTo, FollowsNext}
use Rattle.plan_follow.specs.Sending.{GrowsByWrites, SendsBoth, ReadsPiece}
use Rattle.plan_follow.specs.Sifted.{Sifted, sifted, ComeFirst, AreWhole}
use Rattle.plan_follow.specs.declared.fault.FollowFault.{FollowFault}
use Rattle.plan_follow.specs.declared.fault.FollowFault.TheVariants as follow_fault
use Rattle.plan_follow.specs.declared.follower.Follower.{Follower}
use Rattle.plan_follow.specs.declared.player.OpenPlayer.{OpenPlayer}
use Rattle.plan_live.proofs.ShownLemmas.{appends_none, appends_along, front_along, front_none}
use Rattle.plan_live.specs.Scripts.{ShapesHaveTypes}
use Rattle.stream_text.specs.MessageTexts.{messages_text}

-- ---- which lines came first

pub first_answers : (begun : Begun) (bytes : List ℕ) (answers : List (Option (List ℕ))) → AreHeard begun bytes answers → ComeFirst bytes answers
first_answers begun bytes answers h = λ more. (answers_left begun more, h.first more)

-- also behind more bytes
pub first_behind : (bytes piece : List ℕ) (answers : List (Option (List ℕ))) → ComeFirst bytes answers → ComeFirst (bytes ++ piece) answers
first_behind bytes piece answers first = λ more. let f = first (piece ++ more) in (f.0, ap script_answers (append_assoc bytes piece more) ∙ f.1)

left_at : (leaves : Bool) (line : List ℕ) → has_line_feed line ≡ false → length (script_answers (cond leaves [] (line ++ line_feed ∷ []))) ≤ 1
left_at true line unended = omega arith
left_at false line unended =
    let one : raw_lines (line ++ line_feed ∷ []) ≡ (line ++ []) ∷ [] = raw_ended line (line_feed ∷ []) 0 [] unended (record { within = omega arith; none = refl; here = refl }) in
    let same : length (script_answers (line ++ line_feed ∷ [])) ≡ 1 = ap (λ (ls : List (List ℕ)). length (Rattle.std.specs.Prelude.map line_answer ls)) one in
    omega (arith, same)

-- a line feed ends one line more at most
pub whole_answers : (begun : Begun) (bytes : List ℕ) (answers : List (Option (List ℕ))) → AreHeard begun bytes answers → AreWhole bytes answers
whole_answers begun bytes answers h = record {
  first = first_answers begun bytes answers h;
  all =
      let few = left_at begun.leaves begun.line h.unended in
      omega (arith, few, ap (λ (xs : List (Option (List ℕ))). length xs) (h.first (line_feed ∷ [])), length-append answers (answers_left begun (line_feed ∷ [])));
}

-- ---- when it was written

last_or : (steps front rest : List WireStep) (r read : WireStep) → steps ++ r ∷ [] ≡ front ++ read ∷ rest → ((front ≡ steps) × (read ≡ r)) ⊎ ((others : List WireStep) × (steps ≡ front ++ read ∷ others))
last_or [] [] rest r read is = inl (refl, (let e = is in cc))
last_or [] (f ∷ []) rest r read is = absurd (let e = is in cc)
last_or [] (f ∷ g ∷ front) rest r read is = absurd (let e = is in cc)
last_or (t ∷ steps) [] rest r read is = inr (steps, (let e = is in cc))
last_or (t ∷ steps) (f ∷ front) rest r read is =
    let first : t ≡ f = (let e = is in cc) in
    let others : steps ++ r ∷ [] ≡ front ++ read ∷ rest = (let e = is in cc) in
    elim (last_or steps front rest r read others) [
      | inl here ↦ inl (ap (λ (xs : List WireStep). f ∷ xs) here.0 ∙ ap (λ (x : WireStep). x ∷ steps) (sym first), here.1)
      | inr before ↦ inr (before.0, ap (λ (x : WireStep). x ∷ steps) first ∙ ap (λ (xs : List WireStep). f ∷ xs) before.1)
    ]

module _ (nodes : List PlanNode) (first : Sifted) (start : Lists) where
  -- all that comes of the whole lines that came had gone
  abbrev pub HasGone : List WireStep → Type 0
  HasGone front = (answers : List (Option (List ℕ))) × (refusals : List Refusal) × AreWhole (came front) answers × ComesOf nodes first start answers (went front) refusals

  -- where that holds before a step it may be a read
  pub prompt_step : (steps : List WireStep) (r : WireStep) → IsPrompt nodes first start steps → (IsWireRead r → HasGone steps) → IsPrompt nodes first start (steps ++ r ∷ [])
  prompt_step steps r prompt gone = λ front rest read is reads.
      elim (last_or steps front rest r read is) [
        | inl here ↦ subst HasGone (sym here.0) (gone (subst IsWireRead here.1 reads))
        | inr before ↦ prompt front before.0 read before.1 reads
      ]

  -- any writes may follow
  pub prompt_writes : (steps writes : List WireStep) → IsPrompt nodes first start steps → AreWrites writes → IsPrompt nodes first start (steps ++ writes)
  prompt_writes steps [] prompt are = subst (IsPrompt nodes first start) (sym (append-nil steps)) prompt
  prompt_writes steps (wire_step.Came b ∷ writes) prompt are = absurd are
  prompt_writes steps (wire_step.Refused ∷ writes) prompt are = absurd are
  prompt_writes steps (wire_step.Went b ∷ writes) prompt are =
      subst (IsPrompt nodes first start) (append_assoc steps (wire_step.Went b ∷ []) writes)
      (prompt_writes (steps ++ wire_step.Went b ∷ []) writes (prompt_step steps (wire_step.Went b) prompt (λ none. absurd none)) are)

-- ---- what was told

pub tells_none : (faults : ℕ) (told : Option (List ℕ)) → ToldAll faults faults told told []
tells_none faults told = record { kept = omega arith; all = λ same below. appends_none told }

pub tells_along : (f g h : ℕ) (a b c : Option (List ℕ)) (s t : List ℕ) → ToldAll f g a b s → ToldAll g h b c t → ToldAll f h a c (s ++ t)
tells_along f g h a b c s t one two = record {
  kept = let x = one.kept in let y = two.kept in omega arith;
  all = λ same below.
      let x = one.kept in
      let y = two.kept in
      appends_along a b c s t (one.all (omega arith) below) (two.all (omega arith) (omega arith));
}

pub tells_front : (f g h : ℕ) (a b c : Option (List ℕ)) (s t : List ℕ) → ToldAll f g a b s → ToldFront g h b c t → ToldFront f h a c (s ++ t)
tells_front f g h a b c s t one two = record {
  kept = let x = one.kept in let y = two.kept in omega arith;
  front = λ same below.
      let x = one.kept in
      let y = two.kept in
      front_along a b c s t (one.all (omega arith) below) (two.front (omega arith) (omega arith));
}

pub front_told_none : (faults : ℕ) (told : Option (List ℕ)) (text : List ℕ) → ToldFront faults faults told told text
front_told_none faults told text = record { kept = omega arith; front = λ same below. front_none told text }

front_kept : (a b c : Option (List ℕ)) (text : List ℕ) → AppendsFront a b text → Keeps b c → AppendsFront a c text
front_kept a b c text front kept = record { count = front.count; grows = Appends-kept a b c (take front.count text) front.grows kept }

pub front_keeps : (a b : Option (List ℕ)) (text : List ℕ) → Keeps a b → AppendsFront a b text
front_keeps a b text kept = front_kept a a b text (front_none a text) kept

-- ---- what is held

module _ (f : Followed) (types : ShapesHaveTypes f.nodes f.shapes) (follower : Follower) (old mid : OutsideSeen) (bytes : List ℕ) (answers : List (Option (List ℕ))) (h : IsHeld f follower old mid bytes answers) where
  abbrev lines_come : Sifted
  lines_come = sifted f.nodes f.shapes f.first answers

  -- what comes of the lines
  pub held_comes : ComesOf f.nodes f.first f.start answers (messages_text h.came_to.gathered.more) lines_come.refusals
  held_comes = record {
    shapes = f.shapes;
    types = types;
    more = h.came_to.gathered.more;
    gave = gave_more f.nodes f.name follower lines_come f.start h.gone h.came_to;
    text_is = refl;
    refusals_are = refl;
  }

  -- where nothing is kept it was written
  pub clear_written : IsClear follower → messages_text h.came_to.gathered.more ≡ h.gone.written
  clear_written clear = sym h.came_to.gathered.text ∙ (ap (λ (bs : List ℕ). h.gone.written ++ bs) clear.text ∙ append-nil h.gone.written)

  pub clear_told : IsClear follower → refusals_text f.name lines_come.refusals ≡ h.gone.told
  clear_told clear = sym h.came_to.gathered.said ∙ (ap (λ (bs : List ℕ). h.gone.told ++ bs) clear.said ∙ append-nil h.gone.told)

  clear_comes : IsClear follower → ComesOf f.nodes f.first f.start answers h.gone.written lines_come.refusals
  clear_comes clear = subst (λ (text : List ℕ). ComesOf f.nodes f.first f.start answers text lines_come.refusals) (clear_written clear) held_comes

  -- before a read all had gone
  pub has_gone : AreWhole bytes answers → IsClear follower → HasGone f.nodes f.first f.start h.steps
  has_gone whole clear =
      (answers, lines_come.refusals, subst (λ (bs : List ℕ). AreWhole bs answers) (sym h.came_is) whole, subst (λ (text : List ℕ). ComesOf f.nodes f.first f.start answers text lines_come.refusals) (sym h.went_is) (clear_comes clear))

  -- all that comes of the lines was written and told
  pub all_written : IsClear follower → IsAllWritten f.nodes f.first f.start f.name old mid bytes answers lines_come.refusals
  all_written clear = record {
    took = h.took;
    text = h.gone.written;
    comes = clear_comes clear;
    written = h.written;
    told = subst (ToldAll old.told_faults mid.told_faults old.told mid.told) (sym (clear_told clear)) h.told;
  }

  -- following is broken off behind more bytes, where a front of what is kept was written and told
  pub broken_off : (new : OutsideSeen) (piece : List ℕ) → Consumes mid.rest new.rest piece → ComeFirst (bytes ++ piece) answers ⊎ (AreAllBytes old.rest (bytes ++ piece) × (answers ≡ script_answers (bytes ++ piece))) → AppendsFront mid.written new.written follower.text.items
      → ToldFront mid.told_faults new.told_faults mid.told new.told follower.said.items → IsBrokenOff f.nodes f.first f.start f.name old new
  broken_off new piece took first written told = record {
    bytes = bytes ++ piece;
    took = Consumes-trans old.rest mid.rest new.rest bytes piece h.took took;
    answers = answers;
    begins = first;
    text = messages_text h.came_to.gathered.more;
    refusals = lines_come.refusals;
    comes = held_comes;
    written = subst (AppendsFront old.written new.written) h.came_to.gathered.text (front_along old.written mid.written new.written h.gone.written follower.text.items h.written written);
    told = subst (ToldFront old.told_faults new.told_faults old.told new.told) h.came_to.gathered.said (tells_front old.told_faults mid.told_faults new.told_faults old.told mid.told new.told h.gone.told follower.said.items h.told told);
  }

  -- what went until then was prompt
  pub still_prompt : (new : OutsideSeen) → GrowsByWrites mid.log new.log → WentPromptly f.nodes f.first f.start old.log new.log
  still_prompt new more = (h.steps ++ more.1.steps, grows_along old.log mid.log new.log h.steps more.1.steps h.grows more.1.grows, prompt_writes f.nodes f.first f.start h.steps more.1.steps h.prompt more.1.writes)

  -- the log is known with one step more
  pub prompt_read : (new : OutsideSeen) (r : WireStep) → AreWhole bytes answers → IsClear follower → LogGrows mid.log new.log (r ∷ []) → WentPromptly f.nodes f.first f.start old.log new.log
  prompt_read new r whole clear grows = (h.steps ++ r ∷ [], grows_along old.log mid.log new.log h.steps (r ∷ []) h.grows grows, prompt_step f.nodes f.first f.start h.steps r h.prompt (λ reads. has_gone whole clear))

  -- more bytes were read
  pub held_read : (new : OutsideSeen) (piece : List ℕ) → AreWhole bytes answers → IsClear follower → Consumes mid.rest new.rest piece → Keeps mid.written new.written → LogGrows mid.log new.log (wire_step.Came piece ∷ []) → new.told_faults ≡ mid.told_faults → new.told ≡ mid.told
      → IsHeld f follower old new (bytes ++ piece) answers
  held_read new piece whole clear took kept grows faults told = record {
    took = Consumes-trans old.rest mid.rest new.rest bytes piece h.took took;
    gone = h.gone;
    came_to = h.came_to;
    written = Appends-kept old.written mid.written new.written h.gone.written h.written kept;
    told = subst (λ (n : ℕ). ToldAll old.told_faults n old.told new.told h.gone.told) (sym faults) (subst (λ (t : Option (List ℕ)). ToldAll old.told_faults mid.told_faults old.told t h.gone.told) (sym told) h.told);
    steps = h.steps ++ wire_step.Came piece ∷ [];
    grows = grows_along old.log mid.log new.log h.steps (wire_step.Came piece ∷ []) h.grows grows;
    came_is = came-append h.steps (wire_step.Came piece ∷ []) ∙ (ap (λ (bs : List ℕ). bs ++ (piece ++ [])) h.came_is ∙ ap (λ (bs : List ℕ). bytes ++ bs) (append-nil piece));
    went_is = went-append h.steps (wire_step.Came piece ∷ []) ∙ (append-nil (went h.steps) ∙ h.went_is);
    prompt = prompt_step f.nodes f.first f.start h.steps (wire_step.Came piece) h.prompt (λ reads. has_gone whole clear);
  }

  -- more lines were taken
  pub held_lines : (new : Follower) (others : List (Option (List ℕ))) → FollowsLines f.nodes f.shapes f.name follower new others → IsHeld f new old mid bytes (answers ++ others)
  held_lines new others follows = record {
    took = h.took;
    gone = h.gone;
    came_to = subst (λ (s : Sifted). FollowerAt f.nodes f.name new s f.start h.gone) (sym (sifted-append f.nodes f.shapes f.first answers others)) (follows lines_come f.start h.gone h.came_to);
    written = h.written;
    told = h.told;
    steps = h.steps;
    grows = h.grows;
    came_is = h.came_is;
    went_is = h.went_is;
    prompt = h.prompt;
  }

  -- what was kept was written and told
  pub held_sent : (sent : Follower) (new : OutsideSeen) → SendsBoth (Ok tt) mid new follower.text.items follower.said.items → IsSent follower sent → IsHeld f sent old new bytes answers
  held_sent sent new both is = record {
    took = Consumes-kept old.rest mid.rest new.rest bytes h.took both.0;
    gone = record { written = h.gone.written ++ follower.text.items; told = h.gone.told ++ follower.said.items };
    came_to = record {
      given = h.came_to.given;
      holds = subst (λ (p : OpenPlayer). Rattle.plan_follow.specs.Playing.PlayerHolds f.nodes p lines_come.kept lines_come.sent h.came_to.given) (sym is.player) h.came_to.holds;
      gathered = record {
        grew = h.came_to.gathered.grew;
        more = h.came_to.gathered.more;
        all = h.came_to.gathered.all;
        taken = is.taken ∙ h.came_to.gathered.taken;
        number = is.number ∙ h.came_to.gathered.number;
        faulty = is.faulty ∙ h.came_to.gathered.faulty;
        text = ap (λ (bs : List ℕ). (h.gone.written ++ follower.text.items) ++ bs) is.clear.text ∙ (append-nil (h.gone.written ++ follower.text.items) ∙ h.came_to.gathered.text);
        said = ap (λ (bs : List ℕ). (h.gone.told ++ follower.said.items) ++ bs) is.clear.said ∙ (append-nil (h.gone.told ++ follower.said.items) ∙ h.came_to.gathered.said);
      };
    };
    written = appends_along old.written mid.written new.written h.gone.written follower.text.items h.written both.2;
    told = tells_along old.told_faults mid.told_faults new.told_faults old.told mid.told new.told h.gone.told follower.said.items h.told both.3;
    steps = h.steps ++ both.1.steps;
    grows = grows_along old.log mid.log new.log h.steps both.1.steps h.grows both.1.grows;
    came_is = came-append h.steps both.1.steps ∙ (ap (λ (bs : List ℕ). came h.steps ++ bs) (none_came both.1.steps both.1.writes) ∙ (append-nil (came h.steps) ∙ h.came_is));
    went_is = went-append h.steps both.1.steps ∙ (ap (λ (bs : List ℕ). bs ++ went both.1.steps) h.went_is ∙ ap (λ (bs : List ℕ). h.gone.written ++ bs) both.1.all);
    prompt = prompt_writes f.nodes f.first f.start h.steps both.1.steps h.prompt both.1.writes;
  }

-- ---- one read, and what comes of it

consumes_kept : (a b : Option (List ℕ)) → Keeps a b → Consumes a b []
consumes_kept a b kept = Consumes-kept a a b [] (Consumes-nil a) kept

told_same : (f g h : ℕ) (a b c : Option (List ℕ)) (text : List ℕ) → h ≡ g → c ≡ b → ToldAll f g a b text → ToldAll f h a c text
told_same f g h a b c text faults told all = subst (λ (n : ℕ). ToldAll f n a c text) (sym faults) (subst (λ (t : Option (List ℕ)). ToldAll f g a t text) (sym told) all)

front_told_same : (g h : ℕ) (b c : Option (List ℕ)) (text : List ℕ) → h ≡ g → c ≡ b → ToldFront g h b c text
front_told_same g h b c text faults told = subst (λ (n : ℕ). ToldFront g n b c text) (sym faults) (subst (λ (t : Option (List ℕ)). ToldFront g g b t text) (sym told) (front_told_none g b text))

module _ (f : Followed) (types : ShapesHaveTypes f.nodes f.shapes) (follower : Follower) (old mid : OutsideSeen) (bytes : List ℕ) (answers : List (Option (List ℕ))) (h : IsHeld f follower old mid bytes answers) where
  -- nothing came or went
  log_same : (new : OutsideSeen) → LogGrows mid.log new.log [] → WentPromptly f.nodes f.first f.start old.log new.log
  log_same new none = (h.steps ++ [], grows_along old.log mid.log new.log h.steps [] h.grows none, prompt_writes f.nodes f.first f.start h.steps [] h.prompt tt)

some_piece : (piece : List ℕ) (count : ℕ) → length piece ≡ count → count == 0 ≡ true → piece ≡ []
some_piece [] count long none = refl
some_piece (b ∷ piece) count long none = absurd (let zero_is = eqb-true count 0 none in omega (arith, long, zero_is))

heard_on : (begun begun' : Begun) (bytes piece : List ℕ) (answers others : List (Option (List ℕ))) → AreHeard begun bytes answers → AreAnswers begun begun' piece others → has_line_feed begun'.line ≡ false → AreHeard begun' (bytes ++ piece) (answers ++ others)
heard_on begun begun' bytes piece answers others h are unended = record {
  first = λ more.
      ap script_answers (append_assoc bytes piece more)
      ∙ (h.first (piece ++ more)
      ∙ (ap (λ (xs : List (Option (List ℕ))). answers ++ xs) (are more) ∙ sym (append_assoc answers others (answers_left begun' more))));
  unended = unended;
}

module _ (f : Followed) (types : ShapesHaveTypes f.nodes f.shapes) (begun : Begun) (follower : Follower) (old mid : OutsideSeen) (u : IsUpTo f begun follower old mid) where
  whole : AreWhole u.bytes u.answers
  whole = whole_answers begun u.bytes u.answers u.heard

  -- the read was refused, or memory ran out
  pub next_unread : (fault : FollowFault) (new : OutsideSeen) (buf : List ℕ) → ReadsPiece (Err fault) mid.rest new.rest mid.log new.log buf → Keeps mid.written new.written → new.told_faults ≡ mid.told_faults → new.told ≡ mid.told → FollowsOn (Err fault) f.nodes f.first f.start f.name old new
  next_unread follow_fault.Read new buf read kept faults told = record {
    followed = (u.bytes, u.answers, (sifted f.nodes f.shapes f.first u.answers).refusals, whole, unread_written new read.0 kept faults told);
    prompt = prompt_read f types follower old mid u.bytes u.answers u.held new wire_step.Refused whole u.clear read.1;
  }
    where
      unread_written : (new : OutsideSeen) → Keeps mid.rest new.rest → Keeps mid.written new.written → new.told_faults ≡ mid.told_faults → new.told ≡ mid.told → IsAllWritten f.nodes f.first f.start f.name old new u.bytes u.answers (sifted f.nodes f.shapes f.first u.answers).refusals
      unread_written new rest kept faults told =
          let all = all_written f types follower old mid u.bytes u.answers u.held u.clear in
          record {
            took = Consumes-kept old.rest mid.rest new.rest u.bytes all.took rest;
            text = all.text;
            comes = all.comes;
            written = Appends-kept old.written mid.written new.written all.text all.written kept;
            told = told_same old.told_faults mid.told_faults new.told_faults old.told mid.told new.told _ faults told all.told;
          }
  next_unread follow_fault.Write new buf read kept faults told = absurd read
  next_unread follow_fault.OutOfMemory new buf read kept faults told = record {
    followed = inr (broken_off f types follower old mid u.bytes u.answers u.held new [] (consumes_kept mid.rest new.rest read.0) (inl (first_behind u.bytes [] u.answers (first_answers begun u.bytes u.answers u.heard)))
        (front_keeps mid.written new.written follower.text.items kept) (front_told_same mid.told_faults new.told_faults mid.told new.told follower.said.items faults told));
    prompt = log_same f types follower old mid u.bytes u.answers u.held new read.1;
  }

  module _ (after : OutsideSeen) (piece : List ℕ) (took : Consumes mid.rest after.rest piece) (kept : Keeps mid.written after.written) (grows : LogGrows mid.log after.log (wire_step.Came piece ∷ [])) (faults : after.told_faults ≡ mid.told_faults) (told : after.told ≡ mid.told) where
    read_held : IsHeld f follower old after (u.bytes ++ piece) u.answers
    read_held = held_read f types follower old mid u.bytes u.answers u.held after piece whole u.clear took kept grows faults told

    -- memory ran out behind the read
    pub next_untaken : FollowsOn (Err follow_fault.OutOfMemory) f.nodes f.first f.start f.name old after
    next_untaken = record {
      followed = inr (broken_off f types follower old after (u.bytes ++ piece) u.answers read_held after [] (Consumes-nil after.rest) (inl (first_behind (u.bytes ++ piece) [] u.answers (first_behind u.bytes piece u.answers (first_answers begun u.bytes u.answers u.heard))))
          (front_none after.written follower.text.items) (front_told_none after.told_faults after.told follower.said.items));
      prompt = still_prompt f types follower old after (u.bytes ++ piece) u.answers read_held after ([], sends_none after.log);
    }

    module _ (taken : Follower) (others : List (Option (List ℕ))) (follows : FollowsLines f.nodes f.shapes f.name follower taken others) where
      lines_held : IsHeld f taken old after (u.bytes ++ piece) (u.answers ++ others)
      lines_held = held_lines f types follower old after (u.bytes ++ piece) u.answers read_held taken others follows

      begins_still : ComeFirst (u.bytes ++ piece) (u.answers ++ others) ⊎ (AreAllBytes old.rest (u.bytes ++ piece) × (u.answers ++ others ≡ script_answers (u.bytes ++ piece)))
          → ComeFirst ((u.bytes ++ piece) ++ []) (u.answers ++ others) ⊎ (AreAllBytes old.rest ((u.bytes ++ piece) ++ []) × (u.answers ++ others ≡ script_answers ((u.bytes ++ piece) ++ [])))
      begins_still (inl first) = inl (first_behind (u.bytes ++ piece) [] (u.answers ++ others) first)
      begins_still (inr all) = inr (subst (AreAllBytes old.rest) (sym (append-nil (u.bytes ++ piece))) all.0, all.1 ∙ ap script_answers (sym (append-nil (u.bytes ++ piece))))

      -- they weren't all sent
      unsent : (fault : FollowFault) (new : OutsideSeen) → SendsBoth (Err fault) after new taken.text.items taken.said.items → ComeFirst (u.bytes ++ piece) (u.answers ++ others) ⊎ (AreAllBytes old.rest (u.bytes ++ piece) × (u.answers ++ others ≡ script_answers (u.bytes ++ piece)))
          → FollowsOn (Err fault) f.nodes f.first f.start f.name old new
      unsent follow_fault.Read new both begins = absurd both
      unsent follow_fault.Write new both begins = record {
        followed = broken_off f types taken old after (u.bytes ++ piece) (u.answers ++ others) lines_held new [] (consumes_kept after.rest new.rest both.0.rest) (begins_still begins) both.1 both.2;
        prompt = still_prompt f types taken old after (u.bytes ++ piece) (u.answers ++ others) lines_held new both.0.log;
      }
      unsent follow_fault.OutOfMemory new both begins = record {
        followed = inr (broken_off f types taken old after (u.bytes ++ piece) (u.answers ++ others) lines_held new [] (consumes_kept after.rest new.rest both.0.rest) (begins_still begins) both.1 both.2);
        prompt = still_prompt f types taken old after (u.bytes ++ piece) (u.answers ++ others) lines_held new both.0.log;
      }

      -- or they were
      all_sent : (sent : Follower) (new : OutsideSeen) → SendsBoth (Ok tt) after new taken.text.items taken.said.items → IsSent taken sent → IsHeld f sent old new (u.bytes ++ piece) (u.answers ++ others)
      all_sent sent new both is = held_sent f types taken old after (u.bytes ++ piece) (u.answers ++ others) lines_held sent new both is

    -- at the script's end its last line is the last one
    module _ (none : piece ≡ []) (end : IsAtEnd after.rest) (taken : Follower) (follows : FollowsLines f.nodes f.shapes f.name follower taken (answers_left begun [])) where
      last_answers : u.answers ++ answers_left begun [] ≡ script_answers (u.bytes ++ piece)
      last_answers = sym (u.heard.first []) ∙ ap (λ (bs : List ℕ). script_answers (u.bytes ++ bs)) (sym none)

      last_bytes : AreAllBytes old.rest (u.bytes ++ piece)
      last_bytes = Consumes-whole old.rest after.rest (u.bytes ++ piece) (λ (all : List ℕ). all ≡ u.bytes ++ piece) read_held.took end refl

      pub last_unsent : (fault : FollowFault) (new : OutsideSeen) → SendsBoth (Err fault) after new taken.text.items taken.said.items → FollowsOn (Err fault) f.nodes f.first f.start f.name old new
      last_unsent fault new both = unsent taken (answers_left begun []) follows fault new both (inr (last_bytes, last_answers))

      pub last_sent : (sent : Follower) (new : OutsideSeen) → SendsBoth (Ok tt) after new taken.text.items taken.said.items → IsSent taken sent → FollowsOn (Ok sent.faulty) f.nodes f.first f.start f.name old new
      last_sent sent new both is =
          let answers = u.answers ++ answers_left begun [] in
          let held = all_sent taken (answers_left begun []) follows sent new both is in
          let refusals = (sifted f.nodes f.shapes f.first answers).refusals in
          record {
            followed = (u.bytes ++ piece, refusals, subst (λ (xs : List (Option (List ℕ))). IsAllWritten f.nodes f.first f.start f.name old new (u.bytes ++ piece) xs refusals) last_answers (all_written f types sent old new (u.bytes ++ piece) answers held is.clear), last_bytes, held.came_to.gathered.faulty);
            prompt = (held.steps, held.grows, held.prompt);
          }

    -- a piece whose lines were taken
    module _ (begun' : Begun) (taken : Follower) (lines : FollowsPiece f.nodes f.shapes f.name follower taken begun begun' piece) (unended : has_line_feed begun'.line ≡ false) where
      heard_more : AreHeard begun' (u.bytes ++ piece) (u.answers ++ lines.0)
      heard_more = heard_on begun begun' u.bytes piece u.answers lines.0 u.heard lines.1 unended

      pub piece_unsent : (fault : FollowFault) (new : OutsideSeen) → SendsBoth (Err fault) after new taken.text.items taken.said.items → FollowsOn (Err fault) f.nodes f.first f.start f.name old new
      piece_unsent fault new both = unsent taken lines.0 lines.2 fault new both (inl (first_answers begun' (u.bytes ++ piece) (u.answers ++ lines.0) heard_more))

      pub piece_sent : (sent : Follower) (new : OutsideSeen) → SendsBoth (Ok tt) after new taken.text.items taken.said.items → IsSent taken sent → IsUpTo f begun' sent old new
      piece_sent sent new both is = record { bytes = u.bytes ++ piece; answers = u.answers ++ lines.0; heard = heard_more; held = all_sent taken lines.0 lines.2 sent new both is; clear = is.clear }

-- what a read leads to, once what comes of it is sent or not
module _ (f : Followed) (types : ShapesHaveTypes f.nodes f.shapes) (begun begun' : Begun) (follower taken : Follower) (old mid after : OutsideSeen) (u : IsUpTo f begun follower old mid) (count : ℕ) (piece : List ℕ) (long : length piece ≡ count)
    (took : Consumes mid.rest after.rest piece) (end : count ≡ 0 → IsAtEnd after.rest) (kept : Keeps mid.written after.written) (grows : LogGrows mid.log after.log (wire_step.Came piece ∷ [])) (faults : after.told_faults ≡ mid.told_faults) (told : after.told ≡ mid.told)
    (more : TakesMore f.nodes f.shapes f.name follower taken begun begun' piece) (unended : has_line_feed begun'.line ≡ false) where
  none_left : count == 0 ≡ true → count ≡ 0
  none_left none = eqb-true count 0 none

  last_taken : (bytes : List ℕ) → bytes ≡ [] → TakesMore f.nodes f.shapes f.name follower taken begun begun' bytes → FollowsLines f.nodes f.shapes f.name follower taken (answers_left begun [])
  last_taken [] none takes = takes
  last_taken (b ∷ bytes) none takes = absurd (let e = none in cc)

  piece_taken : (bytes : List ℕ) → 0 < length bytes → TakesMore f.nodes f.shapes f.name follower taken begun begun' bytes → FollowsPiece f.nodes f.shapes f.name follower taken begun begun' bytes
  piece_taken [] some takes = absurd (omega arith)
  piece_taken (b ∷ bytes) some takes = takes

  unsent_at : (fault : FollowFault) (new : OutsideSeen) → SendsBoth (Err fault) after new taken.text.items taken.said.items → (count ≡ 0) ⊎ (0 < count) → FollowsOn (Err fault) f.nodes f.first f.start f.name old new
  unsent_at fault new both (inl none) =
      let empty = some_piece piece count long (eq-eqb count 0 none) in
      last_unsent f types begun follower old mid u after piece took kept grows faults told empty (end none) taken (last_taken piece empty more) fault new both
  unsent_at fault new both (inr some) = piece_unsent f types begun follower old mid u after piece took kept grows faults told begun' taken (piece_taken piece (omega (arith, some, long)) more) unended fault new both

  zero_or : (n : ℕ) → (n ≡ 0) ⊎ (0 < n)
  zero_or zero = inl refl
  zero_or (suc n) = inr (omega arith)

  -- they weren't all sent
  pub next_unsent : (fault : FollowFault) (new : OutsideSeen) → SendsBoth (Err fault) after new taken.text.items taken.said.items → FollowsOn (Err fault) f.nodes f.first f.start f.name old new
  next_unsent fault new both = unsent_at fault new both (zero_or count)

  -- or they were
  pub next_sent : (sent : Follower) (new : OutsideSeen) (b : Bool) → count == 0 ≡ b → SendsBoth (Ok tt) after new taken.text.items taken.said.items → IsSent taken sent → FollowsNext (Ok b) f begun' sent old new
  next_sent sent new true none both is =
      let empty = some_piece piece count long none in
      last_sent f types begun follower old mid u after piece took kept grows faults told empty (end (none_left none)) taken (last_taken piece empty more) sent new both is
  next_sent sent new false some both is =
      piece_sent f types begun follower old mid u after piece took kept grows faults told begun' taken (piece_taken piece (some_count count some) more) unended sent new both is
    where
      some_count : (n : ℕ) → n == 0 ≡ false → 0 < length piece
      some_count n isnt = at (zero_or count)
        where
          at : (count ≡ 0) ⊎ (0 < count) → 0 < length piece
          at (inl none) = absurd (let e = sym some ∙ eq-eqb count 0 none in cc)
          at (inr positive) = omega (arith, positive, long)

-- ---- the first read

-- no step stands in an empty log
no_step : (front rest : List WireStep) (read : WireStep) → [] ≡ front ++ read ∷ rest → ⊥
no_step [] rest read is = let e = is in cc
no_step (t ∷ front) rest read is = let e = is in cc

-- before it nothing was read, and nothing is kept
pub first_up_to : (f : Followed) (begun : Begun) (follower : Follower) (now : OutsideSeen) → begun ≡ record { line = []; leaves = false } → FollowerAt f.nodes f.name follower f.first f.start nothing_gone → IsClear follower → IsUpTo f begun follower now now
first_up_to f begun follower now none at clear = record {
  bytes = [];
  answers = [];
  heard = record {
    first = λ more. ap (λ (b : Begun). answers_left b more) (sym none);
    unended = ap (λ (b : Begun). has_line_feed b.line) none;
  };
  held = record {
    took = Consumes-nil now.rest;
    gone = nothing_gone;
    came_to = at;
    written = appends_none now.written;
    told = tells_none now.told_faults now.told;
    steps = [];
    grows = grows_none now.log;
    came_is = refl;
    went_is = refl;
    prompt = λ front rest read is reads. absurd (no_step front rest read is);
  };
  clear = clear;
}

-- following ends for want of numbers where it would read again
pub ends_early : (f : Followed) (types : ShapesHaveTypes f.nodes f.shapes) (begun : Begun) (follower : Follower) (old now : OutsideSeen) → IsUpTo f begun follower old now → FollowsOn (Err follow_fault.OutOfMemory) f.nodes f.first f.start f.name old now
ends_early f types begun follower old now u = record {
  followed = inr (broken_off f types follower old now u.bytes u.answers u.held now [] (Consumes-nil now.rest) (inl (first_behind u.bytes [] u.answers (first_answers begun u.bytes u.answers u.heard))) (front_none now.written follower.text.items) (front_told_none now.told_faults now.told follower.said.items));
  prompt = still_prompt f types follower old now u.bytes u.answers u.held now ([], sends_none now.log);
}

-- nothing was done for want of memory
pub nothing_done : (nodes : List PlanNode) (first : Sifted) (start : Lists) (name : List ℕ) (now : OutsideSeen) → FollowsOn (Err follow_fault.OutOfMemory) nodes first start name now now
nothing_done nodes first start name now = record { followed = inl refl; prompt = ([], grows_none now.log, λ front rest read is reads. absurd (no_step front rest read is)) }
