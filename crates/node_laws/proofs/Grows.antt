-- How what is said of a list goes on when a message comes.
use Rattle.std.proofs.Common.{◌≡◌, ℕ, ◌-◌, List, [], ◌∷◌, ◌++◌, true, false, refl, ap, sym, ◌∙◌, arith, max, append_assoc}
use Rattle.std.specs.Prelude.{Option}
use Rattle.std.proofs.lemmas.List.{append-nil}
use Rattle.cedr_base.specs.declared.row.Row.{Row}
use Rattle.cedr_base.specs.declared.change.Change.{Change}
use Rattle.cedr_base.specs.declared.change.Message.{Message}
use Rattle.cedr_base.specs.declared.change.Message.TheVariants as message
use Rattle.cedr_base.specs.Rows.{count_of}
use Rattle.cedr_base.specs.Changes.{all_puts, all_takes}
use Rattle.cedr_base.specs.declared.level.Level.{Level}
use Rattle.node_laws.specs.Surplus.{table_of}
use Rattle.node_laws.specs.Places.{each_place, each_place_behind}
use Rattle.node_laws.specs.Kept.{high_of, kept_of, kept_behind, kept, forgotten_of, forgot}
use Rattle.node_laws.specs.Pass.{has_end, passed_of, pass}
use Rattle.node_laws.proofs.Order.{count-less}

each_place_behind-push : {Y : Type 0} (piece : List Message → Message → List Y) (before ms : List Message) (m : Message) → each_place_behind piece before (ms ++ m ∷ []) ≡ each_place_behind piece before ms ++ piece (before ++ ms) m
each_place_behind-push piece before [] m = append-nil (piece before m) ∙ ap (λ (bs : List Message). piece bs m) (sym (append-nil before))
each_place_behind-push piece before (x ∷ xs) m =
    ap (λ ys. piece before x ++ ys) (each_place_behind-push piece (before ++ x ∷ []) xs m)
    ∙ (sym (append_assoc (piece before x) _ _) ∙ ap (λ (bs : List Message). (piece before x ++ each_place_behind piece (before ++ x ∷ []) xs) ++ piece bs m) (append_assoc before (x ∷ []) xs))

-- what is made place by place goes on with the piece of a message that comes
pub each_place-push : {Y : Type 0} (piece : List Message → Message → List Y) (ms : List Message) (m : Message) → each_place piece (ms ++ m ∷ []) ≡ each_place piece ms ++ piece ms m
each_place-push piece ms m = each_place_behind-push piece [] ms m

kept_behind-push : (memory : Option ℕ) (before : List Message) (so_far : List Change) (ms : List Message) (m : Message)
    → kept_behind memory before so_far (ms ++ m ∷ []) ≡ kept_behind memory before so_far ms ++ kept_of memory (before ++ ms) (kept_behind memory before so_far ms) m
kept_behind-push memory before so_far [] m = ap (λ (bs : List Message). so_far ++ kept_of memory bs so_far m) (sym (append-nil before))
kept_behind-push memory before so_far (x ∷ xs) m =
    let more = so_far ++ kept_of memory before so_far x in
    kept_behind-push memory (before ++ x ∷ []) more xs m
    ∙ ap (λ (bs : List Message). kept_behind memory (before ++ x ∷ []) more xs ++ kept_of memory bs (kept_behind memory (before ++ x ∷ []) more xs) m) (append_assoc before (x ∷ []) xs)

-- what is kept goes on with what is kept of a message that comes
pub kept-push : (memory : Option ℕ) (ms : List Message) (m : Message) → kept memory (ms ++ m ∷ []) ≡ kept memory ms ++ kept_of memory ms (kept memory ms) m
unfolding kept
kept-push memory ms m = kept_behind-push memory [] [] ms m

-- of no messages nothing is kept
pub kept-nil : (memory : Option ℕ) → kept memory [] ≡ []
unfolding kept
kept-nil memory = refl

-- what is forgotten goes on with what is forgotten of a message that comes
pub forgot-push : (memory : Option ℕ) (ms : List Message) (m : Message) → forgot memory (ms ++ m ∷ []) ≡ forgot memory ms ++ forgotten_of memory ms m
forgot-push memory ms m = each_place-push (forgotten_of memory) ms m

-- what is passed on goes on with what a message that comes passes on
pub pass-push : (level : Level) (ms : List Message) (m : Message) → pass level (ms ++ m ∷ []) ≡ pass level ms ++ passed_of level ms m
unfolding pass
pass-push level ms m = each_place-push (passed_of level) ms m

-- of no messages nothing is passed on
pub pass-nil : (level : Level) → pass level [] ≡ []
unfolding pass
pass-nil level = refl

-- the greatest time of joined lists is the greater of their greatest times
pub high-append : (xs ys : List Message) → high_of (xs ++ ys) ≡ max (high_of xs) (high_of ys)
high-append [] ys = omega arith
high-append (message.Change c ∷ xs) ys = omega (arith, high-append xs ys)
high-append (message.Mark t ∷ xs) ys = omega (arith, high-append xs ys)
high-append (message.End ∷ xs) ys = high-append xs ys
high-append (message.Broken ∷ xs) ys = high-append xs ys

-- a list that begins with messages without End has its End exactly where its rest has one
pub end-append : (xs ys : List Message) → has_end xs ≡ false → has_end (xs ++ ys) ≡ has_end ys
end-append [] ys h = refl
end-append (message.Change c ∷ xs) ys h = end-append xs ys h
end-append (message.Mark t ∷ xs) ys h = end-append xs ys h
end-append (message.End ∷ xs) ys h = cc
end-append (message.Broken ∷ xs) ys h = end-append xs ys h

-- a list to which End is added has its End
pub end-pushed : (xs : List Message) → has_end (xs ++ message.End ∷ []) ≡ true
end-pushed [] = refl
end-pushed (message.Change c ∷ xs) = end-pushed xs
end-pushed (message.Mark t ∷ xs) = end-pushed xs
end-pushed (message.End ∷ xs) = refl
end-pushed (message.Broken ∷ xs) = end-pushed xs

-- the copies of a row in the table of changes
pub count-table : (r : Row) (cs : List Change) → count_of r (table_of cs) ≡ count_of r (all_puts cs) - count_of r (all_takes cs)
count-table r cs = count-less r (all_puts cs) (all_takes cs)
