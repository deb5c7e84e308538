-- The files of a plan's sources, one node after the other.
use Rattle.std.proofs.Common.{◌≡◌, ℕ, zero, suc, ◌+◌, ◌<◌, List, [], ◌∷◌, ◌++◌, length, get_or, take, refl, ap, sym, ◌∙◌, arith, append_assoc}
use Rattle.std.specs.Prelude.{Result, Ok, Err}
use Rattle.std.proofs.lemmas.List.{append-nil, take_more}
use Rattle.std.proofs.Math.Seq.{take-length}
use Rattle.cedr_plan.specs.declared.plan.PlanNode.{PlanNode}
use Rattle.cedr_source.specs.declared.fault.Unread.{Unread}
use Rattle.cedr_source.specs.declared.fault.Unread.TheVariants as unread
use Rattle.plan_answer.specs.Sources.{AsksFirst, AsksSource, files_of, source_files}

files_append : (before after : List PlanNode) → source_files (before ++ after) ≡ source_files before ++ source_files after
files_append [] after = refl
files_append (b ∷ before) after = ap (λ (ns : List (List ℕ)). files_of b ++ ns) (files_append before after) ∙ sym (append_assoc (files_of b) (source_files before) (source_files after))

-- the files of one node more
pub files_more : (nodes : List PlanNode) (place : ℕ) (n : PlanNode) → place < length nodes → get_or nodes place n ≡ n → source_files (take (place + 1) nodes) ≡ source_files (take place nodes) ++ files_of n
files_more nodes place n within here =
    ap source_files (take_more nodes place n within ∙ ap (λ (m : PlanNode). take place nodes ++ m ∷ []) here)
    ∙ (files_append (take place nodes) (n ∷ []) ∙ ap (λ (ns : List (List ℕ)). source_files (take place nodes) ++ ns) (append-nil (files_of n)))

asks_front : {T : Type 0} (read : Result T Unread) (before after names : List (List ℕ)) → AsksSource read before after names → AsksFirst before after names
asks_front (Ok messages) before after names e = record { count = length names; added = e ∙ ap (λ (ns : List (List ℕ)). before ++ ns) (sym (take-length names)) }
asks_front (Err (unread.Refused refusal)) before after names e = record { count = length names; added = e ∙ ap (λ (ns : List (List ℕ)). before ++ ns) (sym (take-length names)) }
asks_front (Err unread.Failed) before after names e = record { count = length names; added = e ∙ ap (λ (ns : List (List ℕ)). before ++ ns) (sym (take-length names)) }
asks_front (Err unread.OutOfMemory) before after names e = e

take_again : {X : Type 0} (k : ℕ) (ys zs : List X) → take (length (take k ys)) (ys ++ zs) ≡ take k ys
take_again zero ys zs = refl
take_again (suc k) [] zs = refl
take_again (suc k) (y ∷ ys) zs = ap (λ xs. y ∷ xs) (take_again k ys zs)

take_front : {X : Type 0} (xs : List X) (k : ℕ) (ys zs : List X) (n : ℕ) → n ≡ length xs + length (take k ys) → take n (xs ++ (ys ++ zs)) ≡ xs ++ take k ys
take_front [] k ys zs n e =
    let here : n ≡ length (take k ys) = omega (arith, e) in
    ap (λ (j : ℕ). take j (ys ++ zs)) here ∙ take_again k ys zs
take_front (x ∷ xs) k ys zs n e =
    let here : n ≡ suc (length xs + length (take k ys)) = omega (arith, e) in
    ap (λ (j : ℕ). take j (x ∷ (xs ++ (ys ++ zs)))) here ∙ ap (λ ws. x ∷ ws) (take_front xs k ys zs (length xs + length (take k ys)) refl)

-- the first names were asked for, and some of one node more
pub asks_on : {T : Type 0} (first now after : List (List ℕ)) (before rest : List PlanNode) (n : PlanNode) (read : Result T Unread) → now ≡ first ++ source_files before → AsksSource read now after (files_of n) → AsksFirst first after (source_files (before ++ n ∷ rest))
asks_on first now after before rest n read there asked =
    let a = asks_front read now after (files_of n) asked in
    record {
      count = length (source_files before) + length (take a.count (files_of n));
      added = a.added
          ∙ (ap (λ (ns : List (List ℕ)). ns ++ take a.count (files_of n)) there
          ∙ (append_assoc first (source_files before) (take a.count (files_of n))
          ∙ ap (λ (ns : List (List ℕ)). first ++ ns)
          (sym (ap (take (length (source_files before) + length (take a.count (files_of n)))) (files_append before (n ∷ rest)) ∙ take_front (source_files before) a.count (files_of n) (source_files rest) (length (source_files before) + length (take a.count (files_of n))) refl))));
    }

-- once all nodes were passed, the files of all sources were asked for
pub asked_whole : (first after : List (List ℕ)) (nodes : List PlanNode) (place : ℕ) → place ≡ length nodes → after ≡ first ++ source_files (take place nodes) → AsksFirst first after (source_files nodes)
asked_whole first after nodes place end asked = record {
  count = length (source_files nodes);
  added = asked
      ∙ (ap (λ (ns : List PlanNode). first ++ source_files ns) (ap (λ (k : ℕ). take k nodes) end ∙ take-length nodes)
      ∙ ap (λ (ns : List (List ℕ)). first ++ ns) (sym (take-length (source_files nodes))));
}
