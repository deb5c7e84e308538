-- The calls that are refused under a name.
use Rattle.std.proofs.Common.{◌≡◌, ℕ, List, [], ◌∷◌, ◌++◌, Bool, true, false, cond, refl, ap, ◌∙◌}
use Rattle.cedr_io.specs.declared.mem_files.RefusedRead.{RefusedRead}
use Rattle.cedr_io.specs.Memory.{same_name, calls_under}

one_more : (first last : Bool) (call more : ℕ) (calls : List ℕ) → cond first (call ∷ cond last (calls ++ more ∷ []) calls) (cond last (calls ++ more ∷ []) calls) ≡ cond last (cond first (call ∷ calls) calls ++ more ∷ []) (cond first (call ∷ calls) calls)
one_more true true call more calls = refl
one_more true false call more calls = refl
one_more false true call more calls = refl
one_more false false call more calls = refl

-- one more read adds its call to those under its own name, and to no others
pub calls_under-push : (name : List ℕ) (reads : List RefusedRead) (read : RefusedRead) → calls_under name (reads ++ read ∷ []) ≡ cond (same_name read.name name) (calls_under name reads ++ read.call ∷ []) (calls_under name reads)
calls_under-push name [] read = refl
calls_under-push name (first ∷ reads) read =
    ap (λ calls. cond (same_name first.name name) (first.call ∷ calls) calls) (calls_under-push name reads read) ∙ one_more (same_name first.name name) (same_name read.name name) first.call read.call (calls_under name reads)
