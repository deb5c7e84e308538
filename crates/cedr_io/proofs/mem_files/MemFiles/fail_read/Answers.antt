use Rattle.std.proofs.Common.{ℕ, List, [], ◌∷◌, ◌++◌, cond, ap, ◌∙◌}
use Rattle.cedr_io.specs.Memory.{same_name, calls_under}
use Rattle.cedr_io.proofs.Names.{calls_under-push}
use Rattle.cedr_io.proofs.mem_files.MemFiles.fail_read.Goals as goal

pub returns-clause-refused : goal.returns-clause-refused
returns-clause-refused c n =
    let reads = c.args.self.now.refused_reads.items in
    let with_call : List ℕ → List ℕ = λ name. cond (same_name name n) (calls_under n reads ++ c.args.call ∷ []) (calls_under n reads) in
    ap (calls_under n) c.in_ok-push.ensures.items ∙ (calls_under-push n reads _ ∙ ap with_call (cc (c.in_ok-name.ensures, c.as_bytes.ensures.value)))
