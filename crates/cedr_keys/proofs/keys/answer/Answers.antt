use Rattle.std.proofs.Common.{◌≡◌, ℕ, List, inl, inr, sym, subst}
use Rattle.std.specs.Io.KnownBytes.{Appends}
use Rattle.std.proofs.KnownBytes.{Keeps-refl}
use Rattle.cedr_io.specs.Asked.{AppendsFront}
use Rattle.cedr_keys.specs.declared.outcome.KeysOutcome.{KeysOutcome}
use Rattle.cedr_keys.specs.Ends.{KeysFrom}
use Rattle.cedr_keys.specs.Texts.{keys_text}
use Rattle.cedr_keys.proofs.EndLemmas.{text_known, unkeyed_known, undecided_known}
use Rattle.cedr_keys.proofs.keys.answer.Goals as goal
use Rattle.cedr_keys.proofs.keys.answer.Goals.{in-Ok-unkeyed_text, in-Err-unkeyed_text}

pub returns-in-Err-Unkeyed-clause-from : goal.returns-in-Err-Unkeyed-clause-from
returns-in-Err-Unkeyed-clause-from g c =
    let content = g.F.Files.content c.args.files.now c.args.file.now in
    let out = g.K.Sink.written c.args.out.now in
    elim c.match-unkeyed_text.branch [
      | in-Ok-unkeyed_text w ↦
          subst (λ (went : KeysOutcome). KeysFrom content out out went) (sym w.result-is) (
            Keeps-refl out,
            unkeyed_known content c.in-Ok.plan c.as_slice-nodes.result.now c.in-Err-Unkeyed.field-0 c.in-Err-Unkeyed.node c.index-nodes-node.result w.in-Ok-unkeyed_text.said.items c.in-Ok.ensures.opened c.as_slice-nodes.ensures.value c.in-Err-Unkeyed.field-0-is c.in-Err-Unkeyed.ensures.fault c.index-nodes-node.is w.in-Ok-unkeyed_text.ensures,
          )
      | in-Err-unkeyed_text w ↦ subst (λ (went : KeysOutcome). KeysFrom content out out went) (sym w.result-is) (inl (Keeps-refl out))
    ]

pub returns-in-Err-Undecided-clause-from : goal.returns-in-Err-Undecided-clause-from
returns-in-Err-Undecided-clause-from g c = (
  Keeps-refl (g.K.Sink.written c.args.out.now),
  undecided_known (g.F.Files.content c.args.files.now c.args.file.now) c.in-Ok.plan c.in-Err-Undecided.field-0 c.in-Ok.ensures.opened c.in-Err-Undecided.field-0-is c.in-Err-Undecided.ensures.fault,
)

pub returns-in-Ok-write_all-clause-from : goal.returns-in-Ok-write_all-clause-from
returns-in-Ok-write_all-clause-from g c =
    let is : c.deref-2.result.now ≡ keys_text c.in-Ok-key_columns.columns.items c.in-Ok.plan.nodes.items 0 = cc (c.deref-2.ensures.value, c.in-Ok-keys_text.ensures, c.deref.ensures.value, c.as_slice-nodes.ensures.value) in
    text_known (g.F.Files.content c.args.files.now c.args.file.now) c.in-Ok.plan c.in-Ok-key_columns.columns.items c.deref-2.result.now (λ (t : List ℕ). Appends (g.K.Sink.written c.args.out.now) (g.K.Sink.written c.write_all.new.sink) t) c.in-Ok.ensures.opened c.in-Ok-key_columns.ensures.choice is
    c.in-Ok-write_all.ensures.ok

pub returns-in-Err-Failed-clause-from : goal.returns-in-Err-Failed-clause-from
returns-in-Err-Failed-clause-from g c =
    let is : c.deref-2.result.now ≡ keys_text c.in-Ok-key_columns.columns.items c.in-Ok.plan.nodes.items 0 = cc (c.deref-2.ensures.value, c.in-Ok-keys_text.ensures, c.deref.ensures.value, c.as_slice-nodes.ensures.value) in
    text_known (g.F.Files.content c.args.files.now c.args.file.now) c.in-Ok.plan c.in-Ok-key_columns.columns.items c.deref-2.result.now (λ (t : List ℕ). AppendsFront (g.K.Sink.written c.args.out.now) (g.K.Sink.written c.write_all.new.sink) t) c.in-Ok.ensures.opened c.in-Ok-key_columns.ensures.choice is
    c.in-Err-Failed.ensures.err

pub returns-clause-from : goal.returns-clause-from
returns-clause-from g c =
    let is : c.deref-2.result.now ≡ keys_text c.in-Ok-key_columns.columns.items c.in-Ok.plan.nodes.items 0 = cc (c.deref-2.ensures.value, c.in-Ok-keys_text.ensures, c.deref.ensures.value, c.as_slice-nodes.ensures.value) in
    inr (text_known (g.F.Files.content c.args.files.now c.args.file.now) c.in-Ok.plan c.in-Ok-key_columns.columns.items c.deref-2.result.now (λ (t : List ℕ). AppendsFront (g.K.Sink.written c.args.out.now) (g.K.Sink.written c.write_all.new.sink) t) c.in-Ok.ensures.opened c.in-Ok-key_columns.ensures.choice is
    c.in-Err-OutOfMemory-write_all.ensures.err)
