use Rattle.std.proofs.Common.{arith, ap, sym, refl, ◌∙◌, drop, length}
use Rattle.cedr_text.proofs.Cuts.{rest_from}
use Rattle.cedr_text.proofs.LineLemmas.{gives_found, too_long, gives_last, some_left}
use Rattle.cedr_text.proofs.lines.Lines.next_line.Goals as goal

pub returns-in-Some-clause-ok : goal.returns-in-Some-clause-ok
returns-in-Some-clause-ok c =
    let fields = c.self.inside in
    let kept = rest_from c.deref.result.now fields.start ∙ ap (λ bytes. drop fields.start bytes) c.deref.ensures.value in
    rw (← c.self.view_is)
    (gives_found fields.bytes.items _ _ fields.start c.min.result c.in-Some.end fields.finished kept (omega (arith, c.min.ensures)) c.in-Some.ensures
    (c.in_ok-replace.ensures.ok ∙ c.without_return.ensures))

pub returns-then-window-gt-LINE_LIMIT-clause-ok : goal.returns-then-window-gt-LINE_LIMIT-clause-ok
returns-then-window-gt-LINE_LIMIT-clause-ok c =
    let fields = c.self.inside in
    let kept = rest_from c.deref.result.now fields.start ∙ ap (λ bytes. drop fields.start bytes) c.deref.ensures.value in
    rw (← c.self.view_is) (too_long fields.bytes.items _ fields.start c.min.result fields.finished kept c.if-window-gt-LINE_LIMIT.true c.in_default.ensures, refl, refl)

pub returns-in_ok-replace-2-clause-ok : goal.returns-in_ok-replace-2-clause-ok
returns-in_ok-replace-2-clause-ok c =
    let fields = c.self.inside in
    let kept = rest_from c.deref.result.now fields.start ∙ ap (λ bytes. drop fields.start bytes) c.deref.ensures.value in
    rw (← c.self.view_is)
    (gives_last fields.bytes.items _ _ fields.start c.min.result c.len-self-inside.result fields.finished kept c.if-not-self.false (omega (arith, c.len-self-inside.ensures, c.deref.ensures.len, ap length c.deref.ensures.value)) c.min.ensures c.if-window-gt-LINE_LIMIT.false c.in_default.ensures (some_left _ (sym c.if-is_empty.ensures))
    (c.in_ok-replace-2.ensures.ok ∙ c.without_return-else-is_empty.ensures))
