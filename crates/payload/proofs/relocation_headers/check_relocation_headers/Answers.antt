-- `check_relocation_headers` meets its contract: at each turn the headers from `i` on say what all of them say.
use mathlib.Core.Path.{sym, ◌∙◌}
use Rattle.words.proofs.Scan.{begin, turn, end}
use Rattle.words.proofs.Tests.{held, refuted}
use Rattle.kinds.specs.declared.Kind.TheVariants.{Relocations}
use Rattle.kinds.proofs.Same.{same-kind}
use Rattle.object.specs.Sections.{section_in, no_entry}
use Rattle.payload.specs.RelocationHeaders.{relocation_header_rules}
use Rattle.payload.proofs.relocation_headers.check_relocation_headers.Goals as goal
use Rattle.payload.proofs.relocation_headers.check_relocation_headers.Goals.{else-eq-via-else-eq, else-eq-via-then-eq+else-not-relocation_header_ok}

pub loop-i-init : goal.loop-i-init
unfolding relocation_header_rules
loop-i-init c = begin _ _ _

pub returns-then-not-relocation_header_ok : goal.returns-then-not-relocation_header_ok
unfolding no_entry
returns-then-not-relocation_header_ok c = let kind = (section_in c.args.table c.loop-i.i).kind in
    sym
    (c.loop-i.invariant
    ∙ turn _ _ _ _ c.loop-i-test.true
    ∙ rw (
      held (c.eq.ensures ∙ same-kind kind Relocations) c.if-eq.true,
      refuted c.relocation_header_ok.ensures c.if-not-relocation_header_ok.true,
      c.refused.ensures,
    ))

pub loop-i-preserved : goal.loop-i-preserved
unfolding no_entry
loop-i-preserved c = let kind = (section_in c.args.table c.loop-i.i).kind in
    c.loop-i.invariant
    ∙ turn _ _ _ _ c.loop-i-test.true
    ∙ (elim c.else-eq.branch [
      | else-eq-via-then-eq+else-not-relocation_header_ok w ↦ rw (
        held (c.eq.ensures ∙ same-kind kind Relocations) w.if-eq.true,
        held w.relocation_header_ok.ensures w.if-not-relocation_header_ok.false,
      )
      | else-eq-via-else-eq w ↦ rw (refuted (c.eq.ensures ∙ same-kind kind Relocations) w.if-eq.false)
    ])

pub returns : goal.returns
returns c = sym (c.loop-i.invariant ∙ end _ _ _ _ c.loop-i-test.false)
