-- `lines::payload_line` meets its contract: the end, a line of hex, or any other line.
use Rattle.std.proofs.Common.{leb, length, sym, ◌∙◌, subst}
use Rattle.words.proofs.Tests.{both}
use Rattle.script.specs.Hex.{is_hex}
use Rattle.answers.specs.Answers.{bad_line}
use Rattle.interpreter.specs.Lines.{line_max}
use Rattle.interpreter.specs.Parts.{Says}
use Rattle.interpreter.proofs.Answering.{ends-gives, gather-gives, drop-gives}
use Rattle.interpreter.proofs.lines.payload_line.Goals as goal

pub returns-then-is_end : goal.returns-then-is_end
returns-then-is_end c = let a = c.args in
    ends-gives a.console a.state a.line.now c.finish.result _ _ c.requires.1 a.memory.now
    a.gathered.now _ (sym c.is_end.ensures ∙ c.if-is_end.true) c.finish.ensures

pub gather-requires : goal.gather-requires
gather-requires c = let line = c.args.line.now in
    let hex = sym c.is_hex.ensures ∙ c.if-is_hex.true in
    (c.requires.1.file, (both (leb (length line) line_max) (is_hex line) hex).1)

pub returns-then-is_hex : goal.returns-then-is_hex
returns-then-is_hex c = let a = c.args in
    gather-gives a.console a.state a.line.now c.gather.result a.out.now a.out.now c.requires.1
    a.memory.now a.gathered.now _ c.requires.0
    (sym c.is_end.ensures ∙ c.if-is_end.false) (sym c.is_hex.ensures ∙ c.if-is_hex.true) c.gather.ensures.0
    c.gather.ensures.1 c.gather.ensures.2

pub returns : goal.returns
returns c = let a = c.args in
    let dropped =
    subst (λ console. Says console a.state (bad_line console.lines) c.bad.result a.out.now c.bad.new.out) c.with_mode.ensures
    c.bad.ensures in
    drop-gives a.console a.state a.line.now c.bad.result _ _ c.requires.1 a.memory.now
    a.gathered.now (sym c.is_end.ensures ∙ c.if-is_end.false)
    (sym c.is_hex.ensures ∙ c.if-is_hex.false) dropped
