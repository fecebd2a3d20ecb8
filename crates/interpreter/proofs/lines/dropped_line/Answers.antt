-- `lines::dropped_line` meets its contract: only an `end` is more than passed over.
use Rattle.std.proofs.Common.{sym, ◌∙◌, subst}
use Rattle.interpreter.specs.Lines.{dropped_line}
use Rattle.interpreter.specs.Parts.{stepped}
use Rattle.interpreter.specs.Standing.{unit_in, Gives}
use Rattle.interpreter.proofs.Answering.{closed-gives, passed-gives}
use Rattle.interpreter.proofs.lines.dropped_line.Goals as goal

pub returns-then-is_end : goal.returns-then-is_end
returns-then-is_end c = let a = c.args in
    let end = sym c.is_end.ensures ∙ c.if-is_end.true in
    λ m g out.
    subst
    (λ console. Gives (dropped_line a.console.lines (unit_in a.console a.state m) a.line.now) (stepped console a.state 0) m g out out)
    (sym c.with_mode.ensures)
    (closed-gives a.console a.state a.line.now (stepped a.console a.state 0) out out c.requires.1 m g end)

pub returns : goal.returns
returns c = let a = c.args in
    let other = sym c.is_end.ensures ∙ c.if-is_end.false in
    λ m g out.
    passed-gives a.console a.state a.line.now (stepped a.console a.state 0) out out c.requires.1 m g c.requires.0 other
