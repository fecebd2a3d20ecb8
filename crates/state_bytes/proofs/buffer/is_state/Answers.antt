-- `buffer::is_state` meets its contract: after the length, the tests of the bytes that stand for one of two cases decide.
use mathlib.Core.Path.{◌≡◌, sym, ◌∙◌}
use mathlib.Core.Bool.{◌&&◌}
use native.Mathlib.Omega.{arith}
use borrow.Author.Tests.{eq-eqb, ne_eqb}
use Rattle.words.proofs.Tests.{held, refuted}
use Rattle.state_bytes.specs.Flags.{flags_ok, kinds_ok}
use Rattle.state_bytes.specs.Stored.{is_state}
use Rattle.state_bytes.proofs.Canonical.{canonical}
use Rattle.state_bytes.proofs.buffer.is_state.Goals as goal
use Rattle.state_bytes.proofs.buffer.is_state.Goals.{Else-b-ne-RECORDS_SIZE}

pub returns-then-b-ne-RECORDS_SIZE : goal.returns-then-b-ne-RECORDS_SIZE
unfolding is_state
returns-then-b-ne-RECORDS_SIZE c = simp (ne_eqb _ _ c.if-b-ne-RECORDS_SIZE.true)

-- of bytes of the right number
tested : (c : goal.Else-b-ne-RECORDS_SIZE) → let b = c.args.b.now in is_state b ≡ (flags_ok b && kinds_ok b)
unfolding is_state
tested c =
    let b = c.args.b.now in
    rw (eq-eqb _ _ c.if-b-ne-RECORDS_SIZE.false, canonical b (λ i. omega (arith, c.shared_slice_known-1.given i)) c.if-b-ne-RECORDS_SIZE.false)

pub returns-then-not-flags_ok : goal.returns-then-not-flags_ok
returns-then-not-flags_ok c = rw (tested (goal.at.returns-then-not-flags_ok c).Else-b-ne-RECORDS_SIZE, refuted c.flags_ok.ensures c.if-not-flags_ok.true)

pub returns : goal.returns
returns c = c.kinds_ok.ensures ∙ sym (tested (goal.at.returns c).Else-b-ne-RECORDS_SIZE ∙ rw (held c.flags_ok.ensures c.if-not-flags_ok.false))
