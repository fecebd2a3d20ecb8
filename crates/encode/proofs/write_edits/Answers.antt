-- `write_edits` meets its contract: the invariant is that the first `r` entries are laid.
use Prim.Native.Nat.{ℕ, ◌+◌, ◌*◌, ◌≤◌, ◌<◌}
use mathlib.Core.Path.{◌≡◌, sym, ap, ◌∙◌}
use native.Mathlib.Numerals.{add-one}
use native.Mathlib.Omega.{arith}
use lib.ListN.{length}
use Rattle.words.specs.Splice.{splice}
use Rattle.words.proofs.Splice.{splice-none, length-splice}
use Rattle.records.specs.Limits.{records_max}
use Rattle.machine.specs.Host.{host_machine}
use Rattle.encode.specs.Encode.{entry_size, row_of, rows}
use Rattle.records.proofs.Edits.{copied}
use Rattle.encode.proofs.Laws.{length-row, row-edit, row-none, row_laid, all_laid}
use Rattle.encode.proofs.write_edits.Goals as goal
use Rattle.encode.proofs.write_edits.Goals.{Joined-r-count, then-r-count, else-r-count}

pub loop-r-init : goal.loop-r-init
unfolding rows
loop-r-init c = (sym (splice-none c.args.buffer.now 0), omega arith)

pub write_entry-requires : goal.write_entry-requires
write_entry-requires c = let edits = c.args.edits in
    let r = c.loop-r.r in
    let within : r < length edits = omega arith in
    let listed : r < c.args.count = omega arith in
    let same = sym (copied edits r within) in
    record { entry_size_in_bounds = omega arith; offset_bound = (rw same (c.requires.2.addressed r listed), rw same (c.requires.2.short r listed)) }

-- either way, the entry is laid behind those before
laid :
    (c : goal.Joined-r-count) → let a = c.args in
    let l = c.loop-r in
    c.if-r-count.buffer ≡ splice l.buffer (entry_size * l.r) (row_of (host_machine a.host) a.host.text a.edits a.count l.r)
laid c =
    let fitting = c.requires.2 in
    let edits = c.args.edits in
    let r = c.loop-r.r in
    let within : r < length edits = omega arith in
    let same = sym (copied edits r within) in
    elim c.if-r-count.branch [
      | then-r-count w ↦ w.buffer-is ∙ w.write_entry.ensures ∙ rw (same, row-edit fitting r w.if-r-count.true)
      | else-r-count w ↦ w.buffer-is ∙ w.fill.ensures ∙ rw (row-none fitting r w.if-r-count.false)
    ]

pub loop-r-preserved : goal.loop-r-preserved
loop-r-preserved c = let a = c.args in
    let fitting = c.requires.2 in
    let l = c.loop-r in
    let row = row_of (host_machine a.host) a.host.text a.edits a.count l.r in
    let room : entry_size * l.r + length row ≤ length l.buffer = omega (arith, length-row fitting l.r) in (
      laid c ∙ rw (l.invariant.0, add-one) (row_laid fitting a.buffer.now l.r),
      ap length (laid c) ∙ length-splice l.buffer (entry_size * l.r) row room ∙ l.invariant.1,
    )

pub returns : goal.returns
returns c = let a = c.args in
    let l = c.loop-r in
    let all : l.r ≡ records_max = omega arith in
    l.invariant.0 ∙ ap (λ (k : ℕ). splice a.buffer.now 0 (rows (host_machine a.host) a.host.text a.edits a.count k)) all
    ∙ all_laid c.requires.2 a.buffer.now (omega arith)
