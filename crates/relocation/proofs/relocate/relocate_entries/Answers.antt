-- `relocate_entries` meets its contract: at each turn the entries from the cursor on, over the bytes as they are, give what all of them give.
use Prim.Native.Nat.{◌+◌, ◌-◌, ◌*◌, ◌<◌}
use mathlib.Core.Path.{◌≡◌, refl, sym, ap, ◌∙◌, subst}
use mathlib.Core.List.{List}
use native.Mathlib.Omega.{arith}
use Rattle.elf.specs.Layout.{relocation_size, relocation_of}
use Rattle.records.specs.Limits.{placed_max}
use Rattle.machine.specs.Host.{host_machine}
use Rattle.linking.specs.Kept.{Kept}
use Rattle.linking.specs.Linking.{Linking}
use Rattle.linking.specs.declared.kept.Cell.{Cell}
use Rattle.reader.specs.Entries.{relocation_count}
use Rattle.reader.specs.declared.cursor.Cursor.{Cursor}
use Rattle.reader.proofs.EntryLaws.{next-entry, next-end}
use Rattle.relocation.specs.Relocating.{Field, FieldFits, field_of, relocated, store_in, field_verdict, continue, relocate_entries, Given}
use Rattle.relocation.proofs.FieldLaws.{field_fits}
use Rattle.relocation.proofs.RelocateLaws.{entries-turn, entries-end, still-given}
use Rattle.relocation.proofs.relocate.relocate_entries.Goals as goal
use Rattle.relocation.proofs.relocate.relocate_entries.Goals.{After-field_of}

pub loop-r-init : goal.loop-r-init
loop-r-init c =
    let first_entry : c.start-cursor.result.entry ≡ 0 = ap (λ (k : Cursor). k.entry) c.start-cursor.ensures in
    let all : relocation_count c.args.entries.now - 0 ≡ relocation_count c.args.entries.now = omega arith in
    rw first_entry (omega arith, c.requires.image_len.0, refl, λ l g. (rw all, g.sought.kept))

pub returns-in_default : goal.returns-in_default
returns-in_default c =
    let loop = c.loop-r in
    let last = next-end _ loop.cursor (sym c.next_entry.ensures ∙ c.in_default.is) in
    λ l g. (sym ((loop.invariant.3 l g).0 ∙ entries-end _ _ _ _ _ _ _ last), (loop.invariant.3 l g).1)

-- ---- one entry, of a payload that is linked against l

pub field_of-requires : goal.field_of-requires
field_of-requires c =
    let g = c.requires.given.1 in
    (c.requires.image_len.1, (_, still-given _ g (c.loop-r.invariant.3 _ g).1))

-- with these cells the entries are given what they need of l
abbrev GivenWith : goal.After-field_of → Linking → List Cell → Type 0
GivenWith c l cells = Given l c.args.host cells c.args.strings.now c.args.list.now

-- as at the start, so at the loop's head
given : (c : goal.After-field_of) (l : Linking) → GivenWith c l c.args.cells.now → GivenWith c l c.loop-r.cells
given c l g = still-given _ g (c.loop-r.invariant.3 l g).1

-- the entry at the cursor
found :
    (c : goal.After-field_of) →
    let e = c.loop-r.cursor.entry in
    (e < relocation_count c.args.entries.now)
    × (c.in-Some.r ≡ relocation_of c.args.entries.now (relocation_size * e))
    × (c.in-Some.next.entry ≡ e + 1)
found c = next-entry _ _ _ _ (sym c.next_entry.ensures ∙ c.in-Some.is)

-- its field, and the cells after it
made :
    (c : goal.After-field_of) (l : Linking) →
    let r = relocation_of c.args.entries.now (relocation_size * c.loop-r.cursor.entry) in
    GivenWith c l c.args.cells.now →
    (c.field_of.result ≡ field_of (host_machine c.args.host) l c.args.area r)
    × Kept l c.field_of.new.cells
made c l g = rw (found c).1 at (c.field_of.ensures l (given c l g))

-- so all entries give what this field and the entries after it give
turn :
    (c : goal.After-field_of) (l : Linking) →
    let a = c.args in
    let from = relocate_entries (host_machine a.host) l a.area a.entries.now in
    let n = relocation_count a.entries.now in
    let e = c.loop-r.cursor.entry in
    let field = c.field_of.result in
    GivenWith c l a.cells.now →
    from 0 n a.image.now
    ≡ continue (relocated (field_verdict field a.area.section e) (store_in c.loop-r.image field)) (from (e + 1) (n - (e + 1)))
turn c l g = (c.loop-r.invariant.3 l g).0 ∙ entries-turn _ _ _ _ _ _ _ (found c).0 ∙ rw (← (made c l g).0)

pub overflow_cast-number : goal.overflow_cast-number
overflow_cast-number c = omega (arith, found (goal.at.overflow_cast-number c).After-field_of)

pub returns-in-Err : goal.returns-in-Err
returns-in-Err c =
    let at = (goal.at.returns-in-Err c).After-field_of in
    λ l g. (rw c.refused.ensures (sym (turn at l g ∙ rw c.in-Err.is)), (made at l g).1)

pub store_field-requires : goal.store_field-requires
store_field-requires c =
    let at = (goal.at.store_field-requires c).After-field_of in
    let fits : FieldFits c.field_of.result placed_max = rw (made at _ c.requires.given.1).0 (field_fits _ _ _ _ c.requires.image_len.1) in
    rw c.loop-r.invariant.1 (subst (λ (f : Field). FieldFits f placed_max) c.in-Ok.is fits)

pub loop-r-smaller : goal.loop-r-smaller
loop-r-smaller c = omega (arith, found (goal.at.loop-r-smaller c).After-field_of)

pub loop-r-preserved : goal.loop-r-preserved
loop-r-preserved c =
    let at = (goal.at.loop-r-preserved c).After-field_of in
    let next = found at in (
      omega (arith, next),
      omega arith,
      omega arith,
      λ l g. (turn at l g ∙ rw (next.2, c.store_field.ensures, c.in-Ok.is), (made at l g).1),
    )
