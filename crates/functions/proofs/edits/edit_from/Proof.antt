-- `edit_from` meets its contract: each answer is the one of the tests that led there.
use Prim.Native.Nat.{◌+◌, ◌-◌, ◌≤◌}
use mathlib.Core.Path.{◌≡◌}
use mathlib.Core.Bool.{true, ◌&&◌}
use native.Mathlib.Omega.{arith}
use borrow.Author.Rules.{rules}
use borrow.Author.Tests.{eq-eqb, ne_eqb}
use Rattle.words.proofs.Tests.{held, refuted}
use Rattle.functions.specs.Edits.{form_ok, in_text, addresses_ok, fill_ok, jump_edit, edit_from}
use Rattle.functions.specs.Patching.{Patching, patching}
use Rattle.functions.proofs.RecordLaws.{lies, fill_holds}
use Rattle.functions.proofs.edits.edit_from.Statement.{statement}
use Rattle.functions.proofs.edits.edit_from.Tie as tie

-- what the record is read from and judged by
abbrev from : tie.After-shared_slice_known-2-1 → Patching
from c = let a = c.args in patching a.host a.placed.now a.list.now

-- ---- what has passed

-- the form
well-formed :
    (c : tie.Else-not-form_ok) → let a = c.args in
    form_ok a.placed.now a.at a.f ≡ true
well-formed c = held c.form_ok.ensures c.if-not-form_ok.false

-- the place in the text, as a test and as numbers
in-text :
    (c : tie.Else-not-lies_in) → let a = c.args in
    in_text (from c.before.before.before.before) a.old a.f ≡ true
in-text c = held c.lies_in.ensures c.if-not-lies_in.false

room :
    (c : tie.Else-not-lies_in) → let a = c.args in
    (a.host.text ≤ a.old) × (a.old - a.host.text + a.f.old_size ≤ a.host.text_length)
room c = lies _ _ _ _ (in-text c)

-- all that is asked of every record
right :
    (c : tie.Else-not-addresses_ok) → let a = c.args in
    (form_ok a.placed.now a.at a.f && in_text (from c.before.before.before.before.before.before) a.old a.f && addresses_ok (from c.before.before.before.before.before.before) a.old a.f) ≡ true
right c =
    rw (well-formed c.before.before.before.before, in-text c.before.before, held c.addresses_ok.ensures c.if-not-addresses_ok.false)

-- ---- the answers

returns-then-not-form_ok : tie.Need-returns-then-not-form_ok
unfolding edit_from
returns-then-not-form_ok c = rw (refuted c.form_ok.ensures c.if-not-form_ok.true)

returns-then-not-lies_in : tie.Need-returns-then-not-lies_in
unfolding edit_from
returns-then-not-lies_in c = rw (well-formed c.before.before, refuted c.lies_in.ensures c.if-not-lies_in.true)

returns-then-not-addresses_ok : tie.Need-returns-then-not-addresses_ok
unfolding edit_from
returns-then-not-addresses_ok c = rw (well-formed c.before.before.before.before, in-text c.before.before, refuted c.addresses_ok.ensures c.if-not-addresses_ok.true)

returns-then-not-fill_ok : tie.Need-returns-then-not-fill_ok
unfolding edit_from fill_ok
returns-then-not-fill_ok c = rw (right c.before.before.before.before, eq-eqb _ _ c.if-f-eq0.true, refuted c.fill_ok.ensures c.if-not-fill_ok.true)

overflow_sub-result : tie.Need-overflow_sub-result
overflow_sub-result c = omega (arith, room c.before.before.before.before.before.before.before)

overflow_cast-result : tie.Need-overflow_cast-result
overflow_cast-result c = omega (arith, room c.before.before.before.before.before.before.before)

overflow_cast-result-then-f-eq0 : tie.Need-overflow_cast-result-then-f-eq0
overflow_cast-result-then-f-eq0 c = omega (arith, fill_holds _ _ (held c.fill_ok.ensures c.if-not-fill_ok.false))

returns-then-f-eq0 : tie.Need-returns-then-f-eq0
unfolding edit_from fill_ok
returns-then-f-eq0 c = rw (right c.before.before.before.before.before.before, eq-eqb _ _ c.if-f-eq0.true, held c.fill_ok.ensures c.if-not-fill_ok.false)

returns-then-not-jump_ok : tie.Need-returns-then-not-jump_ok
unfolding edit_from
returns-then-not-jump_ok c = rw (
  right c.before.before.before.before,
  ne_eqb _ _ c.if-f-eq0.false,
  ← c.jump_ok.ensures,
  c.if-not-jump_ok.true,
)

jump_edit-requires : tie.Need-jump_edit-requires
jump_edit-requires c κs = omega (arith, room c.before.before.before.before.before.before)

returns : tie.Need-returns
unfolding edit_from jump_edit
returns c = rw (
  right c.before.before.before.before.before,
  ne_eqb _ _ c.if-f-eq0.false,
  ← c.jump_ok.ensures,
  c.if-not-jump_ok.false,
  c.jump_edit.ensures,
)

pub edit_from_spec : {M : Type 1} → statement M
edit_from_spec =
    tie.close (tie.spec (λ c κs. search rules) returns-then-not-form_ok (λ c κs. search rules) returns-then-not-lies_in (λ c κs. search rules) returns-then-not-addresses_ok (λ c κs. search rules) returns-then-not-fill_ok overflow_sub-result overflow_cast-result overflow_cast-result-then-f-eq0 returns-then-f-eq0 (λ c κs. search rules) returns-then-not-jump_ok jump_edit-requires returns)
