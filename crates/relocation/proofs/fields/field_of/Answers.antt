-- `field_of` meets its contract: the tests, in the order type, field, symbol, range, decide those of `field_of`.
use Rattle.std.proofs.Common.{◌≡◌, ◌+◌, sym, ◌∙◌}
use Rattle.std.proofs.lemmas.Result.{err_from_is_err_and}
use lib.Dec.{leb}
use Rattle.words.proofs.Tests.{held, refuted}
use Rattle.machine.specs.Host.{rule_of, host_machine}
use Rattle.machine.specs.declared.processor.RelocationType.TheVariants.{Stores}
use Rattle.linking.specs.Linking.{Linking}
use Rattle.relocation.specs.Relocating.{field_address, with_symbol, field_ok, field_of, Given}
use Rattle.relocation.proofs.fields.field_of.Goals as goal
use Rattle.relocation.proofs.fields.field_of.Goals.{In-Stores, After-lies_within, After-add-place, After-is_aligned, After-value_of}

pub returns-in-Nothing : goal.returns-in-Nothing
unfolding field_of
returns-in-Nothing c = λ l g. (rw (← c.relocation_type-asked.ensures, c.in-Nothing.is), g.sought.kept)

pub returns-in-Unknown : goal.returns-in-Unknown
unfolding field_of
returns-in-Unknown c = λ l g. (rw (← c.relocation_type-asked.ensures, c.in-Unknown.is), g.sought.kept)

-- ---- a type that stores a field

stores :
    (c : goal.In-Stores) →
    let a = c.args in
    (host_machine a.host).relocation a.r.r_type ≡ Stores c.in-Stores.f
stores c = sym c.relocation_type-asked.ensures ∙ c.in-Stores.is

-- whether the field lies within its section, tested
inside :
    (c : goal.After-lies_within) →
    let a = c.args in
    c.lies_within.result ≡ leb (a.r.r_offset + (rule_of c.in-Stores.f).width) a.area.size
inside c = rw c.width.ensures at c.lies_within.ensures

pub returns-then-not-lies_within : goal.returns-then-not-lies_within
unfolding field_of field_ok
returns-then-not-lies_within c =
    let tested = (goal.at.returns-then-not-lies_within c).After-lies_within in
    λ l g. (
      rw (stores (goal.at.returns-then-not-lies_within c).In-Stores, refuted (inside tested) c.if-not-lies_within.true),
      g.sought.kept,
    )

-- the field's address
placed :
    (c : goal.After-add-place) (l : Linking) →
    let a = c.args in
    l.slot ≡ a.host.slot → c.add-place.result ≡ field_address l a.area a.r
placed c l same = rw (same, c.add-place.ensures, c.add.ensures)

-- whether the field may stand there, tested
aligned :
    (c : goal.After-is_aligned) (l : Linking) →
    let a = c.args in
    l.slot ≡ a.host.slot → c.is_aligned.result ≡ (rule_of c.in-Stores.f).aligned (field_address l a.area a.r)
aligned c l same = rw (placed (goal.at.After-is_aligned c).After-add-place l same) at c.is_aligned.ensures

pub returns-then-not-is_aligned : goal.returns-then-not-is_aligned
unfolding field_of field_ok
returns-then-not-is_aligned c =
    let tested = (goal.at.returns-then-not-is_aligned c).After-is_aligned in
    λ l g. (
      rw (
        stores (goal.at.returns-then-not-is_aligned c).In-Stores,
        held (inside (goal.at.returns-then-not-is_aligned c).After-lies_within) c.if-not-lies_within.false,
        refuted (aligned tested l g.address) c.if-not-is_aligned.true,
      ),
      g.sought.kept,
    )

-- ---- past both tests the symbol's value decides

by-symbol :
    (c : goal.After-value_of) (l : Linking) →
    let a = c.args in
    Given l a.host a.cells.now a.strings.now a.list.now →
    field_of (host_machine a.host) l a.area a.r ≡ with_symbol l a.area a.r c.in-Stores.f c.value_of.result
unfolding field_of field_ok
by-symbol c l g =
    rw (
      stores (goal.at.After-value_of c).In-Stores,
      held (inside (goal.at.After-value_of c).After-lies_within) c.if-not-lies_within.false,
      held (aligned (goal.at.After-value_of c).After-is_aligned l g.address) c.if-not-is_aligned.false,
      (c.value_of.ensures l g.sought).0,
    )

pub returns-in_err-s : goal.returns-in_err-s
returns-in_err-s c =
    let past = (goal.at.returns-in_err-s c).After-value_of in
    let p = err_from_is_err_and c.from_residual.result c.from_residual.ensures.1 in
    λ l g. (rw (p.1, p.2) (sym (by-symbol past l g ∙ rw c.in_err-s.was)), (c.value_of.ensures l g.sought).1)

pub returns : goal.returns
returns c =
    let past = (goal.at.returns c).After-value_of in
    λ l g. (
      rw (c.stored_field.ensures, c.value.ensures, placed (goal.at.returns c).After-add-place l g.address) (sym (by-symbol past l g ∙ rw c.in_ok-s.was)),
      (c.value_of.ensures l g.sought).1,
    )
