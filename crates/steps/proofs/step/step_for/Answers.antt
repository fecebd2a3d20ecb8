-- `step::step_for` meets its contract: the record's edit, copied out of the payload.
use mathlib.Core.Path.{sym, ap}
use native.Mathlib.Omega.{arith}
use Rattle.records.specs.declared.payload.Edit.{Edit}
use Rattle.records.proofs.Edits.{copied}
use Rattle.state.proofs.Whole.{whole-payload}
use Rattle.steps.proofs.step.step_for.Goals as goal

pub returns : goal.returns
returns c = let a = c.args in
    ap (λ (e : Edit). record { lays = a.lays; slot = a.payload.slot; number = a.number; edit = e })
    (sym (copied a.payload.edits a.number (omega (arith, (whole-payload a.payload _ c.well_formed.1.0).edits))))
