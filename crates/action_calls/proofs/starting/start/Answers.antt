-- `starting::start` meets its contract.
use Rattle.std.proofs.Common.{Ok, Err}
use mathlib.Core.Path.{◌≡◌, refl, sym, ◌∙◌}
use lib.ListN.{length}
use Rattle.startup.specs.Start.{Lent}
use Rattle.state_bytes.specs.Layout.{records_size}
use Rattle.action_calls.specs.Changes.{start_lent}
use Rattle.calls.proofs.Laws.{told-invalid}
use Rattle.action_calls.proofs.StartLaws.{wrong_size, start-told, refused-start, accepted-start}
use Rattle.action_calls.proofs.starting.start.Goals as goal
use Rattle.action_calls.proofs.starting.start.Goals.{Else-records-size, Start}

-- what start-up is lent
abbrev given : goal.Start → Lent
given c =
    let a = c.args in
    start_lent a.text.now a.text_base a.arena.now a.arena_base a.undo.now a.ids.now a.build_id.now a.cpus

pub returns-then-records-size : goal.returns-then-records-size
returns-then-records-size c = let l = given (goal.at.returns-then-records-size c).Start in
    let code = told-invalid c.new.ensures c.code.ensures in record { ids_after = wrong_size _ l (λ e. c.if-records-size.true (e ∙ sym c.size.ensures)) code; start_kept = refused-start l _ _ code }

size : (c : goal.Else-records-size) → length c.args.records.now ≡ records_size
size c = c.if-records-size.false ∙ c.size.ensures

pub returns-in-Err : goal.returns-in-Err
returns-in-Err c = let l = given (goal.at.returns-in-Err c).Start in record {
  ids_after = start-told _ l (size (goal.at.returns-in-Err c).Else-records-size) c.start-called.result _ _ _ (Err _) c.start-called.ensures c.in-Err.is
      c.code-in-Err.ensures
      refl;
  start_kept = refused-start l _ _ c.code-in-Err.ensures;
}

pub returns : goal.returns
returns c = let l = given (goal.at.returns c).Start in record {
  ids_after = start-told _ l (size (goal.at.returns c).Else-records-size) c.start-called.result _ _ _ (Ok tt) c.start-called.ensures c.in_default.is refl
      c.store.ensures.bytes;
  start_kept = accepted-start l c.start-called.result c.start-called.ensures c.in_default.is c.store.ensures;
}

pub store-requires : goal.store-requires
store-requires c = size (goal.at.store-requires c).Else-records-size
