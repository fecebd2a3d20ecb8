-- `start` meets its contract: a refusal leaves arena and stores, and else each is zeroed.
use Rattle.std.proofs.Common.{Ok}
use mathlib.Core.Path.{◌≡◌, sym, ap, ◌∙◌}
use mathlib.Core.Bool.{true, false, and-false}
use native.Mathlib.Omega.{arith}
use lib.ListN.{length}
use Rattle.words.proofs.Tests.{held, refuted}
use Rattle.memory.specs.Memory.{arena_size, undo_size, ids_size}
use Rattle.state.specs.declared.state.Called.{Called}
use Rattle.state.specs.declared.state.State.{State}
use Rattle.startup.specs.Start.{Lent, config_for, stores_ok, started, refused_start, start_of}
use Rattle.startup.proofs.StartLaws.{start_ok, refuses, accepts, long-id, sizes-told, zeroed, started-same}
use borrow.Author.Rules.{rules}
use Rattle.startup.proofs.start.Statement.{statement}
use Rattle.startup.proofs.start.Tie as tie

module _ (c : tie.Start) where
  -- all that is lent, as it was
  abbrev lent : Lent
  lent = record {
    text = c.args.text.now;
    text_base = c.args.text_base;
    arena = c.args.arena.now;
    arena_base = c.args.arena_base;
    undo = c.args.undo.now;
    ids = c.args.ids.now;
    build_id = c.args.build_id.now;
    cpus = c.args.cpus;
  }

  refused : {r : Called} → r ≡ refused_start → start_ok lent ≡ false → started r lent.arena lent.undo lent.ids ≡ start_of lent
  refused told wrong = ap (λ (r : Called). started r lent.arena lent.undo lent.ids) told ∙ sym (refuses lent wrong)

returns-then-not-stores_ok : tie.Need-returns-then-not-stores_ok
returns-then-not-stores_ok c = refused c.before.before.before.before.before.before.before.before c.refuse.ensures (rw (refuted c.stores_ok.ensures c.if-not-stores_ok.true))

-- arena and stores have their sizes
module _ (c : tie.Else-not-stores_ok) where
  abbrev begun : tie.Start
  begun = c.before.before.before.before.before.before.before

  sized : stores_ok (length (lent begun).arena) (length (lent begun).undo) (length (lent begun).ids) ≡ true
  sized = held c.stores_ok.ensures c.if-not-stores_ok.false

  sizes : (length (lent begun).arena ≡ arena_size) × (length (lent begun).undo ≡ undo_size) × (length (lent begun).ids ≡ ids_size)
  sizes = sizes-told _ _ _ sized

returns-then-build_id-gt-ID_MAX : tie.Need-returns-then-build_id-gt-ID_MAX
returns-then-build_id-gt-ID_MAX c = refused (begun c.before.before) c.refuse-then-build_id-gt-ID_MAX.ensures (rw (long-id (config_for (lent (begun c.before.before))) c.if-build_id-gt-ID_MAX.true, and-false))

returns-then-not-is_valid : tie.Need-returns-then-not-is_valid
returns-then-not-is_valid c = refused (begun c.before.before.before.before) c.refuse-then-not-is_valid.ensures (rw (refuted c.is_valid.ensures c.if-not-is_valid.true, and-false))

fill-requires : tie.Need-fill-requires
fill-requires c κs = omega (arith, (sizes c.before.before.before.before).0)

fill-requires-2 : tie.Need-fill-requires-2
fill-requires-2 c κs = omega (arith, (sizes c.before.before.before.before.before.before.before.before).1)

fill-requires-3 : tie.Need-fill-requires-3
fill-requires-3 c κs = omega (arith, (sizes c.before.before.before.before.before.before.before.before.before.before.before.before).2)

returns : tie.Need-returns
returns c = let sizing = sizes c.before.before.before.before.before.before.before.before.before.before.before.before.before.before.before.before in
    started-same
    (ap (λ (s : State). record { verdict = Ok tt; state = s }) c.with_config-state.ensures)
    (c.fill.ensures ∙ zeroed _ _ sizing.0)
    (c.fill-2.ensures ∙ zeroed _ _ sizing.1)
    (c.fill-3.ensures ∙ zeroed _ _ sizing.2)
    ∙ sym (accepts (lent (begun c.before.before.before.before.before.before.before.before.before.before.before.before.before.before.before.before)) (rw (sized c.before.before.before.before.before.before.before.before.before.before.before.before.before.before.before.before, held c.is_valid.ensures c.if-not-is_valid.false)))

pub start_spec : {M : Type 1} → statement M
start_spec =
    tie.close (tie.spec (λ c κs. search rules) (λ c κs. search rules) returns-then-not-stores_ok (λ c κs. search rules) returns-then-build_id-gt-ID_MAX (λ c. search rules) (λ c κs. search rules) (λ c κs. search rules) returns-then-not-is_valid fill-requires fill-requires-2 fill-requires-3 (λ c κs. search rules) (λ c. search rules) (λ c. search rules) (λ c. search rules) returns)
