-- `edits::edits_ok` meets its contract: all edits pass.
use Prim.Native.Nat.{ℕ, ◌+◌, ◌*◌}
use mathlib.Core.Path.{refl, sym, ◌∙◌}
use Rattle.std.proofs.Common.{rules, tests}
use Rattle.std.proofs.lemmas.Iterator.{YieldsList-from_range}
use Rattle.std.proofs.lemmas.Iterator.Search.{all_from_yields_List}
use Rattle.records.specs.Limits.{records_max}
use Rattle.state_bytes.specs.Flags.{kind_ok, edits_ok}
use Rattle.state_bytes.specs.Layout.{edit_size}
use Rattle.state_bytes.proofs.Loads.{below-list_all}
use Rattle.state_bytes.proofs.edits.edits_ok.Goals as goal

pub returns : goal.returns
unfolding edits_ok
returns c = let test = λ (i : ℕ). kind_ok c.args.b.now (c.args.at + edit_size * i) in
    let all = all_from_yields_List test _ _ c.all.result c.all.ensures.ran (YieldsList-from_range 0 records_max _ (cc) refl) (λ x b q k. search (rules, tests)) in
    all ∙ sym (below-list_all test 0 records_max)
