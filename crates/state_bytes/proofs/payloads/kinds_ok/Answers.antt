-- `payloads::kinds_ok` meets its contract: the edits of all payloads pass.
use Prim.Native.Nat.{ℕ, ◌+◌, ◌*◌}
use mathlib.Core.Path.{refl, sym, ◌∙◌}
use Rattle.std.proofs.Common.{rules, tests}
use Rattle.std.proofs.lemmas.Iterator.{YieldsList-from_range}
use Rattle.std.proofs.lemmas.Iterator.Search.{all_from_yields_List}
use Rattle.memory.specs.Memory.{slot_count}
use Rattle.state_bytes.specs.Flags.{edits_ok, kinds_ok}
use Rattle.state_bytes.specs.Layout.{edits_place, payload_size, payloads_place}
use Rattle.state_bytes.proofs.Loads.{below-list_all}
use Rattle.state_bytes.proofs.payloads.kinds_ok.Goals as goal

pub returns : goal.returns
unfolding kinds_ok
returns c = let test = λ (i : ℕ). edits_ok c.args.b.now (payloads_place + payload_size * i + edits_place) in
    let all = all_from_yields_List test _ _ c.all.result c.all.ensures.ran (YieldsList-from_range 0 slot_count _ (cc) refl) (λ x b q k. search (rules, tests)) in
    all ∙ sym (below-list_all test 0 slot_count)
