-- `head::flags_ok` meets its contract: all of the CPUs' bytes pass.
use mathlib.Core.Path.{sym, ◌∙◌}
use lib.Dec.{leb}
use Rattle.std.proofs.Common.{rules, tests}
use Rattle.std.proofs.lemmas.Iterator.{YieldsList-from_slice}
use Rattle.std.proofs.lemmas.Iterator.Search.{all_from_yields_List}
use Rattle.words.specs.Splice.{part}
use Rattle.memory.specs.Config.{cpus_max}
use Rattle.state_bytes.specs.Flags.{flags_ok}
use Rattle.state_bytes.specs.Layout.{held_place}
use Rattle.state_bytes.proofs.Loads.{every-list_all}
use Rattle.state_bytes.proofs.head.flags_ok.Goals as goal

pub returns : goal.returns
unfolding flags_ok part
returns c = let flags = part c.args.b.now held_place cpus_max in
    let all = all_from_yields_List (λ byte. leb byte 1) _ _ c.all.result c.all.ensures.ran (YieldsList-from_slice flags cc) (λ x b q k. search (rules, tests)) in
    all ∙ sym (every-list_all (λ byte. leb byte 1) flags)
