-- `find_from` meets its contract: what is left to find from the entry at `at` on, after the entries compared before, is what is found.
use Rattle.std.proofs.Common.{◌≡◌}
use Rattle.symbols.specs.SymbolList.{find_from}
use Rattle.symbols.proofs.Laws.{after}
use Rattle.symbols.proofs.find_from.Given as goal

abbrev pub invariant-loop-compared : goal.invariant-loop-compared
invariant-loop-compared l = find_from l.list l.name l.count 7 ≡ after l.list l.name l.count l.compared l.at
