-- `entries_rise` meets its contract: the entries from `at` on, after the last name, say what all say.
use Rattle.std.proofs.Common.{◌≡◌, ◌-◌, ◌≤◌, [], length, take, drop}
use Rattle.symbols.specs.SymbolList.{entries_from}
use Rattle.symbols.proofs.entries_rise.Given as goal

abbrev pub invariant-loop : goal.invariant-loop
invariant-loop l = (l.last_start ≤ l.last_end)
    × (l.last_end ≤ length l.list)
    × (entries_from l.list l.count 7 [] ≡ entries_from l.list (l.count - l.counter) l.at (take (l.last_end - l.last_start) (drop l.last_start l.list)))
