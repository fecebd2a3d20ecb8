-- `lookups_find` meets its contract: what was found has its number and its address.
use Rattle.std.proofs.Common.{Option, ℕ}
use Prim.Native.Nat.{ℕ}
use mathlib.Core.Path.{◌≡◌, ap}
use mathlib.Core.List.{List}
use Rattle.symbols.specs.SymbolList.{lookup, compared_entries, find_of}
use Rattle.symbols.specs.declared.Search.{Search}
use Rattle.symbols.proofs.Laws.{search-found}
use Rattle.lookups.specs.Numbers.{found_number, found_address}
use Rattle.lookups.proofs.lookups_find.Goals as goal

-- the numbers of what a search found
numbers :
    (list name : List ℕ) {r : Search} {f : Option ℕ} → r ≡ find_of list name → r.found ≡ f →
    (found_number f ≡ found_number (lookup list name))
    × (found_address f ≡ found_address (lookup list name)) × (r.compared ≡ compared_entries list name)
unfolding find_of
numbers list name e h =
    let found = search-found list name e in
    (rw (← found, h), rw (← found, h), ap (λ (r : Search). r.compared) e)

pub returns-in-Some : goal.returns-in-Some
returns-in-Some c =
    let n = numbers _ _ c.find-search.ensures c.in-Some.is in
    record { value = n.0; address_after = n.1; compared_after = n.2 }

pub returns-in-None : goal.returns-in-None
returns-in-None c =
    let n = numbers _ _ c.find-search.ensures c.in-None.is in
    record { value = n.0; address_after = n.1; compared_after = n.2 }
