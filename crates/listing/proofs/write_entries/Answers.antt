-- `write_entries` meets its contract: the entries of `j` payloads are written in each buffer.
use Prim.Native.Nat.{ℕ, ◌+◌, ◌-◌, ◌<◌}
use mathlib.Core.List.{List}
use mathlib.Core.Path.{◌≡◌, ◌∙◌}
use native.Mathlib.Omega.{arith}
use lib.ListN.{length, get_or, take, drop}
use lib.Seq.{length-take-le, get_or-take}
use Rattle.std.proofs.lemmas.List.{length-take, length-drop, get_or-drop}
use Rattle.words.proofs.Number.{length-le_bytes}
use Rattle.records.specs.Limits.{name_max}
use Rattle.records.specs.declared.payload.Payload.{Payload}
use Rattle.state.specs.State.{loaded}
use Rattle.state.proofs.Whole.{Whole, no_copy, whole, copied-payload}
use Rattle.listing.proofs.ListLaws.{length-status, entries_none, entries-more}
use Rattle.listing.proofs.write_entries.Goals as goal
use Rattle.listing.proofs.write_entries.Goals.{Start, In-loop-j}

all_whole : (c : goal.Start) → Whole c.args.state
all_whole c = whole c.args.state _ c.well_formed.0

-- the payloads that are written: how many they are, and one of them
written : (c : goal.Start) → let a = c.args in length (take (a.idx + a.n - a.idx) (drop a.idx a.state.payloads)) ≡ a.n
written c = omega (arith, (all_whole c).payloads, length-take {A = Payload}, length-drop {A = Payload})

one : (l : List Payload) (first n j : ℕ) → j < n → get_or (take (first + n - first) (drop first l)) j no_copy ≡ get_or l (first + j) no_copy
one l first n j h =
    let inside : j < first + n - first = omega arith in
    get_or-take _ (drop first l) j no_copy inside ∙ get_or-drop first l j no_copy

pub loop-j-init : goal.loop-j-init
loop-j-init c = (entries_none _ _ _ _ _, entries_none _ _ _ _ _, entries_none _ _ _ _ _)

-- one more is left
inside : (c : goal.In-loop-j) → c.loop-j.j < c.args.n
inside c = omega (arith, c.loop-j-test.true, written (goal.at.In-loop-j c).Start)

pub write_entry-requires : goal.write_entry-requires
write_entry-requires c = let i = c.loop-j.invariant in
    let more = inside (goal.at.write_entry-requires c).In-loop-j in
    (omega (arith, i.0.whole), omega (arith, i.1.whole), omega (arith, i.2.whole))

pub loop-j-preserved : goal.loop-j-preserved
loop-j-preserved c = let s = c.args.state in
    let j = c.loop-j.j in
    let i = c.args.idx + j in
    let w = all_whole (goal.at.loop-j-preserved c).Start in
    let more : j < c.args.n = inside (goal.at.loop-j-preserved c).In-loop-j in
    let listed : i < s.count = omega arith in
    let inside : i < length (loaded s) = rw (length-take-le s.count s.payloads (omega (arith, w.payloads))) listed in
    let p = get_or s.payloads i no_copy in
    let here = get_or-take s.count s.payloads i no_copy listed in
    let name : length p.name ≡ name_max = rw (copied-payload w i (omega arith)) (w.each_payload i (omega arith)).name in
    let e = rw (one s.payloads c.args.idx c.args.n j more) at c.write_entry.ensures in
    let inv = c.loop-j.invariant in (
      entries-more _ _ _ _ _ inv.0 no_copy p inside here (length-status p) (omega arith) e.0,
      entries-more _ _ _ _ _ inv.1 no_copy p inside here name (omega arith) e.1,
      entries-more _ _ _ _ _ inv.2 no_copy p inside here (length-le_bytes 4 _) (omega arith) e.2,
    )

pub returns : goal.returns
returns c = let all : c.loop-j.j ≡ c.args.n = omega (arith, written (goal.at.returns c).Start) in
    rw (← all, c.loop-j.invariant.0.written, c.loop-j.invariant.1.written, c.loop-j.invariant.2.written)

pub shape_of-statuses : goal.shape_of-statuses
shape_of-statuses c = c.loop-j.invariant.0.whole

pub shape_of-names : goal.shape_of-names
shape_of-names c = c.loop-j.invariant.1.whole

pub shape_of-lengths : goal.shape_of-lengths
shape_of-lengths c = c.loop-j.invariant.2.whole
