-- `preparing::is_apart` meets its contract: whichever begins first ends where the other begins or before.
use Prim.Native.Nat.{ℕ, ◌+◌, ◌-◌, ◌≤◌}
use mathlib.Core.Path.{◌≡◌, refl, ◌∙◌}
use mathlib.Core.Bool.{Bool, true, false, or-false}
use native.Mathlib.Omega.{arith}
use borrow.Author.Tests.{leb-true, leb-false, le-leb, lt-leb}
use lib.Dec.{leb}
use Rattle.records.specs.Limits.{placed_max}
use Rattle.audit.specs.Preparing.{is_apart}
use Rattle.audit.proofs.preparing.is_apart.Goals as goal

-- n numbers from a on end at b or before, told by the difference
by_difference : (a b n : ℕ) → a ≤ b → leb n (b - a) ≡ leb (a + n) b
by_difference a b n h = by-test (leb n (b - a)) refl
  where
    by-test : (t : Bool) → leb n (b - a) ≡ t → leb n (b - a) ≡ leb (a + n) b
    by-test true e = rw (e, le-leb (a + n) b (omega (arith, leb-true n (b - a) e)))
    by-test false e = rw (e, lt-leb (a + n) b (omega (arith, leb-false n (b - a) e)))

pub returns-then-host : goal.returns-then-host
unfolding is_apart
returns-then-host c = let host = c.args.host in
    by_difference host.text host.slot host.text_length (omega arith)
    ∙ rw (lt-leb (host.slot + placed_max) host.text (omega arith), or-false)

pub returns : goal.returns
unfolding is_apart
returns c = let host = c.args.host in
    by_difference host.slot host.text placed_max (omega arith) ∙ rw (lt-leb (host.text + host.text_length) host.slot (omega arith))
