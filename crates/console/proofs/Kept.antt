-- What was written lies within `out`.
use Prim.Native.Nat.{ℕ, ◌≤◌}
use mathlib.Core.Path.{◌≡◌, ap, ◌∙◌}
use mathlib.Core.List.{List}
use native.Mathlib.Omega.{arith}
use lib.ListN.{length, length-append}
use Rattle.words.specs.Splice.{splice}
use Rattle.answers.specs.Written.{written, writing}

pub written-within : (from to : List ℕ) (n : ℕ) (bytes : List ℕ) → written to n ≡ writing from 0 bytes → n ≤ length to
unfolding splice
written-within from to n bytes e =
    let end = ap (λ x. x.end) e in
    let out = ap (λ x. length x.out) e ∙ length-append bytes _ in
    omega (arith, end, out)
