-- Bytes written one behind the other, and where they end.
use Prim.Native.Nat.{ℕ, suc, ◌+◌, ◌≤◌, ◌<◌}
use mathlib.Core.Path.{◌≡◌, sym, ap, ◌∙◌}
use mathlib.Core.List.{List, [], ◌∷◌, ◌++◌}
use native.Mathlib.Omega.{arith}
use lib.ListN.{length, set, length-append}
use Rattle.words.specs.Splice.{splice}
use Rattle.words.proofs.Splice.{splice-none, splice-cons, splice-append}
use Rattle.answers.specs.Written.{Written, written, writing}

pub none : (out : List ℕ) (at : ℕ) → written out at ≡ writing out at []
none out at =
    let end : at + 0 ≡ at = omega arith in
    rw (splice-none out at, end)

pub one : (out : List ℕ) (at b : ℕ) → at < length out → written (set out at b) (at + 1) ≡ writing out at (b ∷ [])
one out at b room =
    let laid : set out at b ≡ splice out at (b ∷ []) =
    ap (λ (l : List ℕ). set l at b) (sym (splice-none out (suc at))) ∙ splice-cons out at b [] room in
    ap (λ (l : List ℕ). written l (at + 1)) laid

-- where what was written ends
pub ends :
    (out : List ℕ) (at : ℕ) (b : List ℕ) {after : List ℕ} {end : ℕ} → written after end ≡ writing out at b → end ≡ at + length b
ends out at b first = ap (λ (w : Written). w.end) first

-- c behind b
pub behind :
    (out : List ℕ) (at : ℕ) (b c : List ℕ) {after last : List ℕ} {end r : ℕ} → written after end ≡ writing out at b →
    written last r ≡ writing after end c → at ≤ length out → written last r ≡ writing out at (b ++ c)
behind out at b c {after} first second room =
    let laid : after ≡ splice out at b = ap (λ (w : Written). w.out) first in
    let all : at + length b + length c ≡ at + length (b ++ c) = simp length-append (omega arith) in
    second ∙ rw (laid, ends out at b first, splice-append out at b room c, all)
