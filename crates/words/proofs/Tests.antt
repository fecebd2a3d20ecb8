-- What a callee answered, tested: a test as `if !test(..)`, and a number as `if number(..) != k`, where the branch was taken and where it was left;
-- and tests joined by `&&`.
use Rattle.std.proofs.Common.{◌≡◌, ℕ, Bool, true, false, ◌&&◌, eqb, sym, refl, ◌∙◌, eq-eqb, ne_eqb}
use mathlib.Core.Bool.{and-eq-true_iff}

pub refuted : {r b : Bool} → r ≡ b → r ≡ false → b ≡ false
refuted e h = sym e ∙ h

pub held : {r b : Bool} → r ≡ b → r ≡ true → b ≡ true
held e h = sym e ∙ h

pub differs : {r x k : ℕ} → r ≡ x → (r ≡ k → ⊥) → eqb x k ≡ false
differs {r} {x} {k} e h = ne_eqb x k λ same. h (e ∙ same)

pub equals : {r x k : ℕ} → r ≡ x → r ≡ k → eqb x k ≡ true
equals {r} {x} {k} e h = eq-eqb x k (sym e ∙ h)

pub both : (a b : Bool) → (a && b) ≡ true → (a ≡ true) × (b ≡ true)
both a b = (and-eq-true_iff a b).0

pub three : (a b c : Bool) → (a && b && c) ≡ true → (a ≡ true) × (b ≡ true) × (c ≡ true)
three a b c h =
    let last = both (a && b) c h in
    let first = both a b last.0 in
    (first.0, first.1, last.1)

pub four : (a b c d : Bool) → (a && b && c && d) ≡ true → (a ≡ true) × (b ≡ true) × (c ≡ true) × (d ≡ true)
four a b c d h =
    let last = both (a && b && c) d h in
    let first = three a b c last.0 in
    (first.0, first.1, first.2, last.1)

pub five :
    (a b c d e : Bool) → (a && b && c && d && e) ≡ true → (a ≡ true) × (b ≡ true) × (c ≡ true) × (d ≡ true) × (e ≡ true)
five a b c d e h =
    let last = both (a && b && c && d) e h in
    let first = four a b c d last.0 in
    (first.0, first.1, first.2, first.3, last.1)

pub six :
    (a b c d e f : Bool) → (a && b && c && d && e && f) ≡ true →
    (a ≡ true) × (b ≡ true) × (c ≡ true) × (d ≡ true) × (e ≡ true) × (f ≡ true)
six a b c d e f h =
    let last = both (a && b && c && d && e) f h in
    let first = five a b c d e last.0 in
    (first.0, first.1, first.2, first.3, first.4, last.1)

-- what follows from each of both failing follows where not both hold
pub either-fails : {A : Type 0} (a b : Bool) → (a ≡ false → A) → (b ≡ false → A) → (a && b) ≡ false → A
either-fails true b first second h = second h
either-fails false b first second h = first refl
