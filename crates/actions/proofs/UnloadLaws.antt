-- A list whose elements behind element i have moved up by one, and whose last, which is left, is replaced.
use Rattle.std.proofs.Common.{◌≡◌, ℕ, suc, ◌+◌, ◌-◌, ◌<◌, ◌≤◌, List, [], ◌∷◌, ◌++◌, length, get_or, take, drop, set, arith, length-append, length-drop, drop_of_length-le, length-take-le, take_all, drop-cons}
use lib.Seq.{paste, set_at}

pub moved_all :
    {A : Type 0} (l : List A) (i k : ℕ) (e : A) → i ≤ k → length l ≡ k + 1 →
    set (paste l i (drop (suc i) l) (k - i)) k e ≡ take i l ++ drop (suc i) l ++ (e ∷ [])
moved_all l i k e h all =
    let here : i + (k - i) ≡ k = omega arith in
    let left : length (drop (suc i) l) ≡ k - i = rw length-drop (omega arith) in
    let last : k < length l = omega arith in
    let past : length l ≤ suc k = omega arith in
    let front : length (take i l ++ drop (suc i) l) ≡ k = rw length-append (omega (arith, left, length-take-le i l (omega arith))) in
    rw (here, take_all (k - i) (drop (suc i) l) (omega arith), drop-cons l k e last, drop_of_length-le l past)
    (set_at (take i l ++ drop (suc i) l) (get_or l k e) [] e k front)
