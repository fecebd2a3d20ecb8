-- `numbers::digits` ends: at most `k` digits.
use Rattle.answers.proofs.numbers.+digits.Given as goal

abbrev pub decreases-digits : goal.decreases-digits
decreases-digits l = l.k
