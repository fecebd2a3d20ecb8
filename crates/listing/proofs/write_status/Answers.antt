-- `write_status` meets its contract: the result right behind the status.
use mathlib.Core.Path.{◌∙◌}
use native.Mathlib.Omega.{arith}
use Rattle.listing.proofs.ListLaws.{two-words}
use Rattle.listing.proofs.write_status.Goals as goal

pub returns : goal.returns
returns c = c.write-2.ensures ∙ rw (c.write.ensures, c.result_word-word.ensures) (two-words _ _ _ _ (omega arith))
