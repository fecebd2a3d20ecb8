-- `refuse_at` meets its contract.
use mathlib.Core.Path.{◌∙◌}
use native.Mathlib.Omega.{arith}
use Rattle.placement.specs.Placement.{refused_at}
use Rattle.placement.proofs.PlacementLaws.{cleared}
use Rattle.placement.proofs.refuse_at.Goals as goal

pub fill-requires : goal.fill-requires
fill-requires c = omega (arith, c.requires)

pub returns : goal.returns
unfolding refused_at
returns c = rw (c.fill.ensures ∙ cleared _ c.requires, c.refused.ensures)
