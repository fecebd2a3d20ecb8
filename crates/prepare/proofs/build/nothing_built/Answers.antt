-- `build::nothing_built` meets its contract.
use mathlib.Core.Path.{◌∙◌}
use native.Mathlib.Omega.{arith}
use Rattle.placement.proofs.PlacementLaws.{cleared}
use Rattle.prepare.proofs.build.nothing_built.Goals as goal

pub fill-requires : goal.fill-requires
fill-requires c = omega (arith, c.requires)

pub returns : goal.returns
returns c = rw (c.fill.ensures ∙ cleared _ c.requires)
