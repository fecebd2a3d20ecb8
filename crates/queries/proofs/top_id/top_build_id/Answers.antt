-- `top_id::top_build_id` meets its contract: the top id where numbers and sizes are right, else the empty part.
use Rattle.words.proofs.Tests.{held, refuted}
use Rattle.state.proofs.Whole.{whole}
use Rattle.queries.proofs.TopIdLaws.{sizes-told, refused-id, handed-id}
use Rattle.queries.proofs.top_id.top_build_id.Goals as goal

pub returns-then-not-sizes_ok : goal.returns-then-not-sizes_ok
returns-then-not-sizes_ok c = refused-id _ _ _ (refuted c.sizes_ok.ensures c.if-not-sizes_ok.true)

pub top_id-requires : goal.top_id-requires
top_id-requires c = let z = sizes-told _ _ _ (held c.sizes_ok.ensures c.if-not-sizes_ok.false) in
    (z.ranges, z.store)

pub returns : goal.returns
returns c = handed-id _ _ _ _ (whole c.args.state _ c.well_formed.0) (held c.sizes_ok.ensures c.if-not-sizes_ok.false)
    c.top_id.ensures
