-- `is_complete` meets its contract: there are no more CPUs than may be held.
use Prim.Native.Nat.{◌≤◌}
use Rattle.memory.specs.Config.{cpus_max}
use Rattle.memory.proofs.Laws.{valid-config}
use Rattle.state.proofs.Whole.{whole}
use Rattle.ranges.proofs.Laws.{in-range}
use Rattle.rendezvous.specs.Rendezvous.{is_complete}
use Rattle.rendezvous.proofs.is_complete.Goals as goal
use Rattle.rendezvous.proofs.is_complete.Goals.{Start}

few : (c : goal.Start) → c.args.state.config.cpus ≤ cpus_max
few c = (valid-config _ (in-range (whole c.args.state _ c.well_formed.0) c.requires).config).cpus_max

pub returns : goal.returns
unfolding is_complete
returns c = c.all_held.ensures

pub all_held-requires : goal.all_held-requires
all_held-requires c = few (goal.at.all_held-requires c).Start
