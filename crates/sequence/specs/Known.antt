-- What a function's contract tells of one call: the fact that its `ensures` states. The contract is the one that is made of the function's clauses, and of
-- which the function's theorem speaks.
use Rattle.std.specs.Prelude.{◌≡◌}
use base.Logic.{sep}
use borrow.Fn.World.{World}
use contract.Lifetimes.{Lfts}
use contract.Monad.{fact}
use denote.Triple.Clauses.{Ended, AtExit, Clauses}
use denote.Triple.Entry.{Args, Res}

-- the function's signature, its contract in every model of the logic, and a call: the lifetimes, the arguments, what is returned, and the arguments as they
-- are then
module _
    (T : Ended) (contract : (w : World) → Clauses w.𝓤 T) (κs : Lfts T.signature.lifetimes) (args : Args T.signature κs) (result : Res T.signature κs)
    (after : AtExit T κs) where
  -- of this call the `ensures` states this, and nothing else
  abbrev pub States : Type 0 → Type 2
  States said = (w : World) (g : (contract w κs args).ghost) → (contract w κs args).ensures g result after ≡ fact w.𝓤 said

  abbrev pub Known : {said : Type 0} → States said → Type 0
  Known {said} states = said

  -- the same of two clauses
  abbrev pub StatesBoth : Type 0 → Type 0 → Type 2
  StatesBoth one other =
      (w : World) (g : (contract w κs args).ghost) →
      (contract w κs args).ensures g result after ≡ sep w.𝓤 (fact w.𝓤 one) (fact w.𝓤 other)

  abbrev pub KnownBoth : {one other : Type 0} → StatesBoth one other → Type 0
  KnownBoth {one} {other} states = one × other
