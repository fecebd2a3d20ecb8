-- The buffers, from their bytes.
use Rattle.std.proofs.Common.{ℕ, List}
use Rattle.interpreter.specs.declared.buffers.Gathered.{Gathered}
use Rattle.interpreter.specs.declared.buffers.Memory.{Memory}

abbrev pub memory : List ℕ → List ℕ → List ℕ → List ℕ → List ℕ → Memory
memory text arena undo ids id = record { text = text; arena = arena; undo = undo; ids = ids; id = id }

abbrev pub gathered : List ℕ → List ℕ → List ℕ → Gathered
gathered name list file = record { name = name; list = list; file = file }
