-- Text, arena and stores of the model: all are computed from what it keeps.
use Rattle.std.specs.Prelude.{ℕ, ◌*◌, List, [], ◌∷◌, replicate}
use Rattle.words.specs.Splice.{part, splice}
use Rattle.records.specs.Limits.{placed_max, id_max}
use Rattle.machine.specs.Machine.{edit_max, edit_bytes}
use Rattle.memory.specs.Memory.{slot_count, undo_at, undo_size}
use Rattle.model.specs.Model.{Loaded, Laid, Model, machine}

-- "Its text is the start-up text with the laid edits over it, in order."
unfoldable pub text_with : List ℕ → List Laid → List ℕ
text_with text [] = text
text_with text (x ∷ older) = splice (text_with text older) x.edit.offset (edit_bytes machine x.edit)

abbrev pub text_of : Model → List ℕ
text_of l = text_with l.start.text l.laid

-- "saved bytes being those an edit covered when it was laid"
abbrev pub covered : List ℕ → Laid → List ℕ
covered text x = part text x.edit.offset x.edit.length

-- bytes, then zeros, n in all
abbrev pub padded : ℕ → List ℕ → List ℕ
padded n bytes = splice (replicate n 0) 0 bytes

-- "record r of slot s has 31 bytes ..: the saved bytes, then zeros; all zero unless laid"
unfoldable pub undo_with : List ℕ → List Laid → List ℕ
undo_with text [] = replicate undo_size 0
undo_with text (x ∷ older) =
    splice (undo_with text older) (undo_at x.slot x.number) (padded edit_max (covered (text_with text older) x))

abbrev pub undo_of : Model → List ℕ
undo_of l = undo_with l.start.text l.laid

-- a store of n bytes for each slot: the bytes of the payload in it; "Free slots are all zero"
unfoldable pub store_of : ℕ → (Loaded → List ℕ) → List Loaded → List ℕ
store_of n bytes [] = replicate (n * slot_count) 0
store_of n bytes (p ∷ ps) = splice (store_of n bytes ps) (n * p.slot) (bytes p)

-- "slot s (0 to 7) is bytes 8,192s on"
abbrev pub arena_of : Model → List ℕ
arena_of l = store_of placed_max (λ p. p.image) l.payloads

-- "slot s has 64 bytes, id then zeros" (W1)
abbrev pub ids_of : Model → List ℕ
ids_of l = store_of id_max (λ p. padded id_max p.id) l.payloads
