-- `uploading::gather` meets its contract: as many bytes as there is room for.
use Rattle.std.proofs.Common.{◌-◌, ◌/◌, ◌++◌, length, take, sym, refl, ap, ◌∙◌, arith}
use Rattle.script.specs.Hex.{hex_bytes}
use Rattle.script.proofs.Digits.{taken-size, hex-all}
use Rattle.interpreter.specs.Lines.{kept_max}
use Rattle.interpreter.proofs.Front.{front-grown, front_kept, front-fewest}
use Rattle.interpreter.proofs.uploading.gather.Goals as goal

pub returns : goal.returns
returns c = let a = c.args in
    let at = a.console.file in
    let line = a.line.now in
    let least = c.min-n in
    let half = length line / 2 in
    let size = taken-size line least.result (omega (arith, least.ensures)) in
    let whole = sym (ap length (hex-all line half refl)) ∙ taken-size line half (omega arith) in
    let fewest = front-fewest (kept_max - at) (hex_bytes line) least.result (rw whole least.ensures) in (
      refl,
      omega (arith, least.ensures),
      rw c.decode.ensures (front-grown a.file.now _ at least.result (omega arith) size)
          ∙ ap (λ new. take at a.file.now ++ new) fewest
          ∙ sym (front_kept a.file.now (hex_bytes line) at kept_max (omega arith) (omega arith)),
    )
