-- What `prepare_payload` returns, and what it leaves in its three buffers.
use Rattle.std.specs.Prelude.{ℕ, ◌+◌, ◌%◌, ◌^◌, ◌≡◌, Bool, true, ◌&&◌, ◌||◌, ◌↔◌, List, leb, eqb, length}
use Rattle.records.specs.Limits.{placed_max}
use Rattle.records.specs.Refusal.{refusal_code, Verdict}
use Rattle.records.specs.Verdict.{must, ◌then◌, decide}
use Rattle.records.specs.declared.refusal.Place.TheVariants.{Nowhere}
use Rattle.records.specs.declared.refusal.Refusal.{Refusal}
use Rattle.machine.specs.Host.{text_max}
use Rattle.machine.specs.declared.host.Host.{Host}
use Rattle.machine.specs.declared.processor.Processor.TheVariants.{X86_64}
use Rattle.symbols.specs.SymbolList.{valid}
use Rattle.encode.specs.Encode.{edit_table, edits_size, summary_of, summary_size}
use Rattle.acceptance.specs.Consulted.{DifferInIgnored}
use Rattle.acceptance.specs.Keeps.{Keeps}
use Rattle.acceptance.specs.Stages.{Setting, machine_at, relocated_of}
use Rattle.prepare.specs.Prepare.{prepare_rules, accepted_prepared}

-- the host that the call's numbers name
abbrev pub host_of : ℕ → ℕ → ℕ → Host
host_of text size slot = record { processor = X86_64; text = text; text_length = size; slot = slot }

-- "base a multiple of 4,096": and so is every slot's
abbrev pub slot_align : ℕ
slot_align = 4096

-- "text and arena share an address": the text and this slot of it do not
unfoldable pub is_apart : Host → Bool
is_apart host = leb (host.text + host.text_length) host.slot || leb (host.slot + placed_max) host.text

-- what start-up asks of the text: 1 to 16,777,216 bytes whose last lies at 2^64 - 1 or before; and of the slot: not at 0, its last byte likewise
unfoldable pub ranges_ok : Host → Bool
ranges_ok host =
    leb 1 host.text_length
    && leb host.text_length text_max
    && leb (host.text + host.text_length) (2 ^ 64)
    && leb 1 host.slot
    && leb (host.slot + placed_max) (2 ^ 64)
    && eqb (host.slot % slot_align) 0
    && is_apart host

-- the three buffers of the caller: the slot's bytes, the edits, the summary
pub record Buffers : Type 0 where
  pub image : List ℕ
  pub edits : List ℕ
  pub summary : List ℕ

abbrev pub buffers : List ℕ → List ℕ → List ℕ → Buffers
buffers image edits summary = record { image = image; edits = edits; summary = summary }

-- they have their sizes
unfoldable pub buffer_sizes_ok : ℕ → ℕ → ℕ → Bool
buffer_sizes_ok image edits summary = eqb image placed_max && eqb edits edits_size && eqb summary summary_size

abbrev pub buffers_ok : Buffers → Bool
buffers_ok b = buffer_sizes_ok (length b.image) (length b.edits) (length b.summary)

-- sizes and ranges, the symbol list, then the payload
unfoldable pub call_rules : Setting → List ℕ → Buffers → Verdict
call_rules t file b =
    must (buffers_ok b && ranges_ok t.host) 22 Nowhere
    then must (valid t.list) 22 Nowhere
    then prepare_rules t file b.image

-- what is returned, and the buffers after it
pub record Left : Type 0 where
  pub answer : ℕ
  pub after : Buffers

abbrev pub left : ℕ → Buffers → Left
left answer after = record { answer = answer; after = after }

-- a refusal leaves all buffers as they were
abbrev pub refused_call : Buffers → Refusal → Left
refused_call b r = left (refusal_code r) b

abbrev pub accepted_call : Setting → List ℕ → Left
accepted_call t file =
    let p = accepted_prepared t file in
    left 0
    (buffers (relocated_of t file).image (edit_table (machine_at t) t.host.text p.edits p.edit_count)
    (summary_of p.placed p.edit_count p.id p.dependency))

unfoldable pub call_of : Setting → List ℕ → Buffers → Left
call_of t file b = decide (refused_call b) (accepted_call t file) (call_rules t file b)

-- sizes and ranges are right, the list is a symbol list, and the payload keeps every rule
pub record Acceptable (t : Setting) (file : List ℕ) (b : Buffers) : Type 0 where
  pub buffers : buffers_ok b ≡ true
  pub ranges : ranges_ok t.host ≡ true
  pub listed : valid t.list ≡ true
  pub payload : Keeps t file

-- all that `prepare_payload` promises: the equation; 0 is returned exactly when all is right; and a file that differs only in bytes of ignored
-- contents gets the same answer and buffers
pub record Answers (t : Setting) (file : List ℕ) (b : Buffers) (l : Left) : Type 0 where
  pub equal : l ≡ call_of t file b
  pub exactly : (l.answer ≡ 0) ↔ Acceptable t file b
  pub ignored : (other : List ℕ) → DifferInIgnored file other → call_of t other b ≡ l
