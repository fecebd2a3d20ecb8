-- Bytes that are a state's, with one part of the state replaced: they hold the state with that part replaced.
use Prim.Native.Nat.{ℕ, zero, suc, ◌+◌, ◌*◌, ◌^◌, ◌≤◌, ◌<◌}
use mathlib.Core.Path.{◌≡◌, refl, sym, ap, subst⁻¹, ◌∙◌}
use mathlib.Core.Bool.{Bool, true, false}
use mathlib.Core.List.{List, [], ◌∷◌, ◌++◌, map}
use native.Mathlib.Nat.{zero-add, mul-suc, mul-zero, pow-suc}
use native.Mathlib.Omega.{arith}
use borrow.Author.Tests.{eqb-true, eqb-false}
use lib.Dec.{eqb}
use lib.ListN.{length, get_or, take, set, length-set}
use lib.Seq.{get_or-set_same, get_or-set_other}
use Rattle.words.specs.Number.{le_at, le_bytes}
use Rattle.words.specs.Scan.{each}
use Rattle.words.specs.Splice.{part, splice}
use Rattle.words.proofs.Number.{le_at-none, le_at-more, length-le_bytes}
use Rattle.words.proofs.Scan.{get_or-each}
use Rattle.words.proofs.Splice.{splice_front, splice-second, splice-whole}
use Rattle.records.specs.Payload.{empty}
use Rattle.records.specs.declared.payload.Payload.{Payload}
use Rattle.memory.specs.Config.{cpus_max}
use Rattle.memory.specs.Memory.{slot_count}
use Rattle.state.specs.Find as find
use Rattle.state.specs.State.{with_payloads, with_count, with_version, with_stack, with_job}
use Rattle.state.specs.declared.state.Job.{Job}
use Rattle.state.specs.declared.state.State.{State}
use Rattle.state.proofs.Whole.{WholePayload, Whole}
use Rattle.state_bytes.specs.Fields.{chained, rows_at}
use Rattle.state_bytes.specs.Layout.{payload_size, count_place, job_place, stack_place, payloads_place}
use Rattle.state_bytes.specs.Stored.{payload_bytes, payload_at, config_at, job_bytes, job_at, count_fields, count_bytes, state_fields, bytes_of, stack_at, payloads_at, state_in, is_state, HoldsState}
use Rattle.state_bytes.proofs.Fields.{sum, Local, table, Wide, row-there}
use Rattle.state_bytes.proofs.Rows.{Row, rows_back}
use Rattle.state_bytes.proofs.Readers.{length-payload, payload_at-local, config_at-local, count_widths, count-widths, length-job, job_at-local}
use Rattle.state_bytes.proofs.Laws.{state-length, state-same, whole_in}
use Rattle.state_bytes.proofs.Same.{Bytes}
use Rattle.state_writes.proofs.Stored.{state_widths, length-stack, stack_at-local, payloads_at-local, state-widths, row, StateFits, holds}

-- ---- a part of one field replaced

field_in :
    (fs : List (List ℕ)) (k i : ℕ) (new : List ℕ) → k < length fs → i + length new ≤ get_or (map length fs) k 0 →
    splice (chained fs) (sum (take k (map length fs)) + i) new ≡ chained (set fs k (splice (get_or fs k []) i new))
unfolding chained
field_in [] k i new h room = absurd (omega arith)
field_in (f ∷ fs) zero i new h room = rw (zero-add i) (splice_front f (chained fs) i new room)
field_in (f ∷ fs) (suc k) i new h room =
    let place : length f + sum (take k (map length fs)) + i ≡ length f + (sum (take k (map length fs)) + i) = omega arith in
    rw place
    (splice-second f (chained fs) (sum (take k (map length fs)) + i) new
    ∙ ap (λ (l : List ℕ). f ++ l) (field_in fs k i new (omega arith) room))

-- of fields of these widths
pub field-replaced :
    (fs : List (List ℕ)) (ws : List ℕ) → map length fs ≡ ws → (k i : ℕ) (new : List ℕ) → k < length fs → i + length new ≤ get_or ws k 0 →
    splice (chained fs) (sum (take k ws) + i) new ≡ chained (set fs k (splice (get_or fs k []) i new))
field-replaced fs ws widths k i new h room = rw (← widths) (field_in fs k i new h (rw widths room))

-- ---- a row of a table

module _ {A : Type 0} (bytes : A → List ℕ) (width : ℕ) where
  pub row-replaced :
      (xs : List A) (d : A) → Wide bytes width xs d (length xs) → (i : ℕ) (x : A) → i < length xs → length (bytes x) ≡ width →
      splice (table bytes xs) (width * i) (bytes x) ≡ table bytes (set xs i x)
  unfolding chained
  row-replaced [] d wide i x h e = absurd (omega arith)
  row-replaced (y ∷ xs) d wide zero x h e =
      let first : length (bytes y) ≡ width = wide 0 (omega arith) in
      rw (mul-zero width, splice_front (bytes y) (table bytes xs) 0 (bytes x) (omega arith), splice-whole (bytes y) (bytes x) (e ∙ sym first))
  row-replaced (y ∷ xs) d wide (suc i) x h e =
      let place : width * suc i ≡ length (bytes y) + width * i = omega (arith, mul-suc width i, wide 0 (omega arith)) in
      rw (place, splice-second (bytes y) (table bytes xs) (width * i) (bytes x))
      (ap (λ (l : List ℕ). bytes y ++ l) (row-replaced xs d (λ j l. wide (suc j) (omega arith)) i x (omega arith) e))

  -- rows that are read back together are so one by one
  row_back :
      (row : List ℕ → ℕ → A) → Local row width → (xs : List A) (d : A) → Wide bytes width xs d (length xs) → (n : ℕ) → length xs ≡ n →
      rows_at row width n (table bytes xs) 0 ≡ xs → (i : ℕ) → i < n → row (bytes (get_or xs i d)) 0 ≡ get_or xs i d
  unfolding rows_at
  row_back row local xs d wide n all back i h =
      let there : row (part (table bytes xs) (width * i) width) 0 ≡ row (table bytes xs) (width * i + 0) =
      local (table bytes xs) (width * i) width 0 (omega arith) in
      let read : get_or (each (λ j. row (table bytes xs) (0 + width * j)) 0 n) i d ≡ row (table bytes xs) (0 + width * (0 + i)) =
      get_or-each (λ j. row (table bytes xs) (0 + width * j)) 0 n i d h in
      ap (λ (l : List ℕ). row l 0) (sym (row-there bytes width xs d wide i (omega arith)))
      ∙ there
      ∙ ap (row (table bytes xs)) (omega arith)
      ∙ sym read
      ∙ ap (λ (l : List A). get_or l i d) back

-- ---- bytes that are a state's

-- a number in bytes is below their bound
le_at-below : (b : List ℕ) → Bytes b → (n at : ℕ) → at + n ≤ length b → le_at n b at < 256 ^ n
le_at-below b known zero at h = rw (le_at-none b at) (omega arith)
le_at-below b known (suc n) at h =
    rw (le_at-more n b at (omega arith), pow-suc) (omega (arith, known at, le_at-below b known n (suc at) (omega arith)))

module _ (b : List ℕ) (known : Bytes b) (held : is_state b ≡ true) where
  abbrev s : State
  s = state_in b

  arrays : Whole s
  arrays = whole_in b (state-length b held)

  fits : StateFits s
  unfolding state_in
  fits =
      record {
        whole = arrays;
        config = sym (row s arrays config_at 0 config_at-local) ∙ ap (λ (l : List ℕ). config_at l 0) (state-same b held);
        count = le_at-below b known 8 count_place (omega (arith, state-length b held));
        depth = le_at-below b known 8 (count_place + 8) (omega (arith, state-length b held));
        version = le_at-below b known 4 (count_place + 16) (omega (arith, state-length b held));
        job = sym (row s arrays job_at 2 job_at-local) ∙ ap (λ (l : List ℕ). job_at l job_place) (state-same b held);
        stack = sym (row s arrays stack_at 3 stack_at-local) ∙ ap (λ (l : List ℕ). stack_at l stack_place) (state-same b held);
        payloads = sym (row s arrays payloads_at 4 payloads_at-local) ∙ ap (λ (l : List ℕ). payloads_at l payloads_place) (state-same b held);
      }

  -- a part of field k replaced
  replaced :
      (t : State) → StateFits t → (k i : ℕ) (new : List ℕ) → k < length (state_fields s) → i + length new ≤ get_or state_widths k 0 →
      set (state_fields s) k (splice (get_or (state_fields s) k []) i new) ≡ state_fields t → {after : List ℕ} →
      after ≡ splice b (sum (take k state_widths) + i) new → HoldsState t after
  unfolding bytes_of
  replaced t fit k i new h room fields {after} told =
      holds t fit after
      (told
      ∙ ap (λ (l : List ℕ). splice l (sum (take k state_widths) + i) new) (sym (state-same b held))
      ∙ field-replaced (state_fields s) state_widths (state-widths s arrays) k i new h room
      ∙ ap chained fields)

  pub job-replaced :
      (j : Job) → length j.held ≡ cpus_max → job_at (job_bytes j) 0 ≡ j → {after : List ℕ} → after ≡ splice b job_place (job_bytes j) →
      HoldsState (with_job j s) after
  unfolding count_bytes
  job-replaced j every-cpu back told =
      let fit : StateFits (with_job j s) = record {
        whole = record { payloads = arrays.payloads; each_payload = arrays.each_payload; stack = arrays.stack; held = every-cpu };
        config = fits.config;
        count = fits.count;
        depth = fits.depth;
        version = fits.version;
        job = back;
        stack = fits.stack;
        payloads = fits.payloads;
      } in
      let size = length-job j every-cpu in
      replaced (with_job j s) fit 2 0 (job_bytes j) (omega arith) (omega (arith, size))
      (ap (λ (l : List ℕ). set (state_fields s) 2 l) (splice-whole _ (job_bytes j) (size ∙ sym (length-job s.job arrays.held))))
      told

  pub stack-replaced :
      (slots : List ℕ) → length slots ≡ slot_count → stack_at (chained (map (le_bytes 4) slots)) 0 ≡ slots → {after : List ℕ} →
      after ≡ splice b stack_place (chained (map (le_bytes 4) slots)) → HoldsState (with_stack s.depth slots s) after
  unfolding count_bytes
  stack-replaced slots all back told =
      let t = with_stack s.depth slots s in
      let whole : Whole t = record { payloads = arrays.payloads; each_payload = arrays.each_payload; stack = all; held = arrays.held } in
      let fit : StateFits t = record {
        whole = whole;
        config = fits.config;
        count = fits.count;
        depth = fits.depth;
        version = fits.version;
        job = fits.job;
        stack = back;
        payloads = fits.payloads;
      } in
      let size = length-stack t whole in
      replaced t fit 3 0 (chained (map (le_bytes 4) slots)) (omega arith) (omega (arith, size))
      (ap (λ (l : List ℕ). set (state_fields s) 3 l) (splice-whole _ (chained (map (le_bytes 4) slots)) (size ∙ sym (length-stack s arrays))))
      told

  -- the state with other counts: how many payloads are loaded, the version, and how many are applied
  abbrev counted : ℕ → ℕ → ℕ → State
  counted n v d = with_count n (with_version v (with_stack d s.stack s))

  counts-fit : {n v d : ℕ} → n < 256 ^ 8 → v < 256 ^ 4 → d < 256 ^ 8 → StateFits (counted n v d)
  counts-fit n-small v-small d_small =
      record {
        whole = record { payloads = arrays.payloads; each_payload = arrays.each_payload; stack = arrays.stack; held = arrays.held };
        config = fits.config;
        count = n-small;
        depth = d_small;
        version = v-small;
        job = fits.job;
        stack = fits.stack;
        payloads = fits.payloads;
      }

  -- one of these numbers replaced, by its place among them
  number-replaced :
      {n v d : ℕ} → StateFits (counted n v d) → (k at : ℕ) (new : List ℕ) → sum (take k count_widths) + 0 ≡ at → k < 3 → at + length new ≤ 20 →
      length new ≡ length (get_or (count_fields s) k []) → length new ≡ get_or count_widths k 0 → set (count_fields s) k new ≡ count_fields (counted n v d) →
      {after : List ℕ} → after ≡ splice b (count_place + at) new → HoldsState (counted n v d) after
  unfolding count_bytes
  number-replaced {n} {v} {d} fit k at new place inside room size width fields told =
      let counts : splice (count_bytes s) at new ≡ count_bytes (counted n v d) =
      ap (λ (i : ℕ). splice (count_bytes s) i new) (sym place)
      ∙ field-replaced (count_fields s) count_widths (count-widths s) k 0 new inside (omega (arith, width))
      ∙ ap (λ (l : List ℕ). chained (set (count_fields s) k l)) (splice-whole _ new size)
      ∙ ap chained fields in
      replaced (counted n v d) fit 1 at new (omega arith) room (ap (λ (l : List ℕ). set (state_fields s) 1 l) counts) told

  pub count-replaced :
      (n : ℕ) → n < 256 ^ 8 → {after : List ℕ} → after ≡ splice b count_place (le_bytes 8 n) → HoldsState (with_count n s) after
  count-replaced n small told =
      let size = length-le_bytes 8 n in
      number-replaced (counts-fit small fits.version fits.depth) 0 0 (le_bytes 8 n) refl (omega arith) (omega (arith, size))
      (size ∙ sym (length-le_bytes 8 s.count)) size refl told

  pub depth-replaced :
      (d : ℕ) → d < 256 ^ 8 → {after : List ℕ} → after ≡ splice b (count_place + 8) (le_bytes 8 d) → HoldsState (with_stack d s.stack s) after
  depth-replaced d small told =
      let size = length-le_bytes 8 d in
      number-replaced (counts-fit fits.count fits.version small) 1 8 (le_bytes 8 d) refl (omega arith) (omega (arith, size))
      (size ∙ sym (length-le_bytes 8 s.depth)) size refl told

  pub version-replaced :
      (v : ℕ) → v < 256 ^ 4 → {after : List ℕ} → after ≡ splice b (count_place + 16) (le_bytes 4 v) → HoldsState (with_version v s) after
  version-replaced v small told =
      let size = length-le_bytes 4 v in
      number-replaced (counts-fit fits.count small fits.depth) 2 16 (le_bytes 4 v) refl (omega arith) (omega (arith, size))
      (size ∙ sym (length-le_bytes 4 s.version)) size refl told

  module _ (i : ℕ) (p : Payload) (h : i < slot_count) (w : WholePayload p) (back : payload_at (payload_bytes p) 0 ≡ p) where
    abbrev others : List Payload
    others = set s.payloads i p

    abbrev t : State
    t = with_payloads others s

    -- a payload of the list is p, or one that was there
    each_of :
        (P : Payload → Type 0) → P p → ((j : ℕ) → j < slot_count → P (find.payload_at s j)) → (j : ℕ) → j < slot_count → P (find.payload_at t j)
    each_of P here there j l = by_cases (eqb j i) refl
      where
        by_cases : (same : Bool) → eqb j i ≡ same → P (find.payload_at t j)
        by_cases true e =
            subst⁻¹ P
            (ap (λ (k : ℕ). get_or others k empty) (eqb-true j i e) ∙ get_or-set_same s.payloads i p empty (omega (arith, arrays.payloads)))
            here
        by_cases false e = subst⁻¹ P (get_or-set_other s.payloads i j p empty (eqb-false j i e)) (there j l)

    wide : Wide payload_bytes payload_size s.payloads empty (length s.payloads)
    wide j l = length-payload _ (arrays.each_payload j (omega (arith, arrays.payloads)))

    whole : Whole t
    whole =
        record {
          payloads = length-set s.payloads i p ∙ arrays.payloads;
          each_payload = each_of WholePayload w arrays.each_payload;
          stack = arrays.stack;
          held = arrays.held;
        }

    rows : (j : ℕ) → j < slot_count → Row payload_bytes payload_at payload_size (find.payload_at t j)
    rows =
        each_of (Row payload_bytes payload_at payload_size)
        (record { wide = length-payload p w; back = back })
        (λ j l.
        record {
          wide = length-payload _ (arrays.each_payload j l);
          back = row_back payload_bytes payload_size payload_at payload_at-local s.payloads empty wide slot_count arrays.payloads fits.payloads j l;
        })

    pub payload-replaced : {after : List ℕ} → after ≡ splice b (payloads_place + payload_size * i) (payload_bytes p) → HoldsState t after
    unfolding count_bytes
    payload-replaced told =
        let fit : StateFits t = record {
          whole = whole;
          config = fits.config;
          count = fits.count;
          depth = fits.depth;
          version = fits.version;
          job = fits.job;
          stack = fits.stack;
          payloads =
              rows_back payload_bytes payload_at payload_size others empty payload_at-local (λ j l. rows j (omega (arith, whole.payloads))) slot_count
              whole.payloads;
        } in
        replaced t fit 4 (payload_size * i) (payload_bytes p) (omega arith) (omega (arith, length-payload p w))
        (ap (λ (l : List ℕ). set (state_fields s) 4 l)
        (row-replaced payload_bytes payload_size s.payloads empty wide i p (omega (arith, arrays.payloads)) (length-payload p w)))
        told
