-- A run over the C boundary: each turn is a call of the exported function, known by the function's own contract (`Known`, which is what its `ensures`
-- states), at references whose `now` is what the call before left. Pointers, ghost names and lifetimes are arbitrary.
use Rattle.std.specs.Prelude.{ℕ, refl, List, [], ◌∷◌}
use contract.Lifetimes.{Lfts}
use Rattle.std.specs.Borrow.{Bor, MutBor}
use Rattle.model.specs.Model.{Start}
use Rattle.abi.specs.contracts.starting.urddolwy_start as start
use Rattle.abi.specs.contracts.uploading.urddolwy_upload as upload
use Rattle.abi.specs.contracts.acting.urddolwy_action as action
use Rattle.abi.specs.contracts.reporting.urddolwy_report as report
use Rattle.abi.specs.contracts.reporting.urddolwy_tick as tick
use Rattle.abi.specs.contracts.working.urddolwy_work as work
use Rattle.abi.specs.contracts.asking.urddolwy_get as get
use Rattle.abi.specs.contracts.asking.urddolwy_list as list
use Rattle.abi.specs.contracts.asking.urddolwy_top_build_id as top-id
use Rattle.sequence.specs.Known.{Known, KnownBoth}
use Rattle.exported.specs.Calls.{Call, Upload, Get, ListFrom, Act, Report, Tick, Work, TopId, Reply, Returns, Fills, FillsList}

-- what a host keeps between two calls: the records buffer and the lent memory
pub record Host : Type 0 where
  pub records : List ℕ
  pub text : List ℕ
  pub arena : List ℕ
  pub undo : List ℕ
  pub ids : List ℕ
  pub build_id : List ℕ

abbrev pub host : List ℕ → List ℕ → List ℕ → List ℕ → List ℕ → List ℕ → Host
host records text arena undo ids build_id =
    record { records = records; text = text; arena = arena; undo = undo; ids = ids; build_id = build_id }

-- bytes that are lent to be read
abbrev pub Bytes : Type 0
Bytes = Bor (List ℕ)

-- and bytes that are lent to be written
abbrev pub MutBytes : Type 0
MutBytes = MutBor (List ℕ)

-- start-up returned this number, and left this
pub data Started : Start → ℕ → Host → Type 0 where
  by_start :
      (κs : Lfts 6) (records : MutBytes) (text : Bytes) (text_base : ℕ) (arena : MutBytes) (arena_base : ℕ) (undo ids : MutBytes) (build_id : Bytes)
      (cpus r : ℕ) (records' arena' undo' ids' : MutBytes) →
      KnownBoth start.ended (λ w. start.clauses w.𝓛 w.𝓜.mem w.𝓡.returns) κs
      (records, (text, (text_base, (arena, (arena_base, (undo, (ids, (build_id, (cpus, tt))))))))) r
      (records', (text, (text_base, (arena', (arena_base, (undo', (ids', (build_id, (cpus, tt))))))))) (λ w g. refl) →
      Started
      (record { text = text.now; text_base = text_base; arena_base = arena_base; build_id = build_id.now; cpus = cpus })
      r
      (host records'.now text.now arena'.now undo'.now ids'.now build_id.now)

-- one call: the host's memory before it, the call, its reply, the memory after it
pub data Turn : Host → Call → Reply → Host → Type 0 where
  by_upload :
      (κs : Lfts 6) (records : MutBytes) (text : List ℕ) (arena : MutBytes) (undo : List ℕ) (ids : MutBytes) (build_id : List ℕ)
      (name symbols file : Bytes) (r : ℕ) (records' arena' ids' : MutBytes) →
      Known upload.ended (λ w. upload.clauses w.𝓛 w.𝓜.mem w.𝓡.returns) κs
      (records, (arena, (ids, (name, (symbols, (file, tt)))))) r
      (records', (arena', (ids', (name, (symbols, (file, tt)))))) (λ w g. refl) →
      Turn
      (host records.now text arena.now undo ids.now build_id)
      (Upload name.now symbols.now file.now)
      (Returns r)
      (host records'.now text arena'.now undo ids'.now build_id)
  by_get :
      (κs : Lfts 3) (records : Bytes) (text arena undo ids build_id : List ℕ) (name : Bytes) (out : MutBytes) (r : ℕ) (out' : MutBytes) →
      Known get.ended (λ w. get.clauses w.𝓛 w.𝓜.mem w.𝓡.returns) κs
      (records, (name, (out, tt))) r
      (records, (name, (out', tt))) (λ w g. refl) →
      Turn
      (host records.now text arena undo ids build_id)
      (Get name.now out.now)
      (Fills r out'.now)
      (host records.now text arena undo ids build_id)
  by_list :
      (κs : Lfts 5) (records : Bytes) (text arena undo ids build_id : List ℕ) (idx nr : ℕ) (statuses names lengths out : MutBytes) (r : ℕ)
      (statuses' names' lengths' out' : MutBytes) →
      Known list.ended (λ w. list.clauses w.𝓛 w.𝓜.mem w.𝓡.returns) κs
      (records, (idx, (nr, (statuses, (names, (lengths, (out, tt))))))) r
      (records, (idx, (nr, (statuses', (names', (lengths', (out', tt))))))) (λ w g. refl) →
      Turn
      (host records.now text arena undo ids build_id)
      (ListFrom idx nr (record { statuses = statuses.now; names = names.now; lengths = lengths.now }) out.now)
      (FillsList r out'.now (record { statuses = statuses'.now; names = names'.now; lengths = lengths'.now }))
      (host records.now text arena undo ids build_id)
  by_act :
      (κs : Lfts 6) (records : MutBytes) (text : List ℕ) (arena undo ids : MutBytes) (build_id name : Bytes) (command time r : ℕ)
      (records' arena' undo' ids' : MutBytes) →
      KnownBoth action.ended (λ w. action.clauses w.𝓛 w.𝓜.mem w.𝓡.returns) κs
      (records, (arena, (undo, (ids, (build_id, (name, (command, (time, tt)))))))) r
      (records', (arena', (undo', (ids', (build_id, (name, (command, (time, tt)))))))) (λ w g. refl) →
      Turn
      (host records.now text arena.now undo.now ids.now build_id.now)
      (Act name.now command time)
      (Returns r)
      (host records'.now text arena'.now undo'.now ids'.now build_id.now)
  by_report :
      (κs : Lfts 1) (records : MutBytes) (text arena undo ids build_id : List ℕ) (cpu r : ℕ) (records' : MutBytes) →
      KnownBoth report.ended (λ w. report.clauses w.𝓛 w.𝓜.mem w.𝓡.returns) κs
      (records, (cpu, tt)) r
      (records', (cpu, tt)) (λ w g. refl) →
      Turn (host records.now text arena undo ids build_id) (Report cpu) (Returns r) (host records'.now text arena undo ids build_id)
  by_tick :
      (κs : Lfts 1) (records : MutBytes) (text arena undo ids build_id : List ℕ) (r : ℕ) (records' : MutBytes) →
      KnownBoth tick.ended (λ w. tick.clauses w.𝓛 w.𝓜.mem w.𝓡.returns) κs
      (records, tt) r
      (records', tt) (λ w g. refl) →
      Turn (host records.now text arena undo ids build_id) Tick (Returns r) (host records'.now text arena undo ids build_id)
  by_work :
      (κs : Lfts 3) (records text : MutBytes) (arena : List ℕ) (undo : MutBytes) (ids build_id : List ℕ) (r : ℕ) (records' text' undo' : MutBytes) →
      KnownBoth work.ended (λ w. work.clauses w.𝓛 w.𝓜.mem w.𝓡.returns) κs
      (records, (text, (undo, tt))) r
      (records', (text', (undo', tt))) (λ w g. refl) →
      Turn
      (host records.now text.now arena undo.now ids build_id)
      Work
      (Returns r)
      (host records'.now text'.now arena undo'.now ids build_id)
  by_top_id :
      (κs : Lfts 4) (records : Bytes) (text arena undo : List ℕ) (ids build_id : Bytes) (out : MutBytes) (r : ℕ) (out' : MutBytes) →
      Known top-id.ended (λ w. top-id.clauses w.𝓛 w.𝓜.mem w.𝓡.returns) κs
      (records, (build_id, (ids, (out, tt)))) r
      (records, (build_id, (ids, (out', tt)))) (λ w g. refl) →
      Turn
      (host records.now text arena undo ids.now build_id.now)
      (TopId out.now)
      (Fills r out'.now)
      (host records.now text arena undo ids.now build_id.now)

-- calls one after another, each on what the one before left
pub data Run : Host → List Call → List Reply → Host → Type 0 where
  end : {h : Host} → Run h [] [] h
  then :
      {h h' h'' : Host} {c : Call} {cs : List Call} {a : Reply} {rest : List Reply} →
      Turn h c a h' → Run h' cs rest h'' → Run h (c ∷ cs) (a ∷ rest) h''
