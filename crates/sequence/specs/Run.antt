-- A run of the loader: each turn is a call of the real function, known by the function's own contract (`Known`, which is what its `ensures` states), at
-- references whose `now` is the memory as the call before left it. Pointers, ghost names and lifetimes are arbitrary.
use Rattle.records.specs.Refusal.{Verdict}
use Rattle.records.specs.declared.refusal.Refusal.{Refusal}
use Rattle.std.specs.Prelude.{ℕ, Result, refl, List, [], ◌∷◌}
use contract.Lifetimes.{Lfts}
use Rattle.std.specs.Borrow.{Bor, MutBor}
use Rattle.state.specs.declared.state.Called.{Called}
use Rattle.state.specs.declared.state.State.{State}
use Rattle.queries.specs.declared.get.Got.{Got}
use Rattle.listing.specs.declared.Listed.{Listed}
use Rattle.model.specs.Calls.{Call, Upload, Get, ListFrom, Act, Report, Tick, Work, TopId, Reply, Says, HandsOut}
use Rattle.model.specs.Model.{Start}
use Rattle.refinement.specs.Replies.{tells_of, lists_of}
use Rattle.refinement.specs.Stands.{Loader}
use Rattle.startup.specs.contracts.start as start
use Rattle.upload.specs.contracts.upload.upload as upload
use Rattle.queries.specs.contracts.get.get as get
use Rattle.listing.specs.contracts.list as list
use Rattle.queries.specs.contracts.top_id.top_build_id as top-id
use Rattle.actions.specs.contracts.action.action as action
use Rattle.rendezvous.specs.contracts.report as report
use Rattle.rendezvous.specs.contracts.tick as tick
use Rattle.work.specs.contracts.work.work as work
use Rattle.sequence.specs.Known.{Known}

-- bytes that are lent to be read
abbrev pub Bytes : Type 0
Bytes = Bor (List ℕ)

-- and bytes that are lent to be written
abbrev pub MutBytes : Type 0
MutBytes = MutBor (List ℕ)

-- start-up answered with this verdict, and left this
pub data Started : Start → Verdict → Loader → Type 0 where
  by_start :
      (κs : Lfts 5) (text : Bytes) (text_base : ℕ) (arena : MutBytes) (arena_base : ℕ) (undo ids : MutBytes) (build_id : Bytes) (cpus : ℕ) (r : Called)
      (arena' undo' ids' : MutBytes) →
      Known start.ended (λ w. start.clauses w.𝓛 w.𝓜.mem w.𝓡.returns) κs
      (text, (text_base, (arena, (arena_base, (undo, (ids, (build_id, (cpus, tt)))))))) r
      (text, (text_base, (arena', (arena_base, (undo', (ids', (build_id, (cpus, tt)))))))) (λ w g. refl) →
      Started
      (record { text = text.now; text_base = text_base; arena_base = arena_base; build_id = build_id.now; cpus = cpus })
      r.verdict
      (record {
        state = r.state;
        text = text.now;
        arena = arena'.now;
        undo = undo'.now;
        ids = ids'.now;
        build_id = build_id.now;
      })

-- one call: the loader before it, the call, its reply, the loader after it
pub data Turn : Loader → Call → Reply → Loader → Type 0 where
  by_upload :
      (κs : Lfts 5) (s : State) (text : List ℕ) (arena : MutBytes) (undo : List ℕ) (ids : MutBytes) (build_id : List ℕ) (name symbols file : Bytes)
      (r : Called) (arena' ids' : MutBytes) →
      Known upload.ended (λ w. upload.clauses w.𝓛 w.𝓜.mem w.𝓡.returns) κs
      (s, (arena, (ids, (name, (symbols, (file, tt)))))) r
      (s, (arena', (ids', (name, (symbols, (file, tt)))))) (λ w g. refl) →
      Turn
      (record { state = s; text = text; arena = arena.now; undo = undo; ids = ids.now; build_id = build_id })
      (Upload name.now symbols.now file.now)
      (Says r.verdict)
      (record { state = r.state; text = text; arena = arena'.now; undo = undo; ids = ids'.now; build_id = build_id })
  by_get :
      (κs : Lfts 1) (u : Loader) (name : Bytes) (r : Result Got Refusal) →
      Known get.ended (λ w. get.clauses w.𝓛 w.𝓜.mem w.𝓡.returns) κs
      (u.state, (name, tt)) r
      (u.state, (name, tt)) (λ w g. refl) →
      Turn u (Get name.now) (tells_of r) u
  by_list :
      (κs : Lfts 3) (u : Loader) (idx nr : ℕ) (statuses names lengths : MutBytes) (r : Result Listed Refusal) (statuses' names' lengths' : MutBytes) →
      Known list.ended (λ w. list.clauses w.𝓛 w.𝓜.mem w.𝓡.returns) κs
      (u.state, (idx, (nr, (statuses, (names, (lengths, tt)))))) r
      (u.state, (idx, (nr, (statuses', (names', (lengths', tt)))))) (λ w g. refl) →
      Turn u
      (ListFrom idx nr (record { statuses = statuses.now; names = names.now; lengths = lengths.now }))
      (lists_of (record { statuses = statuses'.now; names = names'.now; lengths = lengths'.now }) r)
      u
  by_act :
      (κs : Lfts 5) (s : State) (text : List ℕ) (arena undo ids : MutBytes) (build_id name : Bytes) (command time : ℕ) (r : Called)
      (arena' undo' ids' : MutBytes) →
      Known action.ended (λ w. action.clauses w.𝓛 w.𝓜.mem w.𝓡.returns) κs
      (s, (arena, (undo, (ids, (build_id, (name, (command, (time, tt)))))))) r
      (s, (arena', (undo', (ids', (build_id, (name, (command, (time, tt)))))))) (λ w g. refl) →
      Turn
      (record { state = s; text = text; arena = arena.now; undo = undo.now; ids = ids.now; build_id = build_id.now })
      (Act name.now command time)
      (Says r.verdict)
      (record { state = r.state; text = text; arena = arena'.now; undo = undo'.now; ids = ids'.now; build_id = build_id.now })
  by_report :
      (κs : Lfts 0) (s : State) (text arena undo ids build_id : List ℕ) (cpu : ℕ) (r : Called) →
      Known report.ended (λ w. report.clauses w.𝓛 w.𝓜.mem w.𝓡.returns) κs
      (s, (cpu, tt)) r
      (s, (cpu, tt)) (λ w g. refl) →
      Turn
      (record { state = s; text = text; arena = arena; undo = undo; ids = ids; build_id = build_id })
      (Report cpu)
      (Says r.verdict)
      (record { state = r.state; text = text; arena = arena; undo = undo; ids = ids; build_id = build_id })
  by_tick :
      (κs : Lfts 0) (s : State) (text arena undo ids build_id : List ℕ) (r : Called) →
      Known tick.ended (λ w. tick.clauses w.𝓛 w.𝓜.mem w.𝓡.returns) κs
      (s, tt) r
      (s, tt) (λ w g. refl) →
      Turn
      (record { state = s; text = text; arena = arena; undo = undo; ids = ids; build_id = build_id })
      Tick
      (Says r.verdict)
      (record { state = r.state; text = text; arena = arena; undo = undo; ids = ids; build_id = build_id })
  by_work :
      (κs : Lfts 2) (s : State) (text : MutBytes) (arena : List ℕ) (undo : MutBytes) (ids build_id : List ℕ) (r : Called) (text' undo' : MutBytes) →
      Known work.ended (λ w. work.clauses w.𝓛 w.𝓜.mem w.𝓡.returns) κs
      (s, (text, (undo, tt))) r
      (s, (text', (undo', tt))) (λ w g. refl) →
      Turn
      (record { state = s; text = text.now; arena = arena; undo = undo.now; ids = ids; build_id = build_id })
      Work
      (Says r.verdict)
      (record { state = r.state; text = text'.now; arena = arena; undo = undo'.now; ids = ids; build_id = build_id })
  by_top_id :
      (κs : Lfts 1) (s : State) (text arena undo : List ℕ) (ids build_id r : Bytes) →
      Known top-id.ended (λ w. top-id.clauses w.𝓛 w.𝓜.mem w.𝓡.returns) κs
      (s, (build_id, (ids, tt))) r
      (s, (build_id, (ids, tt))) (λ w g. refl) →
      Turn
      (record { state = s; text = text; arena = arena; undo = undo; ids = ids.now; build_id = build_id.now })
      TopId
      (HandsOut r.now)
      (record { state = s; text = text; arena = arena; undo = undo; ids = ids.now; build_id = build_id.now })

-- calls one after another, each on what the one before returned and left
pub data Run : Loader → List Call → List Reply → Loader → Type 0 where
  end : {u : Loader} → Run u [] [] u
  then :
      {u u' u'' : Loader} {c : Call} {cs : List Call} {a : Reply} {rest : List Reply} →
      Turn u c a u' → Run u' cs rest u'' → Run u (c ∷ cs) (a ∷ rest) u''
