-- An action gives the model's reply, and what it leaves stands for the model after it.
use Rattle.std.proofs.Common.{Some, None, Option, ℕ, Ok, Err}
use Prim.Native.Nat.{ℕ, zero, suc, ◌≤◌, ◌<◌}
use mathlib.Core.Path.{◌≡◌, refl, sym, ap, subst, ◌∙◌}
use mathlib.Core.Bool.{Bool, true, false, cond, not}
use mathlib.Core.List.{List, [], ◌∷◌}
use native.Mathlib.Omega.{arith}
use borrow.Author.Tests.{le-leb, eq-eqb, ne_eqb, eqb-true, not-true}
use lib.Dec.{eqb}
use lib.ListN.{length, take, replicate, length-replicate}
use lib.Seq.{take_at}
use Rattle.words.specs.Name.{is_found}
use Rattle.words.specs.Splice.{splice}
use Rattle.records.specs.Name.{is_name}
use Rattle.records.specs.Refusal.{number_of}
use Rattle.records.specs.Verdict.{must, decide}
use Rattle.records.specs.declared.payload.Payload.{Payload}
use Rattle.records.specs.declared.refusal.Place.TheVariants.{Nowhere}
use Rattle.records.proofs.Checks.{must-pass, then-pass}
use Rattle.memory.specs.Config.{cpus_max}
use Rattle.memory.specs.Memory.{arena_size, undo_size, ids_size}
use Rattle.memory.specs.declared.config.Config.{Config}
use Rattle.state.specs.Change.{changed_found}
use Rattle.state.specs.Find as state
use Rattle.state.specs.State as kept
use Rattle.queries.specs.TopId.{top_id, top_id_of}
use Rattle.actions.specs.Actions as actions
use Rattle.model.specs.Calls.{Act, Says}
use Rattle.model.specs.Model.{Loaded, Job, Model}
use Rattle.model.specs.Step as model
use Rattle.invariant.specs.Sound.{SoundJobs, Sound}
use Rattle.refinement.specs.Stands.{Loader, record_of, JobStands, JobsStand, Stands}
use Rattle.refinement.proofs.Agrees.{decide-agrees}
use Rattle.refinement.proofs.Changes.{with_state, result-change, found-stands, job-stands}
use Rattle.refinement.proofs.InRange.{in-range}
use Rattle.refinement.proofs.Lookups.{with-name, name-counted, payload-found, payload-named, top-slot}
use Rattle.refinement.proofs.Queries.{id-sizes, top-id-agrees}
use Rattle.refinement.proofs.Stores.{length-arena, length_ids}
use Rattle.refinement.proofs.Unload.{lent_by, after_action, stands-left}
use Rattle.refinement.proofs.Undo.{undo-length}

-- the first of copies are copies
take_same : {A : Type 0} (n m : ℕ) (x : A) → n ≤ m → take n (replicate m x) ≡ replicate n x
take_same zero m x h = refl
take_same (suc n) zero x h = absurd (omega arith)
take_same (suc n) (suc m) x h = ap (◌∷◌ x) (take_same n m x (omega arith))

-- ---- the call

abbrev pub ActionAgrees : Loader → actions.Acted → model.Told → Type 0
ActionAgrees u x y = (Says x.answer ≡ y.reply) × Stands (after_action u x) y.model

-- a record's dependency is the payload's
dependency-of : (p : Loaded) → actions.dependency_of (record_of p) ≡ p.dependency
unfolding record_of splice
dependency-of p = take_at p.dependency _ (length p.dependency) refl

module _ {u : Loader} {l : Model} (k : Stands u l) (sound : Sound l) where
  id_length : length u.build_id ≡ u.state.config.id_length
  id_length = ap length k.build_id ∙ ap (λ (c : Config). c.id_length) (sym k.state.config)

  ids-length : length u.ids ≡ ids_size
  ids-length = ap length k.ids ∙ length_ids sound

  sizes : actions.action_sizes_ok u.state (length u.arena) (length u.undo) (length u.ids) (length u.build_id) ≡ true
  unfolding actions.action_sizes_ok
  sizes =
      rw (
        in-range k sound,
        eq-eqb (length u.arena) arena_size (ap length k.arena ∙ length-arena sound),
        eq-eqb (length u.undo) undo_size (ap length k.undo ∙ undo-length l.start.text l.laid sound.fitting),
        eq-eqb (length u.ids) ids_size ids-length,
        eq-eqb (length u.build_id) u.state.config.id_length id_length,
      )

  top-id : top_id u.state u.build_id u.ids ≡ model.top_id l
  unfolding top_id_of
  top-id = rw (id-sizes k sound) at (top-id-agrees k sound)

  -- ---- the rules

  is-busy :
      (command : ℕ) (p : Loaded) (o : Option Job) → JobsStand l.start.cpus u.state.job o → SoundJobs l o →
      actions.is_busy u.state command (record_of p) ≡ model.is_busy o command p
  unfolding actions.is_busy record_of
  is-busy command p None stands good = rw (eq-eqb u.state.job.action 0 stands)
  is-busy command p (Some j) stands good =
      rw (ne_eqb u.state.job.action 0 (λ e. omega (arith, stands.action, good.action_low)), stands.slot)

  is-top : (p : Loaded) (stack : List ℕ) → l.stack ≡ stack → actions.is_top u.state (record_of p) ≡ model.is_top stack p
  unfolding record_of
  is-top p [] e =
      let none : u.state.depth ≡ 0 = k.state.depth ∙ ap length e in
      rw none
  is-top p (slot ∷ older) e =
      let deep : u.state.depth ≡ suc (length older) = k.state.depth ∙ ap length e in
      rw (le-leb 1 u.state.depth (omega arith), top-slot k.state slot older e)

  base_ok : (command : ℕ) (p : Loaded) → actions.base_ok u.state u.build_id u.ids command (record_of p) ≡ model.base_ok l command p
  unfolding actions.base_ok model.base_ok
  base_ok command p = rw (is-top p l.stack refl, dependency-of p, top-id, k.build_id)

  condition-rules :
      (command : ℕ) (p : Loaded) →
      actions.condition_rules u.state u.build_id u.ids command (record_of p) ≡ model.condition_rules l command p
  unfolding actions.condition_rules model.condition_rules record_of
  condition-rules command p = rw (base_ok command p)

  target_is : (name : List ℕ) → actions.target u.state name ≡ record_of (model.named l name)
  target_is name = payload-named k.state name

  request-rules :
      (name : List ℕ) (command time : ℕ) →
      actions.request_rules u.state u.build_id (lent_by u) (actions.request name command time) ≡ model.request_rules l name command
  unfolding actions.request_rules actions.target_rules model.request_rules
  request-rules name command time =
      rw (sizes, target_is name, is-busy command (model.named l name) l.job k.state.job sound.job, with-name k.state name)

  -- ---- a result set

  counted : (name : List ℕ) (i : ℕ) → model.with_name l name ≡ Some i → i < length l.payloads
  counted name = name-counted k.state name

  result-set :
      (n : ℕ) (name : List ℕ) →
      Stands (with_state (changed_found (kept.with_result n) u.state (state.with_name u.state name)) u)
      (model.changed_found (model.with_result n) l (model.with_name l name))
  result-set n name =
      subst
      (λ (x : Option ℕ).
      Stands (with_state (changed_found (kept.with_result n) u.state x) u)
      (model.changed_found (model.with_result n) l (model.with_name l name)))
      (sym (with-name k.state name))
      (found-stands (kept.with_result n) (model.with_result n) (result-change n) k (model.with_name l name) (counted name))

  -- ---- a job begun

  module _ (command time : ℕ) where
    abbrev Begun : Option ℕ → Option ℕ → Type 0
    Begun x y =
        Stands
        (with_state
        (kept.with_job (actions.job_for command (state.payload_found u.state x).slot time)
        (changed_found (kept.with_result 11) u.state x))
        u)
        (model.with_job (Some (model.job_for l command (model.payload_found l y) time)) (model.changed_found (model.with_result 11) l y))

    job-new :
        (x : Option ℕ) → ((i : ℕ) → x ≡ Some i → i < length l.payloads) →
        JobStands l.start.cpus (actions.job_for command (state.payload_found u.state x).slot time)
        (model.job_for l command (model.payload_found l x) time)
    unfolding record_of
    job-new x inside =
        record {
          action = refl;
          slot = ap (λ (r : Payload). r.slot) (payload-found k.state x inside);
          held = take_same l.start.cpus cpus_max false sound.start.cpus_few;
          time = refl;
          steps = refl;
        }

    begun : (x : Option ℕ) → ((i : ℕ) → x ≡ Some i → i < length l.payloads) → Begun x x
    begun (Some i) inside =
        job-stands (found-stands (kept.with_result 11) (model.with_result 11) (result-change 11) k (Some i) inside) _ (Some _) (job-new (Some i) inside)
        (length-replicate cpus_max false)
    begun None inside = job-stands k _ (Some _) (job-new None inside) (length-replicate cpus_max false)

    job-begun :
        (name : List ℕ) →
        Stands (with_state (actions.job_begun u.state (actions.request name command time)) u)
        (model.with_job (Some (model.job_for l command (model.named l name) time))
        (model.changed_found (model.with_result 11) l (model.with_name l name)))
    unfolding actions.job_begun
    job-begun name =
        subst (λ (x : Option ℕ). Begun x (model.with_name l name)) (sym (with-name k.state name))
        (begun (model.with_name l name) (counted name))

  -- ---- what an accepted action leaves

  abbrev unloaded_by : Option ℕ → actions.Acted
  unloaded_by x =
      record {
        answer = Ok tt;
        state = actions.unloaded_at u.state x;
        after = actions.cleared (state.payload_found u.state x).slot (lent_by u);
      }

  abbrev Left : Option ℕ → Option ℕ → Type 0
  Left x y =
      Stands (after_action u (unloaded_by x)) (model.with_list (model.without y l.payloads) l)

  unloaded :
      (y : Option ℕ) → ((i : ℕ) → y ≡ Some i → i < length l.payloads) → is_found y ≡ true → (model.payload_found l y).status ≡ 1 →
      model.is_busy l.job 1 (model.payload_found l y) ≡ false → Left y y
  unloaded (Some i) inside found checked free = stands-left k sound i (inside i refl) checked free
  unloaded None inside found checked free =
      let never : ◌≡◌ {A = ℕ} 0 1 = cc in
      absurd (omega arith)

  unload-left :
      (name : List ℕ) → model.request_rules l name 1 ≡ Ok tt → model.condition_rules l 1 (model.named l name) ≡ Ok tt →
      Left (state.with_name u.state name) (model.with_name l name)
  unfolding model.request_rules model.condition_rules
  unload-left name asked may =
      let named = then-pass (must (is_name name) 22 Nowhere) _ asked in
      let loaded = then-pass (must (is_found (model.with_name l name)) 2 Nowhere) _ named.1 in
      let free = must-pass (not (model.is_busy l.job 1 (model.named l name))) 16 Nowhere loaded.1 in
      let status = then-pass (must (eqb (model.named l name).status 1) 22 Nowhere) _ may in
      subst (λ (x : Option ℕ). Left x (model.with_name l name)) (sym (with-name k.state name))
      (unloaded (model.with_name l name) (counted name) (must-pass _ 2 Nowhere loaded.0)
      (eqb-true _ _ (must-pass _ 22 Nowhere status.0))
      (not-true _ free))

  module _ (name : List ℕ) (command time : ℕ) where
    -- by the command
    done-agrees :
        (t : Bool) → eqb command 1 ≡ t → model.request_rules l name command ≡ Ok tt →
        model.condition_rules l command (model.named l name) ≡ Ok tt →
        ActionAgrees u
        (cond t (unloaded_by (state.with_name u.state name))
        (record { answer = Ok tt; state = actions.job_begun u.state (actions.request name command time); after = lent_by u }))
        (model.told
        (cond t (model.with_list (model.without (model.with_name l name) l.payloads) l)
        (model.with_job (Some (model.job_for l command (model.named l name) time))
        (model.changed_found (model.with_result 11) l (model.with_name l name))))
        (Says (Ok tt)))
    done-agrees true e asked may =
        let unload : command ≡ 1 = eqb-true command 1 e in
        (refl, unload-left name (rw unload at asked) (rw unload at may))
    done-agrees false e asked may = (refl, job-begun command time name)

    same-conditions :
        actions.condition_rules u.state u.build_id u.ids command (actions.target u.state name)
        ≡ model.condition_rules l command (model.named l name)
    same-conditions = rw (target_is name) (condition-rules command (model.named l name))

    on_agrees :
        model.request_rules l name command ≡ Ok tt →
        ActionAgrees u (actions.action_on u.state u.build_id (lent_by u) (actions.request name command time))
        (decide
        (λ r. model.told (model.changed_found (model.with_result (number_of r.reason)) l (model.with_name l name)) (Says (Err r)))
        (model.told (model.acted l name command time) (Says (Ok tt)))
        (model.condition_rules l command (model.named l name)))
    unfolding actions.action_on
    on_agrees asked =
        rw same-conditions
        (decide-agrees (ActionAgrees u) (model.condition_rules l command (model.named l name))
        (λ r. (refl, result-set (number_of r.reason) name)) λ may.
        done-agrees (eqb command 1) refl asked may)

    pub act-agrees :
        ActionAgrees u (actions.action_of u.state u.build_id (lent_by u) (actions.request name command time)) (model.step l (Act name command time))
    unfolding actions.action_of model.step model.act
    act-agrees =
        rw (request-rules name command time)
        (decide-agrees (ActionAgrees u) (model.request_rules l name command) (λ r. (refl, k)) on_agrees)
