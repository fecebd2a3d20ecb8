-- An accepted start-up: the memory that it leaves stands for the model in which nothing is loaded.
use Rattle.std.proofs.Common.{Ok, Err}
use mathlib.Core.Path.{◌≡◌, refl, subst⁻¹}
use mathlib.Core.Bool.{true}
use lib.ListN.{length, replicate}
use Rattle.words.proofs.Tests.{both}
use Rattle.records.specs.declared.refusal.Place.TheVariants.{Nowhere}
use Rattle.records.specs.declared.refusal.Refusal.{Refusal}
use Rattle.records.proofs.Checks.{Told, must-pass, rules-told, answer-told}
use Rattle.memory.specs.Config.{config_ok}
use Rattle.memory.specs.Memory.{arena_size, undo_size, ids_size}
use Rattle.memory.proofs.Laws.{valid-config}
use Rattle.state.specs.State.{state_with, no_state}
use Rattle.startup.specs.Start.{Lent, config_for, stores_ok, start_rules, Started, start_of}
use Rattle.model.specs.Memory.{text_with, undo_with, store_of}
use Rattle.model.specs.Model.{Start, opened}
use Rattle.refinement.specs.Stands.{Loader, config_of, Stands}
use Rattle.invariant.specs.Sound.{SoundStart, Sound}
use Rattle.invariant.proofs.Step.{sound-start}

-- the model's start for what was lent
abbrev pub start_for : Lent → Start
start_for l =
    record { text = l.text; text_base = l.text_base; arena_base = l.arena_base; build_id = l.build_id; cpus = l.cpus }

abbrev pub loader_for : Lent → Started → Loader
loader_for l x =
    record { state = x.state; text = l.text; arena = x.arena; undo = x.undo; ids = x.ids; build_id = l.build_id }

-- where no rule is broken the numbers are right
numbers-right : (l : Lent) → start_rules l ≡ Ok tt → config_ok (config_of (start_for l)) ≡ true
unfolding start_rules
numbers-right l h = (both (stores_ok (length l.arena) (length l.undo) (length l.ids)) (config_ok (config_for l)) (must-pass _ 22 Nowhere h)).1

sound-numbers : (a : Start) → config_ok (config_of a) ≡ true → SoundStart a
sound-numbers a h =
    let v = valid-config (config_of a) h in
    record { id_some = v.id_some; id_short = v.id_max; cpus_some = v.cpus_some; cpus_few = v.cpus_max }

-- what an accepted start-up leaves
abbrev accepted_start : Lent → Started
accepted_start l =
    record {
      answer = Ok tt;
      state = state_with (config_for l);
      arena = replicate arena_size 0;
      undo = replicate undo_size 0;
      ids = replicate ids_size 0;
    }

abbrev refused_start : Lent → Refusal → Started
refused_start l r = record { answer = Err r; state = no_state; arena = l.arena; undo = l.undo; ids = l.ids }

told : (l : Lent) → Told (λ (x : Started). x.answer) (refused_start l) (accepted_start l)
told l = record { refusing = λ r. refl; accepting = refl }

accepted-stands : (l : Lent) → start_rules l ≡ Ok tt → Stands (loader_for l (accepted_start l)) (opened (start_for l))
unfolding state_with text_with undo_with store_of
accepted-stands l h =
    record {
      accepted = numbers-right l h;
      state = record {
        config = refl;
        version = refl;
        count = refl;
        payloads = refl;
        depth = refl;
        stack = refl;
        job = refl;
        payloads_whole = refl;
        stack_whole = refl;
        held_whole = refl;
      };
      text = refl;
      arena = refl;
      undo = refl;
      ids = refl;
      build_id = refl;
    }

pub start-stands : (l : Lent) (x : Started) → x ≡ start_of l → x.answer ≡ Ok tt → Stands (loader_for l x) (opened (start_for l)) × Sound (opened (start_for l))
unfolding start_of
start-stands l x e pass =
    let rules = rules-told _ _ _ (told l) (start_rules l) (Ok tt) e pass in
    let answer = answer-told _ _ _ (told l) (start_rules l) (Ok tt) e pass in (
      subst⁻¹ (λ (y : Started). Stands (loader_for l y) (opened (start_for l))) answer (accepted-stands l rules),
      sound-start (start_for l) (sound-numbers (start_for l) (numbers-right l rules)),
    )

-- where sizes and numbers are right, start-up is accepted
abbrev zeroed : Start → Lent
zeroed a =
    record {
      text = a.text;
      text_base = a.text_base;
      arena = replicate arena_size 0;
      arena_base = a.arena_base;
      undo = replicate undo_size 0;
      ids = replicate ids_size 0;
      build_id = a.build_id;
      cpus = a.cpus;
    }

pub starts : (a : Start) → config_ok (config_of a) ≡ true → accepted_start (zeroed a) ≡ start_of (zeroed a)
unfolding start_of start_rules stores_ok
starts a right = rw right refl
