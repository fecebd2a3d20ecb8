-- The model is sound at first, and every call keeps it so.
use mathlib.Core.Path.{refl}
use mathlib.Core.List.{List, [], ◌∷◌}
use native.Mathlib.Omega.{arith}
use Rattle.model.specs.Calls.{Call, Upload, Get, ListFrom, Act, Report, Tick, Work, TopId}
use Rattle.model.specs.Model.{Start, Model, opened}
use Rattle.model.specs.Step.{step, after}
use Rattle.invariant.specs.Sound.{SoundStart, Sound}
use Rattle.invariant.proofs.Parts.{Parts, parts, sound}
use Rattle.invariant.proofs.Upload.{upload-sound}
use Rattle.invariant.proofs.Act.{act-sound}
use Rattle.invariant.proofs.Rendezvous.{report-sound, tick-sound}
use Rattle.invariant.proofs.Work.{work-sound}

pub sound-start : (a : Start) → SoundStart a → Sound (opened a)
sound-start a s =
    sound (opened a) record {
      start = s;
      version = omega arith;
      payloads = tt;
      apart = tt;
      stacked = tt;
      different = tt;
      statuses = tt;
      job = tt;
      laid = refl;
    }

step-parts : (l : Model) (c : Call) → Parts l → Parts (step l c).model
unfolding step
step-parts l (Upload name list file) s = upload-sound l name list file s
step-parts l (Get name) s = s
step-parts l (ListFrom idx nr b) s = s
step-parts l (Act name command time) s = act-sound l name command time s
step-parts l (Report cpu) s = report-sound l l.job cpu refl s
step-parts l Tick s = tick-sound l l.job refl s
step-parts l Work s = work-sound l l.job refl s
step-parts l TopId s = s

pub sound-step : {l : Model} (c : Call) → Sound l → Sound (step l c).model
sound-step {l} c s = sound (step l c).model (step-parts l c (parts l s))

-- so it is after any calls
pub sound-after : {l : Model} (cs : List Call) → Sound l → Sound (after l cs)
unfolding after
sound-after [] s = s
sound-after {l = l} (c ∷ cs) s = sound-after {l = (step l c).model} cs (sound-step c s)
