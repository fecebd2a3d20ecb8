-- What is built of a file that is read: what each stage asks stands, the slot keeps its length, and the stages' verdicts decide.
use Rattle.records.specs.Refusal.{Verdict}
use Rattle.std.proofs.Common.{Result, Ok, Err}
use Prim.Native.Nat.{ℕ, ◌+◌, ◌*◌, ◌/◌, ◌≤◌, ◌<◌}
use mathlib.Core.Path.{◌≡◌, refl, sym, ap, ◌∙◌}
use mathlib.Core.Bool.{Bool, true, false, not, ◌&&◌, ◌||◌, or-true, false≢true}
use mathlib.Core.List.{List}
use native.Mathlib.Omega.{arith}
use borrow.Author.Tests.{not-true}
use lib.ListN.{length, get_or, take}
use lib.Seq.{length-take-le}
use Rattle.words.proofs.Tests.{both}
use Rattle.records.specs.Limits.{placed_max, sections_max, records_max, record_size}
use Rattle.records.specs.declared.refusal.Refusal.{Refusal}
use Rattle.records.specs.Verdict.{◌then◌, decide, verdict_of}
use Rattle.records.proofs.Checks.{Told, then-pass, rules-told, answer-told, decided-ok, decided-err}
use Rattle.machine.specs.Machine.{Machine}
use Rattle.kinds.specs.Kinds.{has_type, is_kind}
use Rattle.kinds.specs.declared.Kind.TheVariants.{Placed, Records, Relocations, Ignored}
use Rattle.object.specs.Sections.{sections, section_count, section_in}
use Rattle.object.specs.declared.sections.SectionEntry.{SectionEntry}
use Rattle.payload.specs.Reading.{read_rules}
use Rattle.payload.specs.RelocationHeaders.{is_target}
use Rattle.payload.specs.declared.read.Reading.{Reading}
use Rattle.payload.proofs.CountLaws.{index-found}
use Rattle.payload.proofs.ReadingLaws.{ReadPasses, read-passes}
use Rattle.placement.specs.Placement.{is_placed, layout_of, no_bytes, image_before, placement_rules, PlacedSlot, placed_slot, refused_placement, accepted_placement, placement_of}
use Rattle.placement.specs.declared.Placement.{Placement}
use Rattle.placement.proofs.PlacementLaws.{placed-inside, end-inside, section-inside, length-image, offset-kept, placement-told}
use Rattle.relocation.specs.Relocating.{Relocated, relocated, Linkable, AreaFits, is_relocating, area_of, linking_of, relocate_all}
use Rattle.relocation.proofs.RelocateLaws.{length-relocated}
use Rattle.functions.specs.Functions.{function_rules, accepted_functions, functions_of}
use Rattle.functions.specs.Patching.{patching}
use Rattle.functions.specs.declared.read.Functions.{Functions}
use Rattle.acceptance.specs.Stages.{Setting, machine_at, relocated_of, placed_length, records_index, records_start, record_count, patching_of, build_rules}
use Rattle.prepare.specs.Prepare.{Ready, BuiltSlot, built_slot, refused_built, accepted_built, built_of}

-- ---- sections that are placed

-- a target that is not ignored
target-placed : (s : SectionEntry) → is_target s ≡ true → is_kind s.kind Ignored ≡ false → is_placed s ≡ true
unfolding is_target is_placed
target-placed s = by_tests (is_kind s.kind Placed) (not (has_type 8 s.header)) (is_kind s.kind Records) (is_kind s.kind Ignored) _
  where
    by_tests : (a t b g n : Bool) → ((a && t) || b || g) ≡ true → g ≡ false → (a || b || n) ≡ true
    by_tests true t b g n h e = refl
    by_tests false t true g n h e = refl
    by_tests false t false g n h e = absurd (false≢true (sym e ∙ h))

-- the function records
records-placed : (s : SectionEntry) → is_kind s.kind Records ≡ true → is_placed s ≡ true
unfolding is_placed
records-placed s h = simp (h, or-true)

-- ---- the verdicts of the stages decide what is built

abbrev pub place_rules : List ℕ → Verdict
place_rules file = placement_rules (sections file) (section_count file)

abbrev pub patch_rules : Setting → List ℕ → Verdict
patch_rules t file = function_rules (patching_of t file) (records_start file) (record_count file)

module _ (t : Setting) (file : List ℕ) where
  -- where none refuses, each of them passes
  pub record BuildPasses : Type 0 where
    pub of-placement : place_rules file ≡ Ok tt
    pub of-relocation : (relocated_of t file).verdict ≡ Ok tt
    pub of-functions : patch_rules t file ≡ Ok tt

  pub build-passes : build_rules t file ≡ Ok tt → BuildPasses
  unfolding build_rules
  build-passes h =
      let one = then-pass _ _ h in
      let two = then-pass _ _ one.1 in
      record { of-placement = one.0; of-relocation = two.0; of-functions = two.1 }

  -- the first that refuses, or that none does
  pub built-by :
      {placing linking patching : Verdict} → place_rules file ≡ placing → (relocated_of t file).verdict ≡ linking → patch_rules t file ≡ patching →
      built_of t file ≡ decide refused_built (accepted_built t file) (placing then linking then patching)
  unfolding built_of build_rules
  built-by p l f = rw (p, l, f)

  -- what is built holds the verdict that decides it
  pub built-told : Told (λ b. verdict_of b.answer) refused_built (accepted_built t file)
  built-told = record { refusing = λ r. refl; accepting = refl }

-- ---- placement has answered p for the reading g

-- what it decides where it passes
abbrev pub placement_in : List ℕ → Placement
placement_in file = record { layout = layout_of (sections file) (section_count file); placed = placed_length file }

module _
    {m : Machine} {file : List ℕ} {g : Reading} {p : PlacedSlot} (ready : Ready m file g)
    (answer : p ≡ placement_of file g.sections g.count) where
  -- it is the answer for the file's sections
  placement-is : p ≡ placement_of file (sections file) (section_count file)
  placement-is = answer ∙ rw ready.read

  -- so it tells what the rules say
  pub place-told : {v : Verdict} → verdict_of p.answer ≡ v → place_rules file ≡ v
  unfolding placement_of
  place-told h = rules-told _ _ _ (placement-told file _ _) _ _ placement-is h

  -- the answer that its verdict decides
  placement-by :
      (v : Verdict) → verdict_of p.answer ≡ v →
      p ≡ decide refused_placement (accepted_placement file (sections file) (section_count file)) v
  unfolding placement_of
  placement-by v h = answer-told _ _ _ (placement-told file _ _) (place_rules file) v placement-is h

-- it has refused, and so nothing is built
pub place-refuses :
    (t : Setting) {file : List ℕ} {g : Reading} {r : Refusal} {image : List ℕ} → Ready (machine_at t) file g →
    placed_slot (Err r) image ≡ placement_of file g.sections g.count → built_slot (Err r) image ≡ built_of t file
place-refuses t {file} {g} {r} {image} ready answer =
    let cleared : image ≡ no_bytes = ap (λ (p : PlacedSlot). p.image) (placement-by ready answer (Err r) refl) in
    rw cleared (sym (built-by t file (place-told ready answer refl) refl refl))

-- it has passed, with x decided and the slot's bytes left
pub record InSlot (t : Setting) (file : List ℕ) (g : Reading) (x : Placement) (bytes : List ℕ) : Type 0 where
  pub ready : Ready (machine_at t) file g
  pub fits : place_rules file ≡ Ok tt
  pub placement : x ≡ placement_in file
  pub slot : bytes ≡ image_before file (sections file) (section_count file)

pub in-slot :
    {t : Setting} {file : List ℕ} {g : Reading} {x : Placement} {bytes : List ℕ} → Ready (machine_at t) file g →
    placed_slot (Ok x) bytes ≡ placement_of file g.sections g.count → InSlot t file g x bytes
in-slot {t} {file} {g} {x} {bytes} ready answer =
    let all = placement-by ready answer (Ok tt) refl in
    let same : ◌≡◌ {A = Result Placement Refusal} (Ok x) (Ok (placement_in file)) = ap (λ (p : PlacedSlot). p.answer) all in
    record {
      ready = ready;
      fits = place-told ready answer refl;
      placement = cc;
      slot = ap (λ (p : PlacedSlot). p.image) all;
    }

module _
    {t : Setting} {file : List ℕ} {g : Reading} {x : Placement} {bytes : List ℕ} (d : InSlot t file g x bytes)
  where
    passing : ReadPasses file
    passing = read-passes file (machine_at t) d.ready.passes

    -- ---- relocation: all that it asks stands, and it leaves the slot's bytes as many as they were

    -- the target of relocations that are made lies in the slot
    target-inside :
        (i : ℕ) → i < section_count file → is_relocating (sections file) (section_in (sections file) i) ≡ true → AreaFits (area_of (sections file) i)
    unfolding is_relocating
    target-inside i h r =
        let tests = both (is_kind (section_in (sections file) i).kind Relocations) _ r in
        let target = passing.targets i h tests.0 in
        section-inside (sections file) (section_count file) _ d.fits target.0 (target-placed _ target.1 (not-true _ tests.1))

    -- what is asked of the bytes before relocation, of the reading and of the layout
    pub to-relocate : Linkable (length bytes) file g × (x.layout ≡ layout_of g.sections g.count)
    to-relocate =
        rw (d.ready.read, d.placement, d.slot) (
          record {
            whole = length-image file (sections file) (section_count file) d.fits;
            short = passing.head.short;
            few = passing.head.few;
            table = omega (arith, passing.head.few, passing.symbols-below);
            strings = omega (arith, passing.head.few, passing.strings-below);
            targets = λ i h k. (passing.targets i h k).0;
            inside = target-inside;
          },
          refl,
        )

    -- what the code gets is what the definition says
    abbrev relocating : Relocated
    relocating = relocate_all (machine_at t) (linking_of t.host file g t.list) file bytes

    relocating-is : relocating ≡ relocated_of t file
    unfolding relocated_of
    relocating-is = rw (d.ready.read, d.slot)

    -- the slot's bytes are 8,192
    slot_whole : length (relocated_of t file).image ≡ placed_max
    slot_whole =
        rw (← relocating-is) (length-relocated t.host file g t.list bytes to-relocate.0 ∙ to-relocate.0.whole)

    -- relocation has answered v and left image
    module _ {v : Verdict} {image : List ℕ} (answer : relocated v image ≡ relocating) where
      pub relocate-told : {w : Verdict} → v ≡ w → (relocated_of t file).verdict ≡ w
      relocate-told h = ap (λ (x : Relocated). x.verdict) (sym (answer ∙ relocating-is)) ∙ h

      pub image_is : image ≡ (relocated_of t file).image
      image_is = ap (λ (x : Relocated). x.image) (answer ∙ relocating-is)

    -- ---- the function records, of the slot's bytes after it

    -- they are a section of the table
    pub index_below : g.records < sections_max
    index_below = rw d.ready.read (omega (arith, passing.head.few, passing.records-below))

    module _ {image : List ℕ} (made : image ≡ (relocated_of t file).image) where
      -- the placed bytes are the first of them
      pub part-fits : x.placed ≤ length image
      part-fits = rw (d.placement, made) (omega (arith, slot_whole, end-inside (sections file) (section_count file) d.fits))

      pub part_length : x.placed ≡ length (take x.placed image)
      part_length = sym (length-take-le _ image part-fits)

      -- where they begin, and how many they are
      abbrev begin : ℕ
      begin = get_or x.layout.offsets g.records 0

      abbrev count : ℕ
      count = (section_in g.sections g.records).header.sh_size / record_size

      begin-is : begin ≡ records_start file
      begin-is = rw (d.placement, d.ready.read) (offset-kept _ _ _ passing.records-below)

      count-is : count ≡ record_count file
      count-is = rw d.ready.read

      -- all records lie in the placed bytes, and are at most `records_max`
      pub to-patch : {k : ℕ} → k ≡ count → (begin + record_size * k ≤ length (take x.placed image)) × (k ≤ records_max)
      to-patch counted =
          let found = index-found (sections file) (section_count file) Records passing.counts.records in
          let inside = placed-inside (sections file) (section_count file) (records_index file) found.0 (records-placed _ found.1) in
          rw (counted, ← part_length, begin-is, count-is, d.placement) (omega (arith, inside), omega (arith, passing.records-most))

      -- the records have been answered with f
      module _
          {f : Result Functions Refusal} {k : ℕ} (counted : k ≡ count)
          (answer : f ≡ functions_of (patching t.host (take x.placed image) t.list) begin k) where
        functions-are : f ≡ functions_of (patching_of t file) (records_start file) (record_count file)
        functions-are = answer ∙ rw (counted, begin-is, count-is, d.placement, made)

        patched : f ≡ decide Err (Ok (accepted_functions (patching_of t file) (records_start file) (record_count file))) (patch_rules t file)
        unfolding functions_of
        patched = functions-are

        pub patch-refuses : {r : Refusal} → f ≡ Err r → patch_rules t file ≡ Err r
        patch-refuses h = decided-err _ (patch_rules t file) (sym patched ∙ h)

        pub patch-passes : {made-of : Functions} → f ≡ Ok made-of → patch_rules t file ≡ Ok tt
        patch-passes h = (decided-ok _ (patch_rules t file) (sym patched ∙ h)).0

        pub all-built :
            {found : Functions} → f ≡ Ok found →
            ◌≡◌ {A = BuiltSlot}
            (built_slot (Ok (record { placed = x.placed; edits = found.edits; edit_count = found.count })) image)
            (accepted_built t file)
        all-built h =
            let functions = (decided-ok _ (patch_rules t file) (sym patched ∙ h)).1 in
            rw (d.placement, made, functions)

-- the slot of an accepted payload has 8,192 bytes
pub length-built :
    (t : Setting) (file : List ℕ) → read_rules (machine_at t) file ≡ Ok tt → build_rules t file ≡ Ok tt → length (relocated_of t file).image ≡ placed_max
length-built t file passes rules =
    slot_whole {x = placement_in file} (
    record {
      ready = record { passes = passes; read = refl };
      fits = (build-passes t file rules).of-placement;
      placement = refl;
      slot = refl;
    }
    )
