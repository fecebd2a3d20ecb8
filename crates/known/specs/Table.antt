-- Document 01, "Numbers to hold against it": K1 to K10, one table under one claim; and the sizes that follow from the limits.
use Rattle.std.specs.Prelude.{ℕ, ◌≡◌, true, false, List, [], ◌∷◌, ◌++◌, replicate, Ok, None}
use Rattle.words.specs.Splice.{splice}
use Rattle.words.specs.Text.{ascii}
use Rattle.records.specs.Verdict.{must}
use Rattle.records.specs.declared.refusal.Place.TheVariants.{Nowhere}
use Rattle.acceptance.specs.Known.{KnownAnswers}
use Rattle.model.specs.Calls.{Buffers, Act, ListFrom, Says, Lists}
use Rattle.model.specs.Model.{Loaded, Model}
use Rattle.model.specs.Step.{has_room, replies}
use Rattle.known.specs.Sizes.{KnownSizes}

-- a name with its ending zero
abbrev pub p1 : List ℕ
p1 = ascii "p1" ++ (0 ∷ [])

abbrev pub p2 : List ℕ
p2 = ascii "p2" ++ (0 ∷ [])

-- "p1 applied, p2 checked": after two uploads and nothing but a job that ended
pub record Applied (l : Model) (first second : Loaded) : Type 0 where
  pub payloads : l.payloads ≡ first ∷ second ∷ []
  pub version : l.version ≡ 2
  pub idle : l.job ≡ None
  pub first_name : first.name ≡ p1
  pub first_status : first.status ≡ 2
  pub first_result : first.result ≡ 0
  pub second_name : second.name ≡ p2
  pub second_status : second.status ≡ 1

-- statuses and results, names, lengths: two entries in the buffers
abbrev pub listed : Buffers → Buffers
listed b =
    record {
      statuses =
          splice b.statuses 0
          (0x02 ∷ 0x00 ∷ 0x00 ∷ 0x00 ∷ 0x00 ∷ 0x00 ∷ 0x00 ∷ 0x00 ∷ 0x01 ∷ 0x00 ∷ 0x00 ∷ 0x00 ∷ 0xea ∷ 0xff ∷ 0xff ∷ 0xff ∷ []);
      names = splice b.names 0 (p1 ++ replicate 125 0 ++ p2 ++ replicate 125 0);
      lengths = splice b.lengths 0 (0x03 ∷ 0x00 ∷ 0x00 ∷ 0x00 ∷ 0x03 ∷ 0x00 ∷ 0x00 ∷ 0x00 ∷ []);
    }

pub record KnownTable : Type 0 where
  -- the sizes by the limits
  pub of_sizes : KnownSizes
  -- K1 to K9
  pub of_payloads : KnownAnswers
  -- "K10 p1 applied, p2 checked, revert p2 gives 22; list(0, 8): 2 written, 0 left, version 2, 02 00 00 00 00 00 00 00 01 00 00 00 ea ff ff ff"
  pub k10 :
      (l : Model) (first second : Loaded) (time : ℕ) (b : Buffers) → Applied l first second → has_room 8 b ≡ true →
      replies l (Act p2 2 time ∷ ListFrom 0 8 b ∷ []) ≡ Says (must false 22 Nowhere) ∷ Lists (Ok tt) 2 0 2 (listed b) ∷ []
