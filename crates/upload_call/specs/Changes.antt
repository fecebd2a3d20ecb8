-- An upload over the records buffer.
use Rattle.std.specs.Prelude.{ℕ, ◌≡◌, true, ◌↔◌, List}
use Rattle.acceptance.specs.Consulted.{DifferInIgnored}
use Rattle.upload.specs.Upload as upload
use Rattle.state_bytes.specs.Stored.{state_in, is_state}
use Rattle.calls.specs.Told.{Told, stored, over_records, RecordsKept}

unfoldable pub upload_told : List ℕ → upload.Lent → upload.Request → Told upload.Lent
upload_told b l q =
    let u : upload.Uploaded = upload.upload_of (state_in b) l q in
    over_records b l (stored u.answer u.state u.after)

-- the records are a state's, and all that an upload asks for is right
pub record Acceptable (b : List ℕ) (l : upload.Lent) (q : upload.Request) : Type 0 where
  pub records : is_state b ≡ true
  pub call : upload.Acceptable (state_in b) l q

-- all that the call promises: the equation; the records hold the state after it; 0 is returned exactly when all is right; a file that differs only in bytes of
-- ignored contents gets the same answer, records and memory
pub record Uploads (b : List ℕ) (l : upload.Lent) (q : upload.Request) (t : Told upload.Lent) : Type 0 where
  pub equal : t ≡ upload_told b l q
  pub kept : RecordsKept b (upload.upload_of (state_in b) l q).state t.records
  pub exactly : (t.answer ≡ 0) ↔ Acceptable b l q
  pub ignored : (other : List ℕ) → DifferInIgnored q.file other → upload_told b l (upload.request q.name q.list other) ≡ t
