-- How the code keeps a case.
use Rattle.std.specs.Prelude.{◌≡◌, ℕ, ◌<◌, List, [], ◌∷◌, ◌++◌, map, length, slice_get, All, Option, Some, None}
use Rattle.der_values.specs.Fits.{IsObject}
use Rattle.tst_tokens.specs.Layouts as layout
use Rattle.cert_paths.specs.declared.object.ObjectId.{ObjectId}
use Rattle.acceptance.specs.Certificates.{Part, other}
use Rattle.acceptance.specs.Objects.{token_of}
use Rattle.acceptance.specs.Times.{Stamp}
use Rattle.acceptance.specs.Tokens.{Token}
use Rattle.existence_times.specs.declared.rows.TokenRow.{TokenRow}
use Rattle.existence_times.specs.declared.rows.StampRow.{StampRow}
use Rattle.existence_times.specs.Shown.{Shown, ShownToken, ShownStamp, stamp_of, HasSignerOf}

abbrev pub number_of : ObjectId → ℕ
number_of object = object.number

abbrev pub shown_token : TokenRow → ShownToken
shown_token row = record { number = row.object.number; bytes = row.bytes.items }

-- the bytes of a token; of one that isn't there none
abbrev pub bytes_in : Option TokenRow → List ℕ
bytes_in None = []
bytes_in (Some row) = row.bytes.items

abbrev pub bytes_at : List TokenRow → ℕ → List ℕ
bytes_at tokens k = bytes_in (slice_get tokens k)

abbrev pub shown_stamp : List TokenRow → StampRow → ShownStamp
shown_stamp tokens row =
    record { object = row.object.number; token = bytes_at tokens row.token; sound = row.sound; covers = map number_of row.covers.items }

-- the stamp of a row
abbrev pub row_stamp : List TokenRow → StampRow → Stamp Token
row_stamp tokens row = stamp_of (shown_stamp tokens row)

-- a stamp's token is there, what it covers is, and so is its signer, where it has one
pub record IsStampKept (pool : List Part) (tokens : List TokenRow) (row : StampRow) : Type 0 where
  pub there : row.token < length tokens
  pub whole : IsObject layout.token (bytes_at tokens row.token)
  pub within : row.object.number < length pool
  pub covers : All (λ y. y < length pool) (map number_of row.covers.items)
  pub signer : HasSignerOf pool (token_of (bytes_at tokens row.token))

pub record IsKept (pool : List Part) (references : ℕ) (tokens : List TokenRow) (stamps : List StampRow) : Type 0 where
  pub value : references < length pool
  pub within : (k : ℕ) (row : TokenRow) → slice_get tokens k ≡ Some row → row.object.number < length pool
  pub whole : (k : ℕ) (row : TokenRow) → slice_get tokens k ≡ Some row → IsObject layout.token row.bytes.items
  pub apart : (j k : ℕ) (d e : TokenRow) → slice_get tokens j ≡ Some d → slice_get tokens k ≡ Some e → d.object.number ≡ e.object.number → j ≡ k
  pub each : (k : ℕ) (row : StampRow) → slice_get stamps k ≡ Some row → IsStampKept pool tokens row

-- the token of a row has these bytes, or is this object; none is that isn't there
abbrev pub HasBytes : List ℕ → Option TokenRow → Type 0
HasBytes bytes None = ⊥
HasBytes bytes (Some row) = row.bytes.items ≡ bytes

abbrev pub HasNumber : ℕ → Option TokenRow → Type 0
HasNumber number None = ⊥
HasNumber number (Some row) = row.object.number ≡ number

-- a case with one more part, token or stamp
abbrev pub with_pool : Shown → List Part → Shown
with_pool case pool = record { pool = pool; references = case.references; tokens = case.tokens; stamps = case.stamps }

abbrev pub with_token : Shown → List ℕ → Shown
with_token case bytes = record {
  pool = case.pool ++ other ∷ [];
  references = case.references;
  tokens = case.tokens ++ record { number = length case.pool; bytes = bytes } ∷ [];
  stamps = case.stamps;
}

abbrev pub with_stamp : Shown → ShownStamp → Shown
with_stamp case stamp = record { pool = case.pool; references = case.references; tokens = case.tokens; stamps = case.stamps ++ stamp ∷ [] }
