-- What a case keeps and shows after each of its calls.
use Rattle.std.proofs.Common.{◌≡◌, ℕ, ◌+◌, ◌<◌, List, [], ◌∷◌, ◌++◌, length, map, slice_get, get_or, All, Some, ℤ, arith, refl, sym, ap, subst, ◌∙◌, length-append}
use Rattle.std.proofs.lemmas.Option.{slice_get_within, slice_get_read}
use Rattle.der_values.specs.Fits.{IsObject}
use Rattle.tst_tokens.specs.Layouts as layout
use Rattle.policy_rules.specs.Rules.{Rules}
use Rattle.acceptance.specs.Certificates.{Part, other}
use Rattle.acceptance.specs.Objects.{token_of}
use Rattle.acceptance.specs.Stamping.{IsTokenAccepted, proof_time}
use Rattle.acceptance.specs.Times.{Stamp, IsEarliest}
use Rattle.acceptance.specs.Tokens.{Token}
use Rattle.cert_paths.specs.declared.object.ObjectId.{ObjectId}
use Rattle.cert_paths.specs.Origin.{Origin}
use Rattle.cert_paths.specs.Pool.{Keeps}
use Rattle.cert_paths.proofs.PoolLaws.{keeps_same}
use Rattle.cert_paths.proofs.HeldLaws.{get_before, get_last}
use Rattle.cert_paths.proofs.Numbers.{get_map, at_some}
use Rattle.existence_times.specs.declared.rows.StampRow.{StampRow}
use Rattle.existence_times.specs.declared.rows.TokenRow.{TokenRow}
use Rattle.existence_times.specs.Kept.{number_of, shown_token, shown_stamp, row_stamp, bytes_in, bytes_at, IsStampKept, IsKept, HasBytes, HasNumber, with_token, with_stamp}
use Rattle.existence_times.specs.Shown.{Shown, ShownToken, HasToken, HasSignerOf, KeepsCase, stamp_of, AreEarliestOf}
use Rattle.existence_times.proofs.CaseLaws.{shown_of, stamp_shown, token_row, keeps_before, kept_token, token_shown, kept_stamp}

-- a token of the case, and one that it hasn't
pub has_row : (pool : List Part) (references : ℕ) (tokens : List TokenRow) (stamps : List StampRow) (k : ℕ) (row : TokenRow) (bytes : List ℕ) →
    slice_get tokens k ≡ Some row → HasBytes bytes (slice_get tokens k) → HasToken (shown_of pool references tokens stamps) row.object.number bytes
has_row pool references tokens stamps k row bytes at has =
    let same : row.bytes.items ≡ bytes = subst (HasBytes bytes) at has in
    (k, get_map shown_token tokens k row at ∙ ap (λ (b : List ℕ). let s : ShownToken = record { number = row.object.number; bytes = b } in Some s) same)

pub has_last : (pool : List Part) (references : ℕ) (tokens : List TokenRow) (stamps : List StampRow) (row : TokenRow) (bytes : List ℕ) →
    row.bytes.items ≡ bytes → HasToken (shown_of pool references (tokens ++ row ∷ []) stamps) row.object.number bytes
has_last pool references tokens stamps row bytes same =
    let at = get_last tokens row (length tokens) refl in
    has_row pool references (tokens ++ row ∷ []) stamps (length tokens) row bytes at (subst (HasBytes bytes) (sym at) same)

pub has_not : (pool : List Part) (references : ℕ) (tokens : List TokenRow) (stamps : List StampRow) (n : ℕ) (bytes : List ℕ) →
    ((k : ℕ) → k < length tokens → HasBytes bytes (slice_get tokens k) → ⊥) → HasToken (shown_of pool references tokens stamps) n bytes → ⊥
has_not pool references tokens stamps n bytes none (k, at) =
    let (row, at_row, number, same) = token_row tokens k n bytes at in
    none k (slice_get_within tokens k row at_row) (subst (HasBytes bytes) (sym at_row) same)

pub no_object : (pool : List Part) (references : ℕ) (tokens : List TokenRow) (stamps : List StampRow) (n : ℕ) (bytes : List ℕ) →
    ((k : ℕ) → k < length tokens → HasNumber n (slice_get tokens k) → ⊥) → HasToken (shown_of pool references tokens stamps) n bytes → ⊥
no_object pool references tokens stamps n bytes none (k, at) =
    let (row, at_row, number, same) = token_row tokens k n bytes at in
    none k (slice_get_within tokens k row at_row) (subst (HasNumber n) (sym at_row) number)

-- a stamp of a token that is there
pub same_bytes : (pool : List Part) (references : ℕ) (tokens : List TokenRow) (stamps : List StampRow) (k n : ℕ) (bytes : List ℕ) → IsKept pool references tokens stamps →
    k < length tokens → HasNumber n (slice_get tokens k) → HasToken (shown_of pool references tokens stamps) n bytes → bytes_at tokens k ≡ bytes
same_bytes pool references tokens stamps k n bytes h lt has (j, at) =
    let (row, at_row, number, same) = token_row tokens j n bytes at in
    let (found, at_k) = at_some tokens k lt in
    let is : found.object.number ≡ n = subst (HasNumber n) at_k has in
    let e : k ≡ j = h.apart k j found row at_k at_row (is ∙ sym number) in
    ap (bytes_at tokens) e ∙ ap bytes_in at_row ∙ same

pub stamp_kept : (pool : List Part) (references : ℕ) (tokens : List TokenRow) (stamps : List StampRow) (row : StampRow) (bytes : List ℕ) → IsKept pool references tokens stamps →
    row.token < length tokens → HasNumber row.object.number (slice_get tokens row.token) → bytes_at tokens row.token ≡ bytes →
    All (λ y. y < length pool) (map number_of row.covers.items) → HasSignerOf pool (token_of bytes) → IsStampKept pool tokens row
stamp_kept pool references tokens stamps row bytes h lt has same covers signer =
    let (found, at) = at_some tokens row.token lt in
    let is : found.object.number ≡ row.object.number = subst (HasNumber row.object.number) at has in
    let whole : bytes_at tokens row.token ≡ found.bytes.items = ap bytes_in at in
    record {
      there = lt;
      whole = subst (IsObject layout.token) (sym whole) (h.whole row.token found at);
      within = subst (λ n. n < length pool) is (h.within row.token found at);
      covers = covers;
      signer = subst (λ (b : List ℕ). HasSignerOf pool (token_of b)) (sym same) signer;
    }

pub one_stamp : (pool : List Part) (references : ℕ) (tokens : List TokenRow) (stamps : List StampRow) (row : StampRow) (bytes : List ℕ) (covers : List ℕ) (case : Shown) →
    bytes_at tokens row.token ≡ bytes → map number_of row.covers.items ≡ covers → shown_of pool references tokens stamps ≡ case →
    shown_of pool references tokens (stamps ++ row ∷ []) ≡ with_stamp case (record { object = row.object.number; token = bytes; sound = row.sound; covers = covers })
one_stamp pool references tokens stamps row bytes covers case same over is =
    stamp_shown pool references tokens stamps row
    ∙ ap (λ (b : List ℕ). with_stamp (shown_of pool references tokens stamps) (record { object = row.object.number; token = b; sound = row.sound; covers = map number_of row.covers.items })) same
    ∙ ap (λ (l : List ℕ). with_stamp (shown_of pool references tokens stamps) (record { object = row.object.number; token = bytes; sound = row.sound; covers = l })) over
    ∙ ap (λ (s : Shown). with_stamp s (record { object = row.object.number; token = bytes; sound = row.sound; covers = covers })) is

-- the stamps of a case are those of its rows
stamps_are : (tokens : List TokenRow) (rows : List StampRow) → map (row_stamp tokens) rows ≡ map stamp_of (map (shown_stamp tokens) rows)
stamps_are tokens [] = refl
stamps_are tokens (row ∷ rows) = ap (λ (ss : List (Stamp Token)). row_stamp tokens row ∷ ss) (stamps_are tokens rows)

pub are_earliest : (pool : List Part) (references : ℕ) (tokens : List TokenRow) (rows : List StampRow) (case : Shown) (policy : Rules) (now : ℤ) (times : List ℤ) →
    shown_of pool references tokens rows ≡ case →
    IsEarliest (IsTokenAccepted pool policy) (proof_time policy) (map (row_stamp tokens) rows) (length pool) now times → AreEarliestOf policy case now times
are_earliest pool references tokens rows case policy now times is h =
    subst (λ (s : Shown). AreEarliestOf policy s now times) is
    (subst (λ (ss : List (Stamp Token)). IsEarliest (IsTokenAccepted pool policy) (proof_time policy) ss (length pool) now times) (stamps_are tokens rows) h)

-- what stays
pub case_same : (case : Shown) → KeepsCase case case
case_same case = record { pool = keeps_same case.pool; references = refl; tokens = λ n bytes has. has; stamps = refl }

pub part_keeps : (pool grown : List Part) (references : ℕ) (tokens : List TokenRow) (stamps : List StampRow) (case : Shown) → shown_of pool references tokens stamps ≡ case → Keeps pool grown →
    KeepsCase case (shown_of grown references tokens stamps)
part_keeps pool grown references tokens stamps case is keeps =
    let same : KeepsCase (shown_of pool references tokens stamps) (shown_of grown references tokens stamps) = record { pool = keeps; references = refl; tokens = λ n bytes has. has; stamps = refl } in
    subst (λ (s : Shown). KeepsCase s (shown_of grown references tokens stamps)) is same

token_keeps_case : (case : Shown) (bytes : List ℕ) → KeepsCase case (with_token case bytes)
token_keeps_case case bytes = record {
  pool = keeps_before case.pool other;
  references = refl;
  tokens = λ n b has. (has.0, get_before case.tokens (record { number = length case.pool; bytes = bytes }) has.0 (slice_get_within case.tokens has.0 (record { number = n; bytes = b }) has.1) ∙ has.1);
  stamps = refl;
}

-- what the search among the tokens found
pub found_token : (pool : List Part) (references : ℕ) (tokens : List TokenRow) (stamps : List StampRow) (rows : List TokenRow) (case : Shown) (k : ℕ) (row : TokenRow) (bytes : List ℕ) →
    rows ≡ tokens → shown_of pool references tokens stamps ≡ case → (k < length rows) × HasBytes bytes (slice_get rows k) → row ≡ get_or tokens k row →
    HasToken case row.object.number bytes
found_token pool references tokens stamps rows case k row bytes all is (lt, has) read =
    let within : k < length tokens = subst (λ (ts : List TokenRow). k < length ts) all lt in
    let same : HasBytes bytes (slice_get tokens k) = subst (λ (ts : List TokenRow). HasBytes bytes (slice_get ts k)) all has in
    subst (λ (s : Shown). HasToken s row.object.number bytes) is
    (has_row pool references tokens stamps k row bytes (slice_get_read tokens (length tokens) k row refl within read) same)

pub found_within : (pool : List Part) (references : ℕ) (tokens : List TokenRow) (stamps : List StampRow) (rows : List TokenRow) (case : Shown) (k : ℕ) (row : TokenRow) →
    IsKept pool references tokens stamps → rows ≡ tokens → shown_of pool references tokens stamps ≡ case → k < length rows → row ≡ get_or tokens k row → row.object.number < length case.pool
found_within pool references tokens stamps rows case k row kept all is lt read =
    let within : k < length tokens = subst (λ (ts : List TokenRow). k < length ts) all lt in
    subst (λ (s : Shown). row.object.number < length s.pool) is (kept.within k row (slice_get_read tokens (length tokens) k row refl within read))

pub fresh_token : (pool : List Part) (references : ℕ) (tokens : List TokenRow) (stamps : List StampRow) (rows : List TokenRow) (case : Shown) (n : ℕ) (bytes : List ℕ) →
    rows ≡ tokens → shown_of pool references tokens stamps ≡ case → ((k : ℕ) → k < length rows → HasBytes bytes (slice_get rows k) → ⊥) → HasToken case n bytes → ⊥
fresh_token pool references tokens stamps rows case n bytes all is none has =
    has_not pool references tokens stamps n bytes
    (subst (λ (ts : List TokenRow). (k : ℕ) → k < length ts → HasBytes bytes (slice_get ts k) → ⊥) all none)
    (subst (λ (s : Shown). HasToken s n bytes) (sym is) has)

pub no_row : (pool : List Part) (references : ℕ) (tokens : List TokenRow) (stamps : List StampRow) (rows : List TokenRow) (case : Shown) (n : ℕ) (bytes : List ℕ) →
    rows ≡ tokens → shown_of pool references tokens stamps ≡ case → ((k : ℕ) → k < length rows → HasNumber n (slice_get rows k) → ⊥) → HasToken case n bytes → ⊥
no_row pool references tokens stamps rows case n bytes all is none has =
    no_object pool references tokens stamps n bytes
    (subst (λ (ts : List TokenRow). (k : ℕ) → k < length ts → HasNumber n (slice_get ts k) → ⊥) all none)
    (subst (λ (s : Shown). HasToken s n bytes) (sym is) has)

-- a token more
module _ (pool : List Part) (references : ℕ) (tokens : List TokenRow) (stamps : List StampRow) (grown : List Part) (before after : List TokenRow) (t : TokenRow) (bytes : List ℕ)
    (kept : IsKept pool references tokens stamps) (one : grown ≡ pool ++ other ∷ []) (as_before : before ≡ tokens) (put : after ≡ before ++ t ∷ [])
    (number : t.object.number ≡ length pool) (same : t.bytes.items ≡ bytes) where
  longer : after ≡ tokens ++ t ∷ []
  longer = put ∙ ap (λ (ts : List TokenRow). ts ++ t ∷ []) as_before

  pub token_added : IsObject layout.token bytes → IsKept grown references after stamps
  token_added whole =
      subst (λ (p : List Part). IsKept p references after stamps) (sym one)
      (subst (λ (ts : List TokenRow). IsKept (pool ++ other ∷ []) references ts stamps) (sym longer)
      (kept_token pool references tokens stamps t kept number (subst (IsObject layout.token) (sym same) whole)))

  pub token_seen : (case : Shown) → shown_of pool references tokens stamps ≡ case → shown_of grown references after stamps ≡ with_token case bytes
  token_seen case is =
      ap (λ (p : List Part). shown_of p references after stamps) one
      ∙ ap (λ (ts : List TokenRow). shown_of (pool ++ other ∷ []) references ts stamps) longer
      ∙ token_shown pool references tokens stamps t bytes kept number same
      ∙ ap (λ (s : Shown). with_token s bytes) is

  pub token_there : HasToken (shown_of grown references after stamps) t.object.number bytes
  token_there =
      subst (λ (ts : List TokenRow). HasToken (shown_of grown references ts stamps) t.object.number bytes) (sym longer)
      (has_last grown references tokens stamps t bytes same)

  pub token_keeps : (case : Shown) → shown_of pool references tokens stamps ≡ case → KeepsCase case (shown_of grown references after stamps)
  token_keeps case is = subst (λ (s : Shown). KeepsCase case s) (sym (token_seen case is)) (token_keeps_case case bytes)

  pub token_within : t.object.number < length grown
  token_within =
      let long : length grown ≡ length pool + 1 = ap length one ∙ length-append pool (other ∷ []) in
      let n = number in
      omega (arith, long, n)

-- a stamp more
module _ (pool : List Part) (references : ℕ) (tokens : List TokenRow) (stamps : List StampRow) (rows : List TokenRow) (after : List StampRow) (row : StampRow) (covers : List ObjectId) (case : Shown)
    (kept : IsKept pool references tokens stamps) (is : shown_of pool references tokens stamps ≡ case) (all : rows ≡ tokens)
    (found : (row.token < length rows) × HasNumber row.object.number (slice_get rows row.token)) (over : row.covers.items ≡ covers) (put : after ≡ stamps ++ row ∷ []) where
  here : (row.token < length tokens) × HasNumber row.object.number (slice_get tokens row.token)
  here = subst (λ (ts : List TokenRow). (row.token < length ts) × HasNumber row.object.number (slice_get ts row.token)) all found

  bytes_are : (bytes : List ℕ) → HasToken case row.object.number bytes → bytes_at tokens row.token ≡ bytes
  bytes_are bytes has =
      same_bytes pool references tokens stamps row.token row.object.number bytes kept here.0 here.1 (subst (λ (s : Shown). HasToken s row.object.number bytes) (sym is) has)

  pub stamp_added : All (λ y. y < length case.pool) (map number_of covers) → ((bytes : List ℕ) × HasToken case row.object.number bytes × HasSignerOf case.pool (token_of bytes)) →
      IsKept pool references tokens after
  stamp_added within (bytes, has, signer) =
      let covered : All (λ y. y < length pool) (map number_of row.covers.items) =
      subst (λ (l : List ObjectId). All (λ y. y < length pool) (map number_of l)) (sym over) (subst (λ (s : Shown). All (λ y. y < length s.pool) (map number_of covers)) (sym is) within) in
      let signed : HasSignerOf pool (token_of bytes) = subst (λ (s : Shown). HasSignerOf s.pool (token_of bytes)) (sym is) signer in
      subst (λ (ss : List StampRow). IsKept pool references tokens ss) (sym put)
      (kept_stamp pool references tokens stamps row kept (stamp_kept pool references tokens stamps row bytes kept here.0 here.1 (bytes_are bytes has) covered signed))

  pub stamp_seen : (bytes : List ℕ) → HasToken case row.object.number bytes →
      shown_of pool references tokens after ≡ with_stamp case (record { object = row.object.number; token = bytes; sound = row.sound; covers = map number_of covers })
  stamp_seen bytes has =
      ap (λ (ss : List StampRow). shown_of pool references tokens ss) put
      ∙ one_stamp pool references tokens stamps row bytes (map number_of covers) case (bytes_are bytes has) (ap (map number_of) over) is

-- the rounds over a case
module _ (origin : Origin) (policy : Rules) (pool : List Part) (references : ℕ) (tokens : List TokenRow) (stamps : List StampRow) (rows : List TokenRow) (stamp_rows : List StampRow)
    (from : origin ≡ record { pool = pool; policy = policy }) (all : rows ≡ tokens) (each : stamp_rows ≡ stamps) where
  pub stamps_kept : IsKept pool references tokens stamps → (k : ℕ) (row : StampRow) → slice_get stamp_rows k ≡ Some row → IsStampKept origin.pool rows row
  stamps_kept kept k row at =
      subst (λ (o : Origin). IsStampKept o.pool rows row) (sym from)
      (subst (λ (ts : List TokenRow). IsStampKept pool ts row) (sym all) (kept.each k row (ap (λ (l : List StampRow). slice_get l k) (sym each) ∙ at)))

  pub settled : (case : Shown) (then now : ℤ) (times : List ℤ) → shown_of pool references tokens stamps ≡ case → then ≡ now →
      IsEarliest (IsTokenAccepted origin.pool origin.policy) (proof_time origin.policy) (map (row_stamp rows) stamp_rows) (length origin.pool) then times →
      AreEarliestOf policy case now times
  settled case then now times is same h =
      let O : Origin → Type 0 = λ o. IsEarliest (IsTokenAccepted o.pool o.policy) (proof_time o.policy) (map (row_stamp rows) stamp_rows) (length o.pool) then times in
      let R : List TokenRow → Type 0 = λ ts. IsEarliest (IsTokenAccepted pool policy) (proof_time policy) (map (row_stamp ts) stamp_rows) (length pool) then times in
      let S : List StampRow → Type 0 = λ ss. IsEarliest (IsTokenAccepted pool policy) (proof_time policy) (map (row_stamp tokens) ss) (length pool) then times in
      let N : ℤ → Type 0 = λ z. IsEarliest (IsTokenAccepted pool policy) (proof_time policy) (map (row_stamp tokens) stamps) (length pool) z times in
      are_earliest pool references tokens stamps case policy now times is (subst N same (subst S each (subst R all (subst O from h))))
