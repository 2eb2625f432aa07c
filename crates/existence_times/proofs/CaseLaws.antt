-- What the calls on a case do to what it keeps and shows.
use Rattle.std.proofs.Common.{◌≡◌, ℕ, zero, suc, ◌+◌, ◌<◌, ◌≤◌, List, [], ◌∷◌, ◌++◌, length, map, replicate, slice_get, All, Some, arith, refl, sym, ap, subst, ◌∙◌, ⊎_elim, length-append}
use Rattle.std.proofs.lemmas.Option.{slice_get_within}
use Rattle.der_values.specs.Fits.{IsObject}
use Rattle.tst_tokens.specs.Layouts as layout
use Rattle.acceptance.specs.Certificates.{Part, other, certificate}
use Rattle.acceptance.specs.Objects.{token_of}
use Rattle.acceptance.specs.Tokens.{Token}
use Rattle.cert_paths.specs.Pool.{Keeps}
use Rattle.cert_paths.proofs.HeldLaws.{get_before, get_cases}
use Rattle.cert_paths.proofs.Numbers.{got_map}
use Rattle.existence_times.specs.declared.rows.StampRow.{StampRow}
use Rattle.existence_times.specs.declared.rows.TokenRow.{TokenRow}
use Rattle.existence_times.specs.Kept.{number_of, shown_token, shown_stamp, bytes_in, bytes_at, IsStampKept, IsKept, with_token, with_stamp}
use Rattle.existence_times.specs.Shown.{Shown, ShownToken, ShownStamp, HasSignerOf}

pub one_more : {A : Type 0} (n : ℕ) (x : A) → replicate (n + 1) x ≡ replicate n x ++ x ∷ []
one_more n x = let e : n + 1 ≡ suc n = omega arith in ap (λ k. replicate k x) e ∙ last n x
  where
    last : {A : Type 0} (n : ℕ) (x : A) → replicate (suc n) x ≡ replicate n x ++ x ∷ []
    last zero x = refl
    last (suc n) x = ap (λ xs. x ∷ xs) (last n x)

pub keeps_before : (pool : List Part) (p : Part) → Keeps pool (pool ++ p ∷ [])
keeps_before pool p = record {
  larger = let l = length-append pool (p ∷ []) in omega arith;
  kept = λ n q at. get_before pool p n (slice_get_within pool n q at) ∙ at;
}

signer_grown : (pool grown : List Part) (token : Token) → Keeps pool grown → HasSignerOf pool token → HasSignerOf grown token
signer_grown pool grown token keeps has whole is =
    let (m, there, same) = has whole is in (m, keeps.kept m.number (certificate m.certificate) there, same)

covers_grown : (m n : ℕ) (covers : List ℕ) → m ≤ n → All (λ y. y < m) covers → All (λ y. y < n) covers
covers_grown m n covers le all k d lt = let h = all k d lt in omega arith

stamp_grown : (pool grown : List Part) (tokens : List TokenRow) (row : StampRow) → Keeps pool grown → IsStampKept pool tokens row → IsStampKept grown tokens row
stamp_grown pool grown tokens row keeps h = record {
  there = h.there;
  whole = h.whole;
  within = let lt = h.within in let le = keeps.larger in omega arith;
  covers = covers_grown (length pool) (length grown) (map number_of row.covers.items) keeps.larger h.covers;
  signer = signer_grown pool grown (token_of (bytes_at tokens row.token)) keeps h.signer;
}

pub kept_grown : (pool grown : List Part) (references : ℕ) (tokens : List TokenRow) (stamps : List StampRow) → Keeps pool grown →
    IsKept pool references tokens stamps → IsKept grown references tokens stamps
kept_grown pool grown references tokens stamps keeps h = record {
  value = let lt = h.value in let le = keeps.larger in omega arith;
  within = λ k row at. let lt = h.within k row at in let le = keeps.larger in omega arith;
  whole = h.whole;
  apart = h.apart;
  each = λ k row at. stamp_grown pool grown tokens row keeps (h.each k row at);
}

-- one more token
bytes_before : (tokens : List TokenRow) (t : TokenRow) (k : ℕ) → k < length tokens → bytes_at (tokens ++ t ∷ []) k ≡ bytes_at tokens k
bytes_before tokens t k lt = ap bytes_in (get_before tokens t k lt)

stamp_more : (pool : List Part) (tokens : List TokenRow) (t : TokenRow) (row : StampRow) → IsStampKept pool tokens row → IsStampKept pool (tokens ++ t ∷ []) row
stamp_more pool tokens t row h =
    let same = bytes_before tokens t row.token h.there in
    record {
      there = let l = length-append tokens (t ∷ []) in let lt = h.there in omega arith;
      whole = subst (IsObject layout.token) (sym same) h.whole;
      within = h.within;
      covers = h.covers;
      signer = subst (λ (b : List ℕ). HasSignerOf pool (token_of b)) (sym same) h.signer;
    }

pub kept_token : (pool : List Part) (references : ℕ) (tokens : List TokenRow) (stamps : List StampRow) (t : TokenRow) → IsKept pool references tokens stamps →
    t.object.number ≡ length pool → IsObject layout.token t.bytes.items → IsKept (pool ++ other ∷ []) references (tokens ++ t ∷ []) stamps
kept_token pool references tokens stamps t h is whole =
    let grown = kept_grown pool (pool ++ other ∷ []) references tokens stamps (keeps_before pool other) h in
    let long = length-append pool (other ∷ []) in
    record {
      value = grown.value;
      within = λ k row at. ⊎_elim (λ old. grown.within k row old) (λ q. let e = ap (λ (x : TokenRow). x.object.number) q.1 in omega arith) (get_cases tokens t row k at);
      whole = λ k row at. ⊎_elim (λ old. h.whole k row old) (λ q. subst (λ (x : TokenRow). IsObject layout.token x.bytes.items) (sym q.1) whole) (get_cases tokens t row k at);
      apart = λ j k d e at_j at_k same.
          ⊎_elim
          (λ old_j. ⊎_elim
          (λ old_k. h.apart j k d e old_j old_k same)
          (λ new_k. let lt = h.within j d old_j in let q = ap (λ (x : TokenRow). x.object.number) new_k.1 in absurd (omega arith))
          (get_cases tokens t e k at_k))
          (λ new_j. ⊎_elim
          (λ old_k. let lt = h.within k e old_k in let q = ap (λ (x : TokenRow). x.object.number) new_j.1 in absurd (omega arith))
          (λ new_k. new_j.0 ∙ sym new_k.0)
          (get_cases tokens t e k at_k))
          (get_cases tokens t d j at_j);
      each = λ k row at. stamp_more (pool ++ other ∷ []) tokens t row (grown.each k row at);
    }

map_last : {A B : Type 0} (f : A → B) (xs : List A) (x : A) → map f (xs ++ x ∷ []) ≡ map f xs ++ f x ∷ []
map_last f [] x = refl
map_last f (y ∷ xs) x = ap (λ zs. f y ∷ zs) (map_last f xs x)

same_shown : (tokens : List TokenRow) (t : TokenRow) (row : StampRow) → row.token < length tokens → shown_stamp (tokens ++ t ∷ []) row ≡ shown_stamp tokens row
same_shown tokens t row lt =
    ap (λ (b : List ℕ). let s : ShownStamp = record { object = row.object.number; token = b; sound = row.sound; covers = map number_of row.covers.items } in s) (bytes_before tokens t row.token lt)

stamps_shown : (tokens : List TokenRow) (t : TokenRow) (stamps : List StampRow) → ((k : ℕ) (row : StampRow) → slice_get stamps k ≡ Some row → row.token < length tokens) →
    map (shown_stamp (tokens ++ t ∷ [])) stamps ≡ map (shown_stamp tokens) stamps
stamps_shown tokens t [] each = refl
stamps_shown tokens t (row ∷ stamps) each =
    ap (λ (s : ShownStamp). s ∷ map (shown_stamp (tokens ++ t ∷ [])) stamps) (same_shown tokens t row (each 0 row refl))
    ∙ ap (λ (ss : List ShownStamp). shown_stamp tokens row ∷ ss) (stamps_shown tokens t stamps (λ k r at. each (suc k) r at))

abbrev pub shown_of : List Part → ℕ → List TokenRow → List StampRow → Shown
shown_of pool references tokens stamps =
    record { pool = pool; references = references; tokens = map shown_token tokens; stamps = map (shown_stamp tokens) stamps }

pub token_shown : (pool : List Part) (references : ℕ) (tokens : List TokenRow) (stamps : List StampRow) (t : TokenRow) (bytes : List ℕ) → IsKept pool references tokens stamps →
    t.object.number ≡ length pool → t.bytes.items ≡ bytes →
    shown_of (pool ++ other ∷ []) references (tokens ++ t ∷ []) stamps ≡ with_token (shown_of pool references tokens stamps) bytes
token_shown pool references tokens stamps t bytes h is same =
    let last : map shown_token (tokens ++ t ∷ []) ≡ map shown_token tokens ++ record { number = length pool; bytes = bytes } ∷ [] =
    map_last shown_token tokens t
    ∙ ap (λ n. map shown_token tokens ++ (let s : ShownToken = record { number = n; bytes = t.bytes.items } in s) ∷ []) is
    ∙ ap (λ (b : List ℕ). map shown_token tokens ++ (let s : ShownToken = record { number = length pool; bytes = b } in s) ∷ []) same in
    ap (λ (ts : List ShownToken). let s : Shown = record { pool = pool ++ other ∷ []; references = references; tokens = ts; stamps = map (shown_stamp (tokens ++ t ∷ [])) stamps } in s) last
    ∙ ap (λ (ss : List ShownStamp). let s : Shown = record {
      pool = pool ++ other ∷ [];
      references = references;
      tokens = map shown_token tokens ++ record { number = length pool; bytes = bytes } ∷ [];
      stamps = ss;
    } in s) (stamps_shown tokens t stamps (λ k row at. (h.each k row at).there))

-- one more stamp
pub kept_stamp : (pool : List Part) (references : ℕ) (tokens : List TokenRow) (stamps : List StampRow) (row : StampRow) → IsKept pool references tokens stamps → IsStampKept pool tokens row →
    IsKept pool references tokens (stamps ++ row ∷ [])
kept_stamp pool references tokens stamps row h ok = record {
  value = h.value;
  within = h.within;
  whole = h.whole;
  apart = h.apart;
  each = λ k r at. ⊎_elim (λ old. h.each k r old) (λ q. subst (IsStampKept pool tokens) (sym q.1) ok) (get_cases stamps row r k at);
}

pub stamp_shown : (pool : List Part) (references : ℕ) (tokens : List TokenRow) (stamps : List StampRow) (row : StampRow) →
    shown_of pool references tokens (stamps ++ row ∷ []) ≡ with_stamp (shown_of pool references tokens stamps) (shown_stamp tokens row)
stamp_shown pool references tokens stamps row =
    ap (λ (ss : List ShownStamp). let s : Shown = record { pool = pool; references = references; tokens = map shown_token tokens; stamps = ss } in s) (map_last (shown_stamp tokens) stamps row)

-- a token that the case shows has a row
pub token_row : (tokens : List TokenRow) (k n : ℕ) (bytes : List ℕ) → slice_get (map shown_token tokens) k ≡ Some (record { number = n; bytes = bytes }) →
    (row : TokenRow) × (slice_get tokens k ≡ Some row) × (row.object.number ≡ n) × (row.bytes.items ≡ bytes)
token_row tokens k n bytes at =
    let (row, at_row, is) = got_map shown_token tokens k (record { number = n; bytes = bytes }) at in
    (row, at_row, ap (λ (s : ShownToken). s.number) is, ap (λ (s : ShownToken). s.bytes) is)
