-- The first character of a text, and texts whose characters may stand in a document.
use Rattle.std.proofs.Common.{◌≡◌, ℕ, Bool, true, false, ◌&&◌, List, [], ◌∷◌, ◌++◌, length, Some, None, refl, ap, arith}
use Rattle.std.specs.Str.{IsUtf8, chars, is_utf8}
use Rattle.std.specs.List.{list_all}
use Rattle.std.specs.Char.{encode_utf8}
use Rattle.std.proofs.lemmas.Str.{chars-nil, chars_past_char, is_utf8-from_IsUtf8, IsUtf8-from_is_utf8}
use Rattle.document_model.specs.Characters.{characters, is_char, starts_name, continues_name}
use Rattle.document_model.specs.Names.{is_plain_name}
use Rattle.document_model.specs.Items.{behind_one}

module _ (p : ℕ → Bool) (rest : List ℕ) where
  pub behind_one_found : (next : List ℕ) (c : ℕ) → IsUtf8 rest → rest ≡ encode_utf8 c ++ next → p c ≡ true → behind_one p (chars rest) ≡ Some (c, chars next)
  behind_one_found next c u e h = rw (chars_past_char rest next c u e, h) refl

  pub behind_one_other : (next : List ℕ) (c : ℕ) → IsUtf8 rest → rest ≡ encode_utf8 c ++ next → p c ≡ false → behind_one p (chars rest) ≡ None
  behind_one_other next c u e h = rw (chars_past_char rest next c u e, h) refl

pub behind_one_end : (p : ℕ → Bool) (rest : List ℕ) → length rest ≡ 0 → behind_one p (chars rest) ≡ None
behind_one_end p [] e = rw chars-nil refl
behind_one_end p (x ∷ rest) e = absurd (omega arith)

pub characters_all : (bytes : List ℕ) → IsUtf8 bytes → list_all is_char (chars bytes) ≡ true → characters bytes ≡ Some (chars bytes)
characters_all bytes u h = rw (is_utf8-from_IsUtf8 bytes u, h) refl

pub characters_other : (bytes : List ℕ) → IsUtf8 bytes → list_all is_char (chars bytes) ≡ false → characters bytes ≡ None
characters_other bytes u h = rw (is_utf8-from_IsUtf8 bytes u, h) refl

pub characters_none : (bytes : List ℕ) → (IsUtf8 bytes → ⊥) → characters bytes ≡ None
characters_none bytes h = rw (not_text (is_utf8 bytes) refl) refl
  where
    not_text : (t : Bool) → is_utf8 bytes ≡ t → is_utf8 bytes ≡ false
    not_text true e = absurd (h (IsUtf8-from_is_utf8 bytes e))
    not_text false e = e

pub plain_name_of : (rest next : List ℕ) (c : ℕ) (b : Bool) → IsUtf8 rest → rest ≡ encode_utf8 c ++ next → b ≡ starts_name c → (b && list_all continues_name (chars next)) ≡ is_plain_name (chars rest)
plain_name_of rest next c b u e h = rw (chars_past_char rest next c u e) (ap (λ b. b && list_all continues_name (chars next)) h)
