-- Characters that are escaped in a text are escaped in its bytes.
use Rattle.std.proofs.Common.{◌≡◌, ℕ, suc, ◌<◌, ◌≤◌, true, false, cond, List, [], ◌∷◌, ◌++◌, refl, sym, ◌∙◌, ap, arith, inl, inr, nat_eq, nat_lt, codes, append_assoc}
use Rattle.std.proofs.lemmas.Bool.{ne_eqb, cases_lt}
use Rattle.std.proofs.lemmas.Bool.Decides.{leb_tells}
use Rattle.std.proofs.lemmas.List.{append-nil}
use Rattle.std.proofs.lemmas.Grind.{flat_map-append}
use Rattle.std.proofs.lemmas.Str.{encode_ascii, encodes-append, encodes-chars}
use Rattle.std.proofs.Math.Utf8.{encode, encodes}
use Rattle.std.specs.Prelude.{flat_map}
use Rattle.std.specs.Str.{chars, IsUtf8}
use Rattle.document_model.specs.Canonical.{text_character, value_character}
use Rattle.document_model.proofs.Joins.{by_test}
use Rattle.canon_texts.specs.declared.places.Place.{Place}
use Rattle.canon_texts.specs.declared.places.Place.TheVariants.{Text, Value, Markup}
use Rattle.canon_texts.specs.WrittenAt.{written_at}

-- what is written for a character is ASCII, or the character itself
record IsEscape (f : ℕ → List ℕ) : Type 0 where
  low : (c : ℕ) → c < 128 → encodes (f c) ≡ f c
  high : (c : ℕ) → 128 ≤ c → f c ≡ c ∷ []

-- bytes past ASCII
abbrev High : List ℕ → Type 0
High [] = Unit {0}
High (b ∷ bytes) = (128 ≤ b) × High bytes

high_bytes : (f : ℕ → List ℕ) → IsEscape f → (bytes : List ℕ) → High bytes → flat_map f bytes ≡ bytes
high_bytes f e [] h = refl
high_bytes f e (b ∷ bytes) h = ap (λ x. x ++ flat_map f bytes) (e.high b h.0) ∙ ap (λ x. b ∷ x) (high_bytes f e bytes h.1)

not_below : (c : ℕ) → 128 ≤ c → nat_lt c 128 ≡ true → ⊥
not_below c h e = elim (leb_tells (suc c) 128) [ inl t ↦ (let l = t.1 in omega (arith, l, h)) | inr t ↦ (let f : true ≡ false = sym e ∙ t.0 in (cc)) ]

high_encoded : (c : ℕ) → 128 ≤ c → High (encode c)
unfolding encode
high_encoded c h = by_test High (nat_lt c 128) _ _ (λ e. absurd (not_below c h e))
    (λ e. by_test High (nat_lt c 2048) _ _ (λ f. (omega arith, (omega arith, tt)))
    (λ f. by_test High (nat_lt c 65536) _ _ (λ g. (omega arith, (omega arith, (omega arith, tt)))) (λ g. (omega arith, (omega arith, (omega arith, (omega arith, tt)))))))

one_character : (f : ℕ → List ℕ) → IsEscape f → (c : ℕ) → encodes (f c) ≡ flat_map f (encode c)
one_character f e c = elim (cases_lt c 128) [
  | inl low ↦ e.low c low ∙ sym (ap (flat_map f) (encode_ascii c low) ∙ append-nil (f c))
  | inr high ↦ ap encodes (e.high c high) ∙ append-nil (encode c) ∙ sym (high_bytes f e (encode c) (high_encoded c high))
]

all_characters : (f : ℕ → List ℕ) → IsEscape f → (cs : List ℕ) → encodes (flat_map f cs) ≡ flat_map f (encodes cs)
all_characters f e [] = refl
all_characters f e (c ∷ cs) =
    encodes-append (f c) (flat_map f cs)
    ∙ ap (λ x. x ++ encodes (flat_map f cs)) (one_character f e c)
    ∙ ap (λ x. flat_map f (encode c) ++ x) (all_characters f e cs)
    ∙ sym (flat_map-append f (encode c) (encodes cs))

-- The three places.

other : (b c : ℕ) → 128 ≤ b → c < 128 → nat_eq b c ≡ false
other b c h l = ne_eqb b c (λ e. omega (arith, h, l, e))

high_in_text : (b : ℕ) → 128 ≤ b → text_character b ≡ b ∷ []
high_in_text b h =
    (λ i. cond (other b 0x26 h (omega arith) i) (codes "&amp;") (cond (other b 0x3C h (omega arith) i) (codes "&lt;") (cond (other b 0x3E h (omega arith) i) (codes "&gt;") (cond (other b 0xD h (omega arith) i) (codes "&#xD;") (b ∷ [])))))

high_in_value : (b : ℕ) → 128 ≤ b → value_character b ≡ b ∷ []
high_in_value b h =
    (λ i. cond (other b 0x26 h (omega arith) i) (codes "&amp;") (cond (other b 0x3C h (omega arith) i) (codes "&lt;") (cond (other b 0x22 h (omega arith) i) (codes "&quot;")
    (cond (other b 0x9 h (omega arith) i) (codes "&#x9;") (cond (other b 0xA h (omega arith) i) (codes "&#xA;") (cond (other b 0xD h (omega arith) i) (codes "&#xD;") (b ∷ [])))))))

itself : (c : ℕ) → c < 128 → encodes (c ∷ []) ≡ c ∷ []
itself c h = ap (λ x. x ++ []) (encode_ascii c h)

low_in_text : (c : ℕ) → c < 128 → encodes (text_character c) ≡ text_character c
unfolding encode
low_in_text c h =
    let P : List ℕ → Type 0 = λ xs. encodes xs ≡ xs in
    by_test P (nat_eq c 0x26) _ _ (λ e. refl)
    (λ e. by_test P (nat_eq c 0x3C) _ _ (λ e. refl)
    (λ e. by_test P (nat_eq c 0x3E) _ _ (λ e. refl)
    (λ e. by_test P (nat_eq c 0xD) _ _ (λ e. refl) (λ e. itself c h))))

low_in_value : (c : ℕ) → c < 128 → encodes (value_character c) ≡ value_character c
unfolding encode
low_in_value c h =
    let P : List ℕ → Type 0 = λ xs. encodes xs ≡ xs in
    by_test P (nat_eq c 0x26) _ _ (λ e. refl)
    (λ e. by_test P (nat_eq c 0x3C) _ _ (λ e. refl)
    (λ e. by_test P (nat_eq c 0x22) _ _ (λ e. refl)
    (λ e. by_test P (nat_eq c 0x9) _ _ (λ e. refl)
    (λ e. by_test P (nat_eq c 0xA) _ _ (λ e. refl)
    (λ e. by_test P (nat_eq c 0xD) _ _ (λ e. refl) (λ e. itself c h))))))

is_escape : (place : Place) → IsEscape (written_at place)
is_escape Text = record { low = low_in_text; high = high_in_text }
is_escape Value = record { low = low_in_value; high = high_in_value }
is_escape Markup = record { low = itself; high = λ c h. refl }

-- the octets of an escaped text are its bytes, escaped
pub escaped_bytes : (place : Place) (bytes : List ℕ) → IsUtf8 bytes → encodes (flat_map (written_at place) (chars bytes)) ≡ flat_map (written_at place) bytes
escaped_bytes place bytes h = all_characters (written_at place) (is_escape place) (chars bytes) ∙ ap (flat_map (written_at place)) (encodes-chars bytes h)

-- a part is written, and the rest is to be written
pub more_written : (f : ℕ → List ℕ) (before now all part rest start : List ℕ) → now ≡ before ++ encodes (flat_map f part) → all ≡ part ++ rest → before ++ encodes (flat_map f all) ≡ start
    → now ++ encodes (flat_map f rest) ≡ start
more_written f before now all part rest start n a e =
    ap (λ x. x ++ encodes (flat_map f rest)) n
    ∙ append_assoc before (encodes (flat_map f part)) (encodes (flat_map f rest))
    ∙ ap (λ x. before ++ x)
    (sym (encodes-append (flat_map f part) (flat_map f rest)) ∙ ap encodes (sym (flat_map-append f part rest)) ∙ ap (λ cs. encodes (flat_map f cs)) (sym a))
    ∙ e

-- where nothing is escaped, the characters are written
pub as_they_are : (cs : List ℕ) → flat_map (written_at Markup) cs ≡ cs
as_they_are [] = refl
as_they_are (c ∷ cs) = ap (λ x. c ∷ x) (as_they_are cs)
