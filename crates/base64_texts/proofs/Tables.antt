-- The table of the symbols, and its inverse.
use Rattle.std.proofs.Common.{◌≡◌, ℕ, zero, suc, ◌+◌, ◌/◌, ◌%◌, ◌<◌, ◌≤◌, Bool, true, false, Option, Some, None, List, [], ◌∷◌, ◌++◌, nat_eq, nat_le, nat_lt, ◌⊎◌, inl, inr, refl, sym, ◌∙◌, ap, subst, arith}
use Rattle.std.proofs.lemmas.Bool.{false≢true, cases_lt, eqb-true, ltb-true, ne_eqb}
use Rattle.std.proofs.lemmas.Bool.Decides.{leb_tells}
use Rattle.std.proofs.lemmas.Option.{none-some}
use Rattle.std.proofs.lemmas.List.{get_or_past}
use Rattle.std.proofs.lemmas.Str.{encode_ascii}
use Rattle.std.proofs.Math.Utf8.{encode, encodes, next}
use Rattle.std.specs.Prelude.{slice_index, ◌&&◌}
use Rattle.std.specs.Option.{option_map_or}
use Rattle.std.specs.List.{AllByRecursion}
use Rattle.base64.specs.Tables.{all_below}
use Rattle.base64.proofs.Tables.{all_below_at}
use Rattle.base64.specs.Engines.{standard}
use Rattle.document_model.proofs.Joins.{by_test}
use Rattle.base64_texts.specs.Symbols.{value_of}

abbrev pub symbols : List ℕ
symbols = standard.encode_table

abbrev pub values : List ℕ
values = standard.decode_table

-- The value of the symbol in a place is that place.

abbrev is_valued : ℕ → Bool
is_valued v = option_map_or (λ w. nat_eq w v) (value_of (slice_index symbols v)) false

all_valued : all_below is_valued 64 ≡ true
unfolding value_of
all_valued = refl

some_when : (o : Option ℕ) (v : ℕ) → option_map_or (λ w. nat_eq w v) o false ≡ true → o ≡ Some v
some_when None v e = absurd (false≢true e)
some_when (Some w) v e = ap (λ (n : ℕ). Some n) (eqb-true w v e)

pub value_in : (v : ℕ) → v < 64 → value_of (slice_index symbols v) ≡ Some v
value_in v h = some_when _ v (all_below_at is_valued 64 v all_valued h)

-- A character with a value stands in that place.

abbrev is_listed : ℕ → Bool
is_listed c = option_map_or (λ v. nat_lt v 64 && nat_eq (slice_index symbols v) c) (value_of c) true

all_listed : all_below is_listed 123 ≡ true
unfolding value_of
all_listed = refl

pub beyond : (a b : ℕ) → b < a → nat_le a b ≡ false
beyond a b h = elim (leb_tells a b) [ inl t ↦ (let l = t.1 in absurd (omega (arith, l, h))) | inr t ↦ t.0 ]

pub high_value : (c : ℕ) → 123 ≤ c → value_of c ≡ None
unfolding value_of
high_value c h = rw (beyond c 90 (omega arith), beyond c 122 (omega arith), beyond c 57 (omega arith), ne_eqb c 43 (λ e. omega arith), ne_eqb c 47 (λ e. omega arith)) refl

low_value : (c v : ℕ) → value_of c ≡ Some v → c < 123
low_value c v e = elim (cases_lt c 123) [ inl h ↦ h | inr h ↦ absurd (none-some v (sym (high_value c h) ∙ e)) ]

pub both : (a b : Bool) → (a && b) ≡ true → (a ≡ true) × (b ≡ true)
both true b e = (refl, e)
both false b e = absurd (false≢true e)

listed_when : (o : Option ℕ) (c v : ℕ) → o ≡ Some v → option_map_or (λ v. nat_lt v 64 && nat_eq (slice_index symbols v) c) o true ≡ true → (v < 64) × (slice_index symbols v ≡ c)
listed_when o c v is e =
    let t = both (nat_lt v 64) (nat_eq (slice_index symbols v) c) (subst (λ (x : Option ℕ). option_map_or (λ v. nat_lt v 64 && nat_eq (slice_index symbols v) c) x true ≡ true) is e) in
    (ltb-true v 64 t.0, eqb-true (slice_index symbols v) c t.1)

pub symbol_in : (c v : ℕ) → value_of c ≡ Some v → (v < 64) × (slice_index symbols v ≡ c)
symbol_in c v is = listed_when (value_of c) c v is (all_below_at is_listed 123 c all_listed (low_value c v is))

-- What the kit's table has a value for, and the padding.

abbrev pub Known : ℕ → Type 0
Known c = (c ≡ 61) ⊎ (slice_index values c ≡ 255 → ⊥)

pub known_place : (i : ℕ) → Known (slice_index symbols i) → i < 64
known_place i k = elim (cases_lt i 64) [
  | inl h ↦ h
  | inr h ↦
      let past : slice_index symbols i ≡ 0 = get_or_past symbols i 0 h in
      let zero_known : Known 0 = subst Known past k in
      elim zero_known [ inl e ↦ absurd (omega (arith, e)) | inr n ↦ absurd (n refl) ]
]

abbrev is_unlisted : ℕ → Bool
is_unlisted x = nat_eq (slice_index values (128 + x)) 255

all_unlisted : all_below is_unlisted 64 ≡ true
all_unlisted = refl

next_unknown : (x : ℕ) → Known (next x) → ⊥
next_unknown x k = elim k [
  | inl e ↦ omega (arith, e)
  | inr n ↦ n (eqb-true _ 255 (all_below_at is_unlisted 64 (x % 64) all_unlisted (omega arith)))
]

-- A character past ASCII has an unknown byte.
high_unknown : (c : ℕ) (rest : List ℕ) → 128 ≤ c → AllByRecursion Known (encode c ++ rest) → ⊥
unfolding encode
high_unknown c rest h = by_test (λ (e : List ℕ). AllByRecursion Known (e ++ rest) → ⊥) (nat_lt c 128) _ _
    (λ t k. let low : c < 128 = ltb-true c 128 t in omega (arith, low, h))
    (λ t. by_test (λ (e : List ℕ). AllByRecursion Known (e ++ rest) → ⊥) (nat_lt c 2048) _ _ (λ u k. next_unknown c k.1.0)
    (λ u. by_test (λ (e : List ℕ). AllByRecursion Known (e ++ rest) → ⊥) (nat_lt c 65536) _ _ (λ w k. next_unknown (c / 64) k.1.0) (λ w k. next_unknown (c / 4096) k.1.0)))

-- each character is ASCII
abbrev pub AreLow : List ℕ → Type 0
AreLow text = AllByRecursion (λ c. c < 128) text

pub low_text : (text : List ℕ) → AllByRecursion Known (encodes text) → AreLow text
low_text [] k = tt
low_text (c ∷ cs) k = elim (cases_lt c 128) [
  | inl low ↦ (low, low_text cs (subst (λ (e : List ℕ). AllByRecursion Known (e ++ encodes cs)) (encode_ascii c low) k).1)
  | inr high ↦ absurd (high_unknown c (encodes cs) high k)
]

pub low_encodes : (text : List ℕ) → AreLow text → encodes text ≡ text
low_encodes [] h = refl
low_encodes (c ∷ cs) h = ap (λ e. e ++ encodes cs) (encode_ascii c h.0) ∙ ap (λ x. c ∷ x) (low_encodes cs h.1)

pub low_bytes : (text : List ℕ) → AreLow text → (i : ℕ) → slice_index text i < 256
low_bytes [] h i = omega arith
low_bytes (c ∷ cs) h zero = omega (arith, h.0)
low_bytes (c ∷ cs) h (suc i) = low_bytes cs h.1 i
