-- The characters of a text that names a time stand for themselves.
use Rattle.std.proofs.Common.{◌≡◌, ℕ, Bool, true, false, ◌||◌, not, if◌then◌else◌, List, ◌∷◌, Some, refl, ap, ◌∙◌, arith, ℤ}
use Rattle.std.specs.Prelude.{slice_index}
use Rattle.std.specs.List.{list_all}
use Rattle.std.proofs.lemmas.Bool.{le-leb}
use Rattle.utc_times.specs.TimeText.{time_of}
use Rattle.document_model.specs.Characters.{is_empty, is_white}
use Rattle.insertion_fragments.specs.Fragment.{is_simple}
use Rattle.signature_model.specs.Spots.{without_white}
use Rattle.time_texts.proofs.TextsOfTimes.{IsDigit, names, values, whole}

digit_simple : (c : ℕ) → IsDigit c → is_simple c ≡ true
digit_simple c d = rw (le-leb 0x28 c (omega (arith, d)), le-leb c 0x3B (omega (arith, d))) (simple_by _ _)
  where
    simple_by : (a b : Bool) → (a || (b || true)) ≡ true
    simple_by true b = refl
    simple_by false true = refl
    simple_by false false = refl

-- its characters stand for themselves
pub time_simple : (t : List ℕ) (time : ℤ) → time_of t ≡ Some time → list_all is_simple t ≡ true
time_simple t time e =
    let s = (names t time e).shape in
    ap (list_all is_simple) (whole t s.size) ∙ rw (
      digit_simple _ s.c0,
      digit_simple _ s.c1,
      digit_simple _ s.c2,
      digit_simple _ s.c3,
      s.c4,
      digit_simple _ s.c5,
      digit_simple _ s.c6,
      s.c7,
      digit_simple _ s.c8,
      digit_simple _ s.c9,
      s.c10,
      digit_simple _ s.c11,
      digit_simple _ s.c12,
      s.c13,
      digit_simple _ s.c14,
      digit_simple _ s.c15,
      s.c16,
      digit_simple _ s.c17,
      digit_simple _ s.c18,
      s.c19,
    ) refl

kept_first : (b : Bool) (c : ℕ) (cs : List ℕ) → b ≡ true → is_empty (if b then c ∷ cs else cs) ≡ false
kept_first true c cs e = refl
kept_first false c cs e = cc

no_white : (c : ℕ) → IsDigit c → not (is_white c) ≡ true
no_white c d = grind arith

-- and they are not white space alone
pub time_stays : (t : List ℕ) (time : ℤ) → time_of t ≡ Some time → is_empty (without_white t) ≡ false
time_stays t time e =
    let s = (names t time e).shape in
    ap (λ cs. is_empty (without_white cs)) (whole t s.size) ∙ kept_first (not (is_white (slice_index t 0))) (slice_index t 0) (without_white (values 1 19 t)) (no_white (slice_index t 0) s.c0)
