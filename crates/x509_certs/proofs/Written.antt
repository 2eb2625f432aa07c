-- What `put_tlv` writes is an element.
use Rattle.std.proofs.Common.{◌≡◌, ◌≢◌, ℕ, suc, ◌+◌, ◌*◌, ◌^◌, ◌<◌, ◌≤◌, ◌⊎◌, inl, inr, true, false, cond, List, [], ◌∷◌, length, drop, refl, ◌∙◌, arith, w64}
use Rattle.std.specs.Prelude.{bit_and, nat_lt, ◌==◌}
use Rattle.std.specs.Int.{to_be_bytes, from_be_bytes}
use Rattle.std.proofs.lemmas.Nat.{from_be_bytes-to_be_bytes_8}
use Rattle.std.proofs.lemmas.List.{length-drop}
use Rattle.std.proofs.lemmas.Bool.{ltb-false, ltb-true, eqb-true}
use Rattle.xa_io.specs.Tlv.{tlv, length_octets, fewest_bytes, leading_zeros_of}
use Rattle.der_values.specs.Element.{number_of, number_from, first_is_zero}
use Rattle.der_values.specs.Fits.{IsElement, IsShortLength, IsLongLength}

-- the number of bytes, without the zeros in front
without_zeros : (bytes : List ℕ) → number_of (drop (leading_zeros_of bytes) bytes) ≡ number_of bytes
without_zeros [] = refl
without_zeros (byte ∷ bytes) =
    elim (byte == 0) as (λ b. byte == 0 ≡ b → number_of (drop (cond b (1 + leading_zeros_of bytes) 0) (byte ∷ bytes)) ≡ number_from (0 * 256 + byte) bytes) [
      | true ↦ λ q. let none = eqb-true byte 0 q in let more : 1 + leading_zeros_of bytes ≡ suc (leading_zeros_of bytes) = omega arith in rw (more, none) (without_zeros bytes)
      | false ↦ λ q. refl
    ] refl

-- what is left begins with no zero
begins_well : (bytes : List ℕ) → first_is_zero (drop (leading_zeros_of bytes) bytes) ≡ false
begins_well [] = refl
begins_well (byte ∷ bytes) =
    elim (byte == 0) as (λ b. byte == 0 ≡ b → first_is_zero (drop (cond b (1 + leading_zeros_of bytes) 0) (byte ∷ bytes)) ≡ false) [
      | true ↦ λ q. let more : 1 + leading_zeros_of bytes ≡ suc (leading_zeros_of bytes) = omega arith in rw more (begins_well bytes)
      | false ↦ λ q. q
    ] refl

eight : (a b c d e f g h : ℕ) → number_of (a ∷ b ∷ c ∷ d ∷ e ∷ f ∷ g ∷ h ∷ []) ≡ from_be_bytes w64 (a ∷ b ∷ c ∷ d ∷ e ∷ f ∷ g ∷ h ∷ [])
eight a b c d e f g h = omega arith

number_written : (n : ℕ) → n < 2 ^ 64 → number_of (fewest_bytes n) ≡ n
number_written n fits = without_zeros (to_be_bytes w64 n) ∙ eight _ _ _ _ _ _ _ _ ∙ from_be_bytes-to_be_bytes_8 n fits

some_digit : (n : ℕ) (digits : List ℕ) → number_of digits ≡ n → 128 ≤ n → 1 ≤ length digits
some_digit n [] is long = absurd (omega arith)
some_digit n (d ∷ ds) is long = omega arith

says_length : (n : ℕ) → n < 2 ^ 64 → IsShortLength (length_octets n) n ⊎ IsLongLength (length_octets n) n
unfolding length_octets
says_length n fits =
    elim (nat_lt n 128) as (λ b. nat_lt n 128 ≡ b → IsShortLength (cond b (n ∷ []) ((128 + length (fewest_bytes n)) ∷ fewest_bytes n)) n ⊎ IsLongLength (cond b (n ∷ []) ((128 + length (fewest_bytes n)) ∷ fewest_bytes n)) n) [
      | true ↦ λ q. inl (ltb-true n 128 q, refl)
      | false ↦ λ q. inr (record {
        digits = fewest_bytes n;
        spelled = refl;
        some = some_digit n (fewest_bytes n) (number_written n fits) (ltb-false n 128 q);
        most = omega (arith, length-drop (leading_zeros_of (to_be_bytes w64 n)) (to_be_bytes w64 n));
        minimal = begins_well (to_be_bytes w64 n);
        value = number_written n fits;
        long = ltb-false n 128 q;
      })
    ] refl

pub tlv-is_element : (tag : ℕ) (content : List ℕ) → length content < 2 ^ 64 → bit_and tag 31 ≢ 31 → IsElement (record { tag = tag; content = content; whole = tlv tag content })
unfolding tlv
tlv-is_element tag content fits one_byte = record {
  octets = length_octets (length content);
  spelled = refl;
  says = says_length (length content) fits;
  one_byte = one_byte;
}
