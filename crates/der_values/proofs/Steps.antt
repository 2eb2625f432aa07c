-- The elements of a content by the first one.
use Rattle.std.proofs.Common.{◌≡◌, ℕ, zero, suc, ◌+◌, ◌≤◌, Bool, true, false, cond, List, [], ◌∷◌, length, take, drop, Option, Some, None, refl, ap, arith, length-drop}
use Rattle.std.specs.Prelude.{◌==◌, bit_and, nat_lt}
use Rattle.std.specs.Option.{option_map_or}
use Rattle.std.proofs.lemmas.List.{length-take}
use Rattle.der_values.specs.Element.{Element, element_at, sized, size_at}
use Rattle.der_values.specs.Elements.{elements, elements_up_to}

-- a condition that gave a value
pub cond_some : {A : Type 0} (b : Bool) (o : Option A) (x : A) → cond b None o ≡ Some x → o ≡ Some x
cond_some true o x e = absurd cc
cond_some false o x e = e

sized_whole : (tag : ℕ) (bytes : List ℕ) (size : Option (ℕ × ℕ)) (e : Element) → sized tag bytes size ≡ Some e → 1 ≤ length e.whole
sized_whole tag bytes None e is = absurd cc
sized_whole tag bytes (Some s) e is =
    let k = cond_some (nat_lt (length bytes) (s.1 + s.0)) _ e is in
    let w : take (1 + s.1 + s.0) (tag ∷ bytes) ≡ e.whole = cc in
    rw (← w) (omega (arith, length-take (1 + s.1 + s.0) (tag ∷ bytes)))

pub not_empty : (bytes : List ℕ) (e : Element) → element_at bytes ≡ Some e → 1 ≤ length e.whole
unfolding element_at
not_empty [] e is = absurd cc
not_empty (tag ∷ bytes) e is = sized_whole tag bytes (size_at bytes) e (cond_some (bit_and tag 31 == 31) _ e is)

pub none_in_nothing : element_at [] ≡ None
unfolding element_at
none_in_nothing = refl

-- more turns than bytes make no difference
pub turns : (n m : ℕ) (bytes : List ℕ) → length bytes ≤ n → length bytes ≤ m → elements_up_to n bytes ≡ elements_up_to m bytes
unfolding elements_up_to
turns zero zero bytes n_le m_le = refl
turns zero (suc m) [] n_le m_le = rw none_in_nothing refl
turns zero (suc m) (b ∷ bytes) n_le m_le = absurd (omega arith)
turns (suc n) zero [] n_le m_le = rw none_in_nothing refl
turns (suc n) zero (b ∷ bytes) n_le m_le = absurd (omega arith)
turns (suc n) (suc m) bytes n_le m_le =
    elim (element_at bytes) as (λ o. element_at bytes ≡ o → option_map_or (λ e. e ∷ elements_up_to n (drop (length e.whole) bytes)) o [] ≡ option_map_or (λ e. e ∷ elements_up_to m (drop (length e.whole) bytes)) o []) [
      | None ↦ λ is. refl
      | Some e ↦ λ is.
          let len = length-drop (length e.whole) bytes in
          let some = not_empty bytes e is in
          ap (λ (es : List Element). e ∷ es) (turns n m (drop (length e.whole) bytes) (omega arith) (omega arith))
    ] refl

pub elements_step : (bytes : List ℕ) (e : Element) → element_at bytes ≡ Some e → elements bytes ≡ e ∷ elements (drop (length e.whole) bytes)
unfolding elements_up_to
elements_step [] e is = let n = none_in_nothing in absurd cc
elements_step (b ∷ bytes) e is =
    let len = length-drop (length e.whole) (b ∷ bytes) in
    let some = not_empty (b ∷ bytes) e is in
    rw is (ap (λ (es : List Element). e ∷ es) (turns (length bytes) (length (drop (length e.whole) (b ∷ bytes))) (drop (length e.whole) (b ∷ bytes)) (omega arith) (omega arith)))

pub elements_none : (bytes : List ℕ) → element_at bytes ≡ None → elements bytes ≡ []
unfolding elements_up_to
elements_none [] is = refl
elements_none (b ∷ bytes) is = rw is refl

pub elements_nil : elements [] ≡ []
unfolding elements_up_to
elements_nil = refl
