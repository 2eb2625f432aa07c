-- Properties by their numbers.
use Rattle.std.proofs.Common.{◌≡◌, ℕ, zero, suc, ◌+◌, ◌<◌, List, [], ◌∷◌, ◌++◌, drop, length, slice_get, Option, Some, None, refl, sym, ap, ◌∙◌, subst, arith}
use Rattle.std.specs.Prelude.{flat_map, option_and_then, IfSome}
use Rattle.std.proofs.lemmas.List.{at_drop_more}
use Rattle.std.proofs.lemmas.List.Elements.{All-get_or}
use Rattle.std.proofs.lemmas.Option.{get_or_from_slice_get, slice_get_within}
use Rattle.der_values.specs.Fits.{IsObject}
use Rattle.signature_model.specs.Parts.{Token}
use Rattle.tst_tokens.specs.Layouts as tokens
use Rattle.qualifying_props.specs.Shown.{Shown, ShownProperty, token_at}
use Rattle.qualifying_props.specs.Whole.{IsWhole}
use Rattle.qualifying_props.specs.Wholes.{AreWhole, HoldsWhole}
use Rattle.signature_objects.specs.Met.{bytes_in}
use Rattle.signature_objects.proofs.Whole.{token_is}

-- the token of a property is whole
pub token_at_is : (parts : Shown) (number : ℕ) (token : List ℕ) → AreWhole parts → Some token ≡ token_at parts number → IsObject tokens.token token
token_at_is parts number token whole e = by_property (slice_get parts.properties number) refl e
  where
    by_property : (o : Option ShownProperty) → slice_get parts.properties number ≡ o → Some token ≡ option_and_then (λ property. property.token) o → IsObject tokens.token token
    by_property None at f = absurd cc
    by_property (Some property) at f =
        let within = slice_get_within parts.properties number property at in
        let holds : HoldsWhole property = subst HoldsWhole (get_or_from_slice_get parts.properties number property property at) (All-get_or HoldsWhole parts.properties number property within whole.properties) in
        let T : Option (List ℕ) → Type 0 = λ o. IfSome o (IsWhole Token) in
        let is : IsWhole Token token = subst T (sym f) holds.token in
        token_is token is

inside : {A : Type 0} (xs : List A) (i : ℕ) → i < length xs → slice_get xs i ≡ None → ⊥
inside [] i h e = omega (arith, h)
inside (x ∷ xs) zero h e = cc
inside (x ∷ xs) (suc i) h e = inside xs i (omega (arith, h)) e

-- what is left of the properties begins with the one of a number
pub property_more : (properties : List ShownProperty) (i : ℕ) → i < length properties
    → (property : ShownProperty) × (slice_get properties i ≡ Some property) × (flat_map bytes_in (drop i properties) ≡ bytes_in property ++ flat_map bytes_in (drop (i + 1) properties))
property_more properties i h = by_found (slice_get properties i) refl
  where
    by_found : (o : Option ShownProperty) → slice_get properties i ≡ o
        → (property : ShownProperty) × (slice_get properties i ≡ Some property) × (flat_map bytes_in (drop i properties) ≡ bytes_in property ++ flat_map bytes_in (drop (i + 1) properties))
    by_found None at = absurd (inside properties i h at)
    by_found (Some property) at = (
      property,
      at,
      at_drop_more (flat_map bytes_in) properties i property h
          ∙ ap (λ p. bytes_in p ++ flat_map bytes_in (drop (i + 1) properties)) (get_or_from_slice_get properties i property property at),
    )
