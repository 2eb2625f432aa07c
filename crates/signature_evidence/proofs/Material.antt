-- No token is among certificates and revocation lists.
use Rattle.std.proofs.Common.{◌≡◌, ℕ, Bool, true, false, cond, ◌||◌, List, [], ◌∷◌, refl, ◌∙◌, ap}
use Rattle.std.specs.Prelude.{map}
use Rattle.der_values.specs.Element.{Element}
use Rattle.der_values.specs.Elements.{elements}
use Rattle.x509_certs.specs.Data.{begins_with_0}
use Rattle.signature_objects.specs.Objects.{Certificate, RevocationList, Token, is_same, has}
use Rattle.signature_evidence.specs.Material.{object_of, MaterialHasNoTokens}

other : (element : Element) (bytes : List ℕ) → is_same (Token bytes) (object_of element) ≡ false
other element bytes = by_bool (begins_with_0 element.whole)
  where
    by_bool : (b : Bool) → is_same (Token bytes) (cond b (Certificate element.whole) (RevocationList element.whole)) ≡ false
    by_bool true = refl
    by_bool false = refl

none_in : (list : List Element) (bytes : List ℕ) → has (map object_of list) (Token bytes) ≡ false
none_in [] bytes = refl
none_in (element ∷ list) bytes = ap (λ b. b || has (map object_of list) (Token bytes)) (other element bytes) ∙ none_in list bytes

pub material_has_no_tokens : MaterialHasNoTokens
material_has_no_tokens bytes token = none_in (elements bytes) token
