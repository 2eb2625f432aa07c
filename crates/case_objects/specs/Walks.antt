-- The objects of a signature as its parts show them, in the order in which they stand in it: EN 319 132-1, clauses 5.3 to 5.5.
use Rattle.std.specs.Prelude.{ℕ, if◌then◌else◌, List, ◌∷◌, ◌++◌, length, map}
use Rattle.std.specs.Option.{option_map_or}
use Rattle.signature_model.specs.Parts as kinds
use Rattle.qualifying_props.specs.Shown.{Shown, ShownProperty}
use Rattle.qualifying_props.specs.Whole.{is_whole}
use Rattle.signature_objects.specs.Held.{objects_of_token}
use Rattle.signature_objects.specs.Objects.{Object, Value, Certificate, RevocationList, octets_from}

-- octets of a certificate or a revocation list
abbrev pub object_in : List ℕ → Object
object_in octets = if is_whole kinds.Certificate octets then Certificate octets else RevocationList octets

-- what stands in a property: a token with its certificates, or certificates and revocation lists
abbrev pub property_objects : ShownProperty → List Object
property_objects property = option_map_or objects_of_token property.token (map object_in property.parts)

-- what stands in front of all properties
abbrev pub front_objects : Shown → List Object
front_objects parts = octets_from 1 (length parts.references) ++ Value ∷ map (λ octets. Certificate octets) parts.key_certs
