-- Names that are written in the program: ASCII texts.
use Rattle.std.proofs.Common.{◌≡◌, ℕ, List, Option, true, ◌∙◌, ap, refl}
use Rattle.std.proofs.lemmas.Str.{chars-IsAscii}
use Rattle.std.specs.Str.{chars}
use Rattle.xml_items.specs.Texts.{is_ascii}
use Rattle.xml_items.proofs.AsciiTexts.{ascii_from}
use Rattle.algorithms.specs.declared.digest_kinds.DigestKind.{DigestKind}
use Rattle.algorithms.specs.declared.digest_kinds.DigestKind.TheVariants.{Sha256, Sha384, Sha512}
use Rattle.algorithms.specs.DigestKind.{uri_of}
use Rattle.signature_model.specs.Spots.{Spot, attribute}
use Rattle.signature_model.specs.Vocabulary.{digest_name}
use Rattle.signature_elements.specs.DigestKinds.{kind_in}

-- the characters of an ASCII text are its bytes
pub word : (text : List ℕ) → is_ascii text ≡ true → chars text ≡ text
word text e = chars-IsAscii text (ascii_from text e)

pub attribute_as : (spot : Spot) (local : List ℕ) (found : Option (List ℕ)) → is_ascii local ≡ true → found ≡ attribute (chars local) spot → found ≡ attribute local spot
attribute_as spot local found a e = e ∙ ap (λ x. attribute x spot) (word local a)

-- the name of a digest algorithm in memory
pub digest_uri : (kind : DigestKind) (given : List ℕ) → given ≡ uri_of kind → chars given ≡ digest_name (kind_in kind)
digest_uri Sha256 given e = ap chars e ∙ word (digest_name (kind_in Sha256)) refl
digest_uri Sha384 given e = ap chars e ∙ word (digest_name (kind_in Sha384)) refl
digest_uri Sha512 given e = ap chars e ∙ word (digest_name (kind_in Sha512)) refl
