-- Texts of characters that stand for themselves.
use Rattle.std.proofs.Common.{◌≡◌, ℕ, true, List, [], ◌∷◌, refl, ◌∙◌, ap}
use Rattle.std.proofs.lemmas.List.{append-nil}
use Rattle.std.specs.Prelude.{encode_utf8_all, flat_map}
use Rattle.std.specs.List.{list_all}
use Rattle.base64.specs.GeneralPurpose.{encode_of, IsBytes}
use Rattle.base64.specs.Engines.{standard}
use Rattle.document_model.specs.Canonical.{text_character}
use Rattle.signature_model.specs.Fragments.{written_octets, text, encoded}
use Rattle.insertion_fragments.specs.Fragment.{is_simple}
use Rattle.insertion_fragments.proofs.SimpleCharacters.{text_text}
use Rattle.insertion_fragments.proofs.WrittenNodes.{all_fine}
use Rattle.insertion_fragments.proofs.ItemFragments.{base64_simple}

pub simple_text : (cs : List ℕ) → list_all is_simple cs ≡ true → written_octets (text cs) ≡ cs
simple_text [] h = refl
simple_text (c ∷ cs) h = ap encode_utf8_all (append-nil (flat_map text_character (c ∷ cs)) ∙ text_text (c ∷ cs) h) ∙ all_fine (c ∷ cs) h

pub encoded_text : (octets : List ℕ) → IsBytes octets → written_octets (encoded octets) ≡ encode_of standard octets
encoded_text octets h = simple_text (encode_of standard octets) (base64_simple octets h)
