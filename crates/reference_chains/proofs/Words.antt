-- Names that texts are compared with.
use Rattle.std.proofs.Common.{◌≡◌, ℕ, Bool, true, false, cond, List, [], ◌∷◌, Option, Some, None, is_some, length, refl, sym, ◌∙◌, ap}
use Rattle.std.proofs.lemmas.Str.{chars-nil}
use Rattle.std.specs.Option.{option_map_or}
use Rattle.std.specs.Prelude.{unwrap_or, option_map}
use Rattle.std.specs.Str.{chars}
use Rattle.document_model.specs.Characters.{◌is◌}
use Rattle.document_model.specs.Canonical.{Form}
use Rattle.xml_items.specs.Texts.{is_ascii}
use Rattle.signature_elements.proofs.AsciiNames.{word}
use Rattle.signature_model.specs.Chains.{Transform, Enveloped, Canonical, Base64, Other}
use Rattle.signature_model.specs.Parts.{plain_form}

-- whether the characters are those of a name, of which a text was compared
pub is_name : (cs text given : List ℕ) (result b : Bool) → is_ascii text ≡ true → given ≡ text → result ≡ (cs is chars given) → result ≡ b → (cs is text) ≡ b
is_name cs text given result b h g r e = ap (λ x. cs is x) (sym (ap chars g ∙ word text h)) ∙ sym r ∙ e

pub no_characters : (text : List ℕ) → length text ≡ 0 → chars text ≡ []
no_characters [] h = chars-nil
no_characters (c ∷ cs) h = cc

-- the transform by which of the two names it is
abbrev pub transform_by : Bool → Bool → Option Form → Transform
transform_by a b form = cond a Enveloped (cond b Base64 (option_map_or (λ f. Canonical f) form Other))

pub with_form : (form : Option Form) → is_some form ≡ true → Canonical (unwrap_or form plain_form) ≡ option_map_or (λ f. Canonical f) form Other
with_form None e = cc
with_form (Some form) e = refl

pub without_form : (form : Option Form) → is_some form ≡ false → Other ≡ option_map_or (λ f. Canonical f) form Other
without_form None e = refl
without_form (Some form) e = cc

pub is_some_mapped : {A B : Type 0} (f : A → B) (o : Option A) → is_some (option_map f o) ≡ is_some o
is_some_mapped f None = refl
is_some_mapped f (Some x) = refl
