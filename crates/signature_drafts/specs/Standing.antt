-- The declarations that elements of signed properties have: none in the signature; alone, on each element that is the first to use a prefix.
-- Exclusive XML Canonicalization 1.0, "Specification of Exclusive XML Canonicalization".
use Rattle.std.specs.Prelude.{ℕ, List, [], ◌∷◌, codes}
use Rattle.document_model.specs.Items.{Attribute}
use Rattle.document_model.specs.Tree.{Nodes}
use Rattle.signature_model.specs.Vocabulary.{ds_space, xades_space}
use Rattle.signature_model.specs.Fragments.{declaring}
use Rattle.signature_model.specs.Prepared.{Draft}
use Rattle.signature_drafts.specs.Properties.{digest_with, properties_with}
use Rattle.signature_drafts.specs.declared.standing.Standing.{Standing}
use Rattle.signature_drafts.specs.declared.standing.Standing.TheVariants.{InSignature, Alone}

abbrev pub declared_ds : Standing → List Attribute
declared_ds InSignature = []
declared_ds Alone = declaring (codes "ds") ds_space ∷ []

abbrev pub declared_xades : Standing → List Attribute
declared_xades InSignature = []
declared_xades Alone = declaring (codes "xades") xades_space ∷ []

abbrev pub digest_standing : Standing → List ℕ → List ℕ → Nodes
digest_standing standing name value = digest_with (declared_ds standing) name value

abbrev pub properties_standing : Standing → List ℕ → Draft → Nodes
properties_standing standing value draft = properties_with (declared_ds standing) (declared_xades standing) value draft
