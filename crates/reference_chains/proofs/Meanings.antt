-- The octets of what was decoded.
use Rattle.std.proofs.Common.{◌≡◌, ℕ, List, [], Option, Some, None, refl}
use Rattle.std.specs.Prelude.{unwrap_or}
use Rattle.document_model.specs.Tree.{Nodes}
use Rattle.document_model.specs.Canonical.{Form}
use Rattle.signature_model.specs.Chains.{or_no_meaning}
use Rattle.signature_model.specs.Octets.{octets_by}

pub decoded_octets : (form : Form) (document : Nodes) (found : Option (List ℕ)) → unwrap_or found [] ≡ octets_by form document (or_no_meaning found)
decoded_octets form document None = refl
decoded_octets form document (Some octets) = refl
