-- The signers of a signature and of its time-stamps, by the bytes of their certificates: EN 319 132-1, clause 5.2.2; RFC 3161, section 2.4.2.
use Rattle.std.specs.Prelude.{ℕ, List, ◌∷◌, Option, filter_map, map, option_and_then, slice_get}
use Rattle.document_model.specs.Tree.{Nodes}
use Rattle.signature_model.specs.Parts.{signing_certificate, stamps, token}
use Rattle.signature_model.specs.Spots.{Spot}
use Rattle.qualifying_props.specs.Digests.{digest}
use Rattle.qualifying_props.specs.Shown.{Shown}
use Rattle.acceptance.specs.Objects.{token_of}

-- the signer, and those of some tokens in their order; each may be missing
abbrev pub signers_by : Option (List ℕ) → List (List ℕ) → List (Option (List ℕ))
signers_by signer tokens = signer ∷ map (λ token. (token_of token).signer) tokens

-- those of a signature of a document: the signing certificate has the number 0, and the signers of the time-stamps' tokens have theirs from 1
abbrev pub signers : Nodes → Spot → List (Option (List ℕ))
signers document signature = signers_by (signing_certificate digest document signature) (map (token document) (stamps document signature))

-- those of parts in memory
abbrev pub shown_signers : Shown → List (Option (List ℕ))
shown_signers parts =
    signers_by (option_and_then (slice_get parts.key_certs) parts.signing_cert) (filter_map (λ property. property.token) parts.properties)
