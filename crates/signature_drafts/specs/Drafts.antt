-- How a draft of a signature grows.
use Rattle.std.specs.Prelude.{ℕ, List, [], ◌∷◌, ◌++◌}
use Rattle.signature_model.specs.Vocabulary.{DigestKind}
use Rattle.signature_model.specs.Prepared.{Draft}

-- a draft without a certificate and a Reference
abbrev pub begun : List ℕ → List ℕ → List ℕ → DigestKind → Draft
begun time id method digest = record { time = time; id = id; method = method; digest = digest; certificates = []; references = [] }

-- with one more, behind those that are there
abbrev pub with_certificate : List ℕ → Draft → Draft
with_certificate octets draft = record draft { certificates = draft.certificates ++ octets ∷ [] }

abbrev pub with_reference : List ℕ → Draft → Draft
with_reference uri draft = record draft { references = draft.references ++ uri ∷ [] }
