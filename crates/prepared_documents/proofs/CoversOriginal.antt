-- What the signature of a prepared document covers.
use Rattle.std.proofs.Common.{◌≡◌, ℕ, suc, ◌+◌, cond, List, [], ◌∷◌, ◌++◌, length, ◌∙◌, ap, arith}
use Rattle.std.proofs.lemmas.List.{append-nil}
use Rattle.document_model.specs.Tree.{Nodes, Path}
use Rattle.document_model.specs.Scopes.{Tag, tags_at}
use Rattle.signature_model.specs.Spots.{Spot}
use Rattle.signature_model.specs.Parts as parts
use Rattle.signature_model.specs.Octets.{digest_octets, value_octets}
use Rattle.signature_model.specs.Covers.{Digested, Signed, digested, stamped}
use Rattle.signature_model.specs.Prepared.{properties_octets, prepared}
use Rattle.prepared_documents.specs.Places.{root_of, signature_in}
use Rattle.prepared_documents.specs.Covering.{named_entries, prepared_entries, CoversTheOriginal}
use Rattle.prepared_documents.proofs.Reading as reading
use Rattle.prepared_documents.proofs.Reading.{last_at, references_there}
use Rattle.prepared_documents.proofs.Chained.{last_octets}
use Rattle.prepared_documents.proofs.Original.{digest_of, last_value, there, references_are, all_references}
use Rattle.prepared_documents.proofs.FreeNew.{not_signed, properties_target}
use Rattle.prepared_documents.proofs.PropertiesText.{same_octets}

pub covers_original : CoversTheOriginal
covers_original digest handed document draft p =
    let d : Nodes = prepared digest handed document draft in
    let sig : Spot = signature_in document draft in
    let path : Path = sig.path in
    let tags : List Tag = tags_at document (root_of document) in
    let j : ℕ = 2 + length draft.references in
    let last : Spot = last_at path tags draft j in
    let n : 1 + length draft.references ≡ suc (length draft.references) = omega arith in
    let value : List ℕ = last_value digest handed document draft p.root in
    let here = there digest handed document draft p.root in
    let s = references_there d path tags (digest draft.digest) (digest_of digest handed document draft p.root) value draft here in
    let octets : digest_octets handed d path last ≡ properties_octets (digest draft.digest) draft =
    last_octets d path tags draft handed path j value (reading.properties path tags draft).path (properties_target digest handed document draft p) s.1
    ∙ same_octets d path tags (digest draft.digest) (digest_of digest handed document draft p.root) value draft here in
    let all : digested handed d path 1 (parts.references d sig) ≡ prepared_entries digest handed document draft =
    ap (digested handed d path 1) (references_are digest handed document draft p.root)
    ∙ all_references digest handed document draft p 2 1 draft.references (last ∷ []) s.0 p.may.targets
    ∙ ap (λ k. named_entries handed document 1 draft.references ++ Digested k (digest_octets handed d path last) ∷ []) n
    ∙ ap (λ o. named_entries handed document 1 draft.references ++ Digested (suc (length draft.references)) o ∷ []) octets in
    let b = not_signed digest handed document draft p in
    (λ i. all i ++ cond (b i) (Signed (parts.value_octets d sig) (value_octets d sig) ∷ stamped handed d sig [] (parts.properties d sig)) [])
    ∙ append-nil (prepared_entries digest handed document draft)
