-- The place of a fault in base64 is told as it is, since documents and files that are handed in are short.
use Rattle.std.proofs.Common.{◌≡◌, ℕ, ◌≤◌, length, refl, sym, ap, ◌∙◌, arith}
use Rattle.std.specs.Prelude.{min, Option, None, Some, option_map}
use Rattle.doc_spans.specs.declared.documents.Doc.{Doc}
use Rattle.doc_spans.specs.declared.documents.NodeId.{NodeId}
use Rattle.doc_spans.specs.Seen.{bytes_in, path_in}
use Rattle.reference_chains.specs.Decoding.{last_told}
use Rattle.references.specs.Answers.{as_told, fault_in}
use Rattle.references.specs.RefsOf.{references_in}
use Rattle.signature_model.specs.Chains.{Fault, Handed, TargetMissing, TargetTwice, NoChain, DigestName, NotHandedIn, NotBase64}
use Rattle.signature_model.proofs.FaultPlaces.{places_are_within}
use Rattle.signature_checks.specs.Opening.{AreShort, IsToldWhole}

-- the fault of the References of a signature
pub told_whole : (handed : Handed) (doc : Doc) (signature : NodeId) → length (bytes_in doc) ≤ 16777216 → AreShort handed → IsToldWhole (fault_in handed doc signature)
told_whole handed doc signature small short = λ k at e.
    let within : at ≤ 33554432 = places_are_within 33554432 handed (bytes_in doc) (path_in doc signature) (references_in doc signature) k at (omega arith) short e in
    omega arith

-- what is told of a fault in base64 is the fault itself
pub as_it_is : (found : Option Fault) (k at : ℕ) → option_map as_told found ≡ Some (NotBase64 k at) → IsToldWhole found → found ≡ Some (NotBase64 k at)
as_it_is None k at e whole = cc
as_it_is (Some (TargetMissing j)) k at e whole = cc
as_it_is (Some (TargetTwice j)) k at e whole = cc
as_it_is (Some (NoChain j)) k at e whole = cc
as_it_is (Some (DigestName j)) k at e whole = cc
as_it_is (Some (NotHandedIn j)) k at e whole = cc
as_it_is (Some (NotBase64 j place)) k at e whole =
    let within : place ≤ last_told = whole j place refl in
    let same : min place last_told ≡ place = omega arith in
    let number : j ≡ k = cc in
    let told : min place last_told ≡ at = cc in
    ap Some (ap (λ n. NotBase64 n place) number ∙ ap (NotBase64 k) (sym same ∙ told))
