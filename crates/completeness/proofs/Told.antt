-- The signers that the parts of a signature show are those of the signature.
use Rattle.std.proofs.Common.{◌≡◌, ℕ, Bool, true, false, cond, List, [], ◌∷◌, Option, Some, None, refl, sym, ◌∙◌, ap, subst}
use Rattle.std.proofs.lemmas.List.Elements.{recursion_from_All}
use Rattle.std.specs.Prelude.{filter, filter_map, map}
use Rattle.std.specs.List.{AllByRecursion, cons_option}
use Rattle.document_model.specs.Tree.{Nodes}
use Rattle.doc_spans.specs.declared.documents.Doc.{Doc}
use Rattle.doc_spans.specs.Seen.{document_in}
use Rattle.qualifying_props.specs.PartsOf.{AreParts, IsProperty}
use Rattle.qualifying_props.specs.Shown.{Shown, ShownProperty}
use Rattle.signature_elements.specs.Standing.{spot_of}
use Rattle.signature_model.specs.Parts.{is_stamp, signing_certificate, token}
use Rattle.signature_model.specs.Spots.{Spot}
use Rattle.acceptance.specs.Certificates.{Part}
use Rattle.qualifying_props.specs.Digests.{digest}
use Rattle.signature_evidence.specs.Pools.{pool_of}
use Rattle.signature_objects.specs.Held.{objects}
use Rattle.signature_objects.specs.Objects.{Object}
use Rattle.completeness.specs.Complete.{AreThere}
use Rattle.completeness.specs.Signers.{shown_signers, signers, signers_by}
use Rattle.completeness.proofs.There.{signers_are_there}

abbrev spots_of : Doc → List ShownProperty → List Spot
spots_of doc shown = map (spot_of doc) (map (λ (property : ShownProperty). property.node) shown)

one_told : (document : Nodes) (spot : Spot) (spots : List Spot) (rest : List (List ℕ)) (b : Bool) (o : Option (List ℕ)) → o ≡ cond b (Some (token document spot)) None
    → rest ≡ map (token document) spots → cons_option o rest ≡ map (token document) (cond b (spot ∷ spots) spots)
one_told document spot spots rest true o e h = ap (λ p. cons_option p rest) e ∙ ap (λ tokens. token document spot ∷ tokens) h
one_told document spot spots rest false o e h = ap (λ p. cons_option p rest) e ∙ h

tokens_told : (doc : Doc) (shown : List ShownProperty) → AllByRecursion (IsProperty doc) shown
    → filter_map (λ property. property.token) shown ≡ map (token (document_in doc)) (filter is_stamp (spots_of doc shown))
tokens_told doc [] h = refl
tokens_told doc (property ∷ shown) h =
    let spot = spot_of doc property.node in
    one_told (document_in doc) spot (filter is_stamp (spots_of doc shown)) (filter_map (λ (p : ShownProperty). p.token) shown) (is_stamp spot) property.token h.0.token (tokens_told doc shown h.1)

pub signers_told : (doc : Doc) (parts : Shown) → AreParts doc parts → shown_signers parts ≡ signers (document_in doc) (spot_of doc parts.signature)
signers_told doc parts h =
    ap (λ signer. signers_by signer (filter_map (λ (p : ShownProperty). p.token) parts.properties)) h.signer
    ∙ ap (λ tokens. signers_by (signing_certificate digest (document_in doc) (spot_of doc parts.signature)) tokens)
    (tokens_told doc parts.properties (recursion_from_All (IsProperty doc) parts.properties h.properties.each)
    ∙ ap (λ spots. map (token (document_in doc)) (filter is_stamp spots)) h.properties.elements.are)

-- the signers that are shown are in the pool of the signature's objects
pub shown_are_there : (doc : Doc) (parts : Shown) (more : List Object) (pool : List Part) → AreParts doc parts
    → pool ≡ pool_of (objects (document_in doc) (spot_of doc parts.signature) more) → AreThere pool (shown_signers parts)
shown_are_there doc parts more pool h is =
    subst (λ (p : List Part). AreThere p (shown_signers parts)) (sym is)
    (subst (λ (all : List (Option (List ℕ))). AreThere (pool_of (objects (document_in doc) (spot_of doc parts.signature) more)) all) (sym (signers_told doc parts h))
    (signers_are_there (document_in doc) (spot_of doc parts.signature) more))
