-- The octets that URIs name, by what was found of them.
use Rattle.std.proofs.Common.{◌≡◌, ℕ, ◌+◌, List, [], ◌∷◌, ◌++◌, map, take, get_or, slice_get, Some, None, refl, sym, ◌∙◌, ap}
use Rattle.std.proofs.lemmas.List.{map_more}
use Rattle.algorithms.specs.Digests.{digest_of}
use Rattle.algorithms.specs.declared.digest_kinds.DigestKind as code
use Rattle.algorithms.specs.declared.digest_kinds.DigestKind.TheVariants as kinds
use Rattle.qualifying_props.specs.Digests.{algorithm, digest}
use Rattle.signature_elements.specs.DigestKinds.{kind_in}
use Rattle.signature_model.specs.Vocabulary as model
use Rattle.augmenter.proofs.FoundPlaces.{found_is}
use Rattle.std.specs.Prelude.{unwrap_or}
use Rattle.std.specs.Option.{option_map_or}
use Rattle.document_model.specs.Canonical.{octets_of}
use Rattle.document_model.specs.NodeSets.{NodeSet}
use Rattle.document_model.specs.Tree.{Nodes}
use Rattle.signature_model.specs.Chains.{Handed, Place, Document, Named, External, place_named, target_set}
use Rattle.signature_model.specs.Octets.{next_form}
use Rattle.signature_model.specs.Prepared.{named_octets}
use Rattle.reference_chains.specs.Places.{found, set_found}

set_of : (document : Nodes) (place : Place) → set_found (found document place) ≡ target_set document place
set_of document Document = refl
set_of document (Named identifier) = refl
set_of document External = refl

pub octets_found : (handed : Handed) (document : Nodes) (uri : List ℕ) (set : NodeSet) → Some set ≡ set_found (found document (place_named uri))
    → octets_of next_form set document ≡ named_octets handed document uri
octets_found handed document uri set e =
    ap (λ o. option_map_or (λ set. octets_of next_form set document) o (unwrap_or (handed uri) [])) (e ∙ set_of document (place_named uri))

pub octets_handed : (handed : Handed) (document : Nodes) (uri : List ℕ) → None ≡ set_found (found document (place_named uri))
    → unwrap_or (handed uri) [] ≡ named_octets handed document uri
octets_handed handed document uri e =
    ap (λ o. option_map_or (λ set. octets_of next_form set document) o (unwrap_or (handed uri) [])) (e ∙ set_of document (place_named uri))

-- one more digest behind those that were made

same_kind : (kind : code.DigestKind) → algorithm (kind_in kind) ≡ kind
same_kind kinds.Sha256 = refl
same_kind kinds.Sha384 = refl
same_kind kinds.Sha512 = refl

pub digest_pushed : (handed : Handed) (document : Nodes) (kind : model.DigestKind) (own : code.DigestKind) (uris : List (List ℕ)) (n : ℕ) (uri made : List ℕ) (old new : List (List ℕ)) → kind_in own ≡ kind
    → slice_get uris n ≡ Some uri → made ≡ digest_of own (named_octets handed document uri) → new ≡ old ++ made ∷ []
    → old ≡ map (λ uri. digest kind (named_octets handed document uri)) (take n uris)
    → new ≡ map (λ uri. digest kind (named_octets handed document uri)) (take (n + 1) uris)
digest_pushed handed document kind own uris n uri made old new same at e f before =
    let named = found_is uris n uri at in
    let told : made ≡ digest kind (named_octets handed document (get_or uris n [])) =
    e ∙ ap (λ k. digest_of k (named_octets handed document uri)) (sym (same_kind own) ∙ ap algorithm same) ∙ ap (λ u. digest kind (named_octets handed document u)) named.1 in
    f ∙ (λ i. before i ++ told i ∷ []) ∙ sym (map_more (λ uri. digest kind (named_octets handed document uri)) uris n [] named.0)

pub own_kind : (own : code.DigestKind) (kind : model.DigestKind) → kind_in own ≡ kind → own ≡ algorithm kind
own_kind own kind e = sym (same_kind own) ∙ ap algorithm e
