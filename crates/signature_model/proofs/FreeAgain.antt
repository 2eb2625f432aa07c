-- A signature is free again once a value is put in, or a property into an existing list of properties.
use Rattle.std.proofs.Common.{◌≡◌, ℕ, suc, false, cond, List, [], ◌∷◌, Some, refl, ◌∙◌, ap, codes}
use Rattle.std.specs.Prelude.{option_and_then}
use Rattle.std.specs.List.{list_any}
use Rattle.std.specs.Option.{option_map_or}
use Rattle.document_model.specs.Names.{Expanded}
use Rattle.document_model.specs.Tree.{Nodes, put_last}
use Rattle.signature_model.specs.Vocabulary.{ds}
use Rattle.signature_model.specs.Spots.{Spot}
use Rattle.signature_model.specs.Parts.{references, host}
use Rattle.signature_model.specs.Chains.{node_set, place, less_taken}
use Rattle.signature_model.specs.Covers.{lies_in, places, first_covering, IsFree}
use Rattle.signature_model.proofs.Standing.{Each}
use Rattle.signature_model.proofs.Apart.{IsNamed, named_apart}
use Rattle.signature_model.proofs.References.{chain_stays, target_stays, references_stay, references_named}
use Rattle.signature_model.proofs.Covered.{Setting, signature_apart}

pub node_set_stays : (document added : Nodes) (signature host : Spot) (host_name : Expanded) → Setting document added signature host host_name
    → (reference : Spot) → IsNamed document (ds (codes "Reference")) reference
    → node_set (put_last added host.path document) signature.path reference ≡ node_set document signature.path reference
node_set_stays document added signature host host_name s reference r =
    let new : Nodes = put_last added host.path document in
    let chains = chain_stays document added host reference host_name s.place_named s.other (named_apart document host (ds (codes "Reference")) host_name s.place_named s.other.reference reference r) in
    let targets = target_stays document added host s.place_named.stands s.no_identifiers (place reference) in
    λ i. option_and_then (λ set. Some (less_taken signature.path set (chains i))) (targets i)

covering_stays : (document added : Nodes) (signature host : Spot) (host_name : Expanded) → Setting document added signature host host_name
    → places (put_last added host.path document) signature ≡ places document signature
    → (k : ℕ) (list : List Spot) → Each (IsNamed document (ds (codes "Reference"))) list
    → first_covering (put_last added host.path document) signature k list ≡ first_covering document signature k list
covering_stays document added signature host host_name s p k [] h = refl
covering_stays document added signature host host_name s p k (reference ∷ list) h =
    let sets = node_set_stays document added signature host host_name s reference h.0 in
    let others = covering_stays document added signature host host_name s p (suc k) list h.1 in
    λ i. cond (list_any (λ spot. option_map_or (λ set. lies_in set spot.path) (sets i) false) (p i)) (Some k) (others i)

-- where the places stay
pub free_where_places_stay : (document added : Nodes) (signature host : Spot) (host_name : Expanded) → Setting document added signature host host_name
    → places (put_last added host.path document) signature ≡ places document signature
    → IsFree document signature → IsFree (put_last added host.path document) signature
free_where_places_stay document added signature host host_name s p free =
    ap (first_covering (put_last added host.path document) signature 1)
    (references_stay document added host signature host_name s.place_named s.other (signature_apart document added signature host host_name s))
    ∙ covering_stays document added signature host host_name s p 1 (references document signature) (references_named document signature s.signature_named.stands)
    ∙ free
