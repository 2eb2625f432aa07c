-- The place of an item is that of an element.
use Rattle.std.proofs.Common.{◌≡◌, List, [], ◌∷◌, ◌++◌, subst, codes}
use Rattle.document_model.specs.Names.{Expanded}
use Rattle.document_model.specs.Tree.{Nodes, Path, IsElementAt}
use Rattle.signature_model.specs.Vocabulary.{ds, xades}
use Rattle.signature_model.specs.Spots.{Spot, paths}
use Rattle.signature_model.specs.Parts.{value, host, qualifying, unsigned, unsigned_signature}
use Rattle.signature_model.specs.Fragments.{Value, Stamp, Data, Archive}
use Rattle.signature_model.specs.Keeping.{IsSpot}
use Rattle.signature_model.proofs.Standing.{Each}
use Rattle.signature_model.proofs.Lists.{each_append, each_first, each_map}
use Rattle.signature_model.proofs.Apart.{IsNamed, called_named}
use Rattle.signature_model.proofs.Hosts.{InnerNamed, qualifying_inner, unsigned_inner, list_inner}
use Rattle.attached_items.specs.ReadAgain.{PlacesAreElements}

each_path : (document : Nodes) (spots : List Spot) → Each (IsSpot document) spots → Each (IsElementAt document) (paths spots)
each_path document [] h = tt
each_path document (spot ∷ spots) h = (h.0.element, each_path document spots h.1)

inner_stand : (document : Nodes) (signature : Spot) (name : Expanded) (spots : List Spot) → Each (InnerNamed document signature name) spots → Each (IsSpot document) spots
inner_stand document signature name spots h = each_map (InnerNamed document signature name) (IsSpot document) spots (λ spot i. i.0.stands) h

value_stands : (document : Nodes) (signature : Spot) → IsSpot document signature → Each (IsSpot document) (value document signature)
value_stands document signature s =
    each_first (IsSpot document) _ (each_map (IsNamed document (ds (codes "SignatureValue"))) (IsSpot document) _ (λ spot n. n.stands) (called_named document (ds (codes "SignatureValue")) signature s))

host_stands : (document : Nodes) (signature : Spot) → IsSpot document signature → Each (IsSpot document) (host document signature)
host_stands document signature s =
    each_first (IsSpot document) _
    (each_append (IsSpot document) (unsigned_signature document signature ++ unsigned document signature) (qualifying document signature)
    (each_append (IsSpot document) (unsigned_signature document signature) (unsigned document signature)
    (inner_stand document signature (xades (codes "UnsignedSignatureProperties")) _ (list_inner document signature s))
    (inner_stand document signature (xades (codes "UnsignedProperties")) _ (unsigned_inner document signature s)))
    (inner_stand document signature (xades (codes "QualifyingProperties")) _ (qualifying_inner document signature s)))

front_is : (document : Nodes) (all : List Path) (path : Path) (others : List Path) → all ≡ path ∷ others → Each (IsElementAt document) all → IsElementAt document path
front_is document all path others e h = (subst (Each (IsElementAt document)) e h).0

pub places_are_elements : PlacesAreElements
places_are_elements document signature (Value octets) path others s e = front_is document (paths (value document signature)) path others e (each_path document _ (value_stands document signature s))
places_are_elements document signature (Stamp token) path others s e = front_is document (paths (host document signature)) path others e (each_path document _ (host_stands document signature s))
places_are_elements document signature (Data certificates lists) path others s e = front_is document (paths (host document signature)) path others e (each_path document _ (host_stands document signature s))
places_are_elements document signature (Archive token) path others s e = front_is document (paths (host document signature)) path others e (each_path document _ (host_stands document signature s))
