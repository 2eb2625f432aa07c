-- The law that an item leaves the counted signatures.
use Rattle.std.proofs.Common.{◌≡◌, ℕ, true, [], ◌∷◌, ◌++◌, append_assoc, ◌∙◌, ap, subst, inl, inr, codes}
use Rattle.document_model.specs.Tree.{Nodes, Path, put_last}
use Rattle.signature_model.specs.Vocabulary.{ds, xades}
use Rattle.signature_model.specs.Spots.{Spot, is_called, called, called_in, first, paths}
use Rattle.signature_model.specs.Parts.{counted, value, host, qualifying, qualifying_objects, unsigned}
use Rattle.signature_model.specs.Fragments.{Item, Value, Stamp, Data, Archive, content_of, put_nodes}
use Rattle.signature_model.specs.Keeping.{IsSignature, TakesItem, ItemKeepsCounted}
use Rattle.signature_model.proofs.Standing.{Each, IsChild, children_stand}
use Rattle.signature_model.proofs.Lists.{each_first, each_filter}
use Rattle.signature_model.proofs.Covered.{Below}
use Rattle.signature_model.proofs.Hosts.{pick, at_place, list_inner, unsigned_inner, qualifying_inner}
use Rattle.signature_model.proofs.ItemKept.{put_at}
use Rattle.signature_model.proofs.CountedStay.{counted_stay}

-- a place stands below the signature
abbrev StandsBelow : Spot → Spot → Type 0
StandsBelow signature place = (i : ℕ) × (rest : Path) × (place.path ≡ signature.path ++ i ∷ rest)

counted_at : (document added : Nodes) (signature place : Spot) → IsSignature document signature → StandsBelow signature place
    → counted (put_last added place.path document) ≡ counted document
counted_at document added signature place s b =
    ap (λ path. counted (put_last added path document)) b.2 ∙ counted_stay document added signature b.0 b.1 s

value_below : (document : Nodes) (signature place : Spot) → IsSignature document signature → value document signature ≡ place ∷ []
    → StandsBelow signature place
value_below document signature place s v =
    let P : Spot → Type 0 = λ spot. IsChild document signature spot × (is_called (ds (codes "SignatureValue")) spot ≡ true) in
    let children = each_first P (called document (ds (codes "SignatureValue")) signature)
    (each_filter (IsChild document signature) (is_called (ds (codes "SignatureValue"))) _ (children_stand document signature s.stands)) in
    let here : Each P (place ∷ []) = subst (Each P) v children in
    (here.0.0.number.0, [], here.0.0.number.1)

below_below : (document : Nodes) (signature place : Spot) → Below document signature place → StandsBelow signature place
below_below document signature place b =
    (b.is_child.number.0, b.rest, b.path ∙ ap (λ path. path ++ b.rest) b.is_child.number.1 ∙ append_assoc signature.path (b.is_child.number.0 ∷ []) b.rest)

host_below : (document : Nodes) (signature place : Spot) → IsSignature document signature → host document signature ≡ place ∷ []
    → StandsBelow signature place
host_below document signature place s e = below_below document signature place
    (elim (pick (called_in document (xades (codes "UnsignedSignatureProperties")) (unsigned document signature))
    (called_in document (xades (codes "UnsignedProperties")) (qualifying document signature))
    (called_in document (xades (codes "QualifyingProperties")) (first (qualifying_objects document signature))) place e) [
      | inl l ↦ (at_place document signature place (xades (codes "UnsignedSignatureProperties")) _ (list_inner document signature s.stands) l).1
      | inr r ↦ elim r [
        | inl u ↦ (at_place document signature place (xades (codes "UnsignedProperties")) _ (unsigned_inner document signature s.stands) u.1).1
        | inr q ↦ (at_place document signature place (xades (codes "QualifyingProperties")) _ (qualifying_inner document signature s.stands) q.2).1
      ]
    ])

property_counted : (document : Nodes) (signature : Spot) (item : Item) → TakesItem document signature item
    → counted (put_nodes (content_of document signature item) (paths (host document signature)) document) ≡ counted document
property_counted document signature item t =
    let P : Nodes → Type 0 = λ new. counted new ≡ counted document in
    subst P (put_at document (content_of document signature item) (host document signature) t.property_place.0 t.property_place.1)
    (counted_at document (content_of document signature item) signature t.property_place.0 t.is_signature
    (host_below document signature t.property_place.0 t.is_signature t.property_place.1))

pub item_keeps_counted : ItemKeepsCounted
item_keeps_counted document signature (Value octets) t =
    let P : Nodes → Type 0 = λ new. counted new ≡ counted document in
    subst P (put_at document (content_of document signature (Value octets)) (value document signature) t.value_place.0 t.value_place.1)
    (counted_at document (content_of document signature (Value octets)) signature t.value_place.0 t.is_signature
    (value_below document signature t.value_place.0 t.is_signature t.value_place.1))
item_keeps_counted document signature (Stamp token) t = property_counted document signature (Stamp token) t
item_keeps_counted document signature (Data certificates lists) t = property_counted document signature (Data certificates lists) t
item_keeps_counted document signature (Archive token) t = property_counted document signature (Archive token) t
