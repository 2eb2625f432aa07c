-- The law for items.
use Rattle.std.proofs.Common.{◌≡◌, false, List, [], ◌∷◌, ◌++◌, append_assoc, refl, sym, ◌∙◌, ap, subst}
use Rattle.std.proofs.lemmas.List.{append-nil}
use Rattle.document_model.specs.Tree.{Nodes, put_last}
use Rattle.document_model.specs.NodeSets.{identified}
use Rattle.signature_model.specs.Spots.{Spot, paths}
use Rattle.signature_model.specs.Parts.{value, host, is_signed}
use Rattle.signature_model.specs.Chains.{Handed}
use Rattle.signature_model.specs.Covers.{Entry, covers}
use Rattle.signature_model.specs.Fragments.{Item, Value, Stamp, Data, Archive, content_of, put_nodes, with_item}
use Rattle.signature_model.specs.Keeping.{GoesOn, TakesItem, ItemKeepsCovers, with_items, ItemsKeepCovers}
use Rattle.signature_model.proofs.ValueKept.{value_keeps_covers}
use Rattle.signature_model.proofs.Hosts.{property_keeps_covers}
use Rattle.signature_model.proofs.Plain.{content_plain}

-- where something is put, by the element
pub put_at : (document content : Nodes) (spots : List Spot) (place : Spot) → spots ≡ place ∷ [] → put_last content place.path document ≡ put_nodes content (paths spots) document
put_at document content spots place e = ap (λ s. put_nodes content (paths s) document) (sym e)

abbrev Keeps : Handed → Nodes → Spot → Nodes → Type 0
Keeps handed document signature new = GoesOn (covers handed document signature) (covers handed new signature)

value_item : (handed : Handed) (document content : Nodes) (signature : Spot) (item : Item) → TakesItem document signature item → is_signed document signature ≡ false
    → content ≡ content_of document signature item → Keeps handed document signature (put_nodes content (paths (value document signature)) document)
value_item handed document content signature item t e c =
    let P : Nodes → Type 0 = λ new. Keeps handed document signature new in
    let plain = content_plain document signature item in
    subst P (put_at document content (value document signature) t.value_place.0 t.value_place.1)
    (value_keeps_covers handed document content signature t.value_place.0 t.is_signature t.value_place.1 e t.free
    (λ value path k. ap (λ nodes. identified value path k nodes) c ∙ plain value path k))

property_item : (handed : Handed) (document content : Nodes) (signature : Spot) (item : Item) → TakesItem document signature item
    → content ≡ content_of document signature item → Keeps handed document signature (put_nodes content (paths (host document signature)) document)
property_item handed document content signature item t c =
    let P : Nodes → Type 0 = λ new. Keeps handed document signature new in
    let plain = content_plain document signature item in
    subst P (put_at document content (host document signature) t.property_place.0 t.property_place.1)
    (property_keeps_covers handed document content signature t.property_place.0 t.is_signature t.property_place.1 t.free
    (λ value path k. ap (λ nodes. identified value path k nodes) c ∙ plain value path k))

pub item_keeps_covers : ItemKeepsCovers
item_keeps_covers handed document signature (Value octets) t =
    value_item handed document (content_of document signature (Value octets)) signature (Value octets) t t.may refl
item_keeps_covers handed document signature (Stamp token) t =
    property_item handed document (content_of document signature (Stamp token)) signature (Stamp token) t refl
item_keeps_covers handed document signature (Data certificates lists) t =
    property_item handed document (content_of document signature (Data certificates lists)) signature (Data certificates lists) t refl
item_keeps_covers handed document signature (Archive token) t =
    property_item handed document (content_of document signature (Archive token)) signature (Archive token) t refl

goes_through : (a b c : List Entry) → GoesOn a b → GoesOn b c → GoesOn a c
goes_through a b c p q = (p.0 ++ q.0, q.1 ∙ ap (λ entries. entries ++ q.0) p.1 ∙ append_assoc a p.0 q.0)

pub items_keep_covers : ItemsKeepCovers
items_keep_covers handed document signature [] t = ([], sym (append-nil (covers handed document signature)))
items_keep_covers handed document signature (item ∷ items) t =
    goes_through (covers handed document signature) (covers handed (with_item document signature item) signature)
    (covers handed (with_items (with_item document signature item) signature items) signature)
    (item_keeps_covers handed document signature item t.0) (items_keep_covers handed (with_item document signature item) signature items t.1)
