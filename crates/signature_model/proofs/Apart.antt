-- The parts of a signature stay where content is put into one of its elements.
use Rattle.std.proofs.Common.{◌≡◌, true, false, List, sym, ◌∙◌, ap, codes}
use Rattle.std.proofs.lemmas.Slice.Eq.{bytes_eq-Decides}
use Rattle.std.specs.Prelude.{filter, option_and_then}
use Rattle.document_model.specs.Names.{Expanded, same_expanded}
use Rattle.document_model.specs.Tree.{Nodes, put_last}
use Rattle.document_model.specs.Scopes.{tags_at}
use Rattle.document_model.specs.Methods.{form_named, exclusive_name}
use Rattle.signature_model.specs.Spots.{Spot, name_in, is_called, attribute, elements_from, elements_in, called, called_in, text_among, text_in}
use Rattle.signature_model.specs.Parts.{form_in, prefix_list}
use Rattle.signature_model.proofs.Held.{held_stays}
use Rattle.signature_model.specs.Keeping.{IsSpot}
use Rattle.signature_model.proofs.Standing.{Each, IsChild, children_stand}
use Rattle.signature_model.proofs.Lists.{not_both, both, each_filter, each_map, each_flat, flat_same}

-- Names.

same_means : (a b : Expanded) → same_expanded a b ≡ true → a ≡ b
same_means a b e =
    let parts = both _ _ e in
    let s = (bytes_eq-Decides a.space b.space).0 parts.0 in
    let l = (bytes_eq-Decides a.local b.local).0 parts.1 in
    λ i. record { space = s i; local = l i }

pub same_tags : (document : Nodes) (a b : Spot) → IsSpot document a → IsSpot document b → a.path ≡ b.path → a.tags ≡ b.tags
same_tags document a b s t e = s.tags ∙ ap (tags_at document) e ∙ sym t.tags

-- elements with two names aren't one
pub other_path : (document : Nodes) (a b : Spot) → IsSpot document a → IsSpot document b → (x y : Expanded) → is_called x a ≡ true → is_called y b ≡ true
    → same_expanded x y ≡ false → a.path ≡ b.path → ⊥
other_path document a b s t x y ca cb d e =
    let tags = same_tags document a b s t e in
    let y_is : y ≡ name_in b.tags = same_means y (name_in b.tags) cb in
    let x_is : same_expanded x (name_in b.tags) ≡ true = sym (ap (λ t. same_expanded x (name_in t)) tags) ∙ ca in
    not_both (sym x_is ∙ sym (ap (same_expanded x) y_is) ∙ d)

-- Elements that aren't the host, the element into which content is put.

pub record Apart (document : Nodes) (host : Spot) (spot : Spot) : Type 0 where
  pub stands : IsSpot document spot
  pub apart : spot.path ≡ host.path → ⊥

-- the spot stands in the document, and has a name
pub record IsNamed (document : Nodes) (name : Expanded) (spot : Spot) : Type 0 where
  pub stands : IsSpot document spot
  pub named : is_called name spot ≡ true

pub named_apart : (document : Nodes) (host : Spot) (name host_name : Expanded) → IsNamed document host_name host → same_expanded name host_name ≡ false
    → (spot : Spot) → IsNamed document name spot → Apart document host spot
named_apart document host name host_name h d spot s = record {
  stands = s.stands;
  apart = other_path document spot host s.stands h.stands name host_name s.named h.named d;
}

-- what is read at an element that isn't the host

pub elements_stay : (document added : Nodes) (host spot : Spot) → Apart document host spot
    → elements_in (put_last added host.path document) spot ≡ elements_in document spot
elements_stay document added host spot a =
    ap (elements_from spot.path spot.tags 0) (held_stays document added host.path spot.path a.stands.element a.apart)

pub called_stay : (document added : Nodes) (host : Spot) (name : Expanded) (spot : Spot) → Apart document host spot
    → called (put_last added host.path document) name spot ≡ called document name spot
called_stay document added host name spot a = ap (filter (is_called name)) (elements_stay document added host spot a)

pub called_in_stay : (document added : Nodes) (host : Spot) (name : Expanded) (spots : List Spot) → Each (Apart document host) spots
    → called_in (put_last added host.path document) name spots ≡ called_in document name spots
called_in_stay document added host name spots a =
    flat_same (Apart document host) (called (put_last added host.path document) name) (called document name) spots (called_stay document added host name) a

pub text_stays : (document added : Nodes) (host spot : Spot) → Apart document host spot
    → text_in (put_last added host.path document) spot ≡ text_in document spot
text_stays document added host spot a = ap text_among (held_stays document added host.path spot.path a.stands.element a.apart)

pub form_stays : (document added : Nodes) (host spot : Spot) → Apart document host spot
    → form_in (put_last added host.path document) spot ≡ form_in document spot
form_stays document added host spot a =
    ap (λ spots. option_and_then (form_named (prefix_list spots)) (attribute (codes "Algorithm") spot))
    (called_stay document added host (record { space = exclusive_name; local = codes "InclusiveNamespaces" }) spot a)

-- the elements with a name that an element or several hold

pub called_named : (document : Nodes) (name : Expanded) (holder : Spot) → IsSpot document holder → Each (IsNamed document name) (called document name holder)
called_named document name holder s =
    each_map (λ spot. IsChild document holder spot × (is_called name spot ≡ true)) (IsNamed document name) (called document name holder)
    (λ spot h. record { stands = h.0.stands; named = h.1 })
    (each_filter (IsChild document holder) (is_called name) (elements_in document holder) (children_stand document holder s))

pub called_in_named : (document : Nodes) (name : Expanded) (holders : List Spot) → Each (IsSpot document) holders
    → Each (IsNamed document name) (called_in document name holders)
called_in_named document name holders s =
    each_flat (IsSpot document) (IsNamed document name) (called document name) holders (called_named document name) s

pub named_stand : (document : Nodes) (name : Expanded) (spots : List Spot) → Each (IsNamed document name) spots → Each (IsSpot document) spots
named_stand document name spots h = each_map (IsNamed document name) (IsSpot document) spots (λ spot n. n.stands) h

pub all_apart : (document : Nodes) (host : Spot) (name host_name : Expanded) → IsNamed document host_name host → same_expanded name host_name ≡ false
    → (spots : List Spot) → Each (IsNamed document name) spots → Each (Apart document host) spots
all_apart document host name host_name h d spots e =
    each_map (IsNamed document name) (Apart document host) spots (named_apart document host name host_name h d) e
