-- Elements far enough below the signature stay where content is put into one of its children.
use Rattle.std.proofs.Common.{◌≡◌, ℕ, suc, ◌<◌, Bool, true, List, [], ◌∷◌, length, arith, ap, codes}
use Rattle.std.proofs.lemmas.List.{length-append}
use Rattle.std.specs.Prelude.{filter}
use Rattle.document_model.specs.Names.{Expanded}
use Rattle.document_model.specs.Tree.{Nodes, Path}
use Rattle.signature_model.specs.Vocabulary.{xades}
use Rattle.signature_model.specs.Spots.{Spot, is_called, elements_in, called, called_in}
use Rattle.signature_model.specs.Parts.{unsigned_signature, properties}
use Rattle.signature_model.specs.Keeping.{IsSpot}
use Rattle.signature_model.proofs.Standing.{Each, IsChild, children_stand}
use Rattle.signature_model.proofs.Lists.{each_filter, each_map, each_flat}
use Rattle.signature_model.proofs.Apart.{Apart}
use Rattle.signature_model.proofs.Hosts.{InnerNamed, list_inner}

-- A fact that passes to the elements that an element holds, and that sets it apart from the host.
pub record Passes (document : Nodes) (place : Spot) (D : Spot → Type 0) : Type 0 where
  pub down : (holder spot : Spot) → D holder → IsChild document holder spot → D spot
  pub apart : (spot : Spot) → D spot → Apart document place spot

module _ (document : Nodes) (place : Spot) (D : Spot → Type 0) (p : Passes document place D) where
  pub elements_pass : (spot : Spot) → D spot → Each D (elements_in document spot)
  elements_pass spot d =
      each_map (IsChild document spot) D (elements_in document spot) (λ child c. p.down spot child d c) (children_stand document spot (p.apart spot d).stands)

  pub filtered_pass : (spot : Spot) (f : Spot → Bool) → D spot → Each D (filter f (elements_in document spot))
  filtered_pass spot f d =
      each_map (λ child. D child × (f child ≡ true)) D (filter f (elements_in document spot)) (λ child h. h.0)
      (each_filter D f (elements_in document spot) (elements_pass spot d))

  pub called_in_pass : (x : Expanded) (spots : List Spot) → Each D spots → Each D (called_in document x spots)
  called_in_pass x spots h = each_flat D D (called document x) spots (λ spot d. filtered_pass spot (is_called x) d) h

  pub all_apart_pass : (spots : List Spot) → Each D spots → Each (Apart document place) spots
  all_apart_pass spots h = each_map D (Apart document place) spots p.apart h

-- An element whose path is longer than a length.
pub record Deep (document : Nodes) (n : ℕ) (spot : Spot) : Type 0 where
  pub stands : IsSpot document spot
  pub long : n < length spot.path

pub child_deep : (document : Nodes) (n : ℕ) (holder spot : Spot) → n < suc (length holder.path) → IsChild document holder spot → Deep document n spot
child_deep document n holder spot d c = record {
  stands = c.stands;
  long =
      let same = ap (λ (path : Path). length path) c.number.1 in
      let long = length-append holder.path (c.number.0 ∷ []) in
      omega (arith, d, same, long);
}

-- it passes downwards, and is apart from what has no longer path
pub deep_passes : (document : Nodes) (n : ℕ) (place : Spot) → length place.path ≡ n → Passes document place (Deep document n)
deep_passes document n place e = record {
  down = λ holder spot d c. child_deep document n holder spot (let l = d.long in omega (arith, l)) c;
  apart = λ spot d. record {
    stands = d.stands;
    apart = λ same.
        let l = d.long in
        let s = ap (λ (path : Path). length path) same in
        absurd (omega (arith, l, e, s));
  };
}

-- the properties are two levels or more below the signature
pub properties_deep : (document : Nodes) (signature : Spot) → IsSpot document signature → Each (Deep document (suc (length signature.path))) (properties document signature)
properties_deep document signature s =
    let n : ℕ = length signature.path in
    each_flat (InnerNamed document signature (xades (codes "UnsignedSignatureProperties"))) (Deep document (suc n)) (elements_in document) (unsigned_signature document signature)
    (λ list i. each_map (IsChild document list) (Deep document (suc n)) (elements_in document list)
    (λ child c.
    let same = ap (λ (path : Path). length path) i.1.path in
    let more = length-append i.1.object.path i.1.rest in
    let holder = ap (λ (path : Path). length path) i.1.is_child.number.1 in
    let one = length-append signature.path (i.1.is_child.number.0 ∷ []) in
    child_deep document (suc n) list child (omega (arith, same, more, holder, one)) c)
    (children_stand document list i.0.stands))
    (list_inner document signature s)
