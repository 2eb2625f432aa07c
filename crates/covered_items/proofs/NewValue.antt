-- A value that is put in, as it stands in the new document.
use Rattle.std.proofs.Common.{◌≡◌, ℕ, Bool, true, false, cond, not, List, [], ◌∷◌, ◌++◌, Some, refl, sym, ◌∙◌, ap, subst, codes, append_assoc}
use Rattle.std.proofs.lemmas.List.{append-nil}
use Rattle.base64.specs.GeneralPurpose.{IsBytes, encode_of}
use Rattle.base64.specs.Engines.{standard}
use Rattle.document_model.specs.Characters.{is_white, is_empty}
use Rattle.document_model.specs.Names.{Expanded}
use Rattle.document_model.specs.Tree.{Nodes, Element, Text, Comment, Instruction, no_nodes, ◌⨾◌, below, joined, put_last}
use Rattle.signature_model.specs.Vocabulary.{ds}
use Rattle.signature_model.specs.Base64.{strict}
use Rattle.signature_model.specs.Spots.{Spot, emptied_all, held_in, text_among, text_in, without_white, is_text_alone, first}
use Rattle.signature_model.specs.Parts.{value, references, octets_in}
use Rattle.signature_model.specs.Fragments.{Value, text, encoded}
use Rattle.signature_model.specs.Keeping.{IsSpot, TakesItem}
use Rattle.signature_model.proofs.Standing.{Each}
use Rattle.signature_model.proofs.Lists.{not_both, each_first}
use Rattle.signature_model.proofs.AtHost.{held_at_host}
use Rattle.signature_model.proofs.Apart.{Apart, called_stay}
use Rattle.signature_model.proofs.Covered.{Setting, signature_apart}
use Rattle.signature_model.proofs.PropertyKept.{IsPart, parts_called}
use Rattle.signature_model.proofs.ValueKept.{blank_place, places_first, free_at_value}
use Rattle.signature_model.proofs.Plain.{content_plain}
use Rattle.covered_items.proofs.Base64ReadBack.{spelled_kept, read_back}

-- Text that is put behind text.

pub text_behind : (nodes : Nodes) (cs : List ℕ) → text_among (emptied_all (joined nodes (text cs))) ≡ text_among (emptied_all nodes) ++ cs
text_behind no_nodes [] = refl
text_behind no_nodes (c ∷ cs) = append-nil (c ∷ cs)
text_behind (Element n a i ⨾ nodes) cs = text_behind nodes cs
text_behind (Comment ds ⨾ nodes) cs = text_behind nodes cs
text_behind (Instruction target content ⨾ nodes) cs = text_behind nodes cs
text_behind (Text ds ⨾ next ⨾ nodes) cs = ap (λ more. ds ++ more) (text_behind (next ⨾ nodes) cs) ∙ sym (append_assoc ds (text_among (emptied_all (next ⨾ nodes))) cs)
text_behind (Text ds ⨾ no_nodes) [] = sym (append-nil (ds ++ []))
text_behind (Text ds ⨾ no_nodes) (c ∷ cs) = append-nil (ds ++ c ∷ cs) ∙ ap (λ front. front ++ c ∷ cs) (sym (append-nil ds))

pub alone_behind : (nodes : Nodes) (cs : List ℕ) → is_text_alone (emptied_all nodes) ≡ true → is_text_alone (emptied_all (joined nodes (text cs))) ≡ true
alone_behind no_nodes [] e = refl
alone_behind no_nodes (c ∷ cs) e = refl
alone_behind (Element n a i ⨾ nodes) cs e = absurd (not_both (sym e))
alone_behind (Comment ds ⨾ nodes) cs e = absurd (not_both (sym e))
alone_behind (Instruction target content ⨾ nodes) cs e = absurd (not_both (sym e))
alone_behind (Text ds ⨾ next ⨾ nodes) cs e = alone_behind (next ⨾ nodes) cs e
alone_behind (Text ds ⨾ no_nodes) [] e = refl
alone_behind (Text ds ⨾ no_nodes) (c ∷ cs) e = refl

pub white_both : (xs ys : List ℕ) → without_white (xs ++ ys) ≡ without_white xs ++ without_white ys
white_both [] ys = refl
white_both (x ∷ xs) ys = by_bool (not (is_white x)) (white_both xs ys)
  where
    by_bool : (b : Bool) → without_white (xs ++ ys) ≡ without_white xs ++ without_white ys
        → cond b (x ∷ without_white (xs ++ ys)) (without_white (xs ++ ys)) ≡ cond b (x ∷ without_white xs) (without_white xs) ++ without_white ys
    by_bool true e = ap (λ zs. x ∷ zs) e
    by_bool false e = e

pub nothing_of : (xs : List ℕ) → is_empty xs ≡ true → xs ≡ []
nothing_of [] e = refl
nothing_of (x ∷ xs) e = absurd (not_both (sym e))

module _ (document : Nodes) (signature place : Spot) (octets : List ℕ) (bytes : IsBytes octets) (takes : TakesItem document signature (Value octets))
    (is_place : value document signature ≡ place ∷ []) where
  abbrev pub added : Nodes
  added = encoded octets

  abbrev pub new : Nodes
  new = put_last added place.path document

  abbrev pub name : Expanded
  name = ds (codes "SignatureValue")

  stands : IsSpot document signature
  stands = takes.is_signature.stands

  pub place_part : IsPart document signature name place
  place_part =
      let P : List Spot → Type 0 = λ spots. Each (IsPart document signature name) spots in
      (subst P is_place (each_first (IsPart document signature name) _ (parts_called document signature name stands))).0

  pub set : Setting document added signature place name
  set = record {
    signature_named = record { stands = stands; named = takes.is_signature.named };
    place_named = record { stands = place_part.0.stands; named = place_part.1 };
    other = record { signature = refl; signed_info = refl; method = refl; reference = refl; transforms = refl; transform = refl };
    no_identifiers = content_plain document signature (Value octets);
    unreached = free_at_value document signature place (places_first document signature place is_place takes.may) 1 (references document signature) takes.free;
  }

  pub signature_is_apart : Apart document place signature
  signature_is_apart = signature_apart document added signature place name set

  -- The value.

  pub value_new : value new signature ≡ place ∷ []
  value_new = ap first (called_stay document added place name signature signature_is_apart) ∙ is_place

  pub text_new : without_white (text_in new place) ≡ encode_of standard octets
  text_new =
      let m = place_part.0.stands.element.0 in
      let blank : without_white (text_among (emptied_all (below m))) ≡ [] =
      ap (λ nodes. without_white (text_among nodes)) (sym (ap held_in place_part.0.stands.element.1)) ∙ nothing_of _ (blank_place document signature place is_place takes.may) in
      ap (λ nodes. without_white (text_among nodes)) (held_at_host document added place.path place_part.0.stands.element)
      ∙ ap without_white (text_behind (below m) (encode_of standard octets))
      ∙ white_both (text_among (emptied_all (below m))) (encode_of standard octets)
      ∙ (λ i. blank i ++ spelled_kept octets i)

  pub octets_new : octets_in new place ≡ Some octets
  octets_new = ap strict (text_new ∙ sym (spelled_kept octets)) ∙ read_back octets bytes
