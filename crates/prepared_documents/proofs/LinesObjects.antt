-- The shape of the prepared signature: the line on the signed properties of data objects.
use Rattle.std.proofs.Common.{◌≡◌, ℕ, suc, ◌+◌, ◌<◌, ◌≤◌, ◌^◌, Bool, true, false, cond, not, ◌&&◌, List, [], ◌∷◌, ◌++◌, length, Some, refl, sym, ◌∙◌, ap, subst, codes, arith, inl, inr}
use Rattle.std.proofs.lemmas.List.{append-nil}
use Rattle.std.proofs.lemmas.Bool.{cases_lt}
use Rattle.std.proofs.lemmas.Fmt.{decimal_injective}
use Rattle.std.proofs.lemmas.Slice.Eq.{bytes_eq-Decides}
use Rattle.std.specs.Fmt.{decimal}
use Rattle.std.specs.Prelude.{filter, flat_map, drop}
use Rattle.std.specs.List.{list_any}
use Rattle.std.specs.Option.{option_map_or}
use Rattle.document_model.specs.Characters.{◌is◌, is_empty}
use Rattle.document_model.specs.Tree.{Node, Nodes, Path, Element, nth}
use Rattle.document_model.specs.Scopes.{Tag}
use Rattle.signature_model.specs.Vocabulary.{xades, fragment}
use Rattle.signature_model.specs.Spots.{Spot, is_called, attribute, attributes_in, called, called_in, first, paths, without_white, has_stray_text, emptied_all}
use Rattle.signature_model.specs.Parts as parts
use Rattle.signature_model.specs.Parts.{is_typed, uri}
use Rattle.signature_model.specs.Holding.{lacking, with_stray_text, without_text}
use Rattle.signature_model.specs.Shape.{is_identifying, wants_format, signed_data_properties, formats_for, data_object_line_of, data_object_line}
use Rattle.signature_model.specs.Chains.{Place, Document, Named, External, place_named}
use Rattle.signature_model.specs.Fragments.{text, xades_element}
use Rattle.signature_model.specs.Prepared.{Draft, reference_id, mime_type, formats_from}
use Rattle.covered_items.proofs.NewElements.{Stands, spot_below, elements_stand, child_there}
use Rattle.prepared_documents.proofs.Reading as reading
use Rattle.prepared_documents.proofs.Reading.{xades_named, format_attributes, There, references_at, last_at, formats_at, format_at, Follow, follow_first, follow_more}
use Rattle.prepared_documents.proofs.PartsOf as of
use Rattle.prepared_documents.proofs.LinesInfo.{stray_none, unstray}
use Rattle.prepared_documents.proofs.LinesRest.{same_is, lacking_none, text_none}

-- Numbers of References differ in their identifiers.

tail_same : {a b : ℕ} {x y : List ℕ} → a ∷ x ≡ b ∷ y → x ≡ y
tail_same e = cc

without_front : (a b c : List ℕ) → a ++ b ≡ a ++ c → b ≡ c
without_front [] b c e = e
without_front (x ∷ a) b c e = without_front a b c (tail_same e)

pub other_number : (id : List ℕ) (i k : ℕ) → i < 2 ^ 64 → k < 2 ^ 64 → (i ≡ k → ⊥) → (fragment (reference_id id i) is fragment (reference_id id k)) ≡ false
other_number id i k a b d = by_bool (fragment (reference_id id i) is fragment (reference_id id k)) refl
  where
    by_bool : (t : Bool) → (fragment (reference_id id i) is fragment (reference_id id k)) ≡ t → t ≡ false
    by_bool false e = refl
    by_bool true e =
        let same = (bytes_eq-Decides (fragment (reference_id id i)) (fragment (reference_id id k))).0 e in
        absurd (d (decimal_injective i k a b (without_front (id ++ codes "-r") (decimal i) (decimal k) (tail_same same))))

mime_there : (p : Place) → is_empty (without_white (mime_type p)) ≡ false
mime_there Document = refl
mime_there (Named identifier) = refl
mime_there External = refl

module _ (d : Nodes) (path : Path) (outer : List Tag) (digest digest_of : List ℕ → List ℕ) (last_value : List ℕ) (draft : Draft) (s : There d path outer digest digest_of last_value draft) where
  abbrev sig : Spot
  sig = reading.signature path outer draft

  abbrev objects : Spot
  objects = reading.objects path outer draft

  abbrev properties : Spot
  properties = reading.properties path outer draft

  pub objects_is : signed_data_properties d sig ≡ objects ∷ []
  objects_is = ap (λ spots. first (called_in d (xades (codes "SignedDataObjectProperties")) spots)) (of.properties_is d path outer digest digest_of last_value draft s)
      ∙ ap first (append-nil (called d (xades (codes "SignedDataObjectProperties")) properties))
      ∙ ap (λ spots. first (filter (is_called (xades (codes "SignedDataObjectProperties"))) spots)) (of.properties_children d path outer digest digest_of last_value draft s)

  all_formats : (j k : ℕ) (uris : List (List ℕ)) → filter (is_called (xades (codes "DataObjectFormat"))) (formats_at path outer draft j k uris) ≡ formats_at path outer draft j k uris
  all_formats j k [] = refl
  all_formats j k (uri_ ∷ uris) = ap (λ spots. format_at path outer draft j k ∷ spots) (all_formats (suc j) (suc k) uris)

  formats_are : called_in d (xades (codes "DataObjectFormat")) (signed_data_properties d sig) ≡ formats_at path outer draft 0 1 draft.references
  formats_are = ap (called_in d (xades (codes "DataObjectFormat"))) objects_is
      ∙ append-nil (called d (xades (codes "DataObjectFormat")) objects)
      ∙ ap (filter (is_called (xades (codes "DataObjectFormat")))) (of.objects_children d path outer digest digest_of last_value draft s)
      ∙ all_formats 0 1 draft.references

  -- formats

  abbrev mime : List ℕ → Nodes
  mime uri_ = xades_element (codes "MimeType") [] (text (mime_type (place_named uri_)))

  abbrev FormatThere : ℕ → ℕ → List ℕ → Type 0
  FormatThere j k uri_ = Stands d (format_at path outer draft j k) (Element (xades_named (codes "DataObjectFormat")) (format_attributes draft k) (mime uri_))

  abbrev FormatsThere : ℕ → ℕ → List (List ℕ) → Type 0
  FormatsThere j k [] = Unit {0}
  FormatsThere j k (uri_ ∷ uris) = FormatThere j k uri_ × FormatsThere (suc j) (suc k) uris

  formats_from_there : (j k : ℕ) (uris : List (List ℕ)) → Follow j (formats_from draft k uris) (formats_from draft 1 draft.references) → FormatsThere j k uris
  formats_from_there j k [] f = tt
  formats_from_there j k (uri_ ∷ uris) f =
      let node : Node = Element (xades_named (codes "DataObjectFormat")) (format_attributes draft k) (mime uri_) in (
        child_there d objects _ (reading.objects_there d path outer digest digest_of last_value draft s) j (xades_named (codes "DataObjectFormat")) (format_attributes draft k) (mime uri_)
            (follow_first j node (formats_from draft (suc k) uris) (formats_from draft 1 draft.references) f),
        formats_from_there (suc j) (suc k) uris (follow_more j node (formats_from draft (suc k) uris) (formats_from draft 1 draft.references) f),
      )

  formats_there : FormatsThere 0 1 draft.references
  formats_there = formats_from_there 0 1 draft.references (λ i c e. let n : 0 + i ≡ i = omega arith in ap (λ k. nth k (formats_from draft 1 draft.references)) n ∙ e)

  abbrev points_at : ℕ → Spot → Bool
  points_at k format = option_map_or (λ id. option_map_or (λ target. target is fragment id) (attribute (codes "ObjectReference") format) false) (Some (reference_id draft.id k)) false

  record Format (k : ℕ) (spots : List Spot) : Type 0 where
    place : ℕ
    named : List ℕ
    found : spots ≡ format_at path outer draft place k ∷ []
    there : FormatThere place k named

  none_later : (k j i : ℕ) (uris : List (List ℕ)) → k < i → i + length uris < 2 ^ 64 → filter (points_at k) (formats_at path outer draft j i uris) ≡ []
  none_later k j i [] h b = refl
  none_later k j i (uri_ ∷ uris) h b =
      let ik : i ≡ k → ⊥ = omega arith in
      ap (λ t. cond t (format_at path outer draft j i ∷ filter (points_at k) (formats_at path outer draft (suc j) (suc i) uris)) (filter (points_at k) (formats_at path outer draft (suc j) (suc i) uris)))
      (other_number draft.id i k (omega arith) (omega arith) ik)
      ∙ none_later k (suc j) (suc i) uris (omega arith) (omega arith)

  find_format : (k j i : ℕ) (uris : List (List ℕ)) → FormatsThere j i uris → i ≤ k → k < i + length uris → i + length uris < 2 ^ 64 → Format k (filter (points_at k) (formats_at path outer draft j i uris))
  find_format k j i [] f a b c = absurd (omega arith)
  find_format k j i (uri_ ∷ uris) f a b c = elim (cases_lt i k) [
    | inl h ↦
        let ik : i ≡ k → ⊥ = omega arith in
        let skipped : filter (points_at k) (formats_at path outer draft j i (uri_ ∷ uris)) ≡ filter (points_at k) (formats_at path outer draft (suc j) (suc i) uris) =
        ap (λ t. cond t (format_at path outer draft j i ∷ filter (points_at k) (formats_at path outer draft (suc j) (suc i) uris)) (filter (points_at k) (formats_at path outer draft (suc j) (suc i) uris)))
        (other_number draft.id i k (omega arith) (omega arith) ik) in
        subst (Format k) (sym skipped) (find_format k (suc j) (suc i) uris f.1 (omega arith) (omega arith) (omega arith))
    | inr h ↦
        let e : i ≡ k = omega arith in
        let t : (fragment (reference_id draft.id i) is fragment (reference_id draft.id k)) ≡ true =
        ap (λ n. fragment (reference_id draft.id n) is fragment (reference_id draft.id k)) e ∙ same_is (fragment (reference_id draft.id k)) in
        let FT : ℕ → Type 0 = λ n. FormatThere j n uri_ in
        record {
          place = j;
          named = uri_;
          found = ap (λ b. cond b (format_at path outer draft j i ∷ filter (points_at k) (formats_at path outer draft (suc j) (suc i) uris)) (filter (points_at k) (formats_at path outer draft (suc j) (suc i) uris))) t
              ∙ ap (λ spots. format_at path outer draft j i ∷ spots) (none_later k (suc j) (suc i) uris (omega arith) (omega arith))
              ∙ ap (λ n. format_at path outer draft j n ∷ []) e;
          there = subst FT e f.0;
        }
  ]

  -- one Reference

  one_object : (j k : ℕ) (uri_ : List ℕ) → 1 ≤ k → k < 1 + length draft.references → 1 + length draft.references < 2 ^ 64 → data_object_line_of d sig (reading.reference path outer draft j k uri_) ≡ []
  one_object j k uri_ a b c =
      let f = find_format k 0 1 draft.references formats_there a b c in
      let format : Spot = format_at path outer draft f.place k in
      let type : Spot = spot_below format.path format.tags 0 (xades_named (codes "MimeType")) [] in
      let node : Node = Element (xades_named (codes "DataObjectFormat")) (format_attributes draft k) (mime f.named) in
      let e : formats_for d sig (reading.reference path outer draft j k uri_) ≡ format ∷ [] = ap (filter (points_at k)) formats_are ∙ f.found in
      let kids : called d (xades (codes "MimeType")) format ≡ type ∷ [] = ap (filter (is_called (xades (codes "MimeType")))) (elements_stand d format node f.there) in
      let types : first (called_in d (xades (codes "MimeType")) (format ∷ [])) ≡ type ∷ [] = ap first (append-nil (called d (xades (codes "MimeType")) format)) ∙ ap first kids in
      let type_there = child_there d format node f.there 0 (xades_named (codes "MimeType")) [] (text (mime_type (place_named f.named))) refl in
      let stray = stray_none d (format ∷ []) (unstray d format node f.there refl, tt) in
      let l = lacking_none d (xades (codes "MimeType")) format type [] kids in
      let t = text_none d type (xades_named (codes "MimeType")) [] (mime_type (place_named f.named)) (mime_there (place_named f.named)) type_there in
      (λ i. (cond (is_empty (e i)) (paths (signed_data_properties d sig)) [])
      ++ paths (drop 1 (e i))
      ++ with_stray_text d (first (e i))
      ++ lacking d (xades (codes "MimeType")) (first (e i))
      ++ without_text d (first (called_in d (xades (codes "MimeType")) (first (e i)))))
      ∙ (λ i. [] ++ [] ++ stray i ++ l i ++ without_text d (types i))
      ∙ t

  all_objects : (j k : ℕ) (uris : List (List ℕ)) → 1 ≤ k → k + length uris ≤ 1 + length draft.references → 1 + length draft.references < 2 ^ 64
      → flat_map (data_object_line_of d sig) (references_at path outer draft j k uris) ≡ []
  all_objects j k [] a b c = refl
  all_objects j k (uri_ ∷ uris) a b c =
      let one = one_object j k uri_ a (omega arith) c in
      let more = all_objects (suc j) (suc k) uris (omega arith) (omega arith) c in
      λ i. one i ++ more i

  -- which References want a format

  abbrev wants_with : List Spot → Spot → Bool
  wants_with keys reference = not (is_typed reference) && not (list_any (λ key. list_any (is_identifying (uri reference)) (attributes_in key.tags)) keys)

  all_want : (j k : ℕ) (uris : List (List ℕ)) (i : ℕ) → filter (wants_with (reading.key path outer draft ∷ [])) (references_at path outer draft j k uris ++ last_at path outer draft i ∷ []) ≡ references_at path outer draft j k uris
  all_want j k [] i = refl
  all_want j k (uri_ ∷ uris) i = ap (λ spots. reading.reference path outer draft j k uri_ ∷ spots) (all_want (suc j) (suc k) uris i)

  wanting_are : filter (wants_format d sig) (parts.references d sig) ≡ references_at path outer draft 2 1 draft.references
  wanting_are =
      let k = of.key_is d path outer digest digest_of last_value draft s in
      let r = of.references_are d path outer digest digest_of last_value draft s in
      (λ i. filter (wants_with (k i)) (r i)) ∙ all_want 2 1 draft.references (2 + length draft.references)

  formats_unstray : (k : ℕ) (uris : List (List ℕ)) → has_stray_text (emptied_all (formats_from draft k uris)) ≡ false
  formats_unstray k [] = refl
  formats_unstray k (uri_ ∷ uris) = formats_unstray (suc k) uris

  either : (b : Bool) (found : List Path) → found ≡ [] → cond b [] found ≡ []
  either true found e = refl
  either false found e = e

  pub objects_none : 1 + length draft.references < 2 ^ 64 → data_object_line d sig ≡ []
  objects_none c =
      let w = wanting_are in
      let o = objects_is in
      let p = of.properties_is d path outer digest digest_of last_value draft s in
      let stray = stray_none d (objects ∷ []) (unstray d objects _ (reading.objects_there d path outer digest digest_of last_value draft s) (formats_unstray 1 draft.references), tt) in
      let l = lacking_none d (xades (codes "SignedDataObjectProperties")) properties objects []
      (ap (filter (is_called (xades (codes "SignedDataObjectProperties")))) (of.properties_children d path outer digest digest_of last_value draft s)) in
      let all = all_objects 2 1 draft.references (omega arith) (omega arith) c in
      let e = either (is_empty (references_at path outer draft 2 1 draft.references)) (lacking d (xades (codes "SignedDataObjectProperties")) (properties ∷ [])) l in
      (λ i. with_stray_text d (o i)
      ++ (cond (is_empty (w i)) [] (lacking d (xades (codes "SignedDataObjectProperties")) (p i)))
      ++ flat_map (data_object_line_of d sig) (w i))
      ∙ (λ i. stray i ++ e i ++ all i)
