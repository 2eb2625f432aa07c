-- A prepared document is read.
use Rattle.std.proofs.Common.{◌≡◌, ℕ, suc, Bool, false, cond, not, List, [], ◌∷◌, ◌++◌, refl, sym, ◌∙◌, ap, codes}
use Rattle.std.proofs.lemmas.List.{append-nil}
use Rattle.std.specs.Prelude.{filter, flat_map, map}
use Rattle.std.specs.Option.{option_map_or}
use Rattle.document_model.specs.Tree.{Nodes, Path}
use Rattle.document_model.specs.Scopes.{Tag, tags_at}
use Rattle.signature_model.specs.Vocabulary.{DigestKind, ds}
use Rattle.signature_model.specs.Spots.{Spot, paths}
use Rattle.signature_model.specs.Parts.{DatumKind, Datum, Certificate, counted, data_of, as_kind}
use Rattle.signature_model.specs.Faults.{first_fault, first_place, of_line}
use Rattle.signature_model.specs.Faults as what
use Rattle.signature_model.specs.Chains.{Handed}
use Rattle.signature_model.specs.Shape.{shape_faults}
use Rattle.signature_model.specs.Readable.{Read, is_bad, bad_data, by_data, by_include, by_shape, read_parts, only, answer}
use Rattle.signature_model.specs.Prepared.{Draft, first_certificate, named_octets, prepared}
use Rattle.covered_items.specs.Whole.{AreWhole}
use Rattle.covered_items.proofs.NewElements.{spot_below}
use Rattle.prepared_documents.specs.Places.{root_of, signature_in, signature_attributes}
use Rattle.prepared_documents.specs.Preparable.{IsPreparable}
use Rattle.prepared_documents.specs.PreparedRead.{IsComplete, PreparedIsRead, PreparedTakesAValue}
use Rattle.insertion_fragments.specs.Drafts.{GivesBytes}
use Rattle.signature_model.specs.Fragments.{Value}
use Rattle.signature_model.proofs.ReadTakes.{read_takes_item}
use Rattle.prepared_documents.proofs.Reading as reading
use Rattle.prepared_documents.proofs.Reading.{ds_named, certificates_at, There}
use Rattle.prepared_documents.proofs.Found.{counted_there}
use Rattle.prepared_documents.proofs.Original as original
use Rattle.prepared_documents.proofs.Original.{place_is, there}
use Rattle.prepared_documents.proofs.PartsOf as of
use Rattle.prepared_documents.proofs.LinesInfo as lines
use Rattle.prepared_documents.proofs.LinesInfo.{octets_read}
use Rattle.prepared_documents.proofs.LinesRest as rest
use Rattle.prepared_documents.proofs.LinesRest.{CertificatesThere}
use Rattle.prepared_documents.proofs.LinesObjects.{objects_none}
use Rattle.prepared_documents.proofs.FreeNew.{not_signed, is_free}

-- Read values.

module _ (is_whole : DatumKind → List ℕ → Bool) (d : Nodes) (path : Path) (outer : List Tag) (digest digest_of : List ℕ → List ℕ) (last_value : List ℕ) (draft : Draft) (s : There d path outer digest digest_of last_value draft) where
  none_bad : (j : ℕ) (certificates : List (List ℕ)) → CertificatesThere d path outer digest digest_of last_value draft s j certificates → AreWhole is_whole Certificate certificates
      → filter (is_bad is_whole d) (as_kind Certificate (certificates_at path outer draft j certificates)) ≡ []
  none_bad j [] t w = refl
  none_bad j (octets ∷ others) t w =
      let spot : Spot = spot_below (reading.data_ path outer draft).path (reading.data_ path outer draft).tags j (ds_named (codes "X509Certificate")) [] in
      let datum : Datum = record { kind = Certificate; spot = spot } in
      let rest : List Datum = filter (is_bad is_whole d) (as_kind Certificate (certificates_at path outer draft (suc j) others)) in
      ap (λ o. cond (not (option_map_or (is_whole Certificate) o false)) (datum ∷ rest) rest) (octets_read d spot (ds_named (codes "X509Certificate")) [] octets w.0 t.0)
      ∙ ap (λ t. cond (not t) (datum ∷ rest) rest) w.1
      ∙ none_bad (suc j) others t.1 w.2

  pub data_good : AreWhole is_whole Certificate draft.certificates → bad_data is_whole d (reading.signature path outer draft) ≡ []
  data_good w =
      let c = of.certificates_are d path outer digest digest_of last_value draft s in
      let n = of.no_properties d path outer digest digest_of last_value draft s in
      (λ i. map (λ datum. datum.spot.path) (filter (is_bad is_whole d) (as_kind Certificate (c i) ++ flat_map (data_of d) (n i))))
      ∙ ap (λ data_. map (λ datum. datum.spot.path) (filter (is_bad is_whole d) data_)) (append-nil (as_kind Certificate (certificates_at path outer draft 0 draft.certificates)))
      ∙ ap (map (λ datum. datum.spot.path)) (none_bad 0 draft.certificates (rest.certificates_there d path outer digest digest_of last_value draft s) w)

-- All.

module _ (is_whole : DatumKind → List ℕ → Bool) (digest : DigestKind → List ℕ → List ℕ) (handed : Handed) (document : Nodes) (draft : Draft)
    (g : GivesBytes digest) (c : IsComplete is_whole draft) (p : IsPreparable document draft) where
  abbrev new : Nodes
  new = prepared digest handed document draft

  abbrev own : Path
  own = (signature_in document draft).path

  abbrev outer : List Tag
  outer = tags_at document (root_of document)

  abbrev digest_of : List ℕ → List ℕ
  digest_of = original.digest_of digest handed document draft p.root

  abbrev last_value : List ℕ
  last_value = original.last_value digest handed document draft p.root

  abbrev sig : Spot
  sig = signature_in document draft

  here : There new own outer (digest draft.digest) digest_of last_value draft
  here = there digest handed document draft p.root

  pub counted_one : counted new ≡ sig ∷ []
  counted_one =
      let r = p.root in
      let inside : Nodes = original.inner digest handed document draft r in
      counted_there (ds (codes "Signature")) (ds_named (codes "Signature")) (signature_attributes draft) inside document (root_of document) r.0 r.1 r.2 p.may.unsigned
      ∙ ap (λ q. reading.signature q outer draft ∷ []) (sym (place_is document draft r))

  pub shape_none : shape_faults new sig ≡ []
  shape_none =
      let a = lines.parts_none new own outer (digest draft.digest) digest_of last_value draft here in
      let b = lines.info_none new own outer (digest draft.digest) digest_of last_value draft here in
      let e = lines.form_none new own outer (digest draft.digest) digest_of last_value draft here in
      let f = lines.method_none new own outer (digest draft.digest) digest_of last_value draft here in
      let h = lines.reference_none new own outer (digest draft.digest) digest_of last_value draft here (λ uri. g draft.digest (named_octets handed document uri)) (g draft.digest _) in
      let k = rest.qualifying_none new own outer (digest draft.digest) digest_of last_value draft here in
      let l = rest.properties_none new own outer (digest draft.digest) digest_of last_value draft here in
      let m = rest.covered_none new own outer (digest draft.digest) digest_of last_value draft here in
      let n = rest.signed_none new own outer (digest draft.digest) digest_of last_value draft here c.timed (g draft.digest (first_certificate draft)) in
      let o = objects_none new own outer (digest draft.digest) digest_of last_value draft here c.few in
      let q = rest.key_none new own outer (digest draft.digest) digest_of last_value draft here c.signer in
      let t = rest.value_empty new own outer (digest draft.digest) digest_of last_value draft here in
      let u = rest.stamp_none new own outer (digest draft.digest) digest_of last_value draft here in
      let v = rest.values_none new own outer (digest draft.digest) digest_of last_value draft here in
      λ i. of_line what.Parts (a i)
      ++ of_line what.Info (b i)
      ++ of_line what.Form (e i)
      ++ of_line what.Method (f i)
      ++ of_line what.Reference (h i)
      ++ of_line what.Qualifying (k i)
      ++ of_line what.Properties (l i)
      ++ of_line what.Covered (m i)
      ++ of_line what.Signed (n i)
      ++ of_line what.DataObject (o i)
      ++ of_line what.Key (q i)
      ++ of_line what.Value (t i)
      ++ of_line what.Stamp (u i)
      ++ of_line what.Values (v i)

  pub is_read : answer is_whole new ≡ Read sig
  is_read =
      let one = counted_one in
      let none = shape_none in
      let include = of.no_includes new own outer (digest draft.digest) digest_of last_value draft here in
      let good = data_good is_whole new own outer (digest draft.digest) digest_of last_value draft here c.whole in
      ap (only (read_parts is_whole new)) one
      ∙ (λ i. by_shape (by_include (by_data sig (first_place (good i))) (first_place (paths (include i)))) (first_fault (none i)))

pub prepared_read : PreparedIsRead
prepared_read is_whole digest handed document draft g c p = record {
  read = is_read is_whole digest handed document draft g c p;
  unsigned = not_signed digest handed document draft p;
  free = is_free digest handed document draft p;
}

pub takes_value : PreparedTakesAValue
takes_value is_whole digest handed document draft octets g c p =
    read_takes_item is_whole (prepared digest handed document draft) (signature_in document draft) (Value octets)
    (is_read is_whole digest handed document draft g c p) (is_free digest handed document draft p) (not_signed digest handed document draft p)
