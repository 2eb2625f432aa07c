-- The lines of a signature's shape: where its shape has no fault, no line has one, and the other way round.
use Rattle.std.proofs.Common.{◌≡◌, List, [], ◌∷◌, ◌++◌, None, refl, sym, ap}
use Rattle.std.proofs.lemmas.Option.{none-some}
use Rattle.std.specs.Prelude.{map}
use Rattle.document_model.specs.Characters.{is_empty}
use Rattle.document_model.specs.Tree.{Nodes}
use Rattle.signature_model.specs.Spots.{Spot}
use Rattle.signature_model.specs.Faults.{ShapeFault, first_fault, of_line}
use Rattle.signature_model.specs.Faults as what
use Rattle.signature_model.specs.Shape.{parts_line, info_line, form_line, method_line, reference_line, qualifying_line, properties_line, covered_line, signed_line, data_object_line, key_line, value_line, stamp_line, values_line, shape_faults}
use Rattle.signature_model.proofs.Lists.{not_both}

-- Lists that are empty.

pub not_nothing : {A : Type 0} (x : A) (xs : List A) → x ∷ xs ≡ [] → ⊥
not_nothing x xs e = not_both (sym (ap is_empty e))

pub front_nothing : {A : Type 0} (xs ys : List A) → xs ++ ys ≡ [] → xs ≡ []
front_nothing [] ys e = refl
front_nothing (x ∷ xs) ys e = absurd (not_nothing x (xs ++ ys) e)

pub behind_nothing : {A : Type 0} (xs ys : List A) → xs ++ ys ≡ [] → ys ≡ []
behind_nothing [] ys e = e
behind_nothing (x ∷ xs) ys e = absurd (not_nothing x (xs ++ ys) e)

pub map_nothing : {A B : Type 0} (f : A → B) (xs : List A) → map f xs ≡ [] → xs ≡ []
map_nothing f [] e = refl
map_nothing f (x ∷ xs) e = absurd (not_nothing (f x) (map f xs) e)

pub none_first : (faults : List ShapeFault) → first_fault faults ≡ None → faults ≡ []
none_first [] e = refl
none_first (fault ∷ faults) e = absurd (none-some _ (sym e))

-- The lines of the shape.

pub record Lines (document : Nodes) (signature : Spot) : Type 0 where
  pub parts : parts_line document signature ≡ []
  pub info : info_line document signature ≡ []
  pub form : form_line document signature ≡ []
  pub method : method_line document signature ≡ []
  pub reference : reference_line document signature ≡ []
  pub qualifying : qualifying_line document signature ≡ []
  pub properties : properties_line document signature ≡ []
  pub covered : covered_line document signature ≡ []
  pub signed : signed_line document signature ≡ []
  pub object : data_object_line document signature ≡ []
  pub key : key_line document signature ≡ []
  pub value : value_line document signature ≡ []
  pub stamp : stamp_line document signature ≡ []
  pub values : values_line document signature ≡ []

pub lines_of : (d : Nodes) (s : Spot) → shape_faults d s ≡ [] → Lines d s
lines_of d s e =
    let to_stamp = front_nothing _ (of_line what.Values (values_line d s)) e in
    let to_value = front_nothing _ (of_line what.Stamp (stamp_line d s)) to_stamp in
    let to_key = front_nothing _ (of_line what.Value (value_line d s)) to_value in
    let to_data = front_nothing _ (of_line what.Key (key_line d s)) to_key in
    let to_signed = front_nothing _ (of_line what.DataObject (data_object_line d s)) to_data in
    let to_covered = front_nothing _ (of_line what.Signed (signed_line d s)) to_signed in
    let to_properties = front_nothing _ (of_line what.Covered (covered_line d s)) to_covered in
    let to_qualifying = front_nothing _ (of_line what.Properties (properties_line d s)) to_properties in
    let to_reference = front_nothing _ (of_line what.Qualifying (qualifying_line d s)) to_qualifying in
    let to_method = front_nothing _ (of_line what.Reference (reference_line d s)) to_reference in
    let to_form = front_nothing _ (of_line what.Method (method_line d s)) to_method in
    let to_info = front_nothing _ (of_line what.Form (form_line d s)) to_form in
    let to_parts = front_nothing _ (of_line what.Info (info_line d s)) to_info in
    record {
      parts = map_nothing _ (parts_line d s) to_parts;
      info = map_nothing _ (info_line d s) (behind_nothing _ (of_line what.Info (info_line d s)) to_info);
      form = map_nothing _ (form_line d s) (behind_nothing _ (of_line what.Form (form_line d s)) to_form);
      method = map_nothing _ (method_line d s) (behind_nothing _ (of_line what.Method (method_line d s)) to_method);
      reference = map_nothing _ (reference_line d s) (behind_nothing _ (of_line what.Reference (reference_line d s)) to_reference);
      qualifying = map_nothing _ (qualifying_line d s) (behind_nothing _ (of_line what.Qualifying (qualifying_line d s)) to_qualifying);
      properties = map_nothing _ (properties_line d s) (behind_nothing _ (of_line what.Properties (properties_line d s)) to_properties);
      covered = map_nothing _ (covered_line d s) (behind_nothing _ (of_line what.Covered (covered_line d s)) to_covered);
      signed = map_nothing _ (signed_line d s) (behind_nothing _ (of_line what.Signed (signed_line d s)) to_signed);
      object = map_nothing _ (data_object_line d s) (behind_nothing _ (of_line what.DataObject (data_object_line d s)) to_data);
      key = map_nothing _ (key_line d s) (behind_nothing _ (of_line what.Key (key_line d s)) to_key);
      value = map_nothing _ (value_line d s) (behind_nothing _ (of_line what.Value (value_line d s)) to_value);
      stamp = map_nothing _ (stamp_line d s) (behind_nothing _ (of_line what.Stamp (stamp_line d s)) to_stamp);
      values = map_nothing _ (values_line d s) (behind_nothing _ (of_line what.Values (values_line d s)) e);
    }

pub shape_of : (d : Nodes) (s : Spot) → Lines d s → shape_faults d s ≡ []
shape_of d s l = λ i.
    of_line what.Parts (l.parts i)
    ++ of_line what.Info (l.info i)
    ++ of_line what.Form (l.form i)
    ++ of_line what.Method (l.method i)
    ++ of_line what.Reference (l.reference i)
    ++ of_line what.Qualifying (l.qualifying i)
    ++ of_line what.Properties (l.properties i)
    ++ of_line what.Covered (l.covered i)
    ++ of_line what.Signed (l.signed i)
    ++ of_line what.DataObject (l.object i)
    ++ of_line what.Key (l.key i)
    ++ of_line what.Value (l.value i)
    ++ of_line what.Stamp (l.stamp i)
    ++ of_line what.Values (l.values i)
