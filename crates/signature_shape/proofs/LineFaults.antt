-- The faults of a line, by the first place that it gives.
use Rattle.std.proofs.Common.{◌≡◌, Bool, true, false, cond, List, [], ◌∷◌, ◌++◌, Option, Some, None, refl, sym, ◌∙◌, ap, append_assoc}
use Rattle.std.specs.Prelude.{option_map}
use Rattle.document_model.specs.Canonical.{is_before}
use Rattle.document_model.specs.Tree.{Nodes, Path}
use Rattle.doc_spans.specs.declared.documents.Doc.{Doc}
use Rattle.doc_spans.specs.Seen.{document_in}
use Rattle.signature_model.specs.Faults.{What, ShapeFault, earlier, first_place, sooner, first_fault, with_faults, of_line}
use Rattle.signature_model.specs.Faults as words
use Rattle.signature_model.specs.Shape.{shape_faults, covered_line, signed_line, data_object_line, key_line, value_line, stamp_line, values_line}
use Rattle.signature_model.specs.Spots.{Spot}
use Rattle.signature_model.proofs.FirstFaults.{with_faults_append, with_faults_first}
use Rattle.signature_shape.specs.declared.faults.Faults.{Faults}
use Rattle.signature_parts.specs.declared.places.FirstPlace.{FirstPlace}
use Rattle.signature_shape.specs.Faults.{fault_in, with_line, HasFault, Tells}
use Rattle.signature_shape.specs.Lines.{outer_lines, inner_lines}
use Rattle.signature_parts.specs.Places.{place_in, IsFirst}

abbrev fault_of : What → Path → ShapeFault
fault_of what place = record { what = what; place = place }

sooner_place : (what : What) (place : Path) (others : Option Path) → sooner (fault_of what place) (option_map (fault_of what) others) ≡ fault_of what (earlier place others)
sooner_place what place None = refl
sooner_place what place (Some other) = by_bool (is_before other place)
  where
    by_bool : (b : Bool) → cond b (fault_of what other) (fault_of what place) ≡ fault_of what (cond b other place)
    by_bool true = refl
    by_bool false = refl

-- the first fault of a line is at its first place
first_of_line : (what : What) (places : List Path) → first_fault (of_line what places) ≡ option_map (fault_of what) (first_place places)
first_of_line what [] = refl
first_of_line what (place ∷ places) =
    ap (λ o. Some (sooner (fault_of what place) o)) (first_of_line what places) ∙ ap Some (sooner_place what place (first_place places))

with_first : (what : What) (place : Option Path) (kept : ShapeFault) → Some (sooner kept (option_map (fault_of what) place)) ≡ with_line what place (Some kept)
with_first what None kept = refl
with_first what (Some place) kept = by_bool (is_before place kept.place)
  where
    by_bool : (b : Bool) → Some (cond b (fault_of what place) kept) ≡ cond b (Some (fault_of what place)) (Some kept)
    by_bool true = refl
    by_bool false = refl

alone : (what : What) (place : Option Path) → option_map (fault_of what) place ≡ with_line what place None
alone what None = refl
alone what (Some place) = refl

pub line_added : (what : What) (places : List Path) (kept : Option ShapeFault) → with_faults (of_line what places) kept ≡ with_line what (first_place places) kept
line_added what places None = with_faults_first (of_line what places) ∙ first_of_line what places ∙ alone what (first_place places)
line_added what places (Some kept) =
    with_faults_first (kept ∷ of_line what places) ∙ ap (λ o. Some (sooner kept o)) (first_of_line what places) ∙ with_first what (first_place places) kept

-- One line after another.

pub tells_line : (doc : Doc) (what : What) (places : List Path) (place : FirstPlace) (x y : Faults) → IsFirst doc places place
    → fault_in doc y.first ≡ with_line what (place_in doc place) (fault_in doc x.first) → HasFault doc y.first → Tells doc (of_line what places) x y
tells_line doc what places place x y p e h =
    record { fault = e ∙ ap (λ o. with_line what o (fault_in doc x.first)) p.place ∙ sym (line_added what places (fault_in doc x.first)); has = h }

pub tells_more : (doc : Doc) (a b : List ShapeFault) (x y z : Faults) → Tells doc a x y → Tells doc b y z → Tells doc (a ++ b) x z
tells_more doc a b x y z h k =
    record { fault = k.fault ∙ ap (with_faults b) h.fault ∙ sym (with_faults_append a b (fault_in doc x.first)); has = k.has }

-- The lines in their two parts are all lines.

seven_behind : (x a b c d e f g : List ShapeFault) → x ++ (a ++ b ++ c ++ d ++ e ++ f ++ g) ≡ x ++ a ++ b ++ c ++ d ++ e ++ f ++ g
seven_behind x a b c d e f g = simp append_assoc

pub all_lines : (document : Nodes) (signature : Spot) → outer_lines document signature ++ inner_lines document signature ≡ shape_faults document signature
all_lines document signature = seven_behind (outer_lines document signature)
    (of_line words.Covered (covered_line document signature))
    (of_line words.Signed (signed_line document signature))
    (of_line words.DataObject (data_object_line document signature))
    (of_line words.Key (key_line document signature))
    (of_line words.Value (value_line document signature))
    (of_line words.Stamp (stamp_line document signature))
    (of_line words.Values (values_line document signature))

-- what is kept from none on, over all of them, is the first fault
pub tells_all : (doc : Doc) (signature : Spot) (x y z : Faults) → x.first ≡ None → Tells doc (outer_lines (document_in doc) signature) x y
    → Tells doc (inner_lines (document_in doc) signature) y z → fault_in doc z.first ≡ first_fault (shape_faults (document_in doc) signature)
tells_all doc signature x y z e h k =
    let both = tells_more doc (outer_lines (document_in doc) signature) (inner_lines (document_in doc) signature) x y z h k in
    both.fault
    ∙ ap (λ o. with_faults (outer_lines (document_in doc) signature ++ inner_lines (document_in doc) signature) (fault_in doc o)) e
    ∙ ap (λ faults. with_faults faults None) (all_lines (document_in doc) signature)
    ∙ with_faults_first (shape_faults (document_in doc) signature)
