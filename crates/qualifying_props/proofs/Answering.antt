-- What is returned, by the answer of the definitions.
use Rattle.std.proofs.Common.{◌≡◌, ◌<◌, List, [], ◌∷◌, length, None, refl, sym, ◌∙◌, ap, subst, arith}
use Rattle.std.specs.Prelude.{Result, Ok, Err, IfErr, IfOk, OnOk}
use Rattle.document_model.specs.Tree.{Nodes}
use Rattle.doc_spans.specs.declared.documents.Doc.{Doc}
use Rattle.doc_spans.specs.declared.documents.NodeId.{NodeId}
use Rattle.doc_spans.specs.Seen.{document_in}
use Rattle.signature_elements.specs.Standing.{spot_of}
use Rattle.signature_model.specs.Faults.{first_fault, first_place}
use Rattle.signature_model.specs.Parts.{counted, includes}
use Rattle.signature_model.specs.Readable.{Answer, Read, Several, by_data, by_include, by_shape, bad_data, only, read_parts}
use Rattle.signature_model.specs.Shape.{shape_faults}
use Rattle.signature_model.specs.Spots.{Spot, paths}
use Rattle.qualifying_props.specs.declared.faults.PartFault.{PartFault}
use Rattle.qualifying_props.specs.Answers.{IsAnswer, IsFault}
use Rattle.qualifying_props.specs.Collected.{ArePartsAt}
use Rattle.qualifying_props.specs.PartsOf.{AreParts, ArePartsOf}
use Rattle.qualifying_props.specs.Shown.{Shown}
use Rattle.qualifying_props.specs.Whole.{is_whole}
use Rattle.qualifying_props.proofs.Wholes.{are_whole}

pub are_several : (read : Spot → Answer) (spots : List Spot) → 1 < length spots → only read spots ≡ Several
are_several read [] h = absurd (omega (arith, h))
are_several read (spot ∷ []) h = absurd (omega (arith, h))
are_several read (spot ∷ next ∷ spots) h = refl

-- a sound shape and no Include leave the values
pub by_values : (document : Nodes) (spot : Spot) → first_fault (shape_faults document spot) ≡ None → first_place (paths (includes document spot)) ≡ None
    → read_parts is_whole document spot ≡ by_data spot (first_place (bad_data is_whole document spot))
by_values document spot shape include =
    ap (by_shape (by_include (by_data spot (first_place (bad_data is_whole document spot))) (first_place (paths (includes document spot))))) shape
    ∙ ap (by_include (by_data spot (first_place (bad_data is_whole document spot)))) include

-- the answer for the only signature
pub only_answer : (doc : Doc) (signature : NodeId) (result : Result Shown PartFault) → counted (document_in doc) ≡ spot_of doc signature ∷ []
    → IfOk result (ArePartsAt doc signature) → OnOk result (read_parts is_whole (document_in doc) (spot_of doc signature) ≡ Read (spot_of doc signature))
    → IfErr result (IsFault doc (read_parts is_whole (document_in doc) (spot_of doc signature))) → IsAnswer doc result
only_answer doc signature (Ok parts) one at read err =
    let document = document_in doc in
    let P : NodeId → Type 0 = λ node. ArePartsOf doc document (spot_of doc node) parts in
    let answers = ap (only (read_parts is_whole document)) one ∙ read ∙ ap (λ node. Read (spot_of doc node)) (sym at.node) in
    let are : AreParts doc parts = subst P (sym at.node) at.are in (answers, are, are_whole doc parts answers are)
only_answer doc signature (Err fault) one at read err =
    let F : Answer → Type 0 = λ found. IsFault doc found fault in
    subst F (sym (ap (only (read_parts is_whole (document_in doc))) one)) err
