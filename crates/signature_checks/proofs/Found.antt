-- A code that is found of a signature's answer or of its References is that of the whole signature.
use Rattle.std.proofs.Common.{◌≡◌, ℕ, List, ◌∷◌, ◌∙◌, ap}
use Rattle.document_model.specs.Tree.{Nodes}
use Rattle.qualifying_props.specs.Whole.{is_whole}
use Rattle.signature_model.specs.Chains.{Handed}
use Rattle.signature_model.specs.Readable.{Read, answer}
use Rattle.signature_model.specs.Spots.{Spot}
use Rattle.signature_checks.specs.Codes.{first_code}
use Rattle.signature_checks.specs.Opening.{IsFound, code_by, place_test, reference_test, signature_code}
use Rattle.signature_checks.specs.declared.objections.Objection.{Objection}
use Rattle.signature_checks.specs.declared.objections.Objection.TheVariants.{Found, OutOfMemory}

pub found_of_answer : (handed : Handed) (bytes : List ℕ) (document : Nodes) (objection : Objection)
    → IsFound (λ tests. code_by tests bytes (answer is_whole document)) objection → IsFound (signature_code handed bytes document) objection
found_of_answer handed bytes document (Found code) h = λ tests. h (λ signature. reference_test handed document signature ∷ place_test document signature ∷ tests signature)
found_of_answer handed bytes document OutOfMemory h = tt

pub found_of_references : (handed : Handed) (bytes : List ℕ) (document : Nodes) (signature : Spot) (objection : Objection) → answer is_whole document ≡ Read signature
    → IsFound (λ tests. first_code (reference_test handed document signature ∷ place_test document signature ∷ tests signature)) objection
    → IsFound (signature_code handed bytes document) objection
found_of_references handed bytes document signature (Found code) read h = λ tests.
    ap (code_by (λ signature. reference_test handed document signature ∷ place_test document signature ∷ tests signature) bytes) read ∙ h tests
found_of_references handed bytes document signature OutOfMemory read h = tt
