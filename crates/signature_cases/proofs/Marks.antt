-- How many objects there are before each property.
use Rattle.std.proofs.Common.{◌≡◌, ℕ, zero, suc, ◌+◌, ◌<◌, ◌≤◌, List, [], ◌∷◌, ◌++◌, length, map, take, Some, Ok, slice_get, refl, sym, ◌∙◌, ap, ⊎_elim, ◌⊎◌, inl, inr, arith}
use Rattle.std.specs.Prelude.{flat_map}
use Rattle.std.proofs.lemmas.List.{length-append, length-map}
use Rattle.doc_spans.specs.declared.documents.Doc.{Doc}
use Rattle.doc_spans.specs.Seen.{document_in}
use Rattle.qualifying_props.specs.Answers.{IsAnswer}
use Rattle.qualifying_props.specs.Shown.{Shown}
use Rattle.signature_elements.specs.Standing.{spot_of}
use Rattle.signature_model.specs.Parts.{properties}
use Rattle.signature_model.specs.Spots.{Spot}
use Rattle.signature_objects.specs.Objects.{Object, with_objects}
use Rattle.case_objects.specs.Walks.{front_objects, property_objects}
use Rattle.case_objects.proofs.Walked.{walked_to}
use Rattle.signature_cases.specs.Stamps.{AreMarks}

-- the objects where so many properties are read
abbrev pub read_to : Shown → ℕ → List Object
read_to parts n = with_objects (with_objects [] (front_objects parts)) (flat_map property_objects (take n parts.properties))

-- so many properties are marked
pub record MarksTo (parts : Shown) (n : ℕ) (marks : List ℕ) : Type 0 where
  pub many : length marks ≡ n
  pub each : (i : ℕ) → i < n → slice_get marks i ≡ Some (length (read_to parts i))

pub marks_start : (parts : Shown) → MarksTo parts 0 []
marks_start parts = record { many = refl; each = λ i lt. absurd (omega (arith, lt)) }

get_front : (xs : List ℕ) (y i : ℕ) → i < length xs → slice_get (xs ++ y ∷ []) i ≡ slice_get xs i
get_front [] y i lt = absurd (omega (arith, lt))
get_front (x ∷ xs) y zero lt = refl
get_front (x ∷ xs) y (suc i) lt = get_front xs y i (omega (arith, lt))

get_last : (xs : List ℕ) (y i : ℕ) → i ≡ length xs → slice_get (xs ++ y ∷ []) i ≡ Some y
get_last xs y i e = ap (slice_get (xs ++ y ∷ [])) e ∙ at_end xs
  where
    at_end : (all : List ℕ) → slice_get (all ++ y ∷ []) (length all) ≡ Some y
    at_end [] = refl
    at_end (x ∷ all) = at_end all

either : (i n : ℕ) → i < n + 1 → (i < n) ⊎ (i ≡ n)
either zero zero lt = inr refl
either zero (suc n) lt = inl (omega arith)
either (suc i) zero lt = absurd (omega (arith, lt))
either (suc i) (suc n) lt = ⊎_elim (λ l. inl (omega (arith, l))) (λ e. inr (ap suc e)) (either i n (omega (arith, lt)))

pub marks_on : (parts : Shown) (n mark : ℕ) (marks : List ℕ) → mark ≡ length (read_to parts n) → MarksTo parts n marks → MarksTo parts (n + 1) (marks ++ mark ∷ [])
marks_on parts n mark marks is h =
    let many = h.many in
    let long = length-append marks (mark ∷ []) in record {
      many = omega (arith, long, many);
      each = λ i lt.
          ⊎_elim
          (λ l. get_front marks mark i (omega (arith, l, many)) ∙ h.each i l)
          (λ e. get_last marks mark i (omega (arith, e, many)) ∙ ap (λ k. Some k) (is ∙ ap (λ (j : ℕ). length (read_to parts j)) (sym e)))
          (either i n lt);
    }

pub marks_end : (doc : Doc) (parts : Shown) → IsAnswer doc (Ok parts) → (n : ℕ) (marks : List ℕ) → length parts.properties ≤ n → MarksTo parts n marks
    → AreMarks (document_in doc) (spot_of doc parts.signature) marks
marks_end doc parts is n marks past h = λ i lt.
    let many : length (properties (document_in doc) (spot_of doc parts.signature)) ≡ length parts.properties =
    sym (ap (λ (ss : List Spot). length ss) is.1.properties.elements.are) ∙ length-map (map (λ property. property.node) parts.properties) (spot_of doc)
    ∙ length-map parts.properties (λ property. property.node) in
    let within : i < n = omega (arith, lt, many, past) in
    h.each i within ∙ ap (λ (all : List Object). Some (length all)) (walked_to doc parts is i)
