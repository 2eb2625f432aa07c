-- How the tests on a draft follow one another, and what a preparation shows.
use Rattle.std.proofs.Common.{◌≡◌, ◌⊎◌, inl, inr, ℕ, zero, suc, ◌+◌, ◌<◌, ◌≤◌, Bool, true, false, not, ◌||◌, nat_lt, List, [], ◌∷◌, ◌++◌, length, Option, None, Some, Err, refl, sym, ◌∙◌, ap, arith}
use Rattle.std.proofs.lemmas.Bool.{le-ltb, lt-ltb}
use Rattle.std.specs.Prelude.{option_map, slice_get}
use Rattle.document_model.specs.Characters.{is_empty}
use Rattle.document_model.specs.Documents.{fault, document_of}
use Rattle.document_model.specs.Items.{or_else}
use Rattle.document_model.specs.Tree.{Nodes, Path, Element, Text, Comment, Instruction, no_nodes, ◌⨾◌, nth, node_at}
use Rattle.doc_spans.specs.declared.rows.Kind.TheVariants as kinds
use Rattle.doc_spans.specs.Roots.{NoElementBefore, IsFirstElement}
use Rattle.doc_spans.specs.declared.documents.Doc.{Doc}
use Rattle.doc_spans.specs.declared.documents.NodeId.{NodeId}
use Rattle.doc_spans.specs.Seen.{bytes_in, document_in, node_in, path_in, shown_in}
use Rattle.doc_spans.specs.Shown.{Shown, kind_of, path_at}
use Rattle.doc_spans.proofs.TextNodes.{found_self}
use Rattle.insertions.specs.Content.{PassedBy}
use Rattle.insertions.specs.Live.{longest}
use Rattle.policy_rules.specs.Rules.{Rules}
use Rattle.prepared_documents.specs.Places.{root_of}
use Rattle.prepared_documents.specs.Tests.{id_taken, Passes}
use Rattle.signature_model.specs.Chains.{Handed, when}
use Rattle.signature_model.specs.Parts.{counted}
use Rattle.signature_model.specs.Prepared.{Draft, first_certificate, root_path}
use Rattle.augmenter.specs.Answers.{IsPreparation, IsRefusedFor}
use Rattle.signature_checks.specs.Codes.{first_code}
use Rattle.augmenter.specs.Preparing.{passes_limit, is_too_large, opening_tests, draft_code, drafted_bytes}
use Rattle.signature_checks.specs.declared.codes.Code.{Code}
use Rattle.signature_checks.specs.declared.codes.Code.TheVariants.{TooLarge, IdTaken}
use Rattle.augmenter.specs.declared.refusals.Refusal.{Refusal}
use Rattle.augmenter.specs.declared.refusals.Refusal.TheVariants.{BadDocument, Refused, OutOfMemory}

-- The document element.

root_from : (j i : ℕ) (nodes : Nodes) → option_map kind_of (nth i nodes) ≡ Some kinds.Element → NoElementBefore i nodes → root_path j nodes ≡ (i + j) ∷ []
root_from j i no_nodes e n = cc
root_from j zero (Element name attributes inner ⨾ nodes) e n = ap (λ k. k ∷ []) (plain j)
  where
    plain : (j : ℕ) → j ≡ 0 + j
    plain j = omega arith
root_from j (suc i) (Element name attributes inner ⨾ nodes) e n = absurd (n 0 (omega arith) refl)
root_from j zero (Text cs ⨾ nodes) e n = cc
root_from j zero (Comment cs ⨾ nodes) e n = cc
root_from j zero (Instruction target content ⨾ nodes) e n = cc
root_from j (suc i) (Text cs ⨾ nodes) e n = root_from (suc j) i nodes e (λ k l. n (suc k) (omega (arith, l))) ∙ ap (λ k. k ∷ []) (next i j)
  where
    next : (i j : ℕ) → i + suc j ≡ suc i + j
    next i j = omega arith
root_from j (suc i) (Comment cs ⨾ nodes) e n = root_from (suc j) i nodes e (λ k l. n (suc k) (omega (arith, l))) ∙ ap (λ k. k ∷ []) (next i j)
  where
    next : (i j : ℕ) → i + suc j ≡ suc i + j
    next i j = omega arith
root_from j (suc i) (Instruction target content ⨾ nodes) e n = root_from (suc j) i nodes e (λ k l. n (suc k) (omega (arith, l))) ∙ ap (λ k. k ∷ []) (next i j)
  where
    next : (i j : ℕ) → i + suc j ≡ suc i + j
    next i j = omega arith

pub first_is_root : (path : Path) (document : Nodes) → IsFirstElement path document → option_map kind_of (node_at document path) ≡ Some kinds.Element → path ≡ root_of document
first_is_root path document first element =
    let i = first.0 in
    let there : option_map kind_of (nth i document) ≡ Some kinds.Element =
    ap (option_map kind_of) (sym (found_self (nth i document))) ∙ ap (λ p. option_map kind_of (node_at document p)) (sym first.1) ∙ element in
    let same : i + 0 ≡ i = omega arith in
    first.1 ∙ ap (λ k. k ∷ []) (sym same) ∙ sym (root_from 0 i document there first.2)

pub root_in : (doc : Doc) (root : NodeId) (kept : List ℕ) (tree : Shown) → IsFirstElement (path_in doc root) (document_in doc) → option_map kind_of (node_in doc root) ≡ Some kinds.Element
    → bytes_in doc ≡ kept → shown_in doc ≡ tree → path_at tree root.0 ≡ root_of (document_of kept)
root_in doc root kept tree first element b t =
    ap (λ s. path_at s root.0) (sym t) ∙ first_is_root (path_in doc root) (document_in doc) first element ∙ ap (λ x. root_of (document_of x)) b

-- Certificates.

pub some_certificate : (certificates : List (List ℕ)) → is_empty certificates ≡ false → 1 ≤ length certificates
some_certificate [] e = cc
some_certificate (octets ∷ others) e = omega arith

pub is_first : (draft : Draft) (octets : List ℕ) → slice_get draft.certificates 0 ≡ Some octets → octets ≡ first_certificate draft
is_first draft octets e = by_list draft.certificates refl e
  where
    given : (x : List ℕ) → Some x ≡ Some octets → octets ≡ x
    given x f = cc

    by_list : (certificates : List (List ℕ)) → draft.certificates ≡ certificates → slice_get certificates 0 ≡ Some octets → octets ≡ first_certificate draft
    by_list [] same f = cc
    by_list (x ∷ xs) same f = given x f ∙ sym (ap (λ cs. first_certificate (record draft { certificates = cs })) same)

-- Tests one behind another.

pub code_found : (a b : List (Option Code)) (code : Code) → first_code a ≡ Some code → first_code (a ++ b) ≡ Some code
code_found [] b code e = cc
code_found (None ∷ a) b code e = code_found a b code e
code_found (Some other ∷ a) b code e = e

pub none_found : (a b : List (Option Code)) → first_code a ≡ None → first_code (a ++ b) ≡ first_code b
none_found [] b e = refl
none_found (None ∷ a) b e = none_found a b e
none_found (Some other ∷ a) b e = cc

abbrev Code_of : Rules → Handed → Draft → List ℕ → Option Code
Code_of rules handed draft bytes = draft_code rules handed (document_of bytes) draft bytes

-- the tests behind the first ones
abbrev last_tests : Bool → Bool → List (Option Code)
last_tests large taken = when large TooLarge ∷ when taken IdTaken ∷ []

-- a refusal by the first tests
pub refused_before : (rules : Rules) (handed : Handed) (draft : Draft) (bytes : List ℕ) (document : Nodes) (refusal : Refusal) → fault bytes ≡ None → document ≡ document_of bytes
    → IsRefusedFor (first_code (opening_tests rules document draft)) refusal → IsPreparation rules handed draft bytes (Err refusal)
refused_before rules handed draft bytes document (BadDocument found) none same h = absurd h
refused_before rules handed draft bytes document (Refused item code) none same h = (
  none,
  h.0,
  code_found (opening_tests rules (document_of bytes) draft)
      (last_tests (is_too_large (drafted_bytes handed (document_of bytes) draft bytes)) (id_taken (document_of bytes) draft)) code (ap (λ d. first_code (opening_tests rules d draft)) (sym same) ∙ h.1),
)
refused_before rules handed draft bytes document OutOfMemory none same h = tt

-- by the first tests, where they find nothing
pub code_is : (rules : Rules) (handed : Handed) (draft : Draft) (bytes : List ℕ) (document : Nodes) (large taken : Bool) → document ≡ document_of bytes
    → first_code (opening_tests rules document draft) ≡ None → is_too_large (drafted_bytes handed (document_of bytes) draft bytes) ≡ large → id_taken document draft ≡ taken
    → Code_of rules handed draft bytes ≡ first_code (last_tests large taken)
code_is rules handed draft bytes document large taken same none l t =
    none_found (opening_tests rules (document_of bytes) draft) (last_tests (is_too_large (drafted_bytes handed (document_of bytes) draft bytes)) (id_taken (document_of bytes) draft)) (ap (λ d. first_code (opening_tests rules d draft)) (sym same) ∙ none)
    ∙ (λ i. first_code (last_tests (l i) ((ap (λ d. id_taken d draft) (sym same) ∙ t) i)))

or_true : (a b : Bool) → b ≡ true → (a || b) ≡ true
or_true true b e = refl
or_true false b e = e

pub passed_is_large : (new : List ℕ) (tree : Nodes) → (longest < length new) ⊎ PassedBy tree (fault new) → is_too_large new ≡ true
passed_is_large new tree h = elim h [
  | inl long ↦ ap (λ b. b || passes_limit (fault new)) (lt-ltb longest (length new) long)
  | inr passed ↦ or_true (nat_lt longest (length new)) (passes_limit (fault new)) (elim passed.1 [
    | inl deep ↦ ap passes_limit deep.0
    | inr many ↦ ap passes_limit many.0
  ])
]

pub small_is_not_large : (new : List ℕ) → length new ≤ longest → fault new ≡ None → is_too_large new ≡ false
small_is_not_large new short none = (λ i. not_longer i || passes_limit (none i))
  where
    not_longer : nat_lt longest (length new) ≡ false
    not_longer = le-ltb longest (length new) short

-- All tests passed.

pub nothing_there : (b : Bool) (code : Code) → when b code ≡ None → b ≡ false
nothing_there true code e = cc
nothing_there false code e = refl

pub no_number : (make : ℕ → Code) (o : Option ℕ) → option_map make o ≡ None → o ≡ None
no_number make None e = refl
no_number make (Some k) e = cc

record Nothing (a b : Option Code) : Type 0 where
  pub first_ : a ≡ None
  pub others : b ≡ None

apart : (a b : Option Code) → or_else a b ≡ None → Nothing a b
apart None b e = record { first_ = refl; others = e }
apart (Some code) b e = cc

not_not : (b : Bool) → not b ≡ false → b ≡ true
not_not true e = refl
not_not false e = cc

pub tests_passed : (rules : Rules) (document : Nodes) (draft : Draft) → first_code (opening_tests rules document draft) ≡ None → id_taken document draft ≡ false → Passes document draft
tests_passed rules document draft e t =
    let one = apart _ _ e in
    let two = apart _ _ one.others in
    let three = apart _ _ two.others in
    let four = apart _ _ three.others in
    record {
      unsigned = not_not (is_empty (counted document)) (nothing_there _ _ one.first_);
      none_missing = no_number _ _ two.first_;
      none_double = no_number _ _ three.first_;
      none_root = no_number _ _ four.first_;
      none_taken = t;
    }
