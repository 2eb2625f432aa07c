-- When a document may be prepared for a draft: the tests in the order of their codes. Codes and their order are this project's own.
use Rattle.std.specs.Prelude.{ℕ, ◌≤◌, nat_lt, Bool, true, false, not, ◌||◌, List, [], ◌∷◌, ◌++◌, length, Option, None, Some, option_map}
use Rattle.document_model.specs.Characters.{is_empty}
use Rattle.document_model.specs.Documents.{Fault, Depth, TooMany, fault}
use Rattle.document_model.specs.Tree.{Nodes}
use Rattle.policy_rules.specs.Rules.{Rules}
use Rattle.insertions.specs.Live.{longest}
use Rattle.signature_model.specs.Chains.{Handed, when}
use Rattle.signature_model.specs.Parts.{counted}
use Rattle.signature_model.specs.Prepared.{Draft, first_certificate, prepared_bytes}
use Rattle.qualifying_props.specs.Digests.{digest}
use Rattle.qualifying_props.specs.Whole.{is_whole}
use Rattle.insertion_fragments.specs.Drafts.{IsWritable}
use Rattle.prepared_documents.specs.PreparedRead.{IsComplete}
use Rattle.prepared_documents.specs.Tests.{missing_at, double_at, root_at, id_taken}
use Rattle.signature_checks.specs.Codes.{first_code}
use Rattle.signature_checks.specs.Keys.{method_kind, method_test, key_test}
use Rattle.signature_checks.specs.declared.codes.Code.{Code}
use Rattle.signature_checks.specs.declared.codes.Code.TheVariants.{Several, TargetMissing, TargetTwice, SelfCover, TooLarge, IdTaken}

-- whether a fault of a document is that a limit on depth or nodes is passed
abbrev pub passes_limit : Option Fault → Bool
passes_limit None = false
passes_limit (Some (Depth place)) = true
passes_limit (Some (TooMany place)) = true
passes_limit (Some fault) = false

-- the bytes of a new document pass a limit on bytes, or their tree one on depth or nodes
abbrev pub is_too_large : List ℕ → Bool
is_too_large bytes = nat_lt longest (length bytes) || passes_limit (fault bytes)

-- the tests on a draft and a document
abbrev pub opening_tests : Rules → Nodes → Draft → List (Option Code)
opening_tests rules document draft =
    when (not (is_empty (counted document))) Several
    ∷ option_map TargetMissing (missing_at document draft.references)
    ∷ option_map TargetTwice (double_at document draft.references)
    ∷ option_map SelfCover (root_at document draft.references)
    ∷ method_test (method_kind rules draft.method)
    ∷ key_test (method_kind rules draft.method) (first_certificate draft)
    ∷ []

-- and those that come behind them, on the bytes that they give, and on identifiers
abbrev pub draft_tests : Rules → Nodes → Draft → List ℕ → List (Option Code)
draft_tests rules document draft new =
    opening_tests rules document draft ++ when (is_too_large new) TooLarge ∷ when (id_taken document draft) IdTaken ∷ []

-- the document that a draft gives, by the digests of SHA-2
abbrev pub drafted_bytes : Handed → Nodes → Draft → List ℕ → List ℕ
drafted_bytes handed document draft bytes = prepared_bytes digest handed document draft bytes

-- the code of the first test that stands against it
abbrev pub draft_code : Rules → Handed → Nodes → Draft → List ℕ → Option Code
draft_code rules handed document draft bytes = first_code (draft_tests rules document draft (drafted_bytes handed document draft bytes))

-- a draft that is whole: one certificate or more, all whole, one to 15 URIs, and texts that can be written
pub record IsReady (draft : Draft) : Type 0 where
  pub writable : IsWritable draft
  pub complete : IsComplete is_whole draft
  pub few : length draft.references ≤ 15
