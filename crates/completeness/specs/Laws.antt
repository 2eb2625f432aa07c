-- The laws: one answer fits, none is told exactly where all walks are complete, and the signers of a signature are among its objects: RFC
-- 5280, section 6; EN 319 132-1, clauses 5.3 to 5.5.
use Rattle.std.specs.Prelude.{◌≡◌, ◌↔◌, ℕ, List, Option, None}
use Rattle.document_model.specs.Tree.{Nodes}
use Rattle.signature_model.specs.Chains.{Handed}
use Rattle.signature_model.specs.Spots.{Spot}
use Rattle.policy_rules.specs.Rules.{Rules}
use Rattle.acceptance.specs.Certificates.{Part}
use Rattle.acceptance.specs.Verdict.{Case}
use Rattle.signature_objects.specs.Held.{objects}
use Rattle.signature_objects.specs.Objects.{Object}
use Rattle.signature_evidence.specs.Answers.{AreAllComplete}
use Rattle.signature_evidence.specs.Cases.{IsCaseOf}
use Rattle.signature_evidence.specs.Evidence.{evidence_of}
use Rattle.signature_evidence.specs.Pools.{pool_of}
use Rattle.completeness.specs.Complete.{AreThere, IsFirstIncomplete}
use Rattle.completeness.specs.Signers.{signers}

-- At most one answer fits.
abbrev pub OneAnswerFits : Type 0
OneAnswerFits = (pool : List Part) (policy : Rules) (all : List (Option (List ℕ))) (found other : Option ℕ)
    → IsFirstIncomplete pool policy all found → IsFirstIncomplete pool policy all other → found ≡ other

-- The signers of a signature are in the pool of its objects, with whatever is handed in.
abbrev pub SignersAreThere : Type 0
SignersAreThere = (document : Nodes) (signature : Spot) (more : List Object) → AreThere (pool_of (objects document signature more)) (signers document signature)

-- There is none exactly where all walks are complete, in the case by which the signature is judged.
abbrev pub NoneIsAllComplete : Type 0
NoneIsAllComplete = (policy : Rules) (handed : Handed) (document : Nodes) (signature : Spot) (more : List Object) (case : Case)
    → IsCaseOf policy (evidence_of handed document signature more) case
    → (IsFirstIncomplete case.pool policy (signers document signature) None ↔ AreAllComplete policy (evidence_of handed document signature more) case)
