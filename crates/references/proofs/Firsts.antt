-- The first fault, one code after another.
use Rattle.std.proofs.Common.{◌≡◌, ℕ, List, [], ◌∷◌, Option, Some, None, refl, sym, ◌∙◌, ap, subst}
use Rattle.std.proofs.lemmas.Option.{none-some}
use Rattle.std.specs.Prelude.{option_map}
use Rattle.document_model.specs.Tree.{Nodes, Path}
use Rattle.signature_model.specs.Chains.{Handed, Fault, NotBase64, first_of, first_code, fault, target_missing, target_twice, no_chain, no_digest, not_handed_in, not_base64}
use Rattle.signature_model.specs.Spots.{Spot}
use Rattle.references.specs.declared.faults.RefFault.{RefFault}
use Rattle.references.specs.declared.faults.RefFault.TheVariants as faults
use Rattle.references.specs.Answers.{as_told, IsFault}

abbrev pub Test : Type 0
Test = ℕ → Spot → Option Fault

-- a code that no Reference has leaves those behind it, and one that some has decides
pub code_passed : (test : Test) (tests : List Test) (spots : List Spot) → first_of test 1 spots ≡ None → first_code (test ∷ tests) spots ≡ first_code tests spots
code_passed test tests spots e = rw e refl

pub code_found : (test : Test) (tests : List Test) (spots : List Spot) (found : Fault) → first_of test 1 spots ≡ Some found → first_code (test ∷ tests) spots ≡ Some found
code_found test tests spots found e = rw e refl

-- what is returned for a fault that is found is returned for each fault that is the same
told_alike : (o p : Option Fault) (k at : ℕ) → ((found : Fault) → o ≡ Some found → p ≡ Some found) → option_map as_told o ≡ Some (NotBase64 k at)
    → option_map as_told p ≡ Some (NotBase64 k at)
told_alike None p k at h e = absurd (none-some (NotBase64 k at) e)
told_alike (Some found) p k at h e = ap (option_map as_told) (h found refl) ∙ e

pub alike : (o p : Option Fault) (answer : RefFault) → ((found : Fault) → o ≡ Some found → p ≡ Some found) → IsFault o answer → IsFault p answer
alike o p (faults.TargetMissing k) h e = h _ e
alike o p (faults.TargetTwice k) h e = h _ e
alike o p (faults.Chain k) h e = h _ e
alike o p (faults.DigestName k) h e = h _ e
alike o p (faults.External k) h e = h _ e
alike o p (faults.Base64 k at) h e = told_alike o p k at h e
alike o p faults.OutOfMemory h e = tt

pub first_decides : (test : Test) (tests : List Test) (spots : List Spot) (answer : RefFault) → IsFault (first_of test 1 spots) answer
    → IsFault (first_code (test ∷ tests) spots) answer
first_decides test tests spots answer h =
    alike (first_of test 1 spots) (first_code (test ∷ tests) spots) answer (λ found e. code_found test tests spots found e) h

pub next_decides : (test : Test) (tests : List Test) (spots : List Spot) (answer : RefFault) → first_of test 1 spots ≡ None → IsFault (first_code tests spots) answer
    → IsFault (first_code (test ∷ tests) spots) answer
next_decides test tests spots answer e h = let P : Option Fault → Type 0 = λ o. IsFault o answer in subst P (sym (code_passed test tests spots e)) h

-- no Reference has a fault by the tests before one
pub record Passed (document : Nodes) (spots : List Spot) : Type 0 where
  pub missing : first_of (target_missing document) 1 spots ≡ None
  pub twice : first_of (target_twice document) 1 spots ≡ None

abbrev behind : Handed → Nodes → Path → List Test
behind handed document signature = not_handed_in handed ∷ not_base64 handed document signature ∷ []

pub by_chains : (handed : Handed) (document : Nodes) (signature : Path) (spots : List Spot) (answer : RefFault) → Passed document spots
    → IsFault (first_of (no_chain document) 1 spots) answer → IsFault (fault handed document signature spots) answer
by_chains handed document signature spots answer p h =
    next_decides (target_missing document) (target_twice document ∷ no_chain document ∷ no_digest document ∷ behind handed document signature) spots answer p.missing
    (next_decides (target_twice document) (no_chain document ∷ no_digest document ∷ behind handed document signature) spots answer p.twice
    (first_decides (no_chain document) (no_digest document ∷ behind handed document signature) spots answer h))

-- behind the tests of what every Reference says by itself
by_rest : (handed : Handed) (document : Nodes) (signature : Path) (spots : List Spot) (answer : RefFault) → Passed document spots
    → first_of (no_chain document) 1 spots ≡ None → IsFault (first_code (no_digest document ∷ behind handed document signature) spots) answer
    → IsFault (fault handed document signature spots) answer
by_rest handed document signature spots answer p chains h =
    next_decides (target_missing document) (target_twice document ∷ no_chain document ∷ no_digest document ∷ behind handed document signature) spots answer p.missing
    (next_decides (target_twice document) (no_chain document ∷ no_digest document ∷ behind handed document signature) spots answer p.twice
    (next_decides (no_chain document) (no_digest document ∷ behind handed document signature) spots answer chains h))

pub by_digests : (handed : Handed) (document : Nodes) (signature : Path) (spots : List Spot) (answer : RefFault) → Passed document spots
    → first_of (no_chain document) 1 spots ≡ None → IsFault (first_of (no_digest document) 1 spots) answer
    → IsFault (fault handed document signature spots) answer
by_digests handed document signature spots answer p chains h =
    by_rest handed document signature spots answer p chains (first_decides (no_digest document) (behind handed document signature) spots answer h)

pub by_handing : (handed : Handed) (document : Nodes) (signature : Path) (spots : List Spot) (answer : RefFault) → Passed document spots
    → first_of (no_chain document) 1 spots ≡ None → first_of (no_digest document) 1 spots ≡ None → IsFault (first_of (not_handed_in handed) 1 spots) answer
    → IsFault (fault handed document signature spots) answer
by_handing handed document signature spots answer p chains digests h =
    by_rest handed document signature spots answer p chains
    (next_decides (no_digest document) (behind handed document signature) spots answer digests
    (first_decides (not_handed_in handed) (not_base64 handed document signature ∷ []) spots answer h))

pub by_decoding : (handed : Handed) (document : Nodes) (signature : Path) (spots : List Spot) (answer : RefFault) → Passed document spots
    → first_of (no_chain document) 1 spots ≡ None → first_of (no_digest document) 1 spots ≡ None → first_of (not_handed_in handed) 1 spots ≡ None
    → IsFault (first_of (not_base64 handed document signature) 1 spots) answer → IsFault (fault handed document signature spots) answer
by_decoding handed document signature spots answer p chains digests handing h =
    by_rest handed document signature spots answer p chains
    (next_decides (no_digest document) (behind handed document signature) spots answer digests
    (next_decides (not_handed_in handed) (not_base64 handed document signature ∷ []) spots answer handing
    (first_decides (not_base64 handed document signature) [] spots answer h)))

-- no Reference has a fault
pub no_fault : (handed : Handed) (document : Nodes) (signature : Path) (spots : List Spot) → Passed document spots → first_of (no_chain document) 1 spots ≡ None
    → first_of (no_digest document) 1 spots ≡ None → first_of (not_handed_in handed) 1 spots ≡ None
    → first_of (not_base64 handed document signature) 1 spots ≡ None → fault handed document signature spots ≡ None
no_fault handed document signature spots p chains digests handing decoding =
    code_passed (target_missing document) (target_twice document ∷ no_chain document ∷ no_digest document ∷ behind handed document signature) spots p.missing
    ∙ code_passed (target_twice document) (no_chain document ∷ no_digest document ∷ behind handed document signature) spots p.twice
    ∙ code_passed (no_chain document) (no_digest document ∷ behind handed document signature) spots chains
    ∙ code_passed (no_digest document) (behind handed document signature) spots digests
    ∙ code_passed (not_handed_in handed) (not_base64 handed document signature ∷ []) spots handing
    ∙ code_passed (not_base64 handed document signature) [] spots decoding
