-- No signer is told exactly where all walks are complete.
use Rattle.std.proofs.Common.{◌≡◌, ℕ, Bool, true, false, cond, List, [], ◌∷◌, ◌++◌, Contains, Option, Some, None, refl, sym, ◌∙◌, ap, subst, ⊎_elim}
use Rattle.std.specs.Prelude.{filter, map}
use Rattle.document_model.specs.Tree.{Nodes}
use Rattle.signature_model.specs.Chains.{Handed}
use Rattle.signature_model.specs.Parts as parts
use Rattle.signature_model.specs.Spots.{Spot}
use Rattle.policy_rules.specs.Rules.{Rules}
use Rattle.acceptance.specs.Certificates.{Part, Member}
use Rattle.acceptance.specs.Objects.{certificate_of, token_of}
use Rattle.acceptance.specs.Times.{Stamp}
use Rattle.acceptance.specs.Tokens as acceptance
use Rattle.acceptance.specs.Verdict.{Case}
use Rattle.acceptance.specs.Walks.{HasCertificate}
use Rattle.acceptance.proofs.Rounds.{Contains-cases, Contains-first, Contains-later}
use Rattle.qualifying_props.specs.Digests.{digest}
use Rattle.signature_objects.specs.Held.{objects}
use Rattle.signature_objects.specs.Objects.{Object}
use Rattle.signature_evidence.specs.Answers.{HasCompleteSigner, IsSignerComplete, signer_of}
use Rattle.signature_evidence.specs.Cases.{AreStampsOf}
use Rattle.signature_evidence.specs.Evidence.{Evidence, Stamped, evidence_of, stamps_from}
use Rattle.signature_evidence.specs.Pools.{pool_of}
use Rattle.signature_evidence.proofs.Whole.{nothing_in}
use Rattle.completeness.specs.Complete.{AreComplete, HasCompleteWalk, IsComplete}
use Rattle.completeness.specs.Laws.{NoneIsAllComplete}
use Rattle.completeness.proofs.There.{signers_are_there}
use Rattle.completeness.proofs.Walking.{says_its_bytes, walk_of_same}

-- The signer.

signer_is : (objects : List Object) (policy : Rules) (evidence : Evidence) (case : Case) → case.pool ≡ pool_of objects → evidence.objects ≡ objects
    → (found : Option (List ℕ)) → IsComplete case.pool policy found → IsSignerComplete policy evidence case found
signer_is objects policy evidence case pool same None h = h
signer_is objects policy evidence case pool same (Some bytes) h =
    let there : HasCertificate (pool_of objects) h.signer = subst (λ (p : List Part). HasCertificate p h.signer) pool h.there in
    walk_of_same case.pool policy h.signer (signer_of evidence bytes) (says_its_bytes objects h.signer there ∙ ap certificate_of h.named) h.complete

is_signer : (policy : Rules) (evidence : Evidence) (case : Case) → (found : Option (List ℕ))
    → ((bytes : List ℕ) → found ≡ Some bytes → (m : Member) × HasCertificate case.pool m × (m.certificate.whole ≡ bytes) × (m.certificate ≡ certificate_of bytes))
    → IsSignerComplete policy evidence case found → IsComplete case.pool policy found
is_signer policy evidence case None there h = h
is_signer policy evidence case (Some bytes) there h =
    let m = there bytes refl in
    record { signer = m.0; there = m.1; named = m.2; complete = walk_of_same case.pool policy (signer_of evidence bytes) m.0 (sym m.3) h }

-- The tokens' signers.

token_is : (policy : Rules) (case : Case) (token : acceptance.Token) (found : Option (List ℕ)) → token.signer ≡ found → IsComplete case.pool policy found → HasCompleteSigner case policy token
token_is policy case token None e h = absurd h
token_is policy case token (Some bytes) e h =
    record { signer = h.signer; named = e ∙ ap (λ b. Some b) (sym h.named); there = h.there; complete = h.complete }

is_token : (policy : Rules) (case : Case) (token : acceptance.Token) → HasCompleteSigner case policy token → IsComplete case.pool policy token.signer
is_token policy case token h =
    let here : HasCompleteWalk case.pool policy h.signer.certificate.whole = record { signer = h.signer; there = h.there; named = refl; complete = h.complete } in
    subst (IsComplete case.pool policy) (sym h.named) here

abbrev signers_of : List Stamped → List (Option (List ℕ))
signers_of shown = map (λ token. (token_of token).signer) (map (λ stamped. stamped.token) shown)

tokens_are : (objects : List Object) (policy : Rules) (case : Case) (shown : List Stamped) (stamps : List (Stamp acceptance.Token)) → AreStampsOf objects shown stamps
    → AreComplete case.pool policy (signers_of shown) → (stamp : Stamp acceptance.Token) → Contains stamps stamp → HasCompleteSigner case policy stamp.token
tokens_are objects policy case [] [] are h stamp has = absurd (nothing_in stamp has)
tokens_are objects policy case [] (first ∷ stamps) are h stamp has = absurd are
tokens_are objects policy case (stamped ∷ shown) [] are h stamp has = absurd are
tokens_are objects policy case (stamped ∷ shown) (first ∷ stamps) are h stamp has =
    ⊎_elim
    (λ is. subst (λ (s : Stamp acceptance.Token). HasCompleteSigner case policy s.token) is
    (token_is policy case first.token (token_of stamped.token).signer (ap (λ (t : acceptance.Token). t.signer) are.0.token) h.0))
    (λ later. tokens_are objects policy case shown stamps are.1 h.1 stamp later)
    (Contains-cases first stamp stamps has)

are_tokens : (objects : List Object) (policy : Rules) (case : Case) (shown : List Stamped) (stamps : List (Stamp acceptance.Token)) → AreStampsOf objects shown stamps
    → ((stamp : Stamp acceptance.Token) → Contains stamps stamp → HasCompleteSigner case policy stamp.token) → AreComplete case.pool policy (signers_of shown)
are_tokens objects policy case [] stamps are h = tt
are_tokens objects policy case (stamped ∷ shown) [] are h = absurd are
are_tokens objects policy case (stamped ∷ shown) (first ∷ stamps) are h = (
  subst (λ (t : acceptance.Token). IsComplete case.pool policy t.signer) are.0.token (is_token policy case first.token (h first (Contains-first first stamps))),
  are_tokens objects policy case shown stamps are.1 (λ stamp has. h stamp (Contains-later first stamp stamps has)),
)

-- the tokens that are shown are those of the time-stamps
tokens_shown : (handed : Handed) (document : Nodes) (signature : Spot) (before properties : List Spot)
    → map (λ stamped. stamped.token) (stamps_from handed document signature before properties) ≡ map (parts.token document) (filter parts.is_stamp properties)
tokens_shown handed document signature before [] = refl
tokens_shown handed document signature before (property ∷ properties) = by_bool (parts.is_stamp property) (tokens_shown handed document signature (before ++ property ∷ []) properties)
  where
    by_bool : (b : Bool)
        → map (λ stamped. stamped.token) (stamps_from handed document signature (before ++ property ∷ []) properties) ≡ map (parts.token document) (filter parts.is_stamp properties)
        → map (λ stamped. stamped.token) (cond b (Rattle.signature_evidence.specs.Evidence.stamp_of handed document signature before property ∷ []) [] ++ stamps_from handed document signature (before ++ property ∷ []) properties)
        ≡ map (parts.token document) (cond b (property ∷ filter parts.is_stamp properties) (filter parts.is_stamp properties))
    by_bool true e = ap (λ tokens. parts.token document property ∷ tokens) e
    by_bool false e = e

pub none_is_all_complete : NoneIsAllComplete
none_is_all_complete policy handed document signature more case is = (
  λ h. record {
    signer = signer_is all policy evidence case is.pool refl (parts.signing_certificate digest document signature) h.0;
    tokens = tokens_are all policy case evidence.stamps case.stamps is.stamps
        (subst (λ tokens. AreComplete case.pool policy (map (λ token. (token_of token).signer) tokens)) (sym same) h.1);
  },
  λ h. (
    is_signer policy evidence case (parts.signing_certificate digest document signature) there h.signer,
    subst (λ tokens. AreComplete case.pool policy (map (λ token. (token_of token).signer) tokens)) same
        (are_tokens all policy case evidence.stamps case.stamps is.stamps h.tokens),
  ),
)
  where
    all : List Object
    all = objects document signature more

    evidence : Evidence
    evidence = evidence_of handed document signature more

    same : map (λ stamped. stamped.token) evidence.stamps ≡ map (parts.token document) (parts.stamps document signature)
    same = tokens_shown handed document signature [] (parts.properties document signature)

    there : (bytes : List ℕ) → parts.signing_certificate digest document signature ≡ Some bytes
        → (m : Member) × HasCertificate case.pool m × (m.certificate.whole ≡ bytes) × (m.certificate ≡ certificate_of bytes)
    there bytes e =
        let m = signers_are_there document signature more bytes
        (subst (λ found. Contains (found ∷ map (λ token. (token_of token).signer) (map (parts.token document) (parts.stamps document signature))) (Some bytes)) (sym e) (Contains-first (Some bytes) _)) in (
          m.0,
          subst (λ (p : List Part). HasCertificate p m.0) (sym is.pool) m.1,
          m.2,
          says_its_bytes all m.0 m.1 ∙ ap certificate_of m.2,
        )
