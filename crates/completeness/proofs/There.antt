-- The signers of a signature are among its objects.
use Rattle.std.proofs.Common.{◌≡◌, ℕ, Bool, true, false, cond, List, [], ◌∷◌, ◌++◌, Contains, Option, Some, None, option_map, refl, ◌∙◌, ap, subst, ⊎_elim}
use Rattle.std.proofs.lemmas.Option.{none-some}
use Rattle.std.specs.Prelude.{filter, find, flat_map, map}
use Rattle.document_model.specs.Tree.{Nodes}
use Rattle.signature_model.specs.Parts as parts
use Rattle.signature_model.specs.Spots.{Spot}
use Rattle.der_values.specs.Element.{Element}
use Rattle.tst_tokens.specs.Tokens as tokens
use Rattle.acceptance.specs.Objects.{certificate_of, token_of}
use Rattle.acceptance.proofs.Rounds.{Contains-cases}
use Rattle.qualifying_props.specs.Digests.{digest}
use Rattle.signature_objects.specs.Held.{material_in, objects, objects_in, objects_in_front, objects_of_token, objects_to}
use Rattle.signature_objects.specs.Objects.{Object, Certificate, Token, has, number_of, with_objects}
use Rattle.signature_evidence.proofs.InRange.{evidence_is_in_range}
use Rattle.signature_evidence.proofs.Numbers.{first_had, had_among, had_before, has_behind, has_front, number_there}
use Rattle.signature_evidence.proofs.Whole.{nothing_in, some_same}
use Rattle.completeness.specs.Laws.{SignersAreThere}
use Rattle.completeness.proofs.Walking.{certificate_bytes}

-- a certificate that is found among elements is one of their objects
element_had : (p : Element → Bool) (elements : List Element) (bytes : List ℕ) → option_map (λ e. e.whole) (find p elements) ≡ Some bytes
    → has (map (λ element. Certificate element.whole) elements) (Certificate bytes) ≡ true
element_had p [] bytes e = absurd (none-some _ e)
element_had p (element ∷ elements) bytes e = by_bool (p element) (element_had p elements bytes) e
  where
    by_bool : (b : Bool)
        → (option_map (λ e. e.whole) (find p elements) ≡ Some bytes → has (map (λ element. Certificate element.whole) elements) (Certificate bytes) ≡ true)
        → option_map (λ e. e.whole) (cond b (Some element) (find p elements)) ≡ Some bytes
        → has (Certificate element.whole ∷ map (λ element. Certificate element.whole) elements) (Certificate bytes) ≡ true
    by_bool true later e =
        subst (λ c. has (Certificate element.whole ∷ map (λ element. Certificate element.whole) elements) (Certificate c) ≡ true) (some_same element.whole bytes e)
        (first_had (Certificate element.whole) (map (λ element. Certificate element.whole) elements))
    by_bool false later e = has_behind (Certificate element.whole ∷ []) (map (λ element. Certificate element.whole) elements) (Certificate bytes) (later e)

signer_had : (token bytes : List ℕ) → (token_of token).signer ≡ Some bytes → has (objects_of_token token) (Certificate bytes) ≡ true
unfolding token_of
signer_had token bytes e =
    has_behind (Token token ∷ []) (map (λ element. Certificate element.whole) (tokens.certificates_of token)) (Certificate bytes) (element_had _ (tokens.certificates_of token) bytes e)

abbrev signers_in : Nodes → List Spot → List (Option (List ℕ))
signers_in document stamps = map (λ token. (token_of token).signer) (map (parts.token document) stamps)

-- the signer of a time-stamp's token stands in its property
stamp_had : (document : Nodes) (properties : List Spot) (bytes : List ℕ) → Contains (signers_in document (filter parts.is_stamp properties)) (Some bytes)
    → has (flat_map (objects_in document) properties) (Certificate bytes) ≡ true
stamp_had document [] bytes h = absurd (nothing_in _ h)
stamp_had document (property ∷ properties) bytes h = by_bool (parts.is_stamp property) refl (stamp_had document properties bytes) h
  where
    rest : List Object
    rest = flat_map (objects_in document) properties

    here : (b : Bool) → parts.is_stamp property ≡ b → has (cond b (objects_of_token (parts.token document property)) (material_in document property)) (Certificate bytes) ≡ true
        → has (objects_in document property ++ rest) (Certificate bytes) ≡ true
    here b e h =
        has_front (objects_in document property) rest (Certificate bytes)
        (ap (λ c. has (cond c (objects_of_token (parts.token document property)) (material_in document property)) (Certificate bytes)) e ∙ h)

    by_bool : (b : Bool) → parts.is_stamp property ≡ b
        → (Contains (signers_in document (filter parts.is_stamp properties)) (Some bytes) → has rest (Certificate bytes) ≡ true)
        → Contains (signers_in document (cond b (property ∷ filter parts.is_stamp properties) (filter parts.is_stamp properties))) (Some bytes)
        → has (objects_in document property ++ rest) (Certificate bytes) ≡ true
    by_bool true e later h =
        ⊎_elim
        (λ is. here true e (signer_had (parts.token document property) bytes is))
        (λ other. has_behind (objects_in document property) rest (Certificate bytes) (later other))
        (Contains-cases _ _ (signers_in document (filter parts.is_stamp properties)) h)
    by_bool false e later h = has_behind (objects_in document property) rest (Certificate bytes) (later h)

all_had : (document : Nodes) (signature : Spot) (more : List Object) (bytes : List ℕ) → Contains (parts.signing_certificate digest document signature ∷ signers_in document (parts.stamps document signature)) (Some bytes)
    → has (objects document signature more) (Certificate bytes) ≡ true
all_had document signature more bytes h =
    had_before (objects_to document signature (parts.properties document signature)) more (Certificate bytes)
    (⊎_elim
    (λ is. (evidence_is_in_range (λ name. None) document signature [] (λ b. refl)).certificate bytes is)
    (λ other. had_among (with_objects [] (objects_in_front document signature)) (flat_map (objects_in document) (parts.properties document signature)) (Certificate bytes)
    (stamp_had document (parts.properties document signature) bytes other))
    (Contains-cases _ _ (signers_in document (parts.stamps document signature)) h))

pub signers_are_there : SignersAreThere
signers_are_there document signature more bytes h = (
  record { number = number_of (objects document signature more) (Certificate bytes); certificate = certificate_of bytes },
  number_there (objects document signature more) (Certificate bytes) (all_had document signature more bytes h),
  certificate_bytes bytes,
)
