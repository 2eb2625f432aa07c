-- What a signature shows is in range.
use Rattle.std.proofs.Common.{◌≡◌, ℕ, zero, suc, ◌+◌, ◌<◌, ◌≤◌, Bool, true, false, cond, ◌||◌, List, [], ◌∷◌, ◌++◌, length, All, Contains, Some, arith, refl, sym, ◌∙◌, ap, subst, ⊎_elim, ◌⊎◌, inl, inr, append_assoc}
use Rattle.std.proofs.lemmas.List.{length-append}
use Rattle.std.proofs.lemmas.List.Folds.{list_any-append}
use Rattle.std.proofs.lemmas.List.Elements.{All-nil, All-cons, Contains-append_right}
use Rattle.std.proofs.lemmas.Grind.{flat_map-append}
use Rattle.std.proofs.lemmas.Option.{none-some}
use Rattle.std.specs.Prelude.{map, flat_map, find, codes}
use Rattle.signature_model.specs.Vocabulary.{xades}
use Rattle.document_model.specs.Tree.{Nodes}
use Rattle.signature_model.specs.Spots.{Spot, is_called, called, called_in}
use Rattle.signature_model.specs.Parts as parts
use Rattle.signature_model.specs.Parts.{PropertyKind, SignatureStamp, ArchiveStamp, Material, Passed, kind_of, Datum}
use Rattle.signature_model.specs.Chains.{Handed}
use Rattle.der_values.specs.Element.{Element}
use Rattle.tst_tokens.specs.Tokens.{certificates_of}
use Rattle.acceptance.specs.Verdict.{DigestUse}
use Rattle.acceptance.proofs.Rounds.{Contains-first, Contains-cases}
use Rattle.signature_objects.specs.Objects.{Object, Octets, Value, Certificate, RevocationList, Token, is_same, has, with_object, with_objects, number_of, numbers_from, octets_from}
use Rattle.qualifying_props.specs.PartsOf.{key_octets}
use Rattle.signature_evidence.specs.Evidence.{Stamped, stamp_of, stamps_from, stamps, reference_digests}
use Rattle.signature_objects.specs.Held.{objects_of_token, objects_of_datum, material_in, objects_in, objects_in_front, objects_to, objects, covers_of}
use Rattle.signature_evidence.specs.Renewal.{HasNoTokens, EvidenceIsInRange}
use Rattle.signature_evidence.proofs.Numbers.{not_both, same_is, has_front, has_behind, number_within, new_ones, new_behind, had_before, had_among, with_both, first_had}
use Rattle.signature_evidence.proofs.Whole.{nothing_in, some_same}

-- What comes, where it is had.

either_true : (a b : Bool) → (a || b) ≡ true → (a ≡ true) ⊎ (b ≡ true)
either_true true b e = inl refl
either_true false b e = inr e

had_of_append : (front more : List Object) (object : Object) → has (front ++ more) object ≡ true → (has front object ≡ true) ⊎ (has more object ≡ true)
had_of_append front more object e = either_true (has front object) (has more object) (sym (list_any-append (is_same object) front more) ∙ e)

had_of_one : (objects : List Object) (first object : Object) → has (with_object objects first) object ≡ true → (has objects object ≡ true) ⊎ (has (first ∷ []) object ≡ true)
had_of_one objects first object e = by_bool (has objects first) e
  where
    by_bool : (b : Bool) → has (cond b objects (objects ++ first ∷ [])) object ≡ true → (has objects object ≡ true) ⊎ (has (first ∷ []) object ≡ true)
    by_bool true e = inl e
    by_bool false e = had_of_append objects (first ∷ []) object e

-- what is had among objects that came was there, or came
had_of : (objects more : List Object) (object : Object) → has (with_objects objects more) object ≡ true → (has objects object ≡ true) ⊎ (has more object ≡ true)
had_of objects [] object e = inl e
had_of objects (first ∷ more) object e =
    ⊎_elim
    (λ before. ⊎_elim (λ old. inl old) (λ new. inr (has_front (first ∷ []) more object new)) (had_of_one objects first object before))
    (λ later. inr (has_behind (first ∷ []) more object later))
    (had_of (with_object objects first) more object e)

-- Lists of objects.

octets_had : (first count k : ℕ) → k < count → has (octets_from first count) (Octets (first + k)) ≡ true
octets_had first zero k lt = absurd (omega arith)
octets_had first (suc count) zero lt =
    let n : first ≡ first + 0 = omega arith in
    subst (λ (j : ℕ). has (octets_from first (suc count)) (Octets j) ≡ true) n (first_had (Octets first) (octets_from (suc first) count))
octets_had first (suc count) (suc k) lt =
    let n : suc first + k ≡ first + suc k = omega arith in
    subst (λ (j : ℕ). has (octets_from first (suc count)) (Octets j) ≡ true) n
    (has_behind (Octets first ∷ []) (octets_from (suc first) count) (Octets (suc first + k)) (octets_had (suc first) count k (omega arith)))

octets_no_token : (first count : ℕ) (bytes : List ℕ) → has (octets_from first count) (Token bytes) ≡ false
octets_no_token first zero bytes = refl
octets_no_token first (suc count) bytes = octets_no_token (suc first) count bytes

certificates_no_token : (certs : List (List ℕ)) (bytes : List ℕ) → has (map (λ cert. Certificate cert) certs) (Token bytes) ≡ false
certificates_no_token [] bytes = refl
certificates_no_token (cert ∷ certs) bytes = certificates_no_token certs bytes

elements_no_token : (elements : List Element) (bytes : List ℕ) → has (map (λ element. Certificate element.whole) elements) (Token bytes) ≡ false
elements_no_token [] bytes = refl
elements_no_token (element ∷ elements) bytes = elements_no_token elements bytes

pub certificate_had : (certs : List (List ℕ)) (p : List ℕ → Bool) (bytes : List ℕ) → find p certs ≡ Some bytes → has (map (λ cert. Certificate cert) certs) (Certificate bytes) ≡ true
certificate_had [] p bytes e = absurd (none-some _ e)
certificate_had (cert ∷ certs) p bytes e = by_bool (p cert) (certificate_had certs p bytes) e
  where
    by_bool : (b : Bool) → (find p certs ≡ Some bytes → has (map (λ cert. Certificate cert) certs) (Certificate bytes) ≡ true)
        → cond b (Some cert) (find p certs) ≡ Some bytes → has (Certificate cert ∷ map (λ cert. Certificate cert) certs) (Certificate bytes) ≡ true
    by_bool true more e =
        subst (λ c. has (Certificate cert ∷ map (λ cert. Certificate cert) certs) (Certificate c) ≡ true) (some_same cert bytes e)
        (first_had (Certificate cert) (map (λ cert. Certificate cert) certs))
    by_bool false more e = has_behind (Certificate cert ∷ []) (map (λ cert. Certificate cert) certs) (Certificate bytes) (more e)

-- Among all objects.

pub front_had : (document : Nodes) (signature : Spot) (properties : List Spot) (object : Object) → has (objects_in_front document signature) object ≡ true → has (objects_to document signature properties) object ≡ true
front_had document signature properties object e =
    had_before (with_objects [] (objects_in_front document signature)) (flat_map (objects_in document) properties) object (had_among [] (objects_in_front document signature) object e)

pub all_had : (document : Nodes) (signature : Spot) (more : List Object) (object : Object) → has (objects_to document signature (parts.properties document signature)) object ≡ true → has (objects document signature more) object ≡ true
all_had document signature more object e = had_before (objects_to document signature (parts.properties document signature)) more object e

pub value_had : (document : Nodes) (signature : Spot) (properties : List Spot) → has (objects_to document signature properties) Value ≡ true
value_had document signature properties =
    front_had document signature properties Value
    (has_behind (octets_from 1 (length (parts.references document signature))) (Value ∷ map (λ bytes. Certificate bytes) (key_octets document signature)) Value refl)

-- the objects where more properties are read begin with those where some are
pub objects_go_on : (document : Nodes) (signature : Spot) (before after : List Spot)
    → objects_to document signature (before ++ after) ≡ with_objects (objects_to document signature before) (flat_map (objects_in document) after)
objects_go_on document signature before after =
    ap (with_objects (with_objects [] (objects_in_front document signature))) (flat_map-append (objects_in document) before after)
    ∙ with_both (with_objects [] (objects_in_front document signature)) (flat_map (objects_in document) before) (flat_map (objects_in document) after)

longer : (objects more : List Object) → length objects ≤ length (with_objects objects more)
longer objects more =
    let e = ap (λ (xs : List Object). length xs) (new_behind objects more) ∙ length-append objects (new_ones objects more) in omega (arith, e)

pub longer_to : (document : Nodes) (signature : Spot) (more : List Object) (before after : List Spot) → parts.properties document signature ≡ before ++ after
    → length (objects_to document signature before) ≤ length (objects document signature more)
longer_to document signature more before after e =
    let a = longer (objects_to document signature before) (flat_map (objects_in document) after) in
    let b = longer (objects_to document signature (parts.properties document signature)) more in
    let same = ap (λ (xs : List Object). length xs) (ap (objects_to document signature) e ∙ objects_go_on document signature before after) in
    omega (arith, same)

-- Time-stamps.

pub below_all : (first count bound : ℕ) → first + count ≤ bound → All (λ number. number < bound) (numbers_from first count)
below_all first zero bound le = All-nil (λ number. number < bound)
below_all first (suc count) bound le = All-cons (λ number. number < bound) first (numbers_from (suc first) count) (omega arith) (below_all (suc first) count bound (omega arith))

covers_within : (document : Nodes) (signature : Spot) (properties : List Spot) (kind : PropertyKind) (bound : ℕ) → length (objects_to document signature properties) ≤ bound
    → All (λ number. number < bound) (covers_of kind (objects_to document signature properties))
covers_within document signature properties SignatureStamp bound le =
    let l = number_within (objects_to document signature properties) Value (value_had document signature properties) in
    All-cons (λ number. number < bound) (number_of (objects_to document signature properties) Value) [] (omega (arith, l, le)) (All-nil (λ number. number < bound))
covers_within document signature properties ArchiveStamp bound le = below_all 0 (length (objects_to document signature properties)) bound (omega (arith, le))
covers_within document signature properties Material bound le = All-nil (λ number. number < bound)
covers_within document signature properties Passed bound le = All-nil (λ number. number < bound)

-- where a time-stamp stands
pub record StandsAt (handed : Handed) (document : Nodes) (signature : Spot) (all : List Spot) (stamped : Stamped) : Type 0 where
  pub before : List Spot
  pub property : Spot
  pub after : List Spot
  pub split : all ≡ before ++ property ∷ after
  pub is_stamp : parts.is_stamp property ≡ true
  pub is : stamp_of handed document signature before property ≡ stamped

stands_in : (handed : Handed) (document : Nodes) (signature : Spot) (all before list : List Spot) → all ≡ before ++ list → (stamped : Stamped)
    → Contains (stamps_from handed document signature before list) stamped → StandsAt handed document signature all stamped
stands_in handed document signature all before [] split stamped has = absurd (nothing_in stamped has)
stands_in handed document signature all before (property ∷ list) split stamped has =
    by_bool (parts.is_stamp property) refl (λ h. stands_in handed document signature all (before ++ property ∷ []) list (split ∙ sym (append_assoc before (property ∷ []) list)) stamped h) has
  where
    by_bool : (b : Bool) → parts.is_stamp property ≡ b
        → (Contains (stamps_from handed document signature (before ++ property ∷ []) list) stamped → StandsAt handed document signature all stamped)
        → Contains (cond b (stamp_of handed document signature before property ∷ []) [] ++ stamps_from handed document signature (before ++ property ∷ []) list) stamped
        → StandsAt handed document signature all stamped
    by_bool true e later h =
        ⊎_elim (λ is. record { before = before; property = property; after = list; split = split; is_stamp = e; is = is }) later
        (Contains-cases (stamp_of handed document signature before property) stamped (stamps_from handed document signature (before ++ property ∷ []) list) h)
    by_bool false e later h = later h

pub token_in : (document : Nodes) (property : Spot) → parts.is_stamp property ≡ true → has (objects_in document property) (Token (parts.token document property)) ≡ true
token_in document property e =
    ap (λ b. has (cond b (objects_of_token (parts.token document property)) (material_in document property)) (Token (parts.token document property))) e
    ∙ first_had (Token (parts.token document property)) (map (λ element. Certificate element.whole) (certificates_of (parts.token document property)))

token_had : (handed : Handed) (document : Nodes) (signature : Spot) (stamped : Stamped) → StandsAt handed document signature (parts.properties document signature) stamped
    → has (objects_to document signature (parts.properties document signature)) (Token stamped.token) ≡ true
token_had handed document signature stamped s =
    let object : Object = Token (parts.token document s.property) in
    let here : has (flat_map (objects_in document) (s.before ++ s.property ∷ s.after)) object ≡ true =
    ap (λ xs. has xs object) (flat_map-append (objects_in document) s.before (s.property ∷ s.after))
    ∙ has_behind (flat_map (objects_in document) s.before) (flat_map (objects_in document) (s.property ∷ s.after)) object
    (has_front (objects_in document s.property) (flat_map (objects_in document) s.after) object (token_in document s.property s.is_stamp)) in
    subst (λ (st : Stamped). has (objects_to document signature (parts.properties document signature)) (Token st.token) ≡ true) s.is
    (had_among (with_objects [] (objects_in_front document signature)) (flat_map (objects_in document) (parts.properties document signature)) object
    (subst (λ (ps : List Spot). has (flat_map (objects_in document) ps) object ≡ true) (sym s.split) here))

-- a token among the objects of properties is a time-stamp's

abbrev object_of : Nodes → Datum → List Object
object_of document datum = objects_of_datum datum.kind (parts.octets_or_none document (datum.spot ∷ []))

either_false : (a b : Bool) → a ≡ false → b ≡ false → (a || b) ≡ false
either_false a b e f = λ i. e i || f i

no_certificate_token : (document : Nodes) (spots : List Spot) (bytes : List ℕ) → has (flat_map (object_of document) (parts.as_kind parts.Certificate spots)) (Token bytes) ≡ false
no_certificate_token document [] bytes = refl
no_certificate_token document (spot ∷ spots) bytes = no_certificate_token document spots bytes

no_list_token : (document : Nodes) (spots : List Spot) (bytes : List ℕ) → has (flat_map (object_of document) (parts.as_kind parts.RevocationList spots)) (Token bytes) ≡ false
no_list_token document [] bytes = refl
no_list_token document (spot ∷ spots) bytes = no_list_token document spots bytes

no_values_token : (document : Nodes) (values : Spot) (bytes : List ℕ) → has (flat_map (object_of document) (parts.data_of_values document values)) (Token bytes) ≡ false
no_values_token document values bytes = by_bool (is_called (xades (codes "CertificateValues")) values)
  where
    certificates : List Spot
    certificates = called document (xades (codes "EncapsulatedX509Certificate")) values

    lists : List Spot
    lists = called_in document (xades (codes "EncapsulatedCRLValue")) (called document (xades (codes "CRLValues")) values)

    by_bool : (b : Bool) → has (flat_map (object_of document) (cond b (parts.as_kind parts.Certificate certificates) (parts.as_kind parts.RevocationList lists))) (Token bytes) ≡ false
    by_bool true = no_certificate_token document certificates bytes
    by_bool false = no_list_token document lists bytes

no_material_token : (document : Nodes) (holders : List Spot) (bytes : List ℕ) → has (flat_map (object_of document) (flat_map (parts.data_of_values document) holders)) (Token bytes) ≡ false
no_material_token document [] bytes = refl
no_material_token document (values ∷ holders) bytes =
    ap (λ xs. has xs (Token bytes)) (flat_map-append (object_of document) (parts.data_of_values document values) (flat_map (parts.data_of_values document) holders))
    ∙ list_any-append (is_same (Token bytes)) (flat_map (object_of document) (parts.data_of_values document values)) (flat_map (object_of document) (flat_map (parts.data_of_values document) holders))
    ∙ either_false _ _ (no_values_token document values bytes) (no_material_token document holders bytes)

-- a property's token is that of its time-stamp
abbrev IsTokenAt : Nodes → List ℕ → Spot → Type 0
IsTokenAt document bytes property = (parts.is_stamp property ≡ true) × (parts.token document property ≡ bytes)

token_of_head : (token : List ℕ) (elements : List Element) (bytes : List ℕ) → has (Token token ∷ map (λ element. Certificate element.whole) elements) (Token bytes) ≡ true → token ≡ bytes
token_of_head token elements bytes e =
    ⊎_elim (λ same. ap (λ object. bytes_or token object) (sym (same_is (Token bytes) (Token token) same)))
    (λ later. absurd (not_both (sym later ∙ elements_no_token elements bytes)))
    (either_true (is_same (Token bytes) (Token token)) (has (map (λ element. Certificate element.whole) elements) (Token bytes)) e)
  where
    bytes_or : List ℕ → Object → List ℕ
    bytes_or other (Octets k) = other
    bytes_or other Value = other
    bytes_or other (Certificate bytes) = other
    bytes_or other (RevocationList bytes) = other
    bytes_or other (Token bytes) = bytes

property_of : (document : Nodes) (property : Spot) (bytes : List ℕ) → has (objects_in document property) (Token bytes) ≡ true → IsTokenAt document bytes property
property_of document property bytes e = by_bool (parts.is_stamp property) refl e
  where
    by_bool : (b : Bool) → parts.is_stamp property ≡ b → has (cond b (objects_of_token (parts.token document property)) (material_in document property)) (Token bytes) ≡ true
        → IsTokenAt document bytes property
    by_bool true is h = (is, token_of_head (parts.token document property) (certificates_of (parts.token document property)) bytes h)
    by_bool false is h = absurd (not_both (sym h ∙ no_material_token document (parts.values_of document property) bytes))

-- the time-stamp with the token, among properties
shown_token : (handed : Handed) (document : Nodes) (signature : Spot) (before list : List Spot) (bytes : List ℕ) → has (flat_map (objects_in document) list) (Token bytes) ≡ true
    → (stamped : Stamped) × Contains (stamps_from handed document signature before list) stamped × (stamped.token ≡ bytes)
shown_token handed document signature before [] bytes e = absurd (not_both (sym e))
shown_token handed document signature before (property ∷ list) bytes e =
    let here : Stamped = stamp_of handed document signature before property in
    let others : List Stamped = stamps_from handed document signature (before ++ property ∷ []) list in
    ⊎_elim
    (λ first.
    let is = property_of document property bytes first in
    let P : Bool → Type 0 = λ b. Contains (cond b (here ∷ []) [] ++ others) here in
    (here, subst P (sym is.0) (Contains-first here others), is.1))
    (λ later.
    let found = shown_token handed document signature (before ++ property ∷ []) list bytes later in
    (found.0, Contains-append_right (cond (parts.is_stamp property) (here ∷ []) []) others found.0 found.1, found.2))
    (had_of_append (objects_in document property) (flat_map (objects_in document) list) (Token bytes) e)

front_no_token : (document : Nodes) (signature : Spot) (bytes : List ℕ) → has (objects_in_front document signature) (Token bytes) ≡ false
front_no_token document signature bytes =
    list_any-append (is_same (Token bytes)) (octets_from 1 (length (parts.references document signature))) (Value ∷ map (λ cert. Certificate cert) (key_octets document signature))
    ∙ either_false _ _ (octets_no_token 1 (length (parts.references document signature)) bytes) (certificates_no_token (key_octets document signature) bytes)

tokens_shown : (handed : Handed) (document : Nodes) (signature : Spot) (more : List Object) → HasNoTokens more → (bytes : List ℕ)
    → has (objects document signature more) (Token bytes) ≡ true → (stamped : Stamped) × Contains (stamps handed document signature) stamped × (stamped.token ≡ bytes)
tokens_shown handed document signature more none bytes e =
    ⊎_elim
    (λ old. ⊎_elim
    (λ front. ⊎_elim (λ h. absurd (not_both (sym h))) (λ h. absurd (not_both (sym h ∙ front_no_token document signature bytes)))
    (had_of [] (objects_in_front document signature) (Token bytes) front))
    (λ inside. shown_token handed document signature [] (parts.properties document signature) bytes inside)
    (had_of (with_objects [] (objects_in_front document signature)) (flat_map (objects_in document) (parts.properties document signature)) (Token bytes) old))
    (λ new. absurd (not_both (sym new ∙ none bytes)))
    (had_of (objects_to document signature (parts.properties document signature)) more (Token bytes) e)

-- References.

abbrev has_at : List Object → Object → Bool
has_at objects object = has objects object

references_within : (handed : Handed) (document : Nodes) (signature : Spot) (all : List Object) (list : List Spot) (k : ℕ)
    → ((j : ℕ) → j < length list → has all (Octets (k + j)) ≡ true)
    → (one : DigestUse) → Contains (reference_digests handed document signature all k list) one → one.object < length all
references_within handed document signature all [] k had one has = absurd (nothing_in one has)
references_within handed document signature all (reference ∷ list) k had one has =
    ⊎_elim
    (λ is.
    let n : k + 0 ≡ k = omega arith in
    subst (λ (u : DigestUse). u.object < length all) is
    (number_within all (Octets k) (subst (λ (j : ℕ). has_at all (Octets j) ≡ true) n (had 0 (omega arith)))))
    (λ later. references_within handed document signature all list (suc k)
    (λ j lt. let n : k + suc j ≡ suc k + j = omega arith in subst (λ (i : ℕ). has_at all (Octets i) ≡ true) n (had (suc j) (omega arith))) one later)
    (Contains-cases _ one (reference_digests handed document signature all (suc k) list) has)

pub reference_had : (document : Nodes) (signature : Spot) (more : List Object) (j : ℕ) → j < length (parts.references document signature) → has (objects document signature more) (Octets (1 + j)) ≡ true
reference_had document signature more j lt =
    all_had document signature more (Octets (1 + j)) (front_had document signature (parts.properties document signature) (Octets (1 + j))
    (has_front (octets_from 1 (length (parts.references document signature))) (Value ∷ map (λ cert. Certificate cert) (key_octets document signature)) (Octets (1 + j))
    (octets_had 1 (length (parts.references document signature)) j lt)))

pub evidence_is_in_range : EvidenceIsInRange
evidence_is_in_range handed document signature more none = record {
  value = all_had document signature more Value (value_had document signature (parts.properties document signature));
  certificate = λ bytes e. all_had document signature more (Certificate bytes)
      (front_had document signature (parts.properties document signature) (Certificate bytes)
      (has_behind (octets_from 1 (length (parts.references document signature))) (Value ∷ map (λ cert. Certificate cert) (key_octets document signature)) (Certificate bytes)
      (certificate_had (key_octets document signature) _ bytes e)));
  references = λ one has. references_within handed document signature (objects document signature more) (parts.references document signature) 1
      (reference_had document signature more) one has;
  stamps = λ stamped has. all_had document signature more (Token stamped.token)
      (token_had handed document signature stamped (stands_in handed document signature (parts.properties document signature) [] (parts.properties document signature) refl stamped has));
  covers = λ stamped has.
      let s = stands_in handed document signature (parts.properties document signature) [] (parts.properties document signature) refl stamped has in
      subst (λ (st : Stamped). All (λ number. number < length (objects document signature more)) st.covers) s.is
      (covers_within document signature s.before (kind_of s.property) (length (objects document signature more)) (longer_to document signature more s.before (s.property ∷ s.after) s.split));
  tokens = λ bytes e. tokens_shown handed document signature more none bytes e;
}
