-- The faults of References stay where a property is put in.
use Rattle.std.proofs.Common.{◌≡◌, ℕ, suc, Bool, false, ◌&&◌, List, [], ◌∷◌, Option, Some, None, refl, sym, ◌∙◌, ap, subst, codes}
use Rattle.std.specs.Prelude.{is_none, option_and_then}
use Rattle.std.specs.Option.{option_map_or}
use Rattle.document_model.specs.Names.{Expanded}
use Rattle.document_model.specs.Tree.{Nodes, Path, IsElementAt, put_last}
use Rattle.document_model.specs.NodeSets.{NodeSet}
use Rattle.document_model.specs.Insertion.{IsWholeOrElement}
use Rattle.document_model.proofs.Kept.{keeps_texts}
use Rattle.document_model.proofs.Targets.{keeps_targets}
use Rattle.signature_model.specs.Vocabulary.{ds}
use Rattle.signature_model.specs.Spots.{Spot, without_white}
use Rattle.signature_model.specs.Parts.{references, digest_kind}
use Rattle.signature_model.specs.Chains.{Handed, Place, Document, Named, External, Chain, place, chain, target_set, less_taken, node_set, handed_in, texts, base64_text, whole_text, decoded_text, Fault, on_target, is_missing, is_double, when, target_missing, TargetMissing, target_twice, TargetTwice, no_chain, NoChain, no_digest, DigestName, not_handed_in, not_base64_text, not_base64, first_of, fault}
use Rattle.document_model.specs.NodeSets.{Target}
use Rattle.signature_model.specs.Covers.{lies_in}
use Rattle.signature_model.proofs.Standing.{Each}
use Rattle.signature_model.proofs.Apart.{named_apart}
use Rattle.signature_model.proofs.References.{apex_less, target_stands, chain_stays, references_stay}
use Rattle.signature_model.proofs.Covered.{Setting, Unreached, unreached_references, signature_apart}
use Rattle.signature_model.proofs.FreeAgain.{node_set_stays}
use Rattle.signature_model.proofs.PropertyKept.{PropertySetting}
use Rattle.covered_items.proofs.NewHolders.{IsApart}
use Rattle.covered_items.proofs.SignedPartsStay.{methods_stay}

-- The text of a Reference's nodes.

off : (a b : Bool) → a ≡ false → (a && b) ≡ false
off a b e = rw e refl

text_stays : (document added : Nodes) (host : Path) (set : NodeSet) → IsElementAt document host → IsWholeOrElement document set.apex → lies_in set host ≡ false
    → base64_text (put_last added host document) set ≡ base64_text document set
text_stays document added host set h w e =
    ap (λ nodes. without_white (texts nodes)) (keeps_texts set document added host h w (off (lies_in set host) _ e)).0

on_set : (document added : Nodes) (host : Path) (given : Option (List ℕ)) → IsElementAt document host → (o : Option NodeSet)
    → ((set : NodeSet) → o ≡ Some set → IsWholeOrElement document set.apex) → option_map_or (λ set. lies_in set host) o false ≡ false
    → option_map_or (λ set. Some (base64_text (put_last added host document) set)) o given ≡ option_map_or (λ set. Some (base64_text document set)) o given
on_set document added host given h None w e = refl
on_set document added host given h (Some set) w e = ap (λ text. Some text) (text_stays document added host set h (w set refl) e)

some_same : {A : Type 0} (a b : A) → Some a ≡ Some b → a ≡ b
some_same a b e = ap (λ o. option_map_or (λ x. x) o b) e

set_stands : (document : Nodes) (signature : Path) (reference : Spot) (o : Option NodeSet) → ((set : NodeSet) → o ≡ Some set → IsWholeOrElement document set.apex)
    → (c : Option Chain) (set : NodeSet) → option_and_then (λ set. Some (less_taken signature set c)) o ≡ Some set → IsWholeOrElement document set.apex
set_stands document signature reference None w c set e = absurd (none_some e)
  where
    none_some : None ≡ Some set → ⊥
    none_some e = cc e
set_stands document signature reference (Some first) w c set e =
    subst (λ (s : NodeSet). IsWholeOrElement document s.apex) (some_same (less_taken signature first c) set e)
    (subst (IsWholeOrElement document) (sym (apex_less signature first c)) (w first refl))

whole_text_stays : (handed : Handed) (document added : Nodes) (signature place_ : Spot) (host_name : Expanded) → Setting document added signature place_ host_name
    → (reference : Spot) → Unreached document signature place_ reference
    → whole_text handed (put_last added place_.path document) signature.path reference ≡ whole_text handed document signature.path reference
whole_text_stays handed document added signature place_ host_name s reference u =
    let new : Nodes = put_last added place_.path document in
    let given : Option (List ℕ) = option_and_then (λ octets. Some (without_white octets)) (handed_in handed (place reference) reference) in
    ap (λ o. option_map_or (λ set. Some (base64_text new set)) o given) (node_set_stays document added signature place_ host_name s reference u.0)
    ∙ on_set document added place_.path given s.place_named.stands.element (node_set document signature.path reference)
    (set_stands document signature.path reference (target_set document (place reference)) (target_stands document (place reference)) (chain document reference)) u.1

-- The tests.

target_test_stays : (document added : Nodes) (host : Spot) (test : Target → Bool) (host_name : Expanded) (signature : Spot) → Setting document added signature host host_name
    → (p : Place) → on_target (put_last added host.path document) test p ≡ on_target document test p
target_test_stays document added host test host_name signature s Document = refl
target_test_stays document added host test host_name signature s (Named identifier) =
    ap test (keeps_targets document added host.path identifier s.place_named.stands.element s.no_identifiers)
target_test_stays document added host test host_name signature s External = refl

abbrev first_or : Option Fault → Option Fault → Option Fault
first_or None second = second
first_or (Some found) second = Some found

first_same : (P : Spot → Type 0) (f g : ℕ → Spot → Option Fault) → ((k : ℕ) (reference : Spot) → P reference → f k reference ≡ g k reference)
    → (k : ℕ) (list : List Spot) → Each P list → first_of f k list ≡ first_of g k list
first_same P f g same k [] h = refl
first_same P f g same k (reference ∷ list) h =
    let here = same k reference h.0 in
    let others = first_same P f g same (suc k) list h.1 in
    λ i. first_or (here i) (others i)

-- one test among the References
test_stays : (document added : Nodes) (signature place_ : Spot) (host_name : Expanded) → Setting document added signature place_ host_name → (f g : ℕ → Spot → Option Fault)
    → ((k : ℕ) (reference : Spot) → Unreached document signature place_ reference → f k reference ≡ g k reference)
    → first_of f 1 (references document signature) ≡ first_of g 1 (references document signature)
test_stays document added signature place_ host_name s f g same =
    first_same (Unreached document signature place_) f g same 1 (references document signature) (unreached_references document added signature place_ host_name s)

pub faults_stay : (handed : Handed) (document added : Nodes) (signature place_ : Spot) (host_name : Expanded) → PropertySetting document added signature place_ host_name → IsApart host_name
    → fault handed (put_last added place_.path document) signature.path (references (put_last added place_.path document) signature)
    ≡ fault handed document signature.path (references document signature)
faults_stay handed document added signature place_ host_name p a =
    let s = p.setting in
    let new : Nodes = put_last added place_.path document in
    let refs = references_stay document added place_ signature host_name s.place_named s.other (signature_apart document added signature place_ host_name s) in
    let chains : (reference : Spot) → Unreached document signature place_ reference → chain new reference ≡ chain document reference =
    λ reference u. chain_stays document added place_ reference host_name s.place_named s.other (named_apart document place_ (ds (codes "Reference")) host_name s.place_named s.other.reference reference u.0) in
    let missing = test_stays document added signature place_ host_name s (target_missing new) (target_missing document)
    (λ k reference u. ap (λ b. when b (TargetMissing k)) (target_test_stays document added place_ is_missing host_name signature s (place reference))) in
    let twice = test_stays document added signature place_ host_name s (target_twice new) (target_twice document)
    (λ k reference u. ap (λ b. when b (TargetTwice k)) (target_test_stays document added place_ is_double host_name signature s (place reference))) in
    let no_chains = test_stays document added signature place_ host_name s (no_chain new) (no_chain document)
    (λ k reference u. ap (λ c. when (is_none c) (NoChain k)) (chains reference u)) in
    let no_digests = test_stays document added signature place_ host_name s (no_digest new) (no_digest document)
    (λ k reference u. ap (λ spots. when (is_none (digest_kind spots)) (DigestName k))
    (methods_stay document added place_ host_name (ds (codes "Reference")) s.place_named s.other.reference (reference ∷ []) (reference ∷ []) refl (u.0, tt))) in
    let no_base64 = test_stays document added signature place_ host_name s (not_base64 handed new signature.path) (not_base64 handed document signature.path)
    (λ k reference u.
    let t = whole_text_stays handed document added signature place_ host_name s reference u in
    let c = chains reference u in
    λ i. option_and_then (not_base64_text k) (decoded_text (t i) (c i))) in
    let none : Option Fault = first_of (not_handed_in handed) 1 (references document signature) in
    ap (fault handed new signature.path) refs
    ∙ (λ i. first_or (missing i) (first_or (twice i) (first_or (no_chains i) (first_or (no_digests i) (first_or none (first_or (no_base64 i) None))))))
