-- The place of a fault in base64 is no greater than the document and the octets that are handed in.
use Rattle.std.proofs.Common.{◌≡◌, ℕ, suc, ◌+◌, ◌≤◌, Bool, true, false, not, List, [], ◌∷◌, ◌++◌, length, Option, Some, None, refl, subst, length-append, arith}
use Rattle.std.specs.Prelude.{option_and_then, is_none}
use Rattle.document_model.specs.Characters.{is_white}
use Rattle.document_model.specs.Documents.{document_of}
use Rattle.document_model.specs.Items.{or_else}
use Rattle.document_model.specs.Tree.{Nodes, Path}
use Rattle.document_model.specs.NodeSets.{NodeSet, part}
use Rattle.document_model.proofs.Joins.{by_test, by_option}
use Rattle.signature_model.specs.Spots.{Spot, without_white}
use Rattle.signature_model.specs.Parts.{uri}
use Rattle.signature_model.specs.Base64.{strict, begins_strict, longest, fault_in}
use Rattle.signature_model.specs.Chains.{Handed, Place, Document, Named, External, place, Made, NodesAlone, InForm, Decoded, Chain, chain, texts, base64_text, node_set, handed_in, decoded_text, whole_text, Fault, TargetMissing, TargetTwice, NoChain, DigestName, NotHandedIn, NotBase64, when, target_missing, target_twice, no_chain, no_digest, not_handed_in, not_base64, not_base64_text, first_of, fault}
use Rattle.signature_model.specs.Agreeing.{PlacesAreWithin}
use Rattle.signature_model.proofs.TextLengths.{document_texts, part_texts}

longest_short : (front cs : List ℕ) → longest front cs ≤ length front + length cs
longest_short front [] = omega arith
longest_short front (c ∷ cs) = by_test (λ (x : ℕ). x ≤ length front + suc (length cs)) (begins_strict (front ++ c ∷ [])) (longest (front ++ c ∷ []) cs) (length front)
    (λ e. let a = longest_short (front ++ c ∷ []) cs in omega (arith, a, length-append front (c ∷ []))) (λ e. omega arith)

fault_short : (text : List ℕ) → fault_in text ≤ length text
fault_short text = let a = longest_short [] text in omega (arith, a)

white_short : (cs : List ℕ) → length (without_white cs) ≤ length cs
white_short [] = omega arith
white_short (c ∷ cs) =
    let a = white_short cs in
    by_test (λ (x : List ℕ). length x ≤ suc (length cs)) (not (is_white c)) (c ∷ without_white cs) (without_white cs) (λ e. omega (arith, a)) (λ e. omega (arith, a))

-- Faults whose place is within a number, and texts that are no longer.

abbrev IsWithin : ℕ → Fault → Type 0
IsWithin n (NotBase64 k at) = at ≤ n
IsWithin n (TargetMissing k) = Unit {0}
IsWithin n (TargetTwice k) = Unit {0}
IsWithin n (NoChain k) = Unit {0}
IsWithin n (DigestName k) = Unit {0}
IsWithin n (NotHandedIn k) = Unit {0}

abbrev AreWithin : ℕ → Option Fault → Type 0
AreWithin n None = Unit {0}
AreWithin n (Some found) = IsWithin n found

abbrev IsShort : ℕ → Option (List ℕ) → Type 0
IsShort n None = Unit {0}
IsShort n (Some text) = length text ≤ n

tested : (n : ℕ) (b : Bool) (found : Fault) → IsWithin n found → AreWithin n (when b found)
tested n true found h = h
tested n false found h = tt

either_within : (n : ℕ) (o p : Option Fault) → AreWithin n o → AreWithin n p → AreWithin n (or_else o p)
either_within n None p h k = k
either_within n (Some found) p h k = h

firsts_within : (n : ℕ) (test : ℕ → Spot → Option Fault) → ((k : ℕ) (reference : Spot) → AreWithin n (test k reference)) → (k : ℕ) (references : List Spot) → AreWithin n (first_of test k references)
firsts_within n test h k [] = tt
firsts_within n test h k (reference ∷ references) = either_within n (test k reference) (first_of test (suc k) references) (h k reference) (firsts_within n test h (suc k) references)

text_within : (n k : ℕ) (o : Option (List ℕ)) → IsShort n o → AreWithin n (option_and_then (not_base64_text k) o)
text_within n k None h = tt
text_within n k (Some text) h = tested n (is_none (strict text)) (NotBase64 k (fault_in text)) (let a = fault_short text in omega (arith, a, h))

decoded_short : (n : ℕ) (o : Option (List ℕ)) (c : Option Chain) → IsShort n o → IsShort n (decoded_text o c)
decoded_short n o None h = tt
decoded_short n o (Some c) h = by_made c.made
  where
    by_made : (made : Made) → IsShort n (decoded_text o (Some (record { taken = c.taken; made = made })))
    by_made NodesAlone = tt
    by_made (InForm form) = tt
    by_made Decoded = h

handed_short : (n : ℕ) (handed : Handed) (reference : Spot) → ((name octets : List ℕ) → handed name ≡ Some octets → length octets ≤ n)
    → (p : Place) → IsShort n (option_and_then (λ octets. Some (without_white octets)) (handed_in handed p reference))
handed_short n handed reference h Document = tt
handed_short n handed reference h (Named identifier) = tt
handed_short n handed reference h External = given (handed (uri reference)) refl
  where
    given : (o : Option (List ℕ)) → handed (uri reference) ≡ o → IsShort n (option_and_then (λ octets. Some (without_white octets)) o)
    given None e = tt
    given (Some octets) e = let a = h (uri reference) octets e in let b = white_short octets in omega (arith, a, b)

whole_short : (n : ℕ) (handed : Handed) (document : Nodes) (signature : Path) (reference : Spot) → length (texts document) ≤ n
    → ((name octets : List ℕ) → handed name ≡ Some octets → length octets ≤ n) → IsShort n (whole_text handed document signature reference)
whole_short n handed document signature reference d h =
    by_option (IsShort n) (λ (set : NodeSet). Some (base64_text document set)) (node_set document signature reference)
    (option_and_then (λ octets. Some (without_white octets)) (handed_in handed (place reference) reference))
    (λ set e. let a = white_short (texts (part set document)) in let b = part_texts set document in omega (arith, a, b, d))
    (λ e. handed_short n handed reference h (place reference))

fault_within : (n : ℕ) (handed : Handed) (document : Nodes) (signature : Path) (references : List Spot) → length (texts document) ≤ n
    → ((name octets : List ℕ) → handed name ≡ Some octets → length octets ≤ n) → AreWithin n (fault handed document signature references)
fault_within n handed document signature references d h =
    either_within n _ _ (firsts_within n (target_missing document) (λ k reference. tested n _ (TargetMissing k) tt) 1 references)
    (either_within n _ _ (firsts_within n (target_twice document) (λ k reference. tested n _ (TargetTwice k) tt) 1 references)
    (either_within n _ _ (firsts_within n (no_chain document) (λ k reference. tested n _ (NoChain k) tt) 1 references)
    (either_within n _ _ (firsts_within n (no_digest document) (λ k reference. tested n _ (DigestName k) tt) 1 references)
    (either_within n _ _ (firsts_within n (not_handed_in handed) (λ k reference. tested n _ (NotHandedIn k) tt) 1 references)
    (either_within n _ _ (firsts_within n (not_base64 handed document signature)
    (λ k reference. text_within n k (decoded_text (whole_text handed document signature reference) (chain document reference))
    (decoded_short n (whole_text handed document signature reference) (chain document reference) (whole_short n handed document signature reference d h))) 1 references)
    tt)))))

pub places_are_within : PlacesAreWithin
places_are_within n handed bytes signature references k at b h e =
    let d : length (texts (document_of bytes)) ≤ n = (let a = document_texts bytes in omega (arith, a, b)) in
    subst (AreWithin n) e (fault_within n handed (document_of bytes) signature references d h)
