-- The signing certificate among the certificates of KeyInfo.
use Rattle.std.proofs.Common.{◌≡◌, ℕ, ◌≤◌, Bool, true, false, cond, List, length, nat_lt, Option, Some, None, refl, sym, ◌∙◌, ap, arith}
use Rattle.std.proofs.lemmas.Bool.Decides.{nat_tests}
use Rattle.std.proofs.lemmas.List.Folds.{find_at}
use Rattle.std.proofs.lemmas.Option.{none-some, slice_get_past}
use Rattle.std.specs.Prelude.{find, option_and_then, option_map, slice_get}
use Rattle.std.specs.List.{position, position_or_len}
use Rattle.document_model.specs.Tree.{Nodes}
use Rattle.std.proofs.lemmas.Option.{same_Some}
use Rattle.algorithms.specs.declared.digest_kinds.DigestKind.{DigestKind}
use Rattle.algorithms.specs.declared.digest_kinds.DigestKind.TheVariants.{Sha256, Sha384, Sha512}
use Rattle.signature_model.specs.Vocabulary as words
use Rattle.signature_model.specs.Parts as model
use Rattle.signature_model.specs.Spots.{Spot}
use Rattle.signature_elements.specs.DigestKinds.{kind_in}
use Rattle.qualifying_props.specs.Digests.{algorithm, digest, has_digest}
use Rattle.qualifying_props.specs.PartsOf.{cert_method, cert_digest, key_octets}

-- what is found stands at its place
at_place : {X : Type 0} (xs : List X) (n : ℕ) (b : Bool) → nat_lt n (length xs) ≡ b → option_and_then (slice_get xs) (cond b (Some n) None) ≡ slice_get xs n
at_place xs n true e = refl
at_place xs n false e = sym (slice_get_past xs n (by_test e))
  where
    by_test : nat_lt n (length xs) ≡ false → length xs ≤ n
    by_test e' = grind (arith, nat_tests)

found_at_place : {X : Type 0} (p : X → Bool) (xs : List X) → option_and_then (slice_get xs) (position p xs) ≡ find p xs
found_at_place p xs = at_place xs (position_or_len p xs) (nat_lt (position_or_len p xs) (length xs)) refl ∙ sym (find_at p xs)

-- an algorithm in memory is the one that its name means
pub algorithm_is : (kind : DigestKind) → algorithm (kind_in kind) ≡ kind
algorithm_is Sha256 = refl
algorithm_is Sha384 = refl
algorithm_is Sha512 = refl

-- the test by a name and the test by the algorithm that it means
same_test : (o : Option words.DigestKind) (kind : DigestKind) (wanted : List ℕ) → option_map algorithm o ≡ Some kind → has_digest kind wanted ≡ model.has_digest digest o wanted
same_test None kind wanted e = absurd (none-some kind e)
same_test (Some k) kind wanted e = ap (λ a. has_digest a wanted) (sym (same_Some (algorithm k) kind e))

pub signer_is : (document : Nodes) (signature : Spot) (certs : List (List ℕ)) (kind : DigestKind) (wanted : List ℕ) (number : Option ℕ)
    → certs ≡ key_octets document signature → option_map algorithm (model.digest_kind (cert_method document signature)) ≡ Some kind → wanted ≡ cert_digest document signature
    → number ≡ position (has_digest kind wanted) certs → option_and_then (slice_get certs) number ≡ model.signing_certificate digest document signature
signer_is document signature certs kind wanted number c k w n =
    ap (option_and_then (slice_get certs)) n ∙ found_at_place (has_digest kind wanted) certs
    ∙ (λ i. find (has_digest kind (w i)) (c i))
    ∙ ap (λ test. find test (key_octets document signature)) (same_test (model.digest_kind (cert_method document signature)) kind (cert_digest document signature) k)
