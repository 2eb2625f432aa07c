-- The digests that a layout lets stand are those of the kinds.
use Rattle.std.proofs.Common.{◌≡◌, ℕ, List, Bool, true, false, refl, sym, ◌↔◌, IsTrue, if◌then◌else◌}
use Rattle.std.specs.Str.{bytes_eq}
use Rattle.std.proofs.lemmas.Slice.Eq.{bytes_eq-Decides}
use Rattle.algorithms.specs.DigestKind.{oid_of}
use Rattle.algorithms.specs.declared.digest_kinds.DigestKind.{DigestKind}
use Rattle.algorithms.specs.declared.digest_kinds.DigestKind.TheVariants.{Sha256, Sha384, Sha512}
use Rattle.der_values.specs.Rules.{is_digest}
use Rattle.tst_tokens.specs.Laws.{DigestsAreOfKinds}

some_kind : (oid : List ℕ) → (if bytes_eq oid (oid_of Sha256) then true else if bytes_eq oid (oid_of Sha384) then true else bytes_eq oid (oid_of Sha512)) ≡ true
    → (kind : DigestKind) × (oid ≡ oid_of kind)
some_kind oid is =
    elim (bytes_eq oid (oid_of Sha256)) as (λ b. bytes_eq oid (oid_of Sha256) ≡ b → (if b then true else if bytes_eq oid (oid_of Sha384) then true else bytes_eq oid (oid_of Sha512)) ≡ true → (kind : DigestKind) × (oid ≡ oid_of kind)) [
      | true ↦ λ q i. (Sha256, (bytes_eq-Decides oid (oid_of Sha256)).0 q)
      | false ↦ λ q i.
          elim (bytes_eq oid (oid_of Sha384)) as (λ b. bytes_eq oid (oid_of Sha384) ≡ b → (if b then true else bytes_eq oid (oid_of Sha512)) ≡ true → (kind : DigestKind) × (oid ≡ oid_of kind)) [
            | true ↦ λ p j. (Sha384, (bytes_eq-Decides oid (oid_of Sha384)).0 p)
            | false ↦ λ p j. (Sha512, (bytes_eq-Decides oid (oid_of Sha512)).0 j)
          ] refl i
    ] refl is

is_one : (kind : DigestKind) → is_digest (oid_of kind) ≡ true
is_one Sha256 = refl
is_one Sha384 = refl
is_one Sha512 = refl

pub digests_are_of_kinds : DigestsAreOfKinds
digests_are_of_kinds oid = (λ is. some_kind oid is, λ (kind, is). rw is (is_one kind))
