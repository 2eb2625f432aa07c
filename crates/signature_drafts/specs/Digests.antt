-- The digests that a signature tells: XML Signature 1.1, "The DigestValue Element"; EN 319 132-1, clause 5.2.2.
use Rattle.std.specs.Prelude.{◌≡◌, ℕ, ◌<◌, ◌^◌, true, List, map, length}
use Rattle.std.specs.List.{list_all}
use Rattle.insertion_fragments.specs.Fragment.{is_simple}
use Rattle.signature_model.specs.Prepared.{Draft, first_certificate}
use Rattle.signature_drafts.specs.declared.signature.Digests.{Digests}

-- they are those of the octets of the draft's References, of its first certificate, and of the signed properties
pub record AreDigestsBy (digest digest_of : List ℕ → List ℕ) (value : List ℕ) (draft : Draft) (digests : Digests) : Type 0 where
  pub references : digests.references.now ≡ map digest_of draft.references
  pub certificate : digests.certificate.now ≡ digest (first_certificate draft)
  pub properties : digests.properties.now ≡ value

-- a draft whose References have numbers of 32 bits, and whose time is written as it stands
pub record IsPlain (draft : Draft) : Type 0 where
  pub few : length draft.references < 2 ^ 32
  pub simple : list_all is_simple draft.time ≡ true
