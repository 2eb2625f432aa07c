-- Time-stamp tokens (RFC 3161), as the record of what acceptance reads of them.
use Rattle.std.specs.Prelude.{ℕ, List, ℤ, Option}
use Rattle.algorithms.specs.declared.digest_kinds.DigestKind.{DigestKind}
use Rattle.acceptance.specs.Certificates.{Signature}

pub record Token : Type 0 where
  pub whole : List ℕ
  -- of the imprint, of the signed content, and of the signing certificate's hash
  pub imprint : DigestKind
  pub content : DigestKind
  pub cert_hash : DigestKind
  pub gen_time : ℤ
  -- in whole seconds, rounded up, and 0 where it is absent
  pub accuracy : ℕ
  pub signature : Signature
  -- the bytes of the certificate in it that its signer information names
  pub signer : Option (List ℕ)
