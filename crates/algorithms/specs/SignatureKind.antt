-- The names of the kinds of signatures, and whether a signature of a kind holds.
use Rattle.std.specs.Prelude.{◌≡◌, ℕ, List, [], ◌∷◌, codes}
use Rattle.lms_verify.specs.declared.Verdict.TheVariants as hss
use Rattle.lms_verify.specs.Hss as hss_verdict
use Rattle.xmss_verify.specs.declared.Verdict.TheVariants as xmss
use Rattle.xmss_verify.specs.Xmss as xmss_verdict
use Rattle.xmssmt_verify.specs.declared.Verdict.TheVariants as xmssmt
use Rattle.xmssmt_verify.specs.XmssMt as xmssmt_verdict
use Rattle.algorithms.specs.declared.signature_kinds.SignatureKind.{SignatureKind}
use Rattle.algorithms.specs.declared.signature_kinds.SignatureKind.TheVariants.{Hss, Xmss, XmssMt}

-- the word of policies and reports
abbrev pub word_of : SignatureKind → List ℕ
word_of Hss = codes "hss"
word_of Xmss = codes "xmss"
word_of XmssMt = codes "xmssmt"

-- the content octets of id-alg-hss-lms-hashsig (RFC 8708), id-alg-xmss-hashsig and id-alg-xmssmt-hashsig (RFC 9802)
abbrev pub oid_of : SignatureKind → List ℕ
oid_of Hss = 0x2A ∷ 0x86 ∷ 0x48 ∷ 0x86 ∷ 0xF7 ∷ 0x0D ∷ 0x01 ∷ 0x09 ∷ 0x10 ∷ 0x03 ∷ 0x11 ∷ []
oid_of Xmss = 0x2B ∷ 0x06 ∷ 0x01 ∷ 0x05 ∷ 0x05 ∷ 0x07 ∷ 0x06 ∷ 0x22 ∷ []
oid_of XmssMt = 0x2B ∷ 0x06 ∷ 0x01 ∷ 0x05 ∷ 0x05 ∷ 0x07 ∷ 0x06 ∷ 0x23 ∷ []

-- the signature holds: the verdict of its kind is Good
abbrev pub Holds : SignatureKind → (key message signature : List ℕ) → Type 0
Holds Hss key message signature = hss_verdict.verdict key message signature ≡ hss.Good
Holds Xmss key message signature = xmss_verdict.verdict key message signature ≡ xmss.Good
Holds XmssMt key message signature = xmssmt_verdict.verdict key message signature ≡ xmssmt.Good
