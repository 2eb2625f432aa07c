-- Reports, line by line, with T for each time.
use Rattle.std.specs.Prelude.{◌≡◌, refl, None, [], ◌∷◌, codes, true, false, pos}
use Rattle.std.specs.Fmt.{digits}
use Rattle.hex.specs.Hex.{encode_with}
use Rattle.algorithms.specs.declared.digest_kinds.DigestKind.TheVariants.{Sha256}
use Rattle.algorithms.specs.declared.signature_kinds.SignatureKind.TheVariants.{Hss, XmssMt}
use Rattle.policy_rules.specs.Rules.{Rules}
use Rattle.signature_model.specs.Parts.{SignatureStamp, ArchiveStamp}
use Rattle.signature_objects.specs.Objects.{Octets, Value, Certificate, RevocationList, Token}
use Rattle.signature_evidence.specs.Answers.{Answers}
use Rattle.signature_evidence.specs.Evidence.{Evidence}
use Rattle.signature_evidence.specs.Report.{fault_report, report}
use Rattle.signature_evidence.specs.Reporting.{code}
use Rattle.signature_evidence.specs.Soundness.{Purpose, Sound}

policy : Rules
policy = record { version = 1; anchors = []; kinds = record { kind = Hss; uris = codes "urn:m" ∷ []; until = None } ∷ []; digests = [] }

evidence : Evidence
evidence = record {
  objects = Octets 1 ∷ Value ∷ Certificate (7 ∷ []) ∷ Token (8 ∷ []) ∷ RevocationList (9 ∷ []) ∷ [];
  stamps = record { kind = SignatureStamp; token = 8 ∷ []; octets = []; covers = 1 ∷ [] } ∷ [];
  references = record { object = 0; kind = Sha256; matches = true } ∷ [];
  computed = (0xAB ∷ 0x01 ∷ []) ∷ [];
  certificate_kind = Sha256;
  certificate = None;
  method = codes "urn:m";
  value = [];
  signed = [];
}

answers : Answers
answers = record {
  references = true ∷ [];
  certificate = false;
  good = false;
  keyed = false;
  kind = true;
  walk = false;
  tokens = record { soundness = Purpose; accepted = false } ∷ [];
  in_order = true;
  complete = false;
}

without_certificate : report (λ t. codes "T") policy evidence (pos 0) (pos 0 ∷ pos 0 ∷ pos 0 ∷ pos 0 ∷ pos 0 ∷ []) answers
    ≡ codes "verdict: no\nmoment: T\nlevel: B-T\nreference 1: sha256 ab01 match accepted T\ncertificate: missing\nvalue: hss bad refused T\nwalk: refused\ntoken 1: signature T fault-6 refused T\norder: kept\nobject 1: certificate T\nobject 2: crl T\n"
unfolding policy evidence answers digits encode_with
without_certificate = refl

-- An XMSS^MT signature with both kinds of time-stamps, of which only the certificate is missing.

second_policy : Rules
second_policy = record { version = 2; anchors = []; kinds = record { kind = XmssMt; uris = codes "urn:mt" ∷ []; until = None } ∷ []; digests = [] }

renewed : Evidence
renewed = record {
  objects = Octets 1 ∷ Value ∷ Certificate (7 ∷ []) ∷ Token (8 ∷ []) ∷ RevocationList (9 ∷ []) ∷ Token (10 ∷ []) ∷ [];
  stamps = record { kind = SignatureStamp; token = 8 ∷ []; octets = []; covers = 1 ∷ [] }
      ∷ record { kind = ArchiveStamp; token = 10 ∷ []; octets = []; covers = 0 ∷ 1 ∷ 2 ∷ 3 ∷ 4 ∷ [] } ∷ [];
  references = record { object = 0; kind = Sha256; matches = true } ∷ [];
  computed = (0xAB ∷ 0x01 ∷ []) ∷ [];
  certificate_kind = Sha256;
  certificate = None;
  method = codes "urn:mt";
  value = [];
  signed = [];
}

good : Answers
good = record {
  references = true ∷ [];
  certificate = true;
  good = true;
  keyed = true;
  kind = true;
  walk = true;
  tokens = record { soundness = Sound; accepted = true } ∷ record { soundness = Sound; accepted = true } ∷ [];
  in_order = true;
  complete = true;
}

renewed_report : report (λ t. codes "T") second_policy renewed (pos 2) (pos 2 ∷ pos 1 ∷ pos 2 ∷ pos 2 ∷ pos 2 ∷ pos 2 ∷ []) good
    ≡ codes "verdict: no\nmoment: T\nlevel: B-LTA\nreference 1: sha256 ab01 match accepted T\ncertificate: missing\nvalue: xmssmt good accepted T\nwalk: accepted\ntoken 1: signature T sound accepted T\ntoken 2: archive T sound accepted T\norder: kept\nobject 1: certificate T\nobject 2: crl T\n"
unfolding second_policy renewed good digits encode_with
renewed_report = refl

-- a fault stands against the judgement: the signature has no value
without_value : fault_report (λ t. codes "T") (pos 0) (code 14) ≡ codes "verdict: no\nmoment: T\nfault: A14\n"
unfolding digits
without_value = refl
