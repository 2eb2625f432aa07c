-- The text of a report, by what it says, line by line. This project's own.
use Rattle.std.specs.Prelude.{ℕ, suc, Bool, List, [], ◌∷◌, ◌++◌, Option, Some, None, codes, decimal}
use Rattle.hex.specs.Hex.{encode_lower}
use Rattle.algorithms.specs.DigestKind as digests
use Rattle.time_texts.specs.Clock.{clock}
use Rattle.signature_evidence.specs.Report.{either, verdict_word, match_word, accepted_word, walk_word, soundness_word, kind_word, stamp_word, line}
use Rattle.report_texts.specs.declared.facts.CertificateFact.{CertificateFact}
use Rattle.report_texts.specs.declared.facts.Level.{Level}
use Rattle.report_texts.specs.declared.facts.Level.TheVariants.{B, T, Lt, Lta}
use Rattle.report_texts.specs.declared.facts.ObjectFact.{ObjectFact}
use Rattle.report_texts.specs.declared.facts.ReferenceFact.{ReferenceFact}
use Rattle.report_texts.specs.declared.facts.ValueFact.{ValueFact}
use Rattle.report_texts.specs.Facts.{Facts, TokenFact, is_yes}

-- Words.

abbrev pub level_word : Level → List ℕ
level_word B = codes "B-B"
level_word T = codes "B-T"
level_word Lt = codes "B-LT"
level_word Lta = codes "B-LTA"

abbrev pub good_word : Bool → List ℕ
good_word good = either good (codes "good") (codes "bad")

-- whether the kind of the value is accepted; refused where the key is of another kind
abbrev pub value_word : ValueFact → List ℕ
value_word fact = either fact.keyed (accepted_word fact.accepted) (codes "refused")

abbrev pub order_word : Bool → List ℕ
order_word kept = either kept (codes "kept") (codes "broken")

abbrev pub object_word : Bool → List ℕ
object_word is_certificate = either is_certificate (codes "certificate") (codes "crl")

-- a number behind the name of its line
abbrev pub numbered : ℕ → List ℕ
numbered k = decimal k ++ codes ":"

-- Lines.

-- those of some facts, numbered from k on
abbrev pub each_from : {A : Type 0} → (ℕ → A → List ℕ) → ℕ → List A → List ℕ
each_from line_of k [] = []
each_from line_of k (fact ∷ facts) = line_of k fact ++ each_from line_of (suc k) facts

abbrev pub reference_line : ℕ → ReferenceFact → List ℕ
reference_line k fact =
    line (codes "reference" ∷ numbered k ∷ digests.word_of fact.kind ∷ encode_lower fact.computed ∷ match_word fact.matches
    ∷ accepted_word fact.accepted ∷ clock fact.time ∷ [])

abbrev pub certificate_line : Option CertificateFact → List ℕ
certificate_line None = codes "certificate: missing\n"
certificate_line (Some fact) =
    line (codes "certificate:" ∷ digests.word_of fact.kind ∷ encode_lower fact.digest ∷ codes "match" ∷ accepted_word fact.accepted
    ∷ clock fact.time ∷ [])

abbrev pub value_line : ValueFact → List ℕ
value_line fact = line (codes "value:" ∷ kind_word fact.kind ∷ good_word fact.good ∷ value_word fact ∷ clock fact.time ∷ [])

abbrev pub token_line : ℕ → TokenFact → List ℕ
token_line k fact =
    line (codes "token" ∷ numbered k ∷ stamp_word fact.kind ∷ clock fact.gen_time ∷ soundness_word fact.soundness
    ∷ walk_word fact.accepted ∷ clock fact.time ∷ [])

abbrev pub object_line : ℕ → ObjectFact → List ℕ
object_line k fact = line (codes "object" ∷ numbered k ∷ object_word fact.is_certificate ∷ clock fact.time ∷ [])

-- The report: its head, what is said of what is signed, and what is said of times.

abbrev pub head_of : Facts → List ℕ
head_of facts =
    line (codes "verdict:" ∷ verdict_word (is_yes facts) ∷ [])
    ++ line (codes "moment:" ∷ clock facts.moment ∷ [])
    ++ line (codes "level:" ∷ level_word facts.level ∷ [])

abbrev pub signed_of : Facts → List ℕ
signed_of facts =
    each_from reference_line 1 facts.references
    ++ certificate_line facts.certificate
    ++ value_line facts.value
    ++ line (codes "walk:" ∷ walk_word facts.walk ∷ [])

abbrev pub times_of : Facts → List ℕ
times_of facts =
    each_from token_line 1 facts.tokens
    ++ line (codes "order:" ∷ order_word facts.in_order ∷ [])
    ++ each_from object_line 1 facts.objects

abbrev pub text_of : Facts → List ℕ
text_of facts = head_of facts ++ signed_of facts ++ times_of facts
