-- What `octets` comes to: the octets over which the next value or time-stamp of a signature is to be made, or the first code that stands
-- against it. XML Signature 1.1, "Core Generation"; EN 319 132-1, clauses 5.3 and 5.5.2.
use Rattle.std.specs.Prelude.{ℕ, List}
use Rattle.asked_octets.specs.Asking.{asked_octets, octets_code}
use Rattle.asked_octets.specs.declared.purposes.Purpose.{Purpose}
use Rattle.document_model.specs.Documents.{document_of, fault}
use Rattle.qualifying_props.specs.Whole.{is_whole}
use Rattle.signature_model.specs.Chains.{Handed}
use Rattle.signature_model.specs.Readable.{answer}
use Rattle.xades_cli.specs.Outcomes.{Outcome}
use Rattle.xades_cli.specs.Stages.{unless_against, unless_faulty}

abbrev pub octets_outcome : Purpose → Handed → List ℕ → Outcome
octets_outcome purpose handed bytes =
    unless_faulty bytes (fault bytes)
    (unless_against (asked_octets purpose handed (document_of bytes) (answer is_whole (document_of bytes))) (octets_code purpose handed bytes (document_of bytes)))
