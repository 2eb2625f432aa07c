-- What `octets` comes to where the document is read.
use Rattle.std.proofs.Common.{◌≡◌, ℕ, List, ◌∙◌, ap}
use Rattle.std.specs.Prelude.{None, Some}
use Rattle.asked_octets.specs.Asking.{asked_octets, octets_code}
use Rattle.asked_octets.specs.declared.purposes.Purpose.{Purpose}
use Rattle.document_model.specs.Documents.{document_of, fault}
use Rattle.qualifying_props.specs.Whole.{is_whole}
use Rattle.signature_checks.specs.declared.codes.Code.{Code}
use Rattle.signature_model.specs.Chains.{Handed}
use Rattle.signature_model.specs.Readable.{answer}
use Rattle.xades_cli.specs.Octets.{octets_outcome}
use Rattle.xades_cli.specs.Outcomes.{RefusesItem}
use Rattle.xades_cli.specs.Stages.{unless_against, unless_faulty}

pub octets_refused : (purpose : Purpose) (handed : Handed) (bytes : List ℕ) (code : Code) → fault bytes ≡ None → octets_code purpose handed bytes (document_of bytes) ≡ Some code
    → octets_outcome purpose handed bytes ≡ RefusesItem 0 code
octets_refused purpose handed bytes code none found =
    ap (λ f. unless_faulty bytes f (unless_against (asked_octets purpose handed (document_of bytes) (answer is_whole (document_of bytes))) (octets_code purpose handed bytes (document_of bytes)))) none
    ∙ ap (unless_against (asked_octets purpose handed (document_of bytes) (answer is_whole (document_of bytes)))) found
