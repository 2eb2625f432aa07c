-- What `canon` comes to.
use Rattle.std.specs.Prelude.{ℕ, List, Option, None, Some}
use Rattle.std.specs.Str.{chars}
use Rattle.document_model.specs.Documents.{fault, document_of}
use Rattle.document_model.specs.Tree.{Nodes}
use Rattle.document_model.specs.NodeSets.{Target, Missing, Single, Double, target_of, whole, subtree}
use Rattle.document_model.specs.Canonical.{Form, octets_of}
use Rattle.signature_checks.specs.declared.codes.Code.TheVariants.{TargetMissing, TargetTwice}
use Rattle.xades_cli.specs.Outcomes.{Outcome, Writes, RefusesItem}
use Rattle.xades_cli.specs.Stages.{unless_faulty}

-- the canonical text of the element that an identifier names, where it names just one; a command that has no items refuses as item 0
abbrev pub target_outcome : Form → Target → Nodes → Outcome
target_outcome form Missing document = RefusesItem 0 (TargetMissing 0)
target_outcome form Double document = RefusesItem 0 (TargetTwice 0)
target_outcome form (Single path) document = Writes (octets_of form (subtree path) document)

-- the canonical text of the document, or of an element
abbrev pub text_outcome : Form → Option (List ℕ) → Nodes → Outcome
text_outcome form None document = Writes (octets_of form whole document)
text_outcome form (Some id) document = target_outcome form (target_of (chars id) document) document

abbrev pub canon_outcome : Form → Option (List ℕ) → List ℕ → Outcome
canon_outcome form id document = unless_faulty document (fault document) (text_outcome form id (document_of document))
