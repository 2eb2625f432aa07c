-- What is said of References, one after another.
use Rattle.std.specs.Prelude.{ℕ, Bool, List, map, ℤ}
use Rattle.signature_cases.specs.Built.{uses_from}
use Rattle.signature_cases.specs.declared.cases.ReferenceDigest.{ReferenceDigest}
use Rattle.report_texts.specs.declared.facts.ReferenceFact.{ReferenceFact}
use Rattle.report_texts.specs.Shown.{references_of}

-- of those from the one with a number on
abbrev pub said_from : List ℤ → ℕ → List ReferenceDigest → List Bool → List ReferenceFact
said_from times k rows answers = references_of times (uses_from k rows) (map (λ row. row.computed) rows) answers
