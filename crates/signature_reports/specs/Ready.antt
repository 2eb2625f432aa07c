-- What is in memory fits together: there is a time for each object that is spoken of, and an answer for each question. This project's own.
use Rattle.std.specs.Prelude.{◌≡◌, ◌≤◌, ◌<◌, length, All, IfSome}
use Rattle.der_values.specs.Fits.{IsObject}
use Rattle.tst_tokens.specs.Layouts as layout
use Rattle.signature_cases.specs.declared.cases.SignatureCase.{SignatureCase}
use Rattle.signature_verdicts.specs.declared.answers.Answers.{Answers}

pub record AreReady (shown : SignatureCase) (answers : Answers) : Type 0 where
  pub times : length answers.times ≡ length shown.case.pool
  pub references : length shown.references.items ≤ length shown.case.pool
  pub digests : length answers.references.items ≡ length shown.references.items
  pub tokens : length answers.tokens.items ≡ length shown.stamps.items
  pub words : All (λ word. IsObject layout.token word.token.now × (word.object.number < length shown.case.pool)) shown.stamps.items
  pub signer : IfSome shown.certificate (λ signer. signer.object.number < length shown.case.pool)
