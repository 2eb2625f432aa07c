-- Codes by which items are refused, and the first of several tests that finds one. Codes and their order are this project's own.
use Rattle.std.specs.Prelude.{ℕ, List, [], ◌∷◌, Option, None}
use Rattle.document_model.specs.Items.{or_else}
use Rattle.signature_checks.specs.declared.codes.Code.{Code}
use Rattle.signature_checks.specs.declared.codes.Code.TheVariants as codes

-- the code of the first test that finds one
abbrev pub first_code : List (Option Code) → Option Code
first_code [] = None
first_code (found ∷ others) = or_else found (first_code others)

abbrev pub code_number : Code → ℕ
code_number codes.NoSignature = 1
code_number codes.Several = 2
code_number (codes.Shape at what) = 3
code_number (codes.Include at) = 4
code_number (codes.PropertyData at) = 5
code_number (codes.TargetMissing k) = 6
code_number (codes.TargetTwice k) = 7
code_number (codes.Chain k) = 8
code_number (codes.DigestName k) = 9
code_number (codes.External k) = 10
code_number (codes.Base64 k at) = 11
code_number (codes.SelfCover k) = 12
code_number codes.AlreadySigned = 13
code_number codes.NotSigned = 14
code_number (codes.DigestDiffers k got want) = 15
code_number codes.CertificateDiffers = 16
code_number codes.UnknownMethod = 17
code_number codes.KeyKind = 18
code_number codes.ValueFails = 19
code_number (codes.Token fault) = 20
code_number (codes.FromFuture gen_time moment) = 21
code_number (codes.TimeOrder gen_time earlier) = 22
code_number codes.AfterArchive = 23
code_number codes.NotStamped = 24
code_number (codes.MaterialShape at) = 25
code_number codes.MaterialEmpty = 26
code_number (codes.NotComplete object) = 27
code_number codes.TooLarge = 28
code_number codes.IdTaken = 29
