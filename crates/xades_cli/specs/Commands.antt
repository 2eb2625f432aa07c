-- What a command comes to by the bytes of its files.
use Rattle.std.specs.Prelude.{◌≡◌, ℕ, List, Result}
use Rattle.command_words.specs.Asked.{Asked, AskedCanon, AskedOctets, AskedPrepare, AskedAttach, AskedValidate}
use Rattle.whole_files.specs.Wants.{Held, document_of}
use Rattle.xades_cli.specs.Attach.{IsAttached, IsAttachOutcome}
use Rattle.xades_cli.specs.Canon.{canon_outcome}
use Rattle.xades_cli.specs.Computed.{IsResultOf}
use Rattle.xades_cli.specs.Handing.{handed_by}
use Rattle.xades_cli.specs.Octets.{octets_outcome}
use Rattle.xades_cli.specs.Outcomes.{Outcome}
use Rattle.xades_cli.specs.Prepare.{IsPrepared, prepare_outcome}
use Rattle.xades_cli.specs.Validate.{IsValidateOutcome, IsYes}
use Rattle.xades_cli.specs.declared.answers.Answer.{Answer}
use Rattle.xades_cli.specs.declared.stop.Stop.{Stop}

-- what a command comes to by its files
abbrev pub ComesTo : Asked → List Held → Outcome → Type 0
ComesTo (AskedCanon name form id) files outcome = outcome ≡ canon_outcome form id (document_of files)
ComesTo (AskedOctets name purpose externals) files outcome = outcome ≡ octets_outcome purpose (handed_by files) (document_of files)
ComesTo (AskedPrepare prepares) files outcome = outcome ≡ prepare_outcome prepares files
ComesTo (AskedAttach attaches) files outcome = IsAttachOutcome attaches.at files outcome
ComesTo (AskedValidate validates) files outcome = IsValidateOutcome validates.at files outcome

-- what Done says of the files of a command and of the bytes that it gives out, beyond that these are what it comes to
abbrev pub DoneSays : Asked → List Held → List ℕ → Type 0
DoneSays (AskedCanon name form id) files bytes = Unit {0}
DoneSays (AskedOctets name purpose externals) files bytes = Unit {0}
DoneSays (AskedPrepare prepares) files bytes = IsPrepared prepares files bytes
DoneSays (AskedAttach attaches) files bytes = IsAttached files bytes
DoneSays (AskedValidate validates) files bytes = IsYes validates.at files

-- what was computed is right by what the command comes to, and an answer keeps what Done says
abbrev pub IsComputed : Asked → List Held → Result Answer Stop → Type 0
IsComputed asked files result = IsResultOf (ComesTo asked files) (DoneSays asked files) result
