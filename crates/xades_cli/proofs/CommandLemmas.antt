-- What commands come to by their files.
use Rattle.std.proofs.Common.{◌≡◌, ℕ, ◌<◌, List, [], ◌∷◌, length, map, refl, sym, ap, ◌∙◌, subst, arith}
use Rattle.std.specs.List.{remove}
use Rattle.std.specs.Prelude.{Option, Result, true, false, slice_index_or}
use Rattle.document_model.specs.Canonical.{Form}
use Rattle.signature_model.specs.Chains.{Handed}
use Rattle.whole_files.specs.Roles.{is_document, is_external}
use Rattle.whole_files.specs.Wants.{Want, Held, IsFor, AreFor, held_of, document_of, policy_of}
use Rattle.whole_files.specs.declared.file.File.{File}
use Rattle.command_words.specs.Asked.{Asked, AskedCanon, AskedOctets, AskedPrepare, AskedAttach, AskedValidate}
use Rattle.xades_cli.specs.Canon.{canon_outcome}
use Rattle.policy_rules.specs.Text as texts
use Rattle.xades_cli.specs.Commands.{ComesTo, IsComputed}
use Rattle.xades_cli.proofs.AttachOnce.{attaches_once}
use Rattle.xades_cli.proofs.ValidateOnce.{validates_once}
use Rattle.xades_cli.proofs.Computing.{plainly_computed, text_computed}
use Rattle.command_words.specs.Wanting.{document_want}
use Rattle.xades_cli.specs.Outcomes.{Outcome, IsOf}
use Rattle.xades_cli.specs.Prepare.{IsPrepared, TextSays, prepare_outcome}
use Rattle.command_words.specs.Preparing.{Prepares}
use Rattle.asked_octets.specs.declared.purposes.Purpose.{Purpose}
use Rattle.xades_cli.specs.Handing.{handed_by}
use Rattle.xades_cli.specs.Octets.{octets_outcome}
use Rattle.xades_cli.specs.declared.answers.Answer.{Answer}
use Rattle.xades_cli.specs.declared.stop.Stop.{Stop}

-- the first of some files is taken away
pub first_removed : (files : List File) (file : File) → 0 < length files → file ≡ slice_index_or files 0 file → files ≡ file ∷ remove files 0
first_removed [] file lt first = absurd (omega arith)
first_removed (front ∷ files) file lt first = ap (λ f. f ∷ files) (sym first)

-- a command that wants a file has one
pub some_file : (want : Want) (wants : List Want) (files : List File) → AreFor (want ∷ wants) (map held_of files) → 0 < length files
some_file want wants [] read = absurd read
some_file want wants (file ∷ files) read = omega arith

pub first_read : (want : Want) (wants : List Want) (files : List Held) (file : Held) (others : List Held) → files ≡ file ∷ others → AreFor (want ∷ wants) files → IsFor want file
first_read want wants files file others whole read = let both : AreFor (want ∷ wants) (file ∷ others) = subst (AreFor (want ∷ wants)) whole read in both.0

-- octets are handed in alike
abbrev pub AreSame : Handed → Handed → Type 0
AreSame one two = (name : List ℕ) → one name ≡ two name

-- the octets of a document that was read first, with those that are handed in from the others
pub octets_come : (name : List ℕ) (purpose : Purpose) (files : List Held) (file : Held) (others : List Held) (handed : Handed) (result : Result Answer Stop) → files ≡ file ∷ others → IsFor (document_want name) file
    → AreSame handed (handed_by others) → IsOf (octets_outcome purpose handed file.bytes) result → IsOf (octets_outcome purpose (handed_by files) (document_of files)) result
octets_come name purpose files file others handed result whole for same computed =
    let document : is_document file.role ≡ true = ap is_document for.role in
    let inside : is_external file.role ≡ false = ap is_external for.role in
    let bytes : file.bytes ≡ document_of (file ∷ others) = rw document refl in
    let alike : AreSame handed (handed_by (file ∷ others)) = λ wanted. same wanted ∙ rw inside refl in
    rw whole (subst (λ outcome. IsOf outcome result) (λ i. octets_outcome purpose (λ wanted. alike wanted i) (bytes i)) computed)

-- at most one outcome fits
pub comes_once : (asked : Asked) (files : List Held) (one two : Outcome) → ComesTo asked files one → ComesTo asked files two → one ≡ two
comes_once (AskedCanon name form id) files one two comes again = comes ∙ sym again
comes_once (AskedOctets name purpose externals) files one two comes again = comes ∙ sym again
comes_once (AskedPrepare prepares) files one two comes again = comes ∙ sym again
comes_once (AskedAttach attaches) files one two comes again = attaches_once (texts.policy_of (policy_of files)) attaches.at files one two comes again
comes_once (AskedValidate validates) files one two comes again = validates_once (texts.policy_of (policy_of files)) validates.at files one two comes again

pub canon_computed : (name : List ℕ) (form : Form) (id : Option (List ℕ)) (files : List Held) (document : List ℕ) (result : Result Answer Stop) → document ≡ document_of files
    → IsOf (canon_outcome form id document) result → IsComputed (AskedCanon name form id) files result
canon_computed name form id files document result e computed =
    plainly_computed (ComesTo (AskedCanon name form id) files) (canon_outcome form id (document_of files)) result refl (subst (λ d. IsOf (canon_outcome form id d) result) e computed)

pub octets_computed : (name : List ℕ) (purpose : Purpose) (externals : List (List ℕ)) (files : List Held) (file : Held) (others : List Held) (handed : Handed) (result : Result Answer Stop) → files ≡ file ∷ others → IsFor (document_want name) file
    → AreSame handed (handed_by others) → IsOf (octets_outcome purpose handed file.bytes) result → IsComputed (AskedOctets name purpose externals) files result
octets_computed name purpose externals files file others handed result whole for same computed =
    plainly_computed (ComesTo (AskedOctets name purpose externals) files) (octets_outcome purpose (handed_by files) (document_of files)) result refl
    (octets_come name purpose files file others handed result whole for same computed)

pub prepare_computed : (prepares : Prepares) (files : List Held) (result : Result Answer Stop) → IsOf (prepare_outcome prepares files) result → TextSays (IsPrepared prepares files) result → IsComputed (AskedPrepare prepares) files result
prepare_computed prepares files result computed says = text_computed (ComesTo (AskedPrepare prepares) files) (IsPrepared prepares files) (prepare_outcome prepares files) result refl computed says
