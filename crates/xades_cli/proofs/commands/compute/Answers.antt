use Rattle.std.proofs.Common.{◌≡◌, ◌∷◌, map, refl, rules}
use Rattle.std.specs.Prelude.{Err}
use Rattle.reference_chains.specs.HandedIn.{handed_in}
use Rattle.whole_files.specs.Wants.{AreFor, held_of, document_of}
use Rattle.word_patterns.specs.Grammar.{text_now}
use Rattle.command_words.specs.Asked.{asked_of, form_of, option_now}
use Rattle.command_words.specs.Wanting.{document_want, external_want}
use Rattle.xades_cli.specs.Commands.{ComesTo, DoneSays}
use Rattle.xades_cli.specs.Outcomes.{IsOf}
use Rattle.command_words.specs.Preparing.{prepares_of}
use Rattle.xades_cli.specs.Octets.{octets_outcome}
use Rattle.xades_cli.specs.declared.stop.Stop.TheVariants as stops
use Rattle.xades_cli.proofs.CommandLemmas.{canon_computed, first_read, first_removed, octets_computed, prepare_computed, some_file}
use Rattle.xades_cli.proofs.Computing.{memory_wanted}
use Rattle.xades_cli.proofs.HandingLemmas.{handed_short}
use Rattle.xades_cli.proofs.commands.compute.Goals as goal

pub returns-in_err-externals-in-Octets : goal.returns-in_err-externals-in-Octets
returns-in_err-externals-in-Octets c =
    let memory : c.from_residual.result ≡ Err stops.OutOfMemory = search rules in
    memory_wanted (ComesTo (asked_of c.args.command.now) (map held_of c.args.files.items)) (DoneSays (asked_of c.args.command.now) (map held_of c.args.files.items)) c.from_residual.result memory

pub returns-in-Canon : goal.returns-in-Canon
returns-in-Canon c =
    let document : c.document_of.result.now ≡ document_of (map held_of c.args.files.items) = rw (← c.as_slice.ensures.value) c.document_of.ensures in
    rw c.in-Canon.is (canon_computed c.in-Canon.document.now (form_of c.in-Canon.method) (option_now c.in-Canon.id) (map held_of c.args.files.items) c.document_of.result.now c.canonicalize.result document c.canonicalize.ensures)

pub returns-in_ok-externals-in-Octets : goal.returns-in_ok-externals-in-Octets
returns-in_ok-externals-in-Octets c =
    let read : AreFor (document_want c.in-Octets.document.now ∷ map external_want (map text_now c.in-Octets.externals.items)) (map held_of c.args.files.items) = rw c.in-Octets.is at c.requires.read in
    let whole : c.args.files.items ≡ c.remove-document.result ∷ c.remove-document.new.self.items
    = rw c.remove-document.ensures.items (first_removed c.args.files.items c.remove-document.result (some_file (document_want c.in-Octets.document.now) (map external_want (map text_now c.in-Octets.externals.items)) c.args.files.items read) c.remove-document.ensures.value) in
    let held : map held_of c.args.files.items ≡ held_of c.remove-document.result ∷ map held_of c.remove-document.new.self.items = rw whole refl in
    let computed : IsOf (octets_outcome c.in-Octets.purpose (handed_in c.in_ok-externals-in-Octets.externals) c.remove-document.result.bytes) c.write_octets.result = rw (← c.as_slice-in-Octets.ensures.value) c.write_octets.ensures in
    rw c.in-Octets.is (octets_computed c.in-Octets.document.now c.in-Octets.purpose (map text_now c.in-Octets.externals.items) (map held_of c.args.files.items) (held_of c.remove-document.result) (map held_of c.remove-document.new.self.items)
    (handed_in c.in_ok-externals-in-Octets.externals) c.write_octets.result held
    (first_read (document_want c.in-Octets.document.now) (map external_want (map text_now c.in-Octets.externals.items)) (map held_of c.args.files.items) (held_of c.remove-document.result) (map held_of c.remove-document.new.self.items) held read)
    c.in_ok-externals-in-Octets.ensures computed)

pub write_octets-requires-clause-externals : goal.write_octets-requires-clause-externals
write_octets-requires-clause-externals c =
    handed_short (handed_in c.in_ok-externals-in-Octets.externals) c.remove-document.new.self.items c.in_ok-externals-in-Octets.ensures

pub returns-in-Prepare : goal.returns-in-Prepare
returns-in-Prepare c =
    rw c.in-Prepare.is
    (prepare_computed (prepares_of c.in-Prepare.preparation) (map held_of c.args.files.items) c.prepare_document.result c.prepare_document.ensures.outcome c.prepare_document.ensures.says)

pub returns-in-Attach : goal.returns-in-Attach
returns-in-Attach c = rw c.in-Attach.is c.attach_items.ensures

pub returns-in-Validate : goal.returns-in-Validate
returns-in-Validate c = rw c.in-Validate.is c.validate_document.ensures
