use Rattle.std.proofs.Common.{◌≡◌, ◌∷◌, ◌++◌, map, ap, ◌∙◌}
use Rattle.std.specs.Prelude.{filter}
use Rattle.reference_chains.specs.HandedIn.{handed_in}
use Rattle.whole_files.specs.Wants.{held_of}
use Rattle.policy_rules.specs.View.{rules}
use Rattle.xades_cli.specs.Prepare.{certificates_of, draft_of}
use Rattle.command_words.specs.Preparing.{names_file, prepares_of}
use Rattle.command_words.specs.Wanting.{certificate_want, document_want, external_want, policy_want}
use Rattle.xades_cli.proofs.CommandLemmas.{first_removed, some_file}
use Rattle.xades_cli.proofs.PrepareLemmas.{IsAtHand, drafted, is_handed_in, is_ready, says}
use Rattle.xades_cli.proofs.prepare.draft_and_write.Goals as goal

pub write_prepared-requires-clause-draft : goal.write_prepared-requires-clause-draft
write_prepared-requires-clause-draft c =
    let asked = prepares_of c.args.asked.now in
    let first = c.remove-document.result in
    let whole : c.args.files.items ≡ first ∷ c.remove-document.new.self.items
    = rw c.remove-document.ensures.items (first_removed c.args.files.items first
    (some_file (document_want asked.document) (policy_want asked.policy ∷ map certificate_want asked.certificates ++ map external_want (filter names_file asked.references)) c.args.files.items c.requires.read)
    c.remove-document.ensures.value) in
    let hand : IsAtHand asked c.args.files.items first c.remove-document.new.self.items (handed_in c.in_ok-externals.externals) c.in_ok-draft.draft = record {
      sound = c.requires.sound;
      read = c.requires.read;
      none = c.requires.whole;
      parts = whole;
      same = c.in_ok-externals.ensures;
      is = c.in_ok-draft.ensures.draft ∙ ap (λ fs. draft_of asked (certificates_of (map held_of fs))) c.as_slice.ensures.value;
    } in
    is_ready asked c.args.files.items first c.remove-document.new.self.items (handed_in c.in_ok-externals.externals) c.in_ok-draft.draft hand c.in_ok-draft.ensures.bytes

pub write_prepared-requires-clause-handed : goal.write_prepared-requires-clause-handed
write_prepared-requires-clause-handed c =
    let asked = prepares_of c.args.asked.now in
    let first = c.remove-document.result in
    let whole : c.args.files.items ≡ first ∷ c.remove-document.new.self.items
    = rw c.remove-document.ensures.items (first_removed c.args.files.items first
    (some_file (document_want asked.document) (policy_want asked.policy ∷ map certificate_want asked.certificates ++ map external_want (filter names_file asked.references)) c.args.files.items c.requires.read)
    c.remove-document.ensures.value) in
    let hand : IsAtHand asked c.args.files.items first c.remove-document.new.self.items (handed_in c.in_ok-externals.externals) c.in_ok-draft.draft = record {
      sound = c.requires.sound;
      read = c.requires.read;
      none = c.requires.whole;
      parts = whole;
      same = c.in_ok-externals.ensures;
      is = c.in_ok-draft.ensures.draft ∙ ap (λ fs. draft_of asked (certificates_of (map held_of fs))) c.as_slice.ensures.value;
    } in
    is_handed_in asked c.args.files.items first c.remove-document.new.self.items (handed_in c.in_ok-externals.externals) c.in_ok-draft.draft hand

pub returns-clause-outcome : goal.returns-clause-outcome
returns-clause-outcome c =
    let asked = prepares_of c.args.asked.now in
    let first = c.remove-document.result in
    let whole : c.args.files.items ≡ first ∷ c.remove-document.new.self.items
    = rw c.remove-document.ensures.items (first_removed c.args.files.items first
    (some_file (document_want asked.document) (policy_want asked.policy ∷ map certificate_want asked.certificates ++ map external_want (filter names_file asked.references)) c.args.files.items c.requires.read)
    c.remove-document.ensures.value) in
    let hand : IsAtHand asked c.args.files.items first c.remove-document.new.self.items (handed_in c.in_ok-externals.externals) c.in_ok-draft.draft = record {
      sound = c.requires.sound;
      read = c.requires.read;
      none = c.requires.whole;
      parts = whole;
      same = c.in_ok-externals.ensures;
      is = c.in_ok-draft.ensures.draft ∙ ap (λ fs. draft_of asked (certificates_of (map held_of fs))) c.as_slice.ensures.value;
    } in
    drafted asked c.args.files.items first c.remove-document.new.self.items (handed_in c.in_ok-externals.externals) c.in_ok-draft.draft hand (rules c.args.policy.now) c.as_slice-2.result.now c.write_prepared.result c.as_slice-2.ensures.value c.write_prepared.ensures.outcome

pub returns-clause-says : goal.returns-clause-says
returns-clause-says c =
    let asked = prepares_of c.args.asked.now in
    let first = c.remove-document.result in
    let whole : c.args.files.items ≡ first ∷ c.remove-document.new.self.items
    = rw c.remove-document.ensures.items (first_removed c.args.files.items first
    (some_file (document_want asked.document) (policy_want asked.policy ∷ map certificate_want asked.certificates ++ map external_want (filter names_file asked.references)) c.args.files.items c.requires.read)
    c.remove-document.ensures.value) in
    let hand : IsAtHand asked c.args.files.items first c.remove-document.new.self.items (handed_in c.in_ok-externals.externals) c.in_ok-draft.draft = record {
      sound = c.requires.sound;
      read = c.requires.read;
      none = c.requires.whole;
      parts = whole;
      same = c.in_ok-externals.ensures;
      is = c.in_ok-draft.ensures.draft ∙ ap (λ fs. draft_of asked (certificates_of (map held_of fs))) c.as_slice.ensures.value;
    } in
    says asked c.args.files.items first c.remove-document.new.self.items (handed_in c.in_ok-externals.externals) c.in_ok-draft.draft hand c.as_slice-2.result.now c.write_prepared.result c.as_slice-2.ensures.value c.write_prepared.ensures.says
