use Rattle.std.proofs.Common.{◌≡◌, ◌≤◌, ◌∷◌, ◌++◌, length, map, sym, subst, rules as known, SFits, w64, to_z-of_z}
use Rattle.policy_rules.specs.View.{rules}
use Rattle.reference_chains.specs.HandedIn.{handed_in}
use Rattle.xades_cli.specs.Attach.{IsAttachedOf, IsItemsOutcome}
use Rattle.xades_cli.specs.Computed.{IsResultOf}
use Rattle.command_words.specs.Attaching.{attaches_of, item_want}
use Rattle.command_words.specs.Wanting.{document_want, external_want, policy_want}
use Rattle.xades_cli.proofs.AttachLemmas.{IsAtHand, few, outcome}
use Rattle.xades_cli.proofs.CommandLemmas.{first_removed, some_file}
use Rattle.xades_cli.proofs.HandingLemmas.{handed_short}
use Rattle.xades_cli.proofs.attach.take_and_write.Goals as goal

pub write_attached-requires-clause-items : goal.write_attached-requires-clause-items
write_attached-requires-clause-items c =
    let asked = attaches_of c.args.asked.now in
    let first = c.remove-document.result in
    let whole : c.args.files.items ≡ first ∷ c.remove-document.new.self.items
    = rw c.remove-document.ensures.items (first_removed c.args.files.items first
    (some_file (document_want asked.document) (policy_want asked.policy ∷ map item_want asked.items ++ map external_want asked.externals) c.args.files.items c.requires.read)
    c.remove-document.ensures.value) in
    let hand : IsAtHand asked c.args.files.items first c.remove-document.new.self.items (handed_in c.in-Ok.taken.externals) c.in-Ok.taken.items.items = record {
      read = c.requires.read;
      parts = whole;
      same = c.in-Ok.ensures.externals;
      items_are = c.in-Ok.ensures.items;
    } in
    subst (λ all. length all ≤ 64) (sym c.as_slice-2.ensures.value)
    (few asked c.args.files.items first c.remove-document.new.self.items (handed_in c.in-Ok.taken.externals) c.in-Ok.taken.items.items hand c.requires.few)

pub write_attached-requires-clause-handed : goal.write_attached-requires-clause-handed
write_attached-requires-clause-handed c = handed_short (handed_in c.in-Ok.taken.externals) c.remove-document.new.self.items c.in-Ok.ensures.externals

pub returns : goal.returns
returns c =
    let range : SFits w64 c.args.asked.now.at = search known in
    let asked = attaches_of c.args.asked.now in
    let first = c.remove-document.result in
    let handed = handed_in c.in-Ok.taken.externals in
    let whole : c.args.files.items ≡ first ∷ c.remove-document.new.self.items
    = rw c.remove-document.ensures.items (first_removed c.args.files.items first
    (some_file (document_want asked.document) (policy_want asked.policy ∷ map item_want asked.items ++ map external_want asked.externals) c.args.files.items c.requires.read)
    c.remove-document.ensures.value) in
    let hand : IsAtHand asked c.args.files.items first c.remove-document.new.self.items handed c.in-Ok.taken.items.items = record {
      read = c.requires.read;
      parts = whole;
      same = c.in-Ok.ensures.externals;
      items_are = c.in-Ok.ensures.items;
    } in
    outcome asked c.args.files.items first c.remove-document.new.self.items handed c.in-Ok.taken.items.items hand (rules c.args.policy.now) asked.at c.as_slice.result.now c.write_attached.result
    c.as_slice.ensures.value
    (subst (λ all. IsResultOf (IsItemsOutcome (rules c.args.policy.now) handed asked.at all c.as_slice.result.now) (IsAttachedOf handed all c.as_slice.result.now) c.write_attached.result)
    c.as_slice-2.ensures.value (subst (λ m. IsResultOf (IsItemsOutcome (rules c.args.policy.now) handed m c.as_slice-2.result.now c.as_slice.result.now) (IsAttachedOf handed c.as_slice-2.result.now c.as_slice.result.now) c.write_attached.result) (to_z-of_z range) c.write_attached.ensures))
