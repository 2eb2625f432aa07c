use Rattle.std.proofs.Common.{None, subst, sym, to_z-of_z}
use Rattle.attached_items.specs.ReadAgain.{IsReadFree}
use Rattle.document_model.specs.Documents.{document_of}
use Rattle.doc_spans.specs.Seen.{bytes_in, document_in, shown_in}
use Rattle.item_contents.specs.Kept.{spot_in}
use Rattle.policy_rules.specs.View.{rules}
use Rattle.qualifying_props.specs.Whole.{is_whole}
use Rattle.reference_chains.specs.HandedIn.{handed_in}
use Rattle.signature_elements.specs.Standing.{spot_of}
use Rattle.augmenter.specs.Findings.{IsFoundIn}
use Rattle.augmenter.specs.Items.{IsItemCode, item_test, put_by}
use Rattle.augmenter.specs.Judging.{IsValid}
use Rattle.augmenter.proofs.OneItem.{along, code_passed, code_refused, is_free, may_in, put_gives, put_small, split_in, whole_in}
use Rattle.augmenter.proofs.attaching.attach_one.Goals as goal

pub judge-requires-clause-valid : goal.judge-requires-clause-valid
judge-requires-clause-valid c known =
    subst (λ b. IsValid (rules c.args.policy.now) (handed_in c.args.externals.now) (document_of b)) (sym c.doc.ensures.bytes) (c.requires.valid known)

pub put_octets-requires-clause-read : goal.put_octets-requires-clause-read
put_octets-requires-clause-read c =
    along (λ b t. IsReadFree is_whole (document_of b) (spot_in b t c.in-Ok.opened.parts.signature)) (bytes_in c.doc.result) c.args.live.now.bytes (shown_in c.doc.result) c.args.live.now.tree
    c.doc.ensures.bytes c.doc.ensures.tree (is_free (handed_in c.args.externals.now) c.doc.result c.in-Ok.opened c.in-Ok.ensures.0)

pub put_octets-requires-clause-whole : goal.put_octets-requires-clause-whole
put_octets-requires-clause-whole c =
    whole_in (rules c.args.policy.now) (handed_in c.args.externals.now) c.args.moment c.args.item.now c.doc.result c.in-Ok.opened c.as_slice.result.now c.args.live.now.bytes c.args.live.now.tree
    (record {
      same = c.as_slice.ensures.value;
      bytes_are = c.doc.ensures.bytes;
      tree_is = c.doc.ensures.tree;
      is = c.in-Ok.ensures.0;
      tests = subst (λ m. item_test (rules c.args.policy.now) (handed_in c.args.externals.now) m c.args.item.now (document_in c.doc.result) (spot_of c.doc.result c.in-Ok.opened.parts.signature) None)
          (to_z-of_z c.ranges.moment) c.in-Ok.ensures.1;
    }) c.as_slice.ensures.bytes

pub put_octets-requires-clause-split : goal.put_octets-requires-clause-split
put_octets-requires-clause-split c =
    split_in (rules c.args.policy.now) (handed_in c.args.externals.now) c.args.moment c.args.item.now c.doc.result c.in-Ok.opened c.as_slice.result.now c.args.live.now.bytes c.args.live.now.tree
    (record {
      same = c.as_slice.ensures.value;
      bytes_are = c.doc.ensures.bytes;
      tree_is = c.doc.ensures.tree;
      is = c.in-Ok.ensures.0;
      tests = subst (λ m. item_test (rules c.args.policy.now) (handed_in c.args.externals.now) m c.args.item.now (document_in c.doc.result) (spot_of c.doc.result c.in-Ok.opened.parts.signature) None)
          (to_z-of_z c.ranges.moment) c.in-Ok.ensures.1;
    })

pub put_octets-requires-clause-may : goal.put_octets-requires-clause-may
put_octets-requires-clause-may c =
    may_in (rules c.args.policy.now) (handed_in c.args.externals.now) c.args.moment c.args.item.now c.doc.result c.in-Ok.opened c.as_slice.result.now c.args.live.now.bytes c.args.live.now.tree
    (record {
      same = c.as_slice.ensures.value;
      bytes_are = c.doc.ensures.bytes;
      tree_is = c.doc.ensures.tree;
      is = c.in-Ok.ensures.0;
      tests = subst (λ m. item_test (rules c.args.policy.now) (handed_in c.args.externals.now) m c.args.item.now (document_in c.doc.result) (spot_of c.doc.result c.in-Ok.opened.parts.signature) None)
          (to_z-of_z c.ranges.moment) c.in-Ok.ensures.1;
    })

pub returns-clause-code : goal.returns-clause-code
returns-clause-code c =
    code_passed (rules c.args.policy.now) (handed_in c.args.externals.now) c.args.moment c.args.item.now c.doc.result c.in-Ok.opened c.as_slice.result.now c.args.live.now.bytes c.args.live.now.tree
    (record {
      same = c.as_slice.ensures.value;
      bytes_are = c.doc.ensures.bytes;
      tree_is = c.doc.ensures.tree;
      is = c.in-Ok.ensures.0;
      tests = subst (λ m. item_test (rules c.args.policy.now) (handed_in c.args.externals.now) m c.args.item.now (document_in c.doc.result) (spot_of c.doc.result c.in-Ok.opened.parts.signature) None)
          (to_z-of_z c.ranges.moment) c.in-Ok.ensures.1;
    }) c.put_octets.new.live.bytes c.put_octets.result c.put_octets.ensures.put

pub returns-clause-bytes : goal.returns-clause-bytes
returns-clause-bytes c =
    put_gives (rules c.args.policy.now) (handed_in c.args.externals.now) c.args.moment c.args.item.now c.doc.result c.in-Ok.opened c.as_slice.result.now c.args.live.now.bytes c.args.live.now.tree
    (record {
      same = c.as_slice.ensures.value;
      bytes_are = c.doc.ensures.bytes;
      tree_is = c.doc.ensures.tree;
      is = c.in-Ok.ensures.0;
      tests = subst (λ m. item_test (rules c.args.policy.now) (handed_in c.args.externals.now) m c.args.item.now (document_in c.doc.result) (spot_of c.doc.result c.in-Ok.opened.parts.signature) None)
          (to_z-of_z c.ranges.moment) c.in-Ok.ensures.1;
    }) c.put_octets.new.live.bytes c.put_octets.result c.put_octets.ensures.put

pub returns-clause-err : goal.returns-clause-err
returns-clause-err c =
    code_refused (rules c.args.policy.now) (handed_in c.args.externals.now) c.args.moment c.args.item.now c.doc.result c.in-Ok.opened c.as_slice.result.now c.args.live.now.bytes c.args.live.now.tree
    (record {
      same = c.as_slice.ensures.value;
      bytes_are = c.doc.ensures.bytes;
      tree_is = c.doc.ensures.tree;
      is = c.in-Ok.ensures.0;
      tests = subst (λ m. item_test (rules c.args.policy.now) (handed_in c.args.externals.now) m c.args.item.now (document_in c.doc.result) (spot_of c.doc.result c.in-Ok.opened.parts.signature) None)
          (to_z-of_z c.ranges.moment) c.in-Ok.ensures.1;
    }) c.put_octets.new.live.bytes c.put_octets.result c.put_octets.ensures.put

pub returns-clause-small : goal.returns-clause-small
returns-clause-small c = put_small (spot_in c.args.live.now.bytes c.args.live.now.tree c.in-Ok.opened.parts.signature) (put_by c.args.item.now.kind c.as_slice.result.now) c.args.live.now.bytes c.put_octets.new.live.bytes c.put_octets.result c.put_octets.ensures.put

pub returns-in-Err-clause-err : goal.returns-in-Err-clause-err
returns-in-Err-clause-err c =
    let found : IsFoundIn (IsItemCode (rules c.args.policy.now) (handed_in c.args.externals.now) c.args.moment c.args.item.now (bytes_in c.doc.result)) c.in-Err.objection =
    subst (λ m. IsFoundIn (IsItemCode (rules c.args.policy.now) (handed_in c.args.externals.now) m c.args.item.now (bytes_in c.doc.result)) c.in-Err.objection) (to_z-of_z c.ranges.moment) c.in-Err.ensures in
    subst (λ b. IsFoundIn (IsItemCode (rules c.args.policy.now) (handed_in c.args.externals.now) c.args.moment c.args.item.now b) c.in-Err.objection) c.doc.ensures.bytes found
