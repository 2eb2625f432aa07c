use Rattle.std.proofs.Common.{◌≡◌, ◌≤◌, length, ◌∙◌, sym, subst}
use Rattle.std.specs.Prelude.{true, false}
use Rattle.reference_chains.specs.HandedIn.{handed_in}
use Rattle.whole_files.specs.Roles.{is_external}
use Rattle.whole_files.proofs.HeldLemmas.{external_limit}
use Rattle.xades_cli.proofs.AttachLemmas.{external_no_item, items_more, items_same}
use Rattle.xades_cli.proofs.HandingLemmas.{handed_more, handed_same}
use Rattle.xades_cli.proofs.attach.take.Goals as goal

pub add-requires : goal.add-requires
add-requires c =
    let inside : is_external c.in-Some.file.role ≡ true = sym c.is_external.ensures ∙ c.if-is_external.true in record {
      size = subst (λ n. length c.in-Some.file.bytes ≤ n) (external_limit c.in-Some.file.role inside) c.in-Some.file.within;
    }

pub loop-file-preserved-in-Continue-1 : goal.loop-file-preserved-in-Continue-1
loop-file-preserved-in-Continue-1 c =
    let inside : is_external c.in-Some.file.role ≡ true = sym c.is_external.ensures ∙ c.if-is_external.true in record {
      items = items_same c.loop-file.items.items c.loop-file.yielded c.in-Some.file c.loop-file.invariant.items (external_no_item c.in-Some.file.role inside);
      handed = handed_more (handed_in c.loop-file.externals) (handed_in c.add.new.self) c.loop-file.yielded c.in-Some.file c.loop-file.invariant.handed inside c.in_ok-add.ensures.ok;
    }

pub loop-file-preserved-in-Continue-branch-2 : goal.loop-file-preserved-in-Continue-branch-2
loop-file-preserved-in-Continue-branch-2 c =
    let outside : is_external c.in-Some.file.role ≡ false = sym c.is_external.ensures ∙ c.if-is_external.false in record {
      items = items_more c.loop-file.items.items c.push_item.new.items.items c.loop-file.yielded c.in-Some.file c.in-Some-kind_of.kind c.loop-file.invariant.items
          (sym c.in-Some-kind_of.ensures) c.in_ok-push_item-in-Some-kind_of.ensures;
      handed = handed_same (handed_in c.loop-file.externals) c.loop-file.yielded c.in-Some.file c.loop-file.invariant.handed outside;
    }

pub loop-file-preserved : goal.loop-file-preserved
loop-file-preserved c =
    let outside : is_external c.in-Some.file.role ≡ false = sym c.is_external.ensures ∙ c.if-is_external.false in record {
      items = items_same c.loop-file.items.items c.loop-file.yielded c.in-Some.file c.loop-file.invariant.items (sym c.in-None-kind_of.ensures);
      handed = handed_same (handed_in c.loop-file.externals) c.loop-file.yielded c.in-Some.file c.loop-file.invariant.handed outside;
    }
