use Rattle.std.proofs.Common.{◌++◌, ℕ, List, [], ap, sym, codes, ◌∙◌}
use Rattle.signature_model.specs.Fragments.{encoded, xades_element}
use Rattle.item_contents.proofs.Appending.{each_end, each_more}
use Rattle.item_contents.proofs.FragmentOctets.{list_octets}
use Rattle.item_contents.proofs.fragments.put_each_list.Goals as goal

pub loop-list-preserved : goal.loop-list-preserved
loop-list-preserved c =
    each_more (λ (octets : List ℕ). xades_element (codes "EncapsulatedCRLValue") [] (encoded octets)) c.args.lists.now c.loop-list.list-index _ _ _ _ c.loop-list-test.true
    (c.in_ok-put_between.ensures ∙ ap (λ x. c.loop-list.out ++ x) (sym (list_octets _))) c.loop-list.invariant

pub returns : goal.returns
returns c = each_end (λ (octets : List ℕ). xades_element (codes "EncapsulatedCRLValue") [] (encoded octets)) c.args.lists.now c.loop-list.list-index _ _ c.loop-list-test.false c.loop-list.invariant
