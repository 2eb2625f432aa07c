use Rattle.std.proofs.Common.{◌≡◌, ◌++◌, ◌∙◌, ℕ, List, OnOk, ap, subst, sym, codes, map, append-nil}
use Rattle.der_values.specs.Distinct.{octets}
use Rattle.signature_model.specs.Fragments.{lists_fragment, written_octets}
use Rattle.item_contents.specs.Contents.{list_elements}
use Rattle.item_contents.proofs.Appending.{none_there, some_there, three}
use Rattle.item_contents.proofs.FragmentOctets.{lists_octets}
use Rattle.item_contents.proofs.fragments.put_lists.Goals as goal

pub returns-then-is_empty : goal.returns-then-is_empty
returns-then-is_empty c =
    sym (append-nil c.args.out.now) ∙ ap (λ x. c.args.out.now ++ written_octets (lists_fragment x)) (sym (none_there c.args.lists.now (sym c.is_empty.ensures ∙ c.if-is_empty.true)))

pub returns : goal.returns
returns c =
    let P : List ℕ → Type 0 = λ xs. OnOk c.push_all-2.result (c.push_all-2.new.self ≡ xs) in
    let out : List ℕ = c.args.out.now in
    subst P (three out (codes "<xades:RevocationValues xmlns:xades=\"http://uri.etsi.org/01903/v1.3.2#\"><xades:CRLValues>") (written_octets (list_elements (map octets c.args.lists.now))) (codes "</xades:CRLValues></xades:RevocationValues>") _ _ c.in_ok-push_all.ensures.ok c.in_ok-put_each_list.ensures
    ∙ ap (λ x. out ++ x) (sym (lists_octets (map octets c.args.lists.now) (some_there c.args.lists.now (sym c.is_empty.ensures ∙ c.if-is_empty.false))))) c.push_all-2.ensures.ok
