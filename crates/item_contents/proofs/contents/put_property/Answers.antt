use Rattle.std.proofs.Common.{◌≡◌, ◌++◌, ◌∙◌, ℕ, List, OnOk, ap, subst, sym}
use Rattle.signature_model.specs.Fragments.{written_octets}
use Rattle.item_contents.specs.Contents.{fragment_by}
use Rattle.item_contents.specs.Hosts.{closing, opening}
use Rattle.item_contents.specs.Items.{item_of}
use Rattle.item_contents.proofs.Appending.{three}
use Rattle.item_contents.proofs.FragmentOctets.{host_octets}
use Rattle.item_contents.proofs.contents.put_property.Goals as goal

pub returns : goal.returns
returns c =
    let P : List ℕ → Type 0 = λ xs. OnOk c.push_all-2.result (c.push_all-2.new.self ≡ xs) in
    let out : List ℕ = c.args.out.now in
    let host = c.args.host in
    subst P (ap (λ x. c.put_fragment.new.out ++ x) c.closing.ensures
    ∙ three out (opening host) (written_octets (fragment_by c.args.alone (item_of c.args.item))) (closing host) _ _ (c.in_ok-push_all.ensures.ok ∙ ap (λ x. out ++ x) c.opening.ensures) c.in_ok-put_fragment.ensures
    ∙ ap (λ x. out ++ x) (sym (host_octets host (fragment_by c.args.alone (item_of c.args.item))))) c.push_all-2.ensures.ok
