use Rattle.std.proofs.Common.{◌≡◌, ◌++◌, ◌∙◌, ℕ, List, OnOk, ap, append_assoc, subst, sym, map}
use Rattle.der_values.specs.Distinct.{octets}
use Rattle.signature_model.specs.Fragments.{certificates_fragment, lists_fragment, written_octets}
use Rattle.item_contents.proofs.FragmentOctets.{values_octets}
use Rattle.item_contents.proofs.fragments.put_values.Goals as goal

pub returns : goal.returns
returns c =
    let P : List ℕ → Type 0 = λ xs. OnOk c.put_lists.result (c.put_lists.new.out ≡ xs) in
    let out : List ℕ = c.args.out.now in
    let first : List ℕ = written_octets (certificates_fragment (map octets c.args.certificates.now)) in
    let second : List ℕ = written_octets (lists_fragment (map octets c.args.lists.now)) in
    subst P (ap (λ x. x ++ second) c.in_ok-put_certificates.ensures ∙ append_assoc out first second
    ∙ ap (λ x. out ++ x) (sym (values_octets (map octets c.args.certificates.now) (map octets c.args.lists.now)))) c.put_lists.ensures
