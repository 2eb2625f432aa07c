use Rattle.std.proofs.Common.{◌≡◌, ◌++◌, ◌∙◌, ℕ, Bool, true, List, OnOk, ap, subst, sym, codes, map}
use Rattle.der_values.specs.Distinct.{octets}
use Rattle.signature_model.specs.Fragments.{data_fragment, written_octets}
use Rattle.item_contents.proofs.Appending.{three}
use Rattle.item_contents.proofs.FragmentOctets.{data_octets}
use Rattle.item_contents.proofs.fragments.put_data.Goals as goal

pub returns-then-alone : goal.returns-then-alone
returns-then-alone c =
    let P : Bool → Type 0 = λ alone. OnOk c.put_values.result (c.put_values.new.out ≡ c.args.out.now ++ written_octets (data_fragment alone (map octets c.args.certificates.now) (map octets c.args.lists.now))) in
    subst P (sym c.if-alone.true) c.put_values.ensures

pub returns : goal.returns
returns c =
    let P : List ℕ → Type 0 = λ xs. OnOk c.push_all-2.result (c.push_all-2.new.self ≡ xs) in
    let out : List ℕ = c.args.out.now in
    let values : Bool → List ℕ = λ alone. written_octets (data_fragment alone (map octets c.args.certificates.now) (map octets c.args.lists.now)) in
    subst P (three out (codes "<xadesv141:TimeStampValidationData xmlns:xadesv141=\"http://uri.etsi.org/01903/v1.4.1#\">") (values true) (codes "</xadesv141:TimeStampValidationData>") _ _ c.in_ok-push_all.ensures.ok c.in_ok-put_values.ensures
    ∙ ap (λ x. out ++ x) (sym (data_octets (map octets c.args.certificates.now) (map octets c.args.lists.now)))
    ∙ ap (λ alone. out ++ values alone) (sym c.if-alone.false)) c.push_all-2.ensures.ok
