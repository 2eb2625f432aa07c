use Rattle.std.proofs.Common.{◌≡◌, ◌++◌, ◌∙◌, ℕ, List, OnOk, ap, sym, subst}
use Rattle.std.specs.Str.{chars}
use Rattle.signature_model.specs.Chains.{place_named}
use Rattle.signature_drafts.proofs.ReferenceOctets.{document_transforms, element_transforms}
use Rattle.signature_drafts.proofs.references.put_transforms.Goals as goal

pub returns-in-Document : goal.returns-in-Document
returns-in-Document c =
    let P : List ℕ → Type 0 = λ xs. OnOk c.push_all.result (c.push_all.new.self ≡ xs) in
    subst P (ap (λ x. c.args.out.now ++ x) (sym (document_transforms (place_named (chars c.args.uri.now)) (sym c.target_of.ensures ∙ c.in-Document.is)))) c.push_all.ensures.ok

pub returns-in-Element : goal.returns-in-Element
returns-in-Element c =
    let P : List ℕ → Type 0 = λ xs. OnOk c.push_all-in-Element.result (c.push_all-in-Element.new.self ≡ xs) in
    subst P (ap (λ x. c.args.out.now ++ x) (sym (element_transforms (place_named (chars c.args.uri.now)) (sym c.target_of.ensures ∙ c.in-Element.is)))) c.push_all-in-Element.ensures.ok
