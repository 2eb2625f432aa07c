use Rattle.std.proofs.Common.{◌≡◌, ℕ, List, true, false, cond, sym, ◌∙◌, ap, refl, codes}
use Rattle.std.specs.Option.{option_map_or}
use Rattle.document_model.specs.Names.{Expanded}
use Rattle.doc_spans.specs.Seen.{document_in}
use Rattle.signature_model.specs.Chains.{Transform, transform_named, Other}
use Rattle.signature_model.specs.Parts.{form_in}
use Rattle.signature_model.specs.Spots.{Spot, attribute, is_called}
use Rattle.signature_model.specs.Vocabulary.{ds}
use Rattle.signature_elements.specs.Standing.{spot_of}
use Rattle.signature_elements.proofs.AsciiNames.{word}
use Rattle.reference_chains.proofs.transforms.transform_of.Goals as goal

pub returns-then-not-is_called-clause-transform : goal.returns-then-not-is_called-clause-transform
returns-then-not-is_called-clause-transform c =
    let spot : Spot = spot_of c.args.doc c.args.node in
    let name : List ℕ → Transform = transform_named (form_in (document_in c.args.doc) spot) in
    let called : is_called (ds (codes "Transform")) spot ≡ false = sym (ap (λ (n : Expanded). is_called n spot) (c.ds.ensures ∙ ap ds (word (codes "Transform") refl))) ∙ sym c.is_called.ensures ∙ c.if-not-is_called.true in
    (λ i. cond (sym called i) (option_map_or name (attribute (codes "Algorithm") spot) Other) Other)

pub returns-in-Some-clause-transform : goal.returns-in-Some-clause-transform
returns-in-Some-clause-transform c =
    let spot : Spot = spot_of c.args.doc c.args.node in
    let name : List ℕ → Transform = transform_named (form_in (document_in c.args.doc) spot) in
    let called : is_called (ds (codes "Transform")) spot ≡ true = sym (ap (λ (n : Expanded). is_called n spot) (c.ds.ensures ∙ ap ds (word (codes "Transform") refl))) ∙ sym c.is_called.ensures ∙ c.if-not-is_called.false in
    c.transform_named.ensures.transform
    ∙ ap (λ o. option_map_or name o Other) (c.in-Some.ensures ∙ ap (λ (local : List ℕ). attribute local spot) (word (codes "Algorithm") refl))
    ∙ (λ i. cond (sym called i) (option_map_or name (attribute (codes "Algorithm") spot) Other) Other)

pub returns-in-None-clause-transform : goal.returns-in-None-clause-transform
returns-in-None-clause-transform c =
    let spot : Spot = spot_of c.args.doc c.args.node in
    let name : List ℕ → Transform = transform_named (form_in (document_in c.args.doc) spot) in
    let called : is_called (ds (codes "Transform")) spot ≡ true = sym (ap (λ (n : Expanded). is_called n spot) (c.ds.ensures ∙ ap ds (word (codes "Transform") refl))) ∙ sym c.is_called.ensures ∙ c.if-not-is_called.false in
    ap (λ o. option_map_or name o Other) (c.in-None.ensures ∙ ap (λ (local : List ℕ). attribute local spot) (word (codes "Algorithm") refl))
    ∙ (λ i. cond (sym called i) (option_map_or name (attribute (codes "Algorithm") spot) Other) Other)
