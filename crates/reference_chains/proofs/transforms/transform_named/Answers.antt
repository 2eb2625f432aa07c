use Rattle.std.proofs.Common.{◌≡◌, ℕ, List, Option, true, false, is_some, sym, ◌∙◌, ap, refl}
use Rattle.document_model.specs.Characters.{◌is◌}
use Rattle.document_model.specs.Canonical.{Form}
use Rattle.doc_spans.specs.Pieces.{characters_left}
use Rattle.doc_spans.specs.Seen.{document_in}
use Rattle.canon_forms.specs.Forms as read
use Rattle.signature_model.specs.Vocabulary.{enveloped_name, base64_name}
use Rattle.signature_model.specs.Parts.{form_in}
use Rattle.signature_model.proofs.FormsAgree.{forms_agree}
use Rattle.signature_elements.specs.Standing.{spot_of}
use Rattle.signature_elements.proofs.Laws.{is_spot}
use Rattle.reference_chains.proofs.Words.{is_name, transform_by, with_form, without_form, is_some_mapped}
use Rattle.reference_chains.proofs.transforms.transform_named.Goals as goal

pub returns-then-same-clause-transform : goal.returns-then-same-clause-transform
returns-then-same-clause-transform c =
    let cs : List ℕ = characters_left c.args.name in
    let a : (cs is enveloped_name) ≡ true = is_name cs enveloped_name enveloped_name c.same.result true refl refl c.same.ensures c.if-same.true in
    (λ i. transform_by (sym a i) (cs is base64_name) (form_in (document_in c.args.doc) (spot_of c.args.doc c.args.node)))

pub returns-then-same-2-clause-transform : goal.returns-then-same-2-clause-transform
returns-then-same-2-clause-transform c =
    let cs : List ℕ = characters_left c.args.name in
    let a : (cs is enveloped_name) ≡ false = is_name cs enveloped_name enveloped_name c.same.result false refl refl c.same.ensures c.if-same.false in
    let b : (cs is base64_name) ≡ true = is_name cs base64_name base64_name c.same-else-same.result true refl refl c.same-else-same.ensures c.if-same-2.true in
    (λ i. transform_by (sym a i) (sym b i) (form_in (document_in c.args.doc) (spot_of c.args.doc c.args.node)))

pub returns-then-is_some-clause-transform : goal.returns-then-is_some-clause-transform
returns-then-is_some-clause-transform c =
    let cs : List ℕ = characters_left c.args.name in
    let form : Option Form = form_in (document_in c.args.doc) (spot_of c.args.doc c.args.node) in
    let a : (cs is enveloped_name) ≡ false = is_name cs enveloped_name enveloped_name c.same.result false refl refl c.same.ensures c.if-same.false in
    let b : (cs is base64_name) ≡ false = is_name cs base64_name base64_name c.same-else-same.result false refl refl c.same-else-same.ensures c.if-same-2.false in
    let agree = forms_agree (document_in c.args.doc) (spot_of c.args.doc c.args.node) (is_spot c.args.doc c.args.node c.requires.1) in
    let some : is_some form ≡ true = ap is_some (agree ∙ sym c.read_form.ensures) ∙ is_some_mapped read.form_in c.read_form.result ∙ sym c.is_some.ensures ∙ c.if-is_some.true in
    with_form form some ∙ (λ i. transform_by (sym a i) (sym b i) form)

pub returns-else-is_some-clause-transform : goal.returns-else-is_some-clause-transform
returns-else-is_some-clause-transform c =
    let cs : List ℕ = characters_left c.args.name in
    let form : Option Form = form_in (document_in c.args.doc) (spot_of c.args.doc c.args.node) in
    let a : (cs is enveloped_name) ≡ false = is_name cs enveloped_name enveloped_name c.same.result false refl refl c.same.ensures c.if-same.false in
    let b : (cs is base64_name) ≡ false = is_name cs base64_name base64_name c.same-else-same.result false refl refl c.same-else-same.ensures c.if-same-2.false in
    let agree = forms_agree (document_in c.args.doc) (spot_of c.args.doc c.args.node) (is_spot c.args.doc c.args.node c.requires.1) in
    let none : is_some form ≡ false = ap is_some (agree ∙ sym c.read_form.ensures) ∙ is_some_mapped read.form_in c.read_form.result ∙ sym c.is_some.ensures ∙ c.if-is_some.false in
    without_form form none ∙ (λ i. transform_by (sym a i) (sym b i) form)
