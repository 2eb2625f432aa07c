use Rattle.std.proofs.Common.{◌≡◌, [], refl, codes, ap, sym, ◌∙◌}
use Rattle.std.proofs.lemmas.Result.{IfOk-weaker}
use Rattle.std.proofs.lemmas.Str.{chars-nil}
use Rattle.std.specs.Prelude.{option_map, string_bytes, unwrap_or}
use Rattle.std.specs.Str.{chars}
use Rattle.doc_spans.specs.Pieces.{characters_left}
use Rattle.signature_elements.specs.Standing.{spot_of, spot_or_none}
use Rattle.signature_elements.proofs.AsciiNames.{attribute_as}
use Rattle.qualifying_props.specs.PartsOf.{name_in}
use Rattle.qualifying_props.proofs.method_names.method_name.Goals as goal

pub returns-in_default : goal.returns-in_default
returns-in_default c =
    ap chars c.new.ensures.bytes ∙ chars-nil ∙ sym (ap name_in (sym c.signature_method.ensures.spot ∙ ap (spot_or_none c.args.doc) c.in_default.is))

pub returns-in_default-attribute : goal.returns-in_default-attribute
returns-in_default-attribute c =
    let doc = c.args.doc in
    let name = attribute_as (spot_of doc c.in-Some.method) (codes "Algorithm") (option_map characters_left c.attribute.result) refl c.attribute.ensures in
    ap chars c.new-in_default-attribute.ensures.bytes ∙ chars-nil
    ∙ sym (ap name_in (sym c.signature_method.ensures.spot ∙ ap (spot_or_none doc) c.in-Some.is)
    ∙ ap (λ o. unwrap_or o []) (sym name ∙ ap (option_map characters_left) c.in_default-attribute.is))

pub returns : goal.returns
returns c =
    let doc = c.args.doc in
    let name = attribute_as (spot_of doc c.in-Some.method) (codes "Algorithm") (option_map characters_left c.attribute.result) refl c.attribute.ensures in
    let named = ap name_in (sym c.signature_method.ensures.spot ∙ ap (spot_or_none doc) c.in-Some.is)
    ∙ ap (λ o. unwrap_or o []) (sym name ∙ ap (option_map characters_left) c.in-Some-attribute.is) in
    IfOk-weaker c.text_of.result (λ text. chars (string_bytes text) ≡ characters_left c.in-Some-attribute.name) _ (λ text e. e ∙ sym named) c.text_of.ensures
