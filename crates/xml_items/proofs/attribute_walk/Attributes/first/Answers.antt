use Rattle.std.proofs.Common.{◌-◌, ◌∷◌, ◌∙◌, [], ap, unwrap_or}
use Rattle.std.specs.Str.{chars}
use Rattle.document_model.specs.Items.{Attribute}
use Rattle.xml_items.specs.Found.{read_attributes, value_in}
use Rattle.xml_items.specs.Pairs.{pair_in}
use Rattle.xml_items.proofs.Attributes.{row_front}
use Rattle.xml_items.proofs.attribute_walk.Attributes.first.Goals as goal

pub name_parts-requires : goal.name_parts-requires
name_parts-requires c = (row_front c.args.self.left (chars c.args.self.rest.now) (pair_in c.in-Some.pair) (chars c.in-Some.rest.now) c.args.self.read c.in-Some.ensures.pair).read.named

pub invariant_of-attribute : goal.invariant_of-attribute
invariant_of-attribute c =
    record { read = (row_front c.args.self.left (chars c.args.self.rest.now) (pair_in c.in-Some.pair) (chars c.in-Some.rest.now) c.args.self.read c.in-Some.ensures.pair).read.valued }

pub invariant_of-result : goal.invariant_of-result
invariant_of-result c =
    record { read = (row_front c.args.self.left (chars c.args.self.rest.now) (pair_in c.in-Some.pair) (chars c.in-Some.rest.now) c.args.self.read c.in-Some.ensures.pair).next }

pub returns-in-Some-clause-first : goal.returns-in-Some-clause-first
returns-in-Some-clause-first c =
    let f = row_front c.args.self.left (chars c.args.self.rest.now) (pair_in c.in-Some.pair) (chars c.in-Some.rest.now) c.args.self.read c.in-Some.ensures.pair in
    f.list ∙ ap (λ (a : Attribute). a ∷ unwrap_or (read_attributes (c.args.self.left - 1) (chars c.in-Some.rest.now)) [])
    (f.read.is ∙ (λ i. record { name = record { prefix = c.name_parts.ensures.prefix i; local = c.name_parts.ensures.local i }; value = value_in (chars c.in-Some.pair.text.now) }))
