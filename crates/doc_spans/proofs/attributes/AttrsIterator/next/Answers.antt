use Rattle.std.proofs.Common.{◌-◌, ◌∷◌, ◌∙◌, [], ap, sym, length, unwrap_or, arith}
use Rattle.std.specs.Str.{chars}
use Rattle.document_model.specs.Items.{Attribute}
use Rattle.xml_items.specs.Found.{read_attributes, name_in}
use Rattle.xml_items.specs.Pairs.{pair_in}
use Rattle.xml_items.proofs.Attributes.{row_front}
use Rattle.doc_spans.proofs.attributes.AttrsIterator.next.Goals as goal

pub invariant_of-self : goal.invariant_of-self
invariant_of-self c =
    record { read = (row_front c.args.self.now.left (chars c.args.self.now.rest.now) (pair_in c.in_ok-pair.pair) (chars c.in_ok-pair.rest.now) c.args.self.now.read c.in_ok-pair.ensures.pair).next }

pub invariant_of-attribute : goal.invariant_of-attribute
invariant_of-attribute c =
    record { named = (row_front c.args.self.now.left (chars c.args.self.now.rest.now) (pair_in c.in_ok-pair.pair) (chars c.in_ok-pair.rest.now) c.args.self.now.read c.in_ok-pair.ensures.pair).read.named }

pub returns-clause-steps : goal.returns-clause-steps
returns-clause-steps c =
    let f = row_front c.args.self.now.left (chars c.args.self.now.rest.now) (pair_in c.in_ok-pair.pair) (chars c.in_ok-pair.rest.now) c.args.self.now.read c.in_ok-pair.ensures.pair in
    f.list ∙ ap (λ (a : Attribute). a ∷ unwrap_or (read_attributes (c.args.self.now.left - 1) (chars c.in_ok-pair.rest.now)) [])
    (f.read.is ∙ (λ i. record { name = name_in (chars c.in_ok-pair.pair.name.now); value = sym c.of_value.ensures i }))

pub returns-clause-goes : goal.returns-clause-goes
returns-clause-goes c =
    let f = row_front c.args.self.now.left (chars c.args.self.now.rest.now) (pair_in c.in_ok-pair.pair) (chars c.in_ok-pair.rest.now) c.args.self.now.read c.in_ok-pair.ensures.pair in
    let n = ap length f.list in record { on = λ h. (tt, tt, omega (arith, n)); keeps = tt; rests = λ h. tt }
