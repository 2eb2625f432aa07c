use Rattle.std.proofs.Common.{◌≡◌, ◌∙◌, ◌++◌, sym, ap, codes, append_assoc}
use Rattle.std.specs.Str.{chars}
use Rattle.document_model.specs.Characters.{span}
use Rattle.xml_items.specs.Classes.{passes}
use Rattle.xml_items.specs.declared.classes.Class.TheVariants.{NamePartOrColon}
use Rattle.xml_items.proofs.Stands.{front_stands, second_stands}
use Rattle.xml_items.proofs.KnownItems.{tagged, none_mapped}
use Rattle.xml_items.proofs.items.known_start_tag.Goals as goal

pub returns-in-Some-clause-item : goal.returns-in-Some-clause-item
returns-in-Some-clause-item c =
    (tagged (chars c.args.text.now) (chars c.in-Some.inside.now) (chars c.front.result.0.now) (chars c.front.result.1.now)
    (c.between.ensures.inside ∙ none_mapped (λ inside. chars inside.now) c.between.result (sym c.is_some.ensures ∙ c.if-is_some.false)) c.in-Some.ensures.inside
    (ap (span (passes NamePartOrColon)) c.without_space_behind.ensures.front ∙ c.front.ensures.split) c.requires).is

pub returns-in-Some-clause-read : goal.returns-in-Some-clause-read
returns-in-Some-clause-read c =
    let t = tagged (chars c.args.text.now) (chars c.in-Some.inside.now) (chars c.front.result.0.now) (chars c.front.result.1.now)
    (c.between.ensures.inside ∙ none_mapped (λ inside. chars inside.now) c.between.result (sym c.is_some.ensures ∙ c.if-is_some.false)) c.in-Some.ensures.inside
    (ap (span (passes NamePartOrColon)) c.without_space_behind.ensures.front ∙ c.front.ensures.split) c.requires in
    (t.named, t.read)

pub returns-in-Some-clause-placed : goal.returns-in-Some-clause-placed
returns-in-Some-clause-placed c =
    let name = c.front.result.0.now in
    let attributes = c.front.result.1.now in
    let space = c.without_space_behind.ensures.placed.0 in
    let parts : c.in-Some.inside.now ≡ name ++ (attributes ++ space)
    = c.without_space_behind.ensures.placed.1 ∙ ap (λ x. x ++ space) (sym c.front.ensures.joined) ∙ append_assoc name attributes space in (
      front_stands (codes "<") (codes ">") c.in-Some.inside.now c.args.text.now c.in-Some.ensures.placed name (attributes ++ space) parts,
      second_stands (codes "<") (codes ">") c.in-Some.inside.now c.args.text.now c.in-Some.ensures.placed name attributes space parts,
    )
