use Rattle.std.proofs.Common.{◌∙◌, sym, ap}
use Rattle.std.specs.Str.{chars}
use Rattle.std.proofs.lemmas.Bool.{and_left, and_right}
use Rattle.document_model.specs.Characters.{span}
use Rattle.xml_items.specs.Classes.{passes}
use Rattle.xml_items.specs.declared.classes.Class.TheVariants.{NamePartOrColon}
use Rattle.xml_items.proofs.Attributes.{tag_unread}
use Rattle.xml_items.proofs.tags.tag.Goals as goal
use Rattle.xml_items.proofs.tags.tag.Goals.{else-is_name-via-then-is_name+else-are_attributes, else-is_name-via-else-is_name}

pub returns-else-is_name-clause-item : goal.returns-else-is_name-clause-item
returns-else-is_name-clause-item c make =
    tag_unread make (chars c.args.text.now) (chars c.front.result.0.now) (chars c.front.result.1.now)
    (ap (span (passes NamePartOrColon)) c.without_space_behind.ensures.front ∙ c.front.ensures.split)
    (elim c.else-is_name.branch [
      | else-is_name-via-then-is_name+else-are_attributes w ↦ and_right _ _ (sym w.are_attributes.ensures ∙ w.if-are_attributes.false)
      | else-is_name-via-else-is_name w ↦ and_left _ _ (sym c.is_name.ensures ∙ w.if-is_name.false)
    ])
