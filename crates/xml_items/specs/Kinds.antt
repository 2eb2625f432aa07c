-- The kinds of items in the code.
use Rattle.xml_items.specs.declared.cuts.Kind.{Kind}
use Rattle.xml_items.specs.declared.cuts.Kind.TheVariants.{Comment, Cdata, Instruction, EndTag, Tag, Reference, Character}
use Rattle.document_model.specs.Items as items
use Rattle.document_model.specs.Items.{CommentKind, CdataKind, InstructionKind, EndTagKind, TagKind, ReferenceKind, CharacterKind}

abbrev pub kind_of : Kind → items.Kind
kind_of Comment = CommentKind
kind_of Cdata = CdataKind
kind_of Instruction = InstructionKind
kind_of EndTag = EndTagKind
kind_of Tag = TagKind
kind_of Reference = ReferenceKind
kind_of Character = CharacterKind
