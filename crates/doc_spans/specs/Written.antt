-- The parts of the items that a scanner finds, which nodes are made of.
use Rattle.std.specs.Prelude.{ℕ, List, [], Option, None, Some}
use Rattle.std.specs.Str.{chars}
use Rattle.document_model.specs.Scopes.{Tag}
use Rattle.xml_items.specs.Found.{name_in, attributes_in}
use Rattle.xml_items.specs.declared.items.Found.{Found}
use Rattle.xml_items.specs.declared.items.Found.TheVariants.{Declaration, StartTag, EmptyTag, EndTag, Character, Reference, Cdata, Comment, Instruction}

-- the name of the element that begins, or the target of a PI
abbrev pub written_name : Found → List ℕ
written_name Declaration = []
written_name (StartTag name attributes) = name.now
written_name (EmptyTag name attributes) = name.now
written_name (EndTag name) = []
written_name (Character c) = []
written_name (Reference c) = []
written_name (Cdata text) = []
written_name (Comment text) = []
written_name (Instruction target content) = target.now

-- the text of a comment, or the content of a PI, as it is written
abbrev pub written_text : Found → List ℕ
written_text Declaration = []
written_text (StartTag name attributes) = []
written_text (EmptyTag name attributes) = []
written_text (EndTag name) = []
written_text (Character c) = []
written_text (Reference c) = []
written_text (Cdata text) = []
written_text (Comment text) = text.now
written_text (Instruction target content) = content.now

-- the tag that it is
abbrev pub written_tag : Found → Option Tag
written_tag Declaration = None
written_tag (StartTag name attributes) = Some (record { name = name_in (chars name.now); attributes = attributes_in (chars attributes.now) })
written_tag (EmptyTag name attributes) = Some (record { name = name_in (chars name.now); attributes = attributes_in (chars attributes.now) })
written_tag (EndTag name) = None
written_tag (Character c) = None
written_tag (Reference c) = None
written_tag (Cdata text) = None
written_tag (Comment text) = None
written_tag (Instruction target content) = None
