use Rattle.std.proofs.Common.{true, false, refl, ◌∙◌}
use Rattle.doc_spans.specs.OpenTags.{tag_in}
use Rattle.doc_spans.specs.Scopes.{tags_around}
use Rattle.doc_spans.proofs.ScopeSteps.{sound_parts}
use Rattle.doc_spans.proofs.tabled.Known.is_sound.Goals as goal

pub returns-then-has_sound_name : goal.returns-then-has_sound_name
returns-then-has_sound_name c =
    sound_parts (tags_around c.args.self.now.scope.outer.now) (tag_in c.args.self.now.scope.tag) _ true c.has_sound_attributes.result c.requires c.if-has_sound_name.ensures c.has_sound_attributes.ensures

pub returns-else-has_sound_name : goal.returns-else-has_sound_name
returns-else-has_sound_name c =
    c.if-has_sound_name.false ∙ sound_parts (tags_around c.args.self.now.scope.outer.now) (tag_in c.args.self.now.scope.tag) (tag_in c.args.self.now.scope.tag).attributes false _ refl c.if-has_sound_name.ensures refl
