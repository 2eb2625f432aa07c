use Rattle.std.proofs.Common.{◌≡◌, drop}
use Rattle.doc_spans.specs.Looked.{declared}
use Rattle.canon_tags.specs.Own.{own_prefixes}
use Rattle.canon_methods.specs.Rules.{rule_in}
use Rattle.canon_tags.specs.Scoped.{gathered, is_declared_anew}
use Rattle.canon_tags.specs.Texts.{texts_in}
use Rattle.canon_tags.proofs.prefixes.gather_declared.Given as goal

-- what all give is what those that are left give
abbrev pub invariant-own : goal.invariant-own
invariant-own l =
    gathered (is_declared_anew (rule_in l.rule) (declared l.standing.scope) (declared l.standing.written)) (own_prefixes (drop l.declaration-index l.own)) (texts_in l.found.items)
    ≡ gathered (is_declared_anew (rule_in l.rule) (declared l.standing.scope) (declared l.standing.written)) (own_prefixes l.own) (texts_in l.initial.found.items)
