-- What a rule in memory means.
use Rattle.std.specs.Prelude.{ℕ, List, map}
use Rattle.document_model.specs.Canonical as canonical
use Rattle.document_model.specs.Methods.{words_at, prefix_named}
use Rattle.doc_spans.specs.Pieces.{characters_left}
use Rattle.canon_methods.specs.declared.rules.Prefixes.{Prefixes}
use Rattle.canon_methods.specs.declared.rules.Rule.{Rule}
use Rattle.canon_methods.specs.declared.rules.Rule.TheVariants.{Inclusive, Exclusive}
use Rattle.canon_methods.specs.Words.{parts}

-- the prefixes of a list, where `#default` is the default
abbrev pub prefixes_in : Prefixes → List (List ℕ)
prefixes_in prefixes = map prefix_named (words_at (parts prefixes.by_commas) (characters_left prefixes.text))

abbrev pub rule_in : Rule → canonical.Rule
rule_in Inclusive = canonical.Inclusive
rule_in (Exclusive prefixes) = canonical.Exclusive (prefixes_in prefixes)
