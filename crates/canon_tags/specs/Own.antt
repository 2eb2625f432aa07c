-- The prefixes of declarations in the code.
use Rattle.std.specs.Prelude.{ℕ, List, map}
use Rattle.std.specs.Str.{chars}
use Rattle.doc_spans.specs.declared.declarations.Declaration.{Declaration}

abbrev pub own_prefixes : List Declaration → List (List ℕ)
own_prefixes ds = map (λ d. chars d.prefix.now) ds
