use Rattle.std.proofs.Common.{◌≡◌, map, take}
use Rattle.std.specs.Str.{chars}
use Rattle.word_patterns.specs.Grammar.{text_now}
use Rattle.xades_cli.specs.Prepare.{with_references}
use Rattle.xades_cli.proofs.drafting.add_references.Given as goal

-- the URIs so far were put in
abbrev pub invariant-loop-uri : goal.invariant-loop-uri
invariant-loop-uri l = l.draft ≡ with_references (map chars (map text_now (take l.uri-index l.uris))) l.initial.draft
