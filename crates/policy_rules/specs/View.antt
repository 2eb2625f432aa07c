-- What the values of the code show.
use Rattle.std.specs.Prelude.{map, string_bytes}
use Rattle.policy_rules.specs.declared.policy.Policy.{Policy}
use Rattle.policy_rules.specs.declared.entries.KindEntry.{KindEntry}
use Rattle.policy_rules.specs.declared.entries.DigestEntry.{DigestEntry}
use Rattle.policy_rules.specs.Rules.{Rules, KindRule, DigestRule}

abbrev pub kind_view : KindEntry → KindRule
kind_view e = record { kind = e.kind; uris = map string_bytes e.uris.items; until = e.until }

abbrev pub digest_view : DigestEntry → DigestRule
digest_view e = record { kind = e.kind; until = e.until }

-- the rules of a policy
abbrev pub rules : Policy → Rules
rules p = record { version = p.version; anchors = map (λ a. a.items) p.anchors.items; kinds = map kind_view p.kinds.items; digests = map digest_view p.digests.items }
