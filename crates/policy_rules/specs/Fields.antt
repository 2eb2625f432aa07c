-- What the fields of a policy mean, over the tables and lists that TOML reads.
use Rattle.std.specs.Prelude.{◌==◌, ℕ, ℤ, pos, Bool, ◌&&◌, ◌||◌, List, [], ◌∷◌, length, map, nat_le, codes, Option, Some, None, is_none, option_map, if◌then◌else◌}
use Rattle.std.specs.Option.{option_and_then}
use Rattle.std.specs.Str.{bytes_eq}
use Rattle.toml.specs.Data.{Data, Members, no_members, member, Items, no_items, item, get_member, as_integer, as_str, as_array, as_table}
use Rattle.algorithms.specs.declared.signature_kinds.SignatureKind.{SignatureKind}
use Rattle.algorithms.specs.declared.signature_kinds.SignatureKind.TheVariants.{Hss, Xmss, XmssMt}
use Rattle.algorithms.specs.declared.digest_kinds.DigestKind.{DigestKind}
use Rattle.algorithms.specs.declared.digest_kinds.DigestKind.TheVariants.{Sha256, Sha384, Sha512}
use Rattle.algorithms.specs.SignatureKind as signatures
use Rattle.algorithms.specs.DigestKind as digest_names
use Rattle.utc_times.specs.TimeText.{time_of}
use Rattle.policy_rules.specs.declared.fields.Place.{Place}
use Rattle.policy_rules.specs.declared.fields.Place.TheVariants.{Whole, Kind, Digest}
use Rattle.policy_rules.specs.Rules.{KindRule, DigestRule, uris_of, are_new}

infixl 10 ◌>>=◌
abbrev pub ◌>>=◌ : {A B : Type 0} → Option A → (A → Option B) → Option B
o >>= f = option_and_then f o

-- the text, and the list, at a key
abbrev pub text_at : List ℕ → Members → Option (List ℕ)
text_at key table = option_and_then as_str (get_member key table)

abbrev pub list_at : List ℕ → Members → Option Items
list_at key table = option_and_then as_array (get_member key table)

-- a list each of whose items has a value by f
abbrev pub each : {A : Type 0} → (Data → Option A) → Items → Option (List A)
each f no_items = Some []
each f (item d ds) = f d >>= λ value. each f ds >>= λ values. Some (value ∷ values)

-- the keys that a table at this place may have
abbrev pub is_known : Place → List ℕ → Bool
is_known Whole key = bytes_eq key (codes "version") || bytes_eq key (codes "anchors") || bytes_eq key (codes "kind") || bytes_eq key (codes "digest")
is_known Kind key = bytes_eq key (codes "name") || bytes_eq key (codes "uri") || bytes_eq key (codes "until")
is_known Digest key = bytes_eq key (codes "name") || bytes_eq key (codes "until")

-- the least other key, since the keys of a table ascend in the order of their bytes
abbrev pub first_unknown : Place → Members → Option (List ℕ)
first_unknown place no_members = None
first_unknown place (member key d table) = if is_known place key then first_unknown place table else Some key

-- `version` is the integer 1 or 2
abbrev pub version_in : ℤ → Option ℕ
version_in (pos n) = if n == 1 then Some 1 else if n == 2 then Some 2 else None
version_in _ = None

unfoldable pub version_of : Members → Option ℕ
version_of table = do
  d ← get_member (codes "version") table
  z ← as_integer d
  version_in z

-- `anchors` is a list of 1 to 64 texts
unfoldable pub anchor_texts : Members → Option (List (List ℕ))
anchor_texts table = do
  listed ← list_at (codes "anchors") table
  texts ← each as_str listed
  if nat_le 1 (length texts) && nat_le (length texts) 64 then Some texts else None

-- a text that isn't empty
abbrev pub some_text : List ℕ → Option (List ℕ)
some_text [] = None
some_text (b ∷ bs) = Some (b ∷ bs)

abbrev pub uri_in : Data → Option (List ℕ)
uri_in d = option_and_then some_text (as_str d)

-- `until`, where it stands, is the text of a time
abbrev pub end_in : Option Data → Option (Option ℤ)
end_in None = Some None
end_in (Some d) = option_map Some (option_and_then time_of (as_str d))

abbrev pub end_at : Members → Option (Option ℤ)
end_at table = end_in (get_member (codes "until") table)

abbrev pub signature_kind : List ℕ → Option SignatureKind
signature_kind word =
    if bytes_eq word (signatures.word_of Hss) then Some Hss
    else if bytes_eq word (signatures.word_of Xmss) then Some Xmss
    else if bytes_eq word (signatures.word_of XmssMt) then Some XmssMt
    else None

abbrev pub digest_kind : List ℕ → Option DigestKind
digest_kind word =
    if bytes_eq word (digest_names.word_of Sha256) then Some Sha256
    else if bytes_eq word (digest_names.word_of Sha384) then Some Sha384
    else if bytes_eq word (digest_names.word_of Sha512) then Some Sha512
    else None

-- one entry of `kind`: `name`, `uri`, and `until` or nothing
unfoldable pub kind_rule : Members → Option KindRule
kind_rule table = do
  word ← text_at (codes "name") table
  kind ← signature_kind word
  listed ← list_at (codes "uri") table
  uris ← each uri_in listed
  until ← end_at table
  if is_none (first_unknown Kind table) then Some (record { kind = kind; uris = uris; until = until }) else None

-- one entry of `digest`: `name`, and `until` or nothing
unfoldable pub digest_rule : Members → Option DigestRule
digest_rule table = do
  word ← text_at (codes "name") table
  kind ← digest_kind word
  until ← end_at table
  if is_none (first_unknown Digest table) then Some (record { kind = kind; until = until }) else None

abbrev pub kind_rule_in : Data → Option KindRule
kind_rule_in d = option_and_then kind_rule (as_table d)

abbrev pub digest_rule_in : Data → Option DigestRule
digest_rule_in d = option_and_then digest_rule (as_table d)

-- `kind` is a list of such entries, each kind in at most one of them and each URI at most once in all of them
unfoldable pub kind_rules : Members → Option (List KindRule)
kind_rules table = do
  listed ← list_at (codes "kind") table
  rules ← each kind_rule_in listed
  if are_new [] (map (λ rule. signatures.word_of rule.kind) rules) && are_new [] (uris_of rules) then Some rules else None

-- `digest` likewise
unfoldable pub digest_rules : Members → Option (List DigestRule)
digest_rules table = do
  listed ← list_at (codes "digest") table
  rules ← each digest_rule_in listed
  if are_new [] (map (λ rule. digest_names.word_of rule.kind) rules) then Some rules else None
