-- The policy of a text, or the first fault.
use Rattle.std.specs.Prelude.{◌+◌, ℕ, List, [], ◌∷◌, codes, Option, Some, None, Result, Ok, Err, is_ok, if◌then◌else◌}
use Rattle.std.specs.Option.{option_and_then}
use Rattle.std.specs.Str.{is_utf8}
use Rattle.toml.specs.Data.{Members}
use Rattle.toml.specs.Parse.{parse_document}
use Rattle.base64.specs.GeneralPurpose.{decoded_of}
use Rattle.base64.specs.Engines.{standard}
use Rattle.der_values.specs.Layout.{read_object}
use Rattle.x509_certs.specs.Layouts as layout
use Rattle.policy_rules.specs.declared.fields.Place.TheVariants.{Whole}
use Rattle.policy_rules.specs.Faults.{Fault, toml, field, anchor, of_field}
use Rattle.policy_rules.specs.Fields.{version_of, anchor_texts, kind_rules, digest_rules, first_unknown}
use Rattle.policy_rules.specs.Rules.{Rules}

infixl 10 ◌>>=◌
abbrev pub ◌>>=◌ : {A B : Type 0} → Result A Fault → (A → Result B Fault) → Result B Fault
(Ok x) >>= f = f x
(Err e) >>= f = Err e

-- bytes that are one whole certificate
abbrev pub whole_certificate : List ℕ → Option (List ℕ)
whole_certificate bytes = if is_ok (read_object layout.certificate bytes) then Some bytes else None

-- strict base64 (RFC 4648, section 4: with padding, and zero bits at the end) of a whole certificate
abbrev pub anchor_of : List ℕ → Option (List ℕ)
anchor_of text = option_and_then whole_certificate (decoded_of standard text)

-- the anchor of this number
abbrev pub of_number : ℕ → Option (List ℕ) → Result (List ℕ) Fault
of_number number None = Err (anchor number)
of_number number (Some bytes) = Ok bytes

-- the anchors, where the first text has this number
abbrev pub anchors_from : ℕ → List (List ℕ) → Result (List (List ℕ)) Fault
anchors_from number [] = Ok []
anchors_from number (text ∷ texts) = of_number number (anchor_of text) >>= λ bytes. anchors_from (number + 1) texts >>= λ rest. Ok (bytes ∷ rest)

-- no field is one that isn't known
abbrev pub known : Option (List ℕ) → Result (Unit {0}) Fault
known None = Ok tt
known (Some name) = Err (field name)

-- the fields in their order, then a field that isn't known, then the anchors in their order
unfoldable pub rules_of : Members → Result Rules Fault
rules_of table = do
  version ← of_field (codes "version") (version_of table)
  texts ← of_field (codes "anchors") (anchor_texts table)
  kinds ← of_field (codes "kind") (kind_rules table)
  digests ← of_field (codes "digest") (digest_rules table)
  none ← known (first_unknown Whole table)
  anchors ← anchors_from 1 texts
  Ok (record { version = version; anchors = anchors; kinds = kinds; digests = digests })

-- the table that the bytes spell: they are UTF-8, and TOML
unfoldable pub table_of : List ℕ → Option Members
table_of bytes = if is_utf8 bytes then parse_document bytes else None

abbrev pub of_table : Option Members → Result Members Fault
of_table None = Err toml
of_table (Some table) = Ok table

abbrev pub policy_of : List ℕ → Result Rules Fault
policy_of bytes = of_table (table_of bytes) >>= rules_of
