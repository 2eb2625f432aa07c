use Rattle.std.proofs.Common.{◌≡◌, sym, ◌∙◌, ap, refl, Bool, true, false, List, ℕ, None}
use Rattle.std.specs.Str.{IsUtf8, is_utf8}
use Rattle.std.proofs.lemmas.Str.{IsUtf8-from_is_utf8, is_utf8-from_IsUtf8}
use Rattle.toml.specs.Parse.{parse_document}
use Rattle.policy_rules.specs.Text.{table_of, of_table}
use Rattle.policy_rules.proofs.reading.read_table.Goals as goal

table_of-utf8 : (b : List ℕ) → IsUtf8 b → table_of b ≡ parse_document b
unfolding table_of
table_of-utf8 b u = rw (is_utf8-from_IsUtf8 b u) refl

not_true : (v : Bool) → ¬ (v ≡ true) → v ≡ false
not_true true n = absurd (n refl)
not_true false n = refl

table_of-not : (b : List ℕ) → ¬ (IsUtf8 b) → table_of b ≡ None
unfolding table_of
table_of-not b n = rw (not_true (is_utf8 b) (λ e. n (IsUtf8-from_is_utf8 b e))) refl

pub returns-in_default : goal.returns-in_default
returns-in_default c = ap of_table (table_of-not c.args.bytes.now c.in_default.ensures.cases.0)

pub returns-in-Ok-table_from_str : goal.returns-in-Ok-table_from_str
returns-in-Ok-table_from_str c =
    ap of_table (table_of-utf8 c.args.bytes.now c.in-Ok.ensures.cases.1
    ∙ ap parse_document (sym c.in-Ok.ensures.cases.0) ∙ c.in-Ok-table_from_str.ensures.ok)

pub returns-else-is_memory : goal.returns-else-is_memory
returns-else-is_memory c =
    ap of_table (table_of-utf8 c.args.bytes.now c.in-Ok.ensures.cases.1
    ∙ ap parse_document (sym c.in-Ok.ensures.cases.0)
    ∙ c.in-Err.ensures.refused (λ m. let t = c.is_memory.ensures.1 m in cc))
