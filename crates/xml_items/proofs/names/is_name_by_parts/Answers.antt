use Rattle.std.proofs.Common.{◌≡◌, ◌∙◌, sym, ap, ◌++◌, Bool, true, false, List, ℕ, Some, None, is_some, cond, refl}
use Rattle.std.specs.Str.{chars, IsUtf8}
use Rattle.std.specs.Char.{encode_utf8}
use Rattle.std.proofs.lemmas.Str.{chars_past_char}
use Rattle.document_model.specs.Characters.{span}
use Rattle.document_model.specs.Names.{is_plain_name, name_of, is_not_colon}
use Rattle.xml_items.proofs.names.is_name_by_parts.Goals as goal

some_where : {A : Type 0} (b : Bool) (x : A) → b ≡ is_some (cond b (Some x) None)
some_where true x = refl
some_where false x = refl

name_two : (text a b next : List ℕ) (c : ℕ) → IsUtf8 b → b ≡ encode_utf8 c ++ next → span is_not_colon (chars text) ≡ (chars a, chars b) → is_plain_name (chars a) ≡ true
    → is_plain_name (chars next) ≡ is_some (name_of (chars text))
name_two text a b next c u e s h = rw (s, chars_past_char b next c u e, h) (some_where (is_plain_name (chars next)) _)

pub returns-then-is_plain_name : goal.returns-then-is_plain_name
returns-then-is_plain_name c =
    c.is_plain_name-then-is_plain_name.ensures ∙ ap (λ (x : List ℕ). is_plain_name (chars x)) c.as_str.ensures
    ∙ name_two c.args.text.now c.front.result.0.now c.front.result.1.now _ c.in-Some.field-0 c.front.ensures.behind_utf8
    (sym c.chars-rest.ensures.rest ∙ c.in-Some.ensures.steps.0) c.front.ensures.split (sym c.if-is_plain_name.ensures)
