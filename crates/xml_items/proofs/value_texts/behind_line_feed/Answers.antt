use Rattle.std.proofs.Common.{◌≡◌, ◌∷◌, ◌∙◌, List, ℕ, true, refl, sym, ap, subst, is_some}
use Rattle.std.specs.Str.{chars}
use Rattle.std.proofs.lemmas.Bool.{ne_eqb}
use Rattle.document_model.specs.Characters.{begins_with}
use Rattle.document_model.specs.Items.{value_of}
use Rattle.xml_items.specs.Values.{Begins}
use Rattle.xml_items.proofs.AsciiTexts.{chars_empty}
use Rattle.xml_items.proofs.ValueSteps.{return_line_first, line_end_first}
use Rattle.xml_items.proofs.value_texts.behind_line_feed.Goals as goal

line_feed : (cs rest : List ℕ) (d : ℕ) → is_some (value_of (0xD ∷ cs)) ≡ true → cs ≡ d ∷ rest → d ≡ 0xA → Begins (0xD ∷ cs) 0x20 rest
line_feed cs rest d h e f =
    let same : d ∷ rest ≡ 0xA ∷ rest = ap (λ x. x ∷ rest) f in
    let P : List ℕ → Type 0 = λ l. Begins (0xD ∷ l) 0x20 rest in
    subst P (sym (e ∙ same)) (return_line_first 0xD 0xA rest (ap (λ l. is_some (value_of (0xD ∷ l))) (sym (e ∙ same)) ∙ h) refl refl)

pub returns-then-c-eq10-clause-first : goal.returns-then-c-eq10-clause-first
returns-then-c-eq10-clause-first c = line_feed (chars c.args.behind.now) (chars c.in-Some.rest.now) c.in-Some.c c.requires c.in-Some.ensures.chars c.if-c-eq10.true

pub returns-else-c-eq10-clause-first : goal.returns-else-c-eq10-clause-first
returns-else-c-eq10-clause-first c = line_end_first (chars c.args.behind.now) c.requires (ap (begins_with 0xA) c.in-Some.ensures.chars ∙ ne_eqb c.in-Some.c 0xA c.if-c-eq10.false)

pub returns-in-None-clause-first : goal.returns-in-None-clause-first
returns-in-None-clause-first c = line_end_first (chars c.args.behind.now) c.requires (ap (begins_with 0xA) (chars_empty c.args.behind.now c.in-None.ensures.chars))
