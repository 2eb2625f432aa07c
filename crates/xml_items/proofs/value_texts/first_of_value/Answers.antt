use Rattle.std.proofs.Common.{◌≡◌, ◌==◌, ◌∷◌, ◌∙◌, cond, List, ℕ, true, false, sym, ap, subst, is_some}
use Rattle.std.specs.Str.{chars}
use Rattle.std.proofs.lemmas.Bool.{ne_eqb}
use Rattle.document_model.specs.Characters.{is_white}
use Rattle.document_model.specs.Items.{value_of}
use Rattle.xml_items.specs.Found.{value_in}
use Rattle.xml_items.specs.Values.{Begins}
use Rattle.xml_items.proofs.AsciiTexts.{chars_empty}
use Rattle.xml_items.proofs.ValueSteps.{literal_first}
use Rattle.xml_items.proofs.value_texts.first_of_value.Goals as goal

literal : (text behind : List ℕ) (d read : ℕ) → is_some (value_of text) ≡ true → text ≡ d ∷ behind → (d == 0x26) ≡ false → (d == 0xD) ≡ false → read ≡ cond (is_white d) 0x20 d → Begins text read behind
literal text behind d read h e amp cr f =
    let P : List ℕ → ℕ → Type 0 = λ l n. Begins l n behind in
    let Q : List ℕ → Type 0 = λ l. P l read in
    subst Q (sym e) (let R : ℕ → Type 0 = P (d ∷ behind) in subst R (sym f) (literal_first d behind (ap (λ l. is_some (value_of l)) (sym e) ∙ h) amp cr))

pub returns-else-c-eq13-clause-first : goal.returns-else-c-eq13-clause-first
returns-else-c-eq13-clause-first c =
    literal (chars c.args.text.now) (chars c.in-Some.behind.now) c.in-Some.c c.read_as.result c.requires c.in-Some.ensures.chars
    (ne_eqb c.in-Some.c 0x26 c.if-c-eq38.false) (ne_eqb c.in-Some.c 0xD c.if-c-eq13.false) c.read_as.ensures

pub returns-in-None-clause-first : goal.returns-in-None-clause-first
returns-in-None-clause-first c = ap value_in (chars_empty c.args.text.now c.in-None.ensures.chars)
