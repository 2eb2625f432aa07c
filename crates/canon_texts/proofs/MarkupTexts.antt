-- Comments and processing instructions in bytes.
use Rattle.std.proofs.Common.{◌≡◌, ℕ, true, false, List, [], ◌∷◌, ◌++◌, refl, sym, ◌∙◌, ap, append_assoc, codes}
use Rattle.std.proofs.lemmas.List.{append-nil}
use Rattle.std.proofs.lemmas.Str.{encodes-append, encodes-chars, chars-nil}
use Rattle.std.specs.Prelude.{flat_map}
use Rattle.document_model.specs.Characters.{◌is◌}
use Rattle.canon_texts.specs.declared.places.Place.TheVariants.{Markup}
use Rattle.canon_texts.specs.WrittenAt.{written_at}
use Rattle.canon_texts.proofs.EscapedTexts.{as_they_are}
use Rattle.std.proofs.Math.Utf8.{encode, encodes}
use Rattle.std.specs.Str.{chars, IsUtf8}
use Rattle.document_model.specs.Canonical.{comment_text, with_space, instruction_text}

comment_front : encodes (codes "<!--") ≡ codes "<!--"
unfolding encode
comment_front = refl

comment_end : encodes (codes "-->") ≡ codes "-->"
unfolding encode
comment_end = refl

instruction_front : encodes (codes "<?") ≡ codes "<?"
unfolding encode
instruction_front = refl

instruction_end : encodes (codes "?>") ≡ codes "?>"
unfolding encode
instruction_end = refl

space : encodes (codes " ") ≡ codes " "
unfolding encode
space = refl

pub comment_written : (out front middle cs : List ℕ) → front ≡ out ++ codes "<!--" → middle ≡ front ++ encodes (flat_map (written_at Markup) cs)
    → middle ++ codes "-->" ≡ out ++ encodes (comment_text cs)
comment_written out front middle cs f m =
    let whole : encodes (comment_text cs) ≡ codes "<!--" ++ encodes cs ++ codes "-->" =
    encodes-append (codes "<!--" ++ cs) (codes "-->")
    ∙ ap (λ x. x ++ encodes (codes "-->")) (encodes-append (codes "<!--") cs)
    ∙ (λ i. comment_front i ++ encodes cs ++ comment_end i) in
    ap (λ x. x ++ codes "-->") (m ∙ (λ i. f i ++ encodes (as_they_are cs i)) ∙ append_assoc out (codes "<!--") (encodes cs))
    ∙ append_assoc out (codes "<!--" ++ encodes cs) (codes "-->")
    ∙ ap (λ x. out ++ x) (sym whole)

pub instruction_written : (out front named whole target content : List ℕ) → IsUtf8 target → front ≡ out ++ codes "<?" → named ≡ front ++ target → whole ≡ named ++ encodes (with_space content)
    → whole ++ codes "?>" ≡ out ++ encodes (instruction_text (chars target) content)
instruction_written out front named whole target content u f n w =
    let bytes : encodes (instruction_text (chars target) content) ≡ codes "<?" ++ target ++ encodes (with_space content) ++ codes "?>" =
    encodes-append (codes "<?" ++ chars target ++ with_space content) (codes "?>")
    ∙ ap (λ x. x ++ encodes (codes "?>")) (encodes-append (codes "<?" ++ chars target) (with_space content) ∙ ap (λ x. x ++ encodes (with_space content)) (encodes-append (codes "<?") (chars target)))
    ∙ (λ i. instruction_front i ++ encodes-chars target u i ++ encodes (with_space content) ++ instruction_end i) in
    ap (λ x. x ++ codes "?>") (w ∙ ap (λ x. x ++ encodes (with_space content)) (n ∙ ap (λ x. x ++ target) f ∙ append_assoc out (codes "<?") target) ∙ append_assoc out (codes "<?" ++ target) (encodes (with_space content)))
    ∙ append_assoc out (codes "<?" ++ target ++ encodes (with_space content)) (codes "?>")
    ∙ ap (λ x. out ++ x) (sym bytes)

-- a content, with a space where it isn't empty

pub nothing_written : (out content : List ℕ) → (content is chars []) ≡ true → out ≡ out ++ encodes (with_space content)
nothing_written out [] e = sym (append-nil out)
nothing_written out (c ∷ content) e = (let f : (c ∷ content is []) ≡ true = ap (λ x. c ∷ content is x) (sym chars-nil) ∙ e in (cc))

pub content_written : (out front content : List ℕ) → (content is chars []) ≡ false → front ≡ out ++ codes " " → front ++ encodes (flat_map (written_at Markup) content) ≡ out ++ encodes (with_space content)
content_written out front [] e f = (let g : ([] is []) ≡ false = ap (λ x. [] is x) (sym chars-nil) ∙ e in (cc))
content_written out front (c ∷ content) e f =
    (λ i. f i ++ encodes (as_they_are (c ∷ content) i))
    ∙ append_assoc out (codes " ") (encodes (c ∷ content))
    ∙ ap (λ x. out ++ x) (sym (encodes-append (codes " ") (c ∷ content) ∙ ap (λ x. x ++ encodes (c ∷ content)) space))
