-- What the checks on an item's text decide.
use Rattle.std.proofs.Common.{◌≡◌, ℕ, Bool, false, not, ◌&&◌, ◌==◌, List, [], ◌∷◌, ◌++◌, codes, Some, None, refl, sym, ap, ◌∙◌, append_assoc}
use Rattle.std.specs.Str.{bytes_eq}
use Rattle.document_model.specs.Characters.{between, contains, with_line_ends, is_empty}
use Rattle.std.proofs.Math.Bool.{and-true}
use Rattle.std.proofs.lemmas.Bool.{true≢false}
use Rattle.document_model.specs.Items.{comment, character, item_of, CommentKind, when, character_of}
use Rattle.xml_items.proofs.AsciiTexts.{between_at, between_whole}

pub comment_dashed : (w x : List ℕ) → between (codes "<!--") (codes "-->") w ≡ Some x → between (codes "<!--") (codes "->") w ≡ Some (x ++ 0x2D ∷ [])
comment_dashed w x e =
    let whole : w ≡ codes "<!--" ++ ((x ++ 0x2D ∷ []) ++ codes "->") = between_whole (codes "<!--") (codes "-->") w x e ∙ ap (λ y. codes "<!--" ++ y) (sym (append_assoc x (0x2D ∷ []) (codes "->"))) in
    ap (between (codes "<!--") (codes "->")) whole ∙ between_at (codes "<!--") (codes "->") (x ++ 0x2D ∷ [])

pub not_dashed : (w x : List ℕ) → between (codes "<!--") (codes "-->") w ≡ Some x → between (codes "<!--") (codes "->") w ≡ None → ⊥
not_dashed w x e n = let d = comment_dashed w x e in cc

pub comment_from : (w x d : List ℕ) (b : Bool) → between (codes "<!--") (codes "-->") w ≡ Some x → between (codes "<!--") (codes "->") w ≡ Some d → b ≡ contains d (codes "--")
    → item_of CommentKind w ≡ when (not b) (comment (with_line_ends x))
comment_from w x d b e f h =
    let d_is : d ≡ x ++ 0x2D ∷ [] = let g = comment_dashed w x e in cc in
    let b_is : contains (x ++ 0x2D ∷ []) (codes "--") ≡ b = ap (λ y. contains y (codes "--")) (sym d_is) ∙ sym h in
    rw (e, b_is) refl

-- two characters are one item only where they are CR LF
pub character_more : (c : ℕ) (ds : List ℕ) → is_empty ds ≡ false → bytes_eq (c ∷ ds) (codes "\r\n") ≡ false → character_of (c ∷ ds) ≡ None
character_more c [] n e = absurd (true≢false n)
character_more c (d ∷ []) n e = ap (λ b. when ((c == 0xD) && b) (character 0xA)) (sym (and-true (d == 0xA))) ∙ ap (λ b. when b (character 0xA)) e
character_more c (d ∷ x ∷ ds) n e = refl
