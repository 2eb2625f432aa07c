-- Texts that begin with another text, as bytes and as characters.
use Rattle.std.proofs.Common.{◌≡◌, ℕ, true, false, List, [], ◌∷◌, ◌++◌, length, take, drop, nat_eq, ◌==◌, refl, sym, ◌∙◌, ap, subst, arith, length-append}
use Rattle.document_model.specs.Characters.{is_empty}
use Rattle.std.specs.Cmp.Lexicographic.{same_text}
use Rattle.std.proofs.Math.Seq.{take-append_seam, drop-append_seam}
use Rattle.std.proofs.lemmas.Bool.{true≢false}
use Rattle.std.proofs.lemmas.Str.{chars-append, encodes-chars, encodes-append, IsCharBoundary-from_take}
use Rattle.std.specs.List.{starts_with}
use Rattle.std.specs.Prelude.{encode_utf8_all}
use Rattle.std.specs.Str.{chars, IsUtf8, IsCharBoundary, bytes_eq}
use Rattle.xml_items.proofs.AsciiTexts.{starts_split, starts_front, same_bool, same_from, empty_chars}

pub not_begun : (text run cs : List ℕ) → IsUtf8 text → IsUtf8 run → starts_with nat_eq text run ≡ false → chars text ≡ chars run ++ cs → ⊥
not_begun text run cs u v e h =
    let joined : text ≡ run ++ encode_utf8_all cs =
    sym (encodes-chars text u) ∙ ap encode_utf8_all h ∙ encodes-append (chars run) cs ∙ ap (λ x. x ++ encode_utf8_all cs) (encodes-chars run v) in
    true≢false (sym (ap (λ x. starts_with nat_eq x run) joined ∙ starts_front run (encode_utf8_all cs)) ∙ e)

pub begun : (text run : List ℕ) → IsUtf8 run → starts_with nat_eq text run ≡ true → chars text ≡ chars run ++ chars (drop (length run) text)
begun text run v e = ap chars (starts_split run text e) ∙ chars-append run (drop (length run) text) v

pub run_boundary : (text run : List ℕ) → IsUtf8 text → IsUtf8 run → starts_with nat_eq text run ≡ true → IsCharBoundary text (length run)
run_boundary text run u v e =
    let split : text ≡ run ++ drop (length run) text = starts_split run text e in
    let n = ap length split in
    let parts = length-append run (drop (length run) text) in
    IsCharBoundary-from_take text (length run) u (omega (arith, n, parts))
    (subst IsUtf8 (sym (ap (take (length run)) split ∙ take-append_seam run (drop (length run) text))) v)

-- two texts behind the same characters
pub same_behind : (front xs ys all text : List ℕ) → all ≡ front ++ xs → text ≡ front ++ ys → bytes_eq all text ≡ bytes_eq xs ys
same_behind front xs ys all text e f = same_bool (bytes_eq all text) (bytes_eq xs ys)
    (λ h. same_from xs ys (sym (drop-append_seam front xs) ∙ ap (drop (length front)) (sym e ∙ same_text all text (sym h) ∙ f) ∙ drop-append_seam front ys))
    (λ h. same_from all text (e ∙ ap (λ zs. front ++ zs) (same_text xs ys (sym h)) ∙ sym f))

pub same_none : (left text : List ℕ) → left ≡ [] → IsUtf8 text → bytes_eq left (chars text) ≡ (length text == 0)
same_none left text e u = ap (λ xs. bytes_eq xs (chars text)) e ∙ by_chars (chars text) ∙ empty_chars text u
  where
    by_chars : (cs : List ℕ) → bytes_eq [] cs ≡ is_empty cs
    by_chars [] = refl
    by_chars (c ∷ cs) = refl
