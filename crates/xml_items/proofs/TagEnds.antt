-- Where a tag ends, by runs between quotes.
use Rattle.std.proofs.Common.{◌≡◌, ℕ, ◌+◌, ◌-◌, ◌<◌, ◌≤◌, true, false, ◌==◌, cond, List, ◌∷◌, ◌++◌, length, take, drop, get_or, Option, Some, None, refl, sym, ap, ◌∙◌, append_assoc, arith}
use Rattle.std.proofs.Math.Seq.{take-add, drop-drop}
use Rattle.std.proofs.lemmas.List.{drop_more}
use Rattle.document_model.specs.Items.{through_tag, is_quote}

further : (whole first second : List ℕ × List ℕ) (xs : List ℕ) (n m : ℕ) → whole ≡ (take n xs ++ first.0, first.1) → first ≡ (take m (drop n xs) ++ second.0, second.1)
    → whole ≡ (take (n + m) xs ++ second.0, second.1)
further whole first second xs n m e f =
    e ∙ (λ i. (take n xs ++ (f i).0, (f i).1)) ∙ ap (λ ys. (ys, second.1)) (sym (append_assoc (take n xs) (take m (drop n xs)) second.0))
    ∙ ap (λ ys. (ys ++ second.0, second.1)) (sym (take-add n m xs))

quoted_byte : (quote b : ℕ) (state : Option ℕ) (xs ys : List ℕ) → cond (b == quote) None (Some quote) ≡ state → xs ≡ b ∷ ys
    → through_tag (Some quote) xs ≡ (take 1 xs ++ (through_tag state ys).0, (through_tag state ys).1)
quoted_byte quote b state xs ys e f = rw f (ap (λ s. (b ∷ (through_tag s ys).0, (through_tag s ys).1)) e)

opening_byte : (b : ℕ) (xs ys : List ℕ) → (b == 0x3E) ≡ false → is_quote b ≡ true → xs ≡ b ∷ ys
    → through_tag None xs ≡ (take 1 xs ++ (through_tag (Some b) ys).0, (through_tag (Some b) ys).1)
opening_byte b xs ys e f g = rw (g, e, f) refl

-- one byte more inside quotes
pub quoted_more : (bytes : List ℕ) (start at quote : ℕ) (state : Option ℕ) → start ≤ at → at < length bytes → cond (get_or bytes at 0 == quote) None (Some quote) ≡ state
    → through_tag (Some quote) (drop start bytes) ≡ (take (at - start) (drop start bytes) ++ (through_tag (Some quote) (drop at bytes)).0, (through_tag (Some quote) (drop at bytes)).1)
    → through_tag (Some quote) (drop start bytes) ≡ (take (at + 1 - start) (drop start bytes) ++ (through_tag state (drop (at + 1) bytes)).0, (through_tag state (drop (at + 1) bytes)).1)
quoted_more bytes start at quote state order within e before =
    let n : ℕ = at - start in
    let xs : List ℕ = drop start bytes in
    let behind : List ℕ × List ℕ = through_tag state (drop (at + 1) bytes) in
    let m : start + n ≡ at = omega (arith, order) in
    let same : drop n xs ≡ drop at bytes = drop-drop n start bytes ∙ ap (λ k. drop k bytes) m in
    let step = quoted_byte quote (get_or bytes at 0) state (drop at bytes) (drop (at + 1) bytes) e (drop_more bytes at 0 within) in
    let k : n + 1 ≡ at + 1 - start = omega (arith, order) in
    further (through_tag (Some quote) xs) (through_tag (Some quote) (drop at bytes)) behind xs n 1 before (step ∙ ap (λ ys. (take 1 ys ++ behind.0, behind.1)) (sym same))
    ∙ ap (λ j. (take j xs ++ behind.0, behind.1)) k

-- from a quote to behind the next one
pub over_quotes : (bytes : List ℕ) (at end b : ℕ) → at < length bytes → at + 1 ≤ end → get_or bytes at 0 ≡ b → (b == 0x3E) ≡ false → is_quote b ≡ true
    → through_tag None bytes ≡ (take at bytes ++ (through_tag None (drop at bytes)).0, (through_tag None (drop at bytes)).1)
    → through_tag (Some b) (drop (at + 1) bytes) ≡ (take (end - (at + 1)) (drop (at + 1) bytes) ++ (through_tag None (drop end bytes)).0, (through_tag None (drop end bytes)).1)
    → through_tag None bytes ≡ (take end bytes ++ (through_tag None (drop end bytes)).0, (through_tag None (drop end bytes)).1)
over_quotes bytes at end b within order is e f before inside =
    let inner : List ℕ × List ℕ = through_tag (Some b) (drop (at + 1) bytes) in
    let behind : List ℕ × List ℕ = through_tag None (drop end bytes) in
    let first : drop at bytes ≡ b ∷ drop (at + 1) bytes = drop_more bytes at 0 within ∙ ap (λ x. x ∷ drop (at + 1) bytes) is in
    let opened = further (through_tag None bytes) (through_tag None (drop at bytes)) inner bytes at 1 before (opening_byte b (drop at bytes) (drop (at + 1) bytes) e f first) in
    let k : at + 1 + (end - (at + 1)) ≡ end = omega (arith, order) in
    further (through_tag None bytes) inner behind bytes (at + 1) (end - (at + 1)) opened inside ∙ ap (λ j. (take j bytes ++ behind.0, behind.1)) k
