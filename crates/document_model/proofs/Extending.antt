-- Laws of documents that hold others.
use Rattle.std.proofs.Common.{◌≡◌, ℕ, ◌-◌, ◌&&◌, List, [], ◌∷◌, ◌++◌, length, take, drop, ◌∙◌, ap, subst, append_assoc, codes}
use Rattle.std.proofs.lemmas.List.{take-append-drop}
use Rattle.std.specs.Prelude.{flat_map, encode_utf8_all}
use Rattle.document_model.specs.Characters.{◌is◌}
use Rattle.document_model.specs.Names.{spelled}
use Rattle.document_model.specs.Items.{Item, Piece, empty_tag}
use Rattle.document_model.specs.Tree.{Path}
use Rattle.document_model.specs.Documents.{run, limits}
use Rattle.document_model.specs.Places.{path_of}
use Rattle.document_model.specs.Insertion.{Extends, nothing, kept_byte, new_byte, with_content, may_close, pieces_with, put_inside, OnlyAdds}
use Rattle.document_model.proofs.Joins.{by_test, run_joins}

pub extends_itself : (a : List ℕ) → Extends a a
extends_itself [] = nothing
extends_itself (x ∷ a) = kept_byte (extends_itself a)

pub extends_through : (a b c : List ℕ) → Extends a b → Extends b c → Extends a c
extends_through a b c p q = go q a p
  where
    go : {b c : List ℕ} → Extends b c → (a : List ℕ) → Extends a b → Extends a c
    go nothing a p = p
    go (new_byte q) a p = new_byte (go q a p)
    go (kept_byte q) a (kept_byte p) = kept_byte (go q _ p)
    go (kept_byte q) a (new_byte p) = new_byte (go q a p)

pub extends_with : (a b new : List ℕ) → Extends a b → Extends a (new ++ b)
extends_with a b [] p = p
extends_with a b (x ∷ new) p = new_byte (extends_with a b new p)

pub extends_both : {a b : List ℕ} (c d : List ℕ) → Extends a b → Extends c d → Extends (a ++ c) (b ++ d)
extends_both c d nothing q = q
extends_both c d (kept_byte p) q = kept_byte (extends_both c d p q)
extends_both c d (new_byte p) q = new_byte (extends_both c d p q)

extends_nothing : (b : List ℕ) → Extends [] b
extends_nothing [] = nothing
extends_nothing (x ∷ b) = new_byte (extends_nothing b)

extends_behind : {a b : List ℕ} (new : List ℕ) → Extends a b → Extends a (b ++ new)
extends_behind new nothing = extends_nothing new
extends_behind new (kept_byte p) = kept_byte (extends_behind new p)
extends_behind new (new_byte p) = new_byte (extends_behind new p)

with_content_extends : (content text : List ℕ) (item : Item) → Extends text (with_content content text item)
with_content_extends content text (empty_tag name attributes) =
    let n : ℕ = length text - 2 in
    let slash : List ℕ = drop n text in
    let opened = extends_behind (codes "<") (extends_behind content (extends_behind (codes ">") (extends_itself (take n text)))) in
    let closed = extends_both (drop 1 slash) (drop 1 slash)
    (extends_behind (encode_utf8_all (spelled name)) (extends_both (take 1 slash) (take 1 slash) opened (extends_itself (take 1 slash))))
    (extends_itself (drop 1 slash)) in
    let whole : take n text ++ take 1 slash ++ drop 1 slash ≡ text =
    append_assoc (take n text) (take 1 slash) (drop 1 slash) ∙ ap (λ x. take n text ++ x) (take-append-drop 1 slash) ∙ take-append-drop n text in
    let P : List ℕ → Type 0 = λ old. Extends old (with_content content text (empty_tag name attributes)) in
    subst P whole closed
with_content_extends content text item = extends_with text text content (extends_itself text)

pieces_extend : (content : List ℕ) (host : Path) (before : List Item) (pieces : List Piece) → Extends (flat_map (λ piece. piece.text) pieces) (pieces_with content host before pieces)
pieces_extend content host before [] = nothing
pieces_extend content host before (piece ∷ pieces) = let P : List ℕ → Type 0 = Extends piece.text in
    extends_both _ _
    (by_test P (may_close piece.item && (path_of before piece.item is host)) _ _ (λ e. with_content_extends content piece.text piece.item) (λ e. extends_itself piece.text))
    (pieces_extend content host (piece.item ∷ before) pieces)

pub only_adds : OnlyAdds
only_adds content bytes host =
    let P : List ℕ → Type 0 = λ old. Extends old (put_inside content host bytes) in
    subst P (run_joins limits (length bytes) [] bytes)
    (extends_both _ _ (pieces_extend content host [] (run limits bytes).pieces) (extends_itself (run limits bytes).rest))
