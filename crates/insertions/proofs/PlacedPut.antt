-- What is put in for content gives the bytes with the content in the element.
use Rattle.std.proofs.Common.{◌≡◌, ℕ, ◌+◌, ◌-◌, true, List, [], ◌∷◌, ◌++◌, length, refl, sym, ◌∙◌, ap, subst, arith, append_assoc, length-append, codes, None, ◌≤◌}
use Rattle.std.specs.Prelude.{encode_utf8_all}
use Rattle.document_model.specs.Names.{Name, spelled}
use Rattle.document_model.specs.Items.{Attribute, Item, Piece, declaration, start_tag, empty_tag, end_tag, character, reference, cdata, comment, instruction}
use Rattle.document_model.specs.Tree.{Path, IsElementAt}
use Rattle.document_model.specs.Documents.{run, limits, fault, document_of}
use Rattle.document_model.specs.Insertion.{may_close, with_content, put_inside}
use Rattle.insertions.specs.Content.{texts}
use Rattle.insertions.specs.declared.pieces.Placed.{Placed}
use Rattle.insertions.specs.Placed.{with_one, with_all, for_content, placed_inside, last_place, PlacedIsPut}
use Rattle.insertions.proofs.Splice.{splits}
use Rattle.insertions.proofs.Opened.{EmptyTag, front_of, opened_bytes, empty_tag_is}
use Rattle.insertions.proofs.Found.{ready, split_at}
use Rattle.insertions.proofs.WithAll.{one_between}

opened_between : (content front text behind : List ℕ) (name : Name) (attributes : List Attribute) → EmptyTag text name attributes
    → with_all (for_content content (length front) text (empty_tag name attributes)) (front ++ (text ++ behind)) ≡ front ++ (with_content content text (empty_tag name attributes) ++ behind)
opened_between content front text behind name attributes w =
    let a : List ℕ = front_of w.inner in
    let n : List ℕ = encode_utf8_all (spelled name) in
    let size : length text ≡ length a + 2 = ap length w.is_text ∙ length-append a (0x2F ∷ 0x3E ∷ []) in
    let slash : length front + (length text - 2) ≡ length (front ++ a) = omega (arith, size, length-append front a) in
    let next : length front + (length text - 2) + 1 ≡ length ((front ++ a) ++ 0x2F ∷ []) = omega (arith, slash, length-append (front ++ a) (0x2F ∷ [])) in
    let first : Placed = record { at = length front + (length text - 2); bytes = codes ">" ++ (content ++ codes "<") } in
    let second : Placed = record { at = length front + (length text - 2) + 1; bytes = n } in
    ap (λ x. with_one first (with_one second (front ++ (x ++ behind)))) w.is_text
    ∙ ap (λ x. with_one first (with_one second x)) (apart front a behind)
    ∙ ap (with_one first) (one_between ((front ++ a) ++ 0x2F ∷ []) (0x3E ∷ behind) second next ∙ append_assoc (front ++ a) (0x2F ∷ []) (n ++ (0x3E ∷ behind)))
    ∙ one_between (front ++ a) (0x2F ∷ (n ++ (0x3E ∷ behind))) first slash
    ∙ regroup front a content n behind
    ∙ ap (λ x. front ++ (x ++ behind)) (sym (opened_bytes content text name attributes w))
  where
    apart : (f a b : List ℕ) → f ++ ((a ++ 0x2F ∷ 0x3E ∷ []) ++ b) ≡ ((f ++ a) ++ 0x2F ∷ []) ++ (0x3E ∷ b)
    apart f a b = simp append_assoc

    regroup : (f a c e b : List ℕ) → (f ++ a) ++ ((0x3E ∷ (c ++ 0x3C ∷ [])) ++ (0x2F ∷ (e ++ (0x3E ∷ b)))) ≡ f ++ (((a ++ 0x3E ∷ []) ++ (c ++ (0x3C ∷ 0x2F ∷ (e ++ 0x3E ∷ [])))) ++ b)
    regroup f a c e b = simp append_assoc

closed_between : (content front text behind : List ℕ) (name : Name)
    → with_all (for_content content (length front) text (end_tag name)) (front ++ (text ++ behind)) ≡ front ++ (with_content content text (end_tag name) ++ behind)
closed_between content front text behind name =
    one_between front (text ++ behind) (record { at = length front; bytes = content }) refl ∙ ap (λ x. front ++ x) (sym (append_assoc content text behind))

-- the pieces of a document with an element
record Parts (content bytes : List ℕ) (host : Path) : Type 0 where
  pub front : List ℕ
  pub piece : Piece
  pub behind : List ℕ
  pub joined : bytes ≡ front ++ (piece.text ++ behind)
  pub put : put_inside content host bytes ≡ front ++ (with_content content piece.text piece.item ++ behind)
  pub placed : placed_inside content host bytes ≡ for_content content (length front) piece.text piece.item
  pub may : may_close piece.item ≡ true
  pub empty : (name : Name) (attributes : List Attribute) → piece.item ≡ empty_tag name attributes → EmptyTag piece.text name attributes

parts : (content bytes : List ℕ) (host : Path) → fault bytes ≡ None → IsElementAt (document_of bytes) host → Parts content bytes host
parts content bytes host none e =
    let r = ready bytes none in
    let s = splits host (run limits bytes).pieces r.follow r.flat (subst (λ t. IsElementAt t host) r.document.tree e) in
    let at = split_at bytes host s.front s.piece s.behind r s.parts s.may s.at in
    record {
      front = texts s.front;
      piece = s.piece;
      behind = texts s.behind;
      joined = at.joined;
      put = at.put content;
      placed = at.placed content;
      may = s.may;
      empty = λ name attributes. empty_tag_is (s.piece.text ++ (texts s.behind ++ [])) (s.piece, texts s.behind ++ []) name attributes at.read;
    }

-- by the two kinds of items that close
by_kind : (P : Item → Type 0) (piece : Piece) → may_close piece.item ≡ true → ((name : Name) (attributes : List Attribute) → piece.item ≡ empty_tag name attributes → P (empty_tag name attributes))
    → ((name : Name) → P (end_tag name)) → P piece.item
by_kind P piece may empty closed = go piece.item refl may
  where
    go : (item : Item) → piece.item ≡ item → may_close item ≡ true → P item
    go (empty_tag name attributes) is m = empty name attributes is
    go (end_tag name) is m = closed name
    go declaration is m = cc
    go (start_tag name attributes) is m = cc
    go (character c) is m = cc
    go (reference c) is m = cc
    go (cdata cs) is m = cc
    go (comment cs) is m = cc
    go (instruction target text) is m = cc

pub placed_is_put : PlacedIsPut
placed_is_put content bytes host none e =
    let p = parts content bytes host none e in
    let Between : Item → Type 0 = λ item. with_all (for_content content (length p.front) p.piece.text item) (p.front ++ (p.piece.text ++ p.behind)) ≡ p.front ++ (with_content content p.piece.text item ++ p.behind) in
    (λ i. with_all (p.placed i) (p.joined i))
    ∙ by_kind Between p.piece p.may (λ name attributes is. opened_between content p.front p.piece.text p.behind name attributes (p.empty name attributes is))
    (λ name. closed_between content p.front p.piece.text p.behind name)
    ∙ sym p.put

-- within the bytes
pub placed_within : (content bytes : List ℕ) (host : Path) → fault bytes ≡ None → IsElementAt (document_of bytes) host → last_place (placed_inside content host bytes) ≤ length bytes
placed_within content bytes host none e =
    let p = parts content bytes host none e in
    let size : length bytes ≡ length p.front + (length p.piece.text + length p.behind) =
    ap length p.joined ∙ length-append p.front (p.piece.text ++ p.behind) ∙ ap (λ n. length p.front + n) (length-append p.piece.text p.behind) in
    let Inside : Item → Type 0 = λ item. last_place (for_content content (length p.front) p.piece.text item) ≤ length bytes in
    subst (λ all. last_place all ≤ length bytes) (sym p.placed)
    (by_kind Inside p.piece p.may
    (λ name attributes is. let w = p.empty name attributes is in let n = ap length w.is_text ∙ length-append (front_of w.inner) (0x2F ∷ 0x3E ∷ []) in
    let m : length p.piece.text ≡ length (front_of w.inner) + 2 = n in omega (arith, size, m))
    (λ name. omega (arith, size)))
