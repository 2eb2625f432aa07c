-- What stands at each place of a document: the item at its first byte begins its node, and a text's characters are those of its items.
use Rattle.std.proofs.Common.{◌≡◌, ℕ, List, [], ◌∷◌, drop, Some, sym, ◌∙◌, ap, subst}
use Rattle.document_model.specs.Items.{Item, Piece, piece_at}
use Rattle.document_model.specs.Tree.{Node, Nodes, tree_after, node_at}
use Rattle.document_model.specs.Documents.{run, limits, document_of}
use Rattle.document_model.specs.Places.{Place, places_of}
use Rattle.doc_spans.specs.Marks.{items_of, places_after, Follow}
use Rattle.doc_spans.specs.Texts.{IsTextOf}
use Rattle.doc_spans.specs.View.{Each}
use Rattle.doc_spans.proofs.Each.{each_map, each_weaker}
use Rattle.doc_spans.proofs.Marks.{onto}
use Rattle.doc_spans.proofs.Named.{IsMark, head_of, places, marks_after, marks_name, marks_places}
use Rattle.doc_spans.proofs.Read.{WereRead, StandsAt, run_was_read, marks_stand}
use Rattle.doc_spans.proofs.Run.{run_good, places_of_run}
use Rattle.doc_spans.proofs.Stays.{head}
use Rattle.doc_spans.proofs.TextPlaces.{Turned, texts_turned, each_both}

-- the node of a place, with the item that stands at its first byte, in a tree
pub record SeenIn (bytes : List ℕ) (tree : Nodes) (place : Place) : Type 0 where
  pub piece : Piece
  pub read : piece_at (drop place.start bytes) ≡ Some (piece, drop place.first_end bytes)
  pub node : Node
  pub named : node_at tree place.path ≡ Some node
  pub begun : Some (head node) ≡ head_of piece.item
  pub text : IsTextOf bytes tree place

abbrev pub IsSeen : List ℕ → Place → Type 0
IsSeen bytes place = SeenIn bytes (document_of bytes) place

turned_all : (bytes : List ℕ) (pieces : List Piece) → WereRead bytes pieces → Follow (items_of pieces) → Turned bytes pieces
turned_all bytes [] r h = record { texts = tt; last = λ inner text. tt }
turned_all bytes (piece ∷ before) r h = texts_turned bytes before piece h h.1 r.0 (turned_all bytes before r.1 h.1)

-- a mark's item
abbrev Stands : List ℕ → Nodes → Place → Type 0
Stands bytes tree place = (item : Item) × StandsAt bytes (place, item) × IsMark tree (place, item)

seen_of : (bytes : List ℕ) (tree : Nodes) (place : Place) → Stands bytes tree place × IsTextOf bytes tree place → SeenIn bytes tree place
seen_of bytes tree place h =
    let stands = h.0.1 in
    let mark = h.0.2 in record {
      piece = stands.0;
      read = stands.1;
      node = mark.0;
      named = mark.1;
      begun = mark.2 ∙ ap head_of (sym stands.2);
      text = h.1;
    }

seen_after : (bytes : List ℕ) (pieces : List Piece) → WereRead bytes pieces → Follow (items_of pieces) → Each (SeenIn bytes (tree_after (items_of pieces))) (places_after pieces)
seen_after bytes pieces r h =
    let tree = tree_after (items_of pieces) in
    let P : List Place → Type 0 = Each (Stands bytes tree) in
    let marks : Each (Stands bytes tree) (places (marks_after pieces)) =
    each_map (λ mark. StandsAt bytes mark × IsMark tree mark) (Stands bytes tree) (λ mark. mark.0) (λ mark m. (mark.1, m.0, m.1)) (marks_after pieces)
    (each_both (StandsAt bytes) (IsMark tree) (marks_after pieces) (marks_stand bytes pieces r) (marks_name pieces h)) in
    each_weaker (λ place. Stands bytes tree place × IsTextOf bytes tree place) (SeenIn bytes tree) (seen_of bytes tree) (places_after pieces)
    (each_both (Stands bytes tree) (IsTextOf bytes tree) (places_after pieces) (subst P (marks_places pieces) marks) (turned_all bytes pieces r h).texts)

pub places_seen : (bytes : List ℕ) → Each (IsSeen bytes) (places_of bytes)
unfolding document_of
places_seen bytes =
    let pieces = onto (run limits bytes).pieces [] in
    let good = run_good limits _ [] bytes tt in
    let P : List Place → Type 0 = λ ps. Each (SeenIn bytes (document_of bytes)) ps in
    let Q : Nodes → Type 0 = λ tree. Each (SeenIn bytes tree) (places_after pieces) in
    subst P (sym (places_of_run bytes)) (subst Q (ap tree_after good.before) (seen_after bytes pieces (run_was_read bytes) good.follow))
