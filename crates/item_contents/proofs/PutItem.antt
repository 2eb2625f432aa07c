-- An item that is put into a document that is kept.
use Rattle.std.proofs.Common.{◌≡◌, inl, inr, ℕ, ◌<◌, Bool, List, [], ◌∷◌, length, Option, Some, None, Result, Ok, Err, OnOk, refl, sym, ◌∙◌, ap, subst}
use Rattle.std.specs.Prelude.{option_map}
use Rattle.attached_items.specs.ReadAgain.{IsReadFree}
use Rattle.attached_lists.specs.Accepted.{IsReadFile, IsAccepted}
use Rattle.attached_lists.proofs.Files.{item_holds, item_spelled}
use Rattle.covered_items.specs.Whole.{HasBytes, IsWholeItem}
use Rattle.covered_items.proofs.WholeBytes.{item_bytes}
use Rattle.document_model.specs.Documents.{fault, document_of}
use Rattle.document_model.specs.Insertion.{put_inside}
use Rattle.document_model.specs.Scopes.{Tag}
use Rattle.document_model.specs.Tree.{Nodes, Path, IsElementAt, node_at}
use Rattle.doc_spans.specs.declared.documents.Doc.{Doc}
use Rattle.doc_spans.specs.declared.documents.NodeId.{NodeId}
use Rattle.doc_spans.specs.declared.rows.Kind.TheVariants as kinds
use Rattle.doc_spans.specs.Seen.{bytes_in, document_in, shown_in}
use Rattle.doc_spans.specs.Shown as trees
use Rattle.doc_spans.specs.Shown.{kind_of, path_at}
use Rattle.insertions.specs.Content.{IsContent, PassedBy}
use Rattle.insertions.specs.Live.{IsContentOf, IsPassed, IsTooLarge}
use Rattle.insertions.proofs.ByCalls.{element_at}
use Rattle.insertion_fragments.proofs.ItemFragments.{item_is, own_first}
use Rattle.insertion_fragments.proofs.WrittenNodes.{are_content}
use Rattle.qualifying_props.specs.PartsOf.{AreParts}
use Rattle.qualifying_props.specs.Shown.{Shown}
use Rattle.qualifying_props.specs.Whole.{is_whole}
use Rattle.signature_elements.specs.Standing.{spot_of}
use Rattle.signature_model.specs.Fragments.{Item, Value, Stamp, Data, Archive, bytes_with_item, content_of, data_fragment, place_of, put_octets, stamp_fragment, archive_fragment, stands_alone, with_item, written_octets}
use Rattle.signature_model.specs.Keeping.{MayTake}
use Rattle.signature_model.specs.Spots.{Spot, paths}
use Rattle.item_contents.specs.Contents.{content_by, place_by, stand_alone}
use Rattle.item_contents.specs.Hosts.{IsHost, in_host}
use Rattle.item_contents.specs.Kept.{ArePartsOf, PassesLimit, spot_in}
use Rattle.item_contents.specs.declared.hosts.Host.{Host}
use Rattle.item_contents.proofs.Alone.{alone_in}

-- What is written is what the item puts in.
pub content_is : (document : Nodes) (signature : Spot) (host : Host) (alone : Bool) (item : Item) → IsHost document signature host → alone ≡ stands_alone document signature
    → content_by host alone item ≡ content_of document signature item
content_is document signature host alone (Value octets) h e = refl
content_is document signature host alone (Stamp token) h e = sym (h (stamp_fragment token))
content_is document signature host alone (Data certificates lists) h e =
    ap (λ b. in_host host (data_fragment b certificates lists)) e ∙ sym (h (data_fragment (stands_alone document signature) certificates lists))
content_is document signature host alone (Archive token) h e = sym (h (archive_fragment token))

pub node_host : (doc : Doc) (a b : NodeId) (host : Host) → a ≡ b → IsHost (document_in doc) (spot_of doc a) host → IsHost (document_in doc) (spot_of doc b) host
node_host doc a b host e h = subst (λ (n : NodeId). IsHost (document_in doc) (spot_of doc n) host) e h

-- The place of an item, by the parts of the signature.
pub record IsPlaced (bytes : List ℕ) (tree : trees.Shown) (parts : Shown) (item : Item) : Type 0 where
  pub place : place_of (document_of bytes) (spot_in bytes tree parts.signature) item ≡ path_at tree (place_by parts item).0 ∷ []
  pub has : (place_by parts item).0 < length tree.places
  pub element : option_map kind_of (node_at (document_of bytes) (path_at tree (place_by parts item).0)) ≡ Some kinds.Element

placed_in : (doc : Doc) (parts : Shown) (item : Item) → AreParts doc parts → IsPlaced (bytes_in doc) (shown_in doc) parts item
placed_in doc parts (Value octets) are = record { place = sym (ap paths are.value_node.spot); has = are.value_node.there.0; element = are.value_node.there.1 }
placed_in doc parts (Stamp token) are = record { place = sym (ap paths are.host.spot); has = are.host.there.0; element = are.host.there.1 }
placed_in doc parts (Data certificates lists) are = record { place = sym (ap paths are.host.spot); has = are.host.there.0; element = are.host.there.1 }
placed_in doc parts (Archive token) are = record { place = sym (ap paths are.host.spot); has = are.host.there.0; element = are.host.there.1 }

-- what holds of the bytes and the tree of a document
pub along : (P : List ℕ → trees.Shown → Type 0) (a b : List ℕ) (s t : trees.Shown) → a ≡ b → s ≡ t → P a s → P b t
along P a b s t e f p = subst (λ (x : List ℕ). P x t) e (subst (λ (x : trees.Shown). P a x) f p)

pub placed : (bytes : List ℕ) (tree : trees.Shown) (parts : Shown) (item : Item) → ArePartsOf bytes tree parts → IsPlaced bytes tree parts item
placed bytes tree parts item are =
    along (λ b t. IsPlaced b t parts item) (bytes_in are.0) bytes (shown_in are.0) tree are.1 are.2 (placed_in are.0 parts item are.3)

pub signature_there : (bytes : List ℕ) (tree : trees.Shown) (parts : Shown) → ArePartsOf bytes tree parts → parts.signature.0 < length tree.places
signature_there bytes tree parts are = subst (λ (t : trees.Shown). parts.signature.0 < length t.places) are.2 are.3.counted.there.0

pub alone_is : (bytes : List ℕ) (tree : trees.Shown) (parts : Shown) → ArePartsOf bytes tree parts → stand_alone parts ≡ stands_alone (document_of bytes) (spot_in bytes tree parts.signature)
alone_is bytes tree parts are =
    along (λ b t. stand_alone parts ≡ stands_alone (document_of b) (spot_in b t parts.signature)) (bytes_in are.0) bytes (shown_in are.0) tree are.1 are.2 (alone_in are.0 parts are.3)

pub host_is : (bytes : List ℕ) (tree : trees.Shown) (parts : Shown) (doc : Doc) (host : Host) → bytes_in doc ≡ bytes → shown_in doc ≡ tree → IsHost (document_in doc) (spot_of doc parts.signature) host
    → IsHost (document_of bytes) (spot_in bytes tree parts.signature) host
host_is bytes tree parts doc host e f h = along (λ b t. IsHost (document_of b) (spot_in b t parts.signature) host) (bytes_in doc) bytes (shown_in doc) tree e f h

-- It is legal content.
item_legal : (bytes : List ℕ) (signature : Spot) (item : Item) (path : Path) → HasBytes item → IsElementAt (document_of bytes) path
    → IsContentOf bytes path (written_octets (content_of (document_of bytes) signature item))
item_legal bytes signature item path h e =
    let nodes : Nodes = content_of (document_of bytes) signature item in
    let first = own_first (document_of bytes) path e in
    subst (λ (tags : List Tag). IsContent tags (written_octets nodes)) (sym first.2)
    (are_content first.0 first.1 nodes (item_is (first.0 ∷ first.1) (document_of bytes) signature item h)).0

passed_by : (tree : Nodes) (found : Option _) → PassedBy tree found → IsPassed found
passed_by tree found p = (p.0, elim p.1 [ inl deep ↦ inl deep.0 | inr many ↦ inr many.0 ])

-- What is known before an item is put in.
pub record IsReady (bytes : List ℕ) (tree : trees.Shown) (parts : Shown) (item : Item) : Type 0 where
  pub none : fault bytes ≡ None
  pub are : ArePartsOf bytes tree parts
  pub read : IsReadFree is_whole (document_of bytes) (spot_in bytes tree parts.signature)
  pub may : MayTake (document_of bytes) (spot_in bytes tree parts.signature) item
  pub whole : IsWholeItem is_whole item

-- The content, and the element that it is put into.
pub record IsWritten (bytes : List ℕ) (tree : trees.Shown) (parts : Shown) (item : Item) (content : List ℕ) (node : NodeId) : Type 0 where
  pub content_is : content ≡ written_octets (content_of (document_of bytes) (spot_in bytes tree parts.signature) item)
  pub node_is : node ≡ place_by parts item

module _ (bytes : List ℕ) (tree : trees.Shown) (parts : Shown) (item : Item) (content : List ℕ) (node : NodeId) (r : IsReady bytes tree parts item) (w : IsWritten bytes tree parts item content node) where
  abbrev signature : Spot
  signature = spot_in bytes tree parts.signature

  abbrev item_bytes_new : List ℕ
  item_bytes_new = bytes_with_item (document_of bytes) signature item bytes

  pub node_has : node.0 < length tree.places
  node_has = subst (λ (n : NodeId). n.0 < length tree.places) (sym w.node_is) (placed bytes tree parts item r.are).has

  pub node_element : option_map kind_of (node_at (document_of bytes) (path_at tree node.0)) ≡ Some kinds.Element
  node_element = subst (λ (n : NodeId). option_map kind_of (node_at (document_of bytes) (path_at tree n.0)) ≡ Some kinds.Element) (sym w.node_is) (placed bytes tree parts item r.are).element

  pub is_legal : IsContentOf bytes (path_at tree node.0) content
  is_legal =
      subst (λ (octets : List ℕ). IsContentOf bytes (path_at tree node.0) octets) (sym w.content_is)
      (item_legal bytes signature item (path_at tree node.0) (item_bytes is_whole item r.whole) (element_at (document_of bytes) (path_at tree node.0) node_element))

  pub is_put : put_inside content (path_at tree node.0) bytes ≡ item_bytes_new
  is_put =
      (λ i. put_inside (w.content_is i) (path_at tree (w.node_is i).0) bytes)
      ∙ ap (λ all. put_octets (written_octets (content_of (document_of bytes) signature item)) all bytes) (sym (placed bytes tree parts item r.are).place)

  pub is_large : IsTooLarge bytes (path_at tree node.0) content → PassesLimit item_bytes_new
  is_large large = subst PassesLimit is_put (elim large [
    | inl long ↦ inl long
    | inr passed ↦ inr (passed_by _ _ (passed is_legal))
  ])

  accepted : (new : List ℕ) → new ≡ put_inside content (path_at tree node.0) bytes → fault new ≡ None → IsAccepted is_whole signature bytes item
  accepted new e none = record { may = r.may; whole = r.whole; fits = ap fault (sym (e ∙ is_put)) ∙ none }

  pub is_spelled : (new : List ℕ) → new ≡ put_inside content (path_at tree node.0) bytes → fault new ≡ None → document_of new ≡ with_item (document_of bytes) signature item
  is_spelled new e none = ap document_of (e ∙ is_put) ∙ item_spelled is_whole signature bytes item (record { right = r.none; is_read = r.read }) (accepted new e none)

  pub is_read : (new : List ℕ) → new ≡ put_inside content (path_at tree node.0) bytes → fault new ≡ None → IsReadFile is_whole signature new
  is_read new e none =
      subst (IsReadFile is_whole signature) (sym (e ∙ is_put)) (item_holds is_whole signature bytes item (record { right = r.none; is_read = r.read }) (accepted new e none)).later_read

-- two facts of an answer
pub on_both : {T E P Q R : Type 0} (r : Result T E) → (P → Q → R) → OnOk r P → OnOk r Q → OnOk r R
on_both (Ok x) f p q = f p q
on_both (Err e) f p q = tt
