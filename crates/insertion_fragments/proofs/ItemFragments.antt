-- The fragments of items are such nodes.
use Rattle.std.proofs.Common.{◌≡◌, ℕ, zero, suc, ◌+◌, ◌*◌, ◌/◌, ◌%◌, ◌<◌, Bool, true, false, cond, not, ◌&&◌, List, [], ◌∷◌, length, Some, refl, sym, subst, arith, codes}
use Rattle.std.proofs.lemmas.Bool.{and_parts}
use Rattle.std.specs.Prelude.{replicate, slice_index}
use Rattle.std.specs.List.{list_all}
use Rattle.std.specs.Char.{encode_utf8}
use Rattle.base64.specs.Rfc4648.{encode_symbols, padding_len}
use Rattle.base64.specs.GeneralPurpose.{encode_of}
use Rattle.base64.specs.Engines.{standard}
use Rattle.document_model.specs.Names.{Name, spelled, name_of}
use Rattle.document_model.specs.Tree.{Node, Nodes, Path, Element, Text, Comment, Instruction, IsElement, IsElementAt, joined, put_last}
use Rattle.document_model.specs.Insertion.{put_inside}
use Rattle.signature_model.specs.Vocabulary.{xades_space, xadesv141_space}
use Rattle.document_model.specs.Scopes.{Tag, is_sound, tags_at, with_tag_of, elements_around}
use Rattle.document_model.specs.Documents.{document_of}
use Rattle.document_model.specs.Characters.{is_empty}
use Rattle.signature_model.specs.Spots.{Spot}
use Rattle.signature_model.specs.Parts.{unsigned, unsigned_signature}
use Rattle.signature_model.specs.Fragments as fragments
use Rattle.signature_model.specs.Fragments.{text, encoded, each, exclusive_method, value_fragment, stamp_fragment, archive_fragment, certificates_fragment, lists_fragment, data_fragment, stands_alone, xades_element, in_property_list, in_unsigned, wrapped, content_of, place_of, with_item, bytes_with_item, written_octets, put_octets, put_nodes}
use Rattle.doc_spans.proofs.Outward.{own_tag}
use Rattle.insertions.specs.Content.{IsContent, nodes_of_content, SpellsWithin}
use Rattle.insertions.proofs.Law.{content_spelled}
use Rattle.insertions.proofs.Quiet.{all_both}
use Rattle.insertion_fragments.specs.Fragment.{is_simple, IsSimpleName, IsFragment}
use Rattle.base64.specs.GeneralPurpose.{IsBytes}
use Rattle.covered_items.specs.Whole.{EachBytes, HasBytes}
use Rattle.insertion_fragments.specs.Items.{ItemsAreSpelled}
use Rattle.insertion_fragments.proofs.WrittenNodes.{are_content}

-- base64

in_table : (t : List ℕ) (i : ℕ) → list_all is_simple t ≡ true → i < length t → is_simple (slice_index t i) ≡ true
in_table [] i h l = absurd (omega (arith, l))
in_table (c ∷ t) zero h l = (and_parts (is_simple c) (list_all is_simple t) h).0
in_table (c ∷ t) (suc i) h l = in_table t i (and_parts (is_simple c) (list_all is_simple t) h).1 (omega (arith, l))

symbol : (i : ℕ) → i < 64 → is_simple (slice_index standard.encode_table i) ≡ true
symbol i h = in_table standard.encode_table i refl h

symbols_simple : (m : List ℕ) → IsBytes m → list_all is_simple (encode_symbols standard.encode_table m) ≡ true
unfolding encode_symbols
symbols_simple [] h = refl
symbols_simple (a ∷ []) h =
    let la : a < 256 = h 0 in
    λ i. symbol (a / 4) (omega (arith, la)) i && (symbol (a % 4 * 16) (omega arith) i && true)
symbols_simple (a ∷ b ∷ []) h =
    let la : a < 256 = h 0 in
    let lb : b < 256 = h 1 in
    λ i. symbol (a / 4) (omega (arith, la)) i && (symbol (a % 4 * 16 + b / 16) (omega (arith, lb)) i && (symbol (b % 16 * 4) (omega arith) i && true))
symbols_simple (a ∷ b ∷ c ∷ rest) h =
    let la : a < 256 = h 0 in
    let lb : b < 256 = h 1 in
    let lc : c < 256 = h 2 in
    λ i. symbol (a / 4) (omega (arith, la)) i && (symbol (a % 4 * 16 + b / 16) (omega (arith, lb)) i && (symbol (b % 16 * 4 + c / 64) (omega (arith, lc)) i
    && (symbol (c % 64) (omega arith) i && symbols_simple rest (λ j. h (suc (suc (suc j)))) i)))

padding_simple : (n : ℕ) → list_all is_simple (replicate n 61) ≡ true
padding_simple zero = refl
padding_simple (suc n) = padding_simple n

pub base64_simple : (m : List ℕ) → IsBytes m → list_all is_simple (encode_of standard m) ≡ true
base64_simple m h = all_both is_simple (encode_symbols standard.encode_table m) (replicate (padding_len (length m)) 61) (symbols_simple m h) (padding_simple (padding_len (length m)))

pub text_fragment : (tags : List Tag) (cs : List ℕ) → list_all is_simple cs ≡ true → IsFragment tags (text cs)
text_fragment tags [] h = tt
text_fragment tags (c ∷ cs) h = ((h, refl), tt)

pub encoded_fragment : (tags : List Tag) (octets : List ℕ) → IsBytes octets → IsFragment tags (encoded octets)
encoded_fragment tags octets h = text_fragment tags (encode_of standard octets) (base64_simple octets h)

-- elements

pub simple_name : (name : Name) → name_of (spelled name) ≡ Some name → list_all is_simple (spelled name) ≡ true → IsSimpleName name
simple_name name n s = record { named = n; simple = s }

method_fragment : (tags : List Tag) → IsFragment tags exclusive_method
unfolding is_sound encode_utf8
method_fragment tags = ((simple_name _ refl refl, (simple_name _ refl refl, refl, (simple_name _ refl refl, refl, tt)), omega arith, refl, tt), tt)

-- the scope of a xades element that declares the prefix
abbrev under_xades : List ℕ → List Tag → List Tag
under_xades local tags = record { name = fragments.prefixed (codes "xades") local; attributes = fragments.declaring (codes "xades") xades_space ∷ [] } ∷ tags

abbrev under_archive : List Tag → List Tag
under_archive tags = record { name = fragments.prefixed (codes "xadesv141") (codes "ArchiveTimeStamp"); attributes = fragments.declaring (codes "xadesv141") xadesv141_space ∷ [] } ∷ tags

stamp_is : (tags : List Tag) (token : List ℕ) → IsBytes token → IsFragment tags (stamp_fragment token)
unfolding is_sound encode_utf8
stamp_is tags token h = (
  (
    simple_name _ refl refl,
    (simple_name _ refl refl, refl, tt),
    omega arith,
    refl,
    ((method_fragment (under_xades (codes "SignatureTimeStamp") tags)).0, ((simple_name _ refl refl, tt, omega arith, refl, encoded_fragment _ token h), tt)),
  ),
  tt,
)

archive_is : (tags : List Tag) (token : List ℕ) → IsBytes token → IsFragment tags (archive_fragment token)
unfolding is_sound encode_utf8
archive_is tags token h = (
  (
    simple_name _ refl refl,
    (simple_name _ refl refl, refl, tt),
    omega arith,
    refl,
    ((method_fragment (under_archive tags)).0, ((simple_name _ refl refl, (simple_name _ refl refl, refl, tt), omega arith, refl, encoded_fragment _ token h), tt)),
  ),
  tt,
)

certificates_in : (tags : List Tag) (xs : List (List ℕ)) → EachBytes xs
    → IsFragment (under_xades (codes "CertificateValues") tags) (each (λ octets. xades_element (codes "EncapsulatedX509Certificate") [] (encoded octets)) xs)
unfolding is_sound encode_utf8
certificates_in tags [] h = tt
certificates_in tags (x ∷ xs) h = ((simple_name _ refl refl, tt, omega arith, refl, encoded_fragment _ x h.0), certificates_in tags xs h.1)

certificates_are : (tags : List Tag) (xs : List (List ℕ)) → EachBytes xs → IsFragment tags (certificates_fragment xs)
unfolding is_sound encode_utf8
certificates_are tags [] h = tt
certificates_are tags (x ∷ xs) h = ((simple_name _ refl refl, (simple_name _ refl refl, refl, tt), omega arith, refl, certificates_in tags (x ∷ xs) h), tt)

lists_in : (tags : List Tag) (xs : List (List ℕ)) → EachBytes xs
    → IsFragment (record { name = fragments.prefixed (codes "xades") (codes "CRLValues"); attributes = [] } ∷ under_xades (codes "RevocationValues") tags)
    (each (λ octets. xades_element (codes "EncapsulatedCRLValue") [] (encoded octets)) xs)
unfolding is_sound encode_utf8
lists_in tags [] h = tt
lists_in tags (x ∷ xs) h = ((simple_name _ refl refl, tt, omega arith, refl, encoded_fragment _ x h.0), lists_in tags xs h.1)

lists_are : (tags : List Tag) (xs : List (List ℕ)) → EachBytes xs → IsFragment tags (lists_fragment xs)
unfolding is_sound encode_utf8
lists_are tags [] h = tt
lists_are tags (x ∷ xs) h =
    ((simple_name _ refl refl, (simple_name _ refl refl, refl, tt), omega arith, refl, ((simple_name _ refl refl, tt, omega arith, refl, lists_in tags (x ∷ xs) h), tt)), tt)

values_are : (tags : List Tag) (certificates lists : List (List ℕ)) → EachBytes certificates → EachBytes lists
    → IsFragment tags (joined (certificates_fragment certificates) (lists_fragment lists))
values_are tags [] lists h k = lists_are tags lists k
values_are tags (x ∷ xs) lists h k = ((certificates_are tags (x ∷ xs) h).0, lists_are tags lists k)

data_is : (tags : List Tag) (alone : Bool) (certificates lists : List (List ℕ)) → EachBytes certificates → EachBytes lists → IsFragment tags (data_fragment alone certificates lists)
unfolding is_sound encode_utf8
data_is tags true certificates lists h k = values_are tags certificates lists h k
data_is tags false certificates lists h k =
    ((simple_name _ refl refl, (simple_name _ refl refl, refl, tt), omega arith, refl, values_are _ certificates lists h k), tt)

property_list : (tags : List Tag) (nodes : Nodes) → ((tags : List Tag) → IsFragment tags nodes) → IsFragment tags (in_property_list nodes)
unfolding is_sound encode_utf8
property_list tags nodes f = ((simple_name _ refl refl, (simple_name _ refl refl, refl, tt), omega arith, refl, f _), tt)

in_unsigned_is : (tags : List Tag) (nodes : Nodes) → ((tags : List Tag) → IsFragment tags nodes) → IsFragment tags (in_unsigned nodes)
unfolding is_sound encode_utf8
in_unsigned_is tags nodes f = ((simple_name _ refl refl, (simple_name _ refl refl, refl, tt), omega arith, refl, f _), tt)

wrapped_is : (tags : List Tag) (document : Nodes) (signature : Spot) (nodes : Nodes) → ((tags : List Tag) → IsFragment tags nodes) → IsFragment tags (wrapped document signature nodes)
wrapped_is tags document signature nodes f = go (not (is_empty (unsigned_signature document signature))) (not (is_empty (unsigned document signature)))
  where
    go : (a b : Bool) → IsFragment tags (cond a nodes (cond b (in_property_list nodes) (in_unsigned (in_property_list nodes))))
    go true b = f tags
    go false true = property_list tags nodes f
    go false false = in_unsigned_is tags (in_property_list nodes) (λ tags. property_list tags nodes f)

pub item_is : (tags : List Tag) (document : Nodes) (signature : Spot) (item : fragments.Item) → HasBytes item → IsFragment tags (content_of document signature item)
item_is tags document signature (fragments.Value octets) h = encoded_fragment tags octets h
item_is tags document signature (fragments.Stamp token) h = wrapped_is tags document signature (stamp_fragment token) (λ tags. stamp_is tags token h)
item_is tags document signature (fragments.Data certificates lists) h =
    wrapped_is tags document signature (data_fragment (stands_alone document signature) certificates lists) (λ tags. data_is tags (stands_alone document signature) certificates lists h.0 h.1)
item_is tags document signature (fragments.Archive token) h = wrapped_is tags document signature (archive_fragment token) (λ tags. archive_is tags token h)

-- So the law serves.

pub own_first : (document : Nodes) (path : Path) → IsElementAt document path → (tag : Tag) × (outer : List Tag) × (tags_at document path ≡ tag ∷ outer)
own_first document path e = go e.0 e.2 (own_tag document path e.0 e.1)
  where
    go : (node : Node) → IsElement node → tags_at document path ≡ with_tag_of node (elements_around document path) → (tag : Tag) × (outer : List Tag) × (tags_at document path ≡ tag ∷ outer)
    go (Element name attributes inner) h e = (record { name = name; attributes = attributes }, elements_around document path, e)
    go (Text cs) h e = absurd h
    go (Comment cs) h e = absurd h
    go (Instruction target content) h e = absurd h

abbrev Legal : List ℕ → Nodes → List Tag → Type 0
Legal written nodes tags = (c : IsContent tags written) × (nodes_of_content c ≡ nodes)

pub items_spelled : ItemsAreSpelled
items_spelled bytes signature item path others none h at e =
    let document : Nodes = document_of bytes in
    let nodes : Nodes = content_of document signature item in
    let written : List ℕ = written_octets nodes in
    let first = own_first document path e in
    let legal : Legal written nodes (tags_at document path) =
    subst (Legal written nodes) (sym first.2) (are_content first.0 first.1 nodes (item_is (first.0 ∷ first.1) document signature item h)) in
    let spelled : SpellsWithin (put_inside written path bytes) (put_last nodes path document) =
    subst (λ n. SpellsWithin (put_inside written path bytes) (put_last n path document)) legal.1 (content_spelled written bytes path none e legal.0) in
    let P : List Path → Type 0 = λ paths. SpellsWithin (put_octets written paths bytes) (put_nodes nodes paths document) in
    subst P (sym at) spelled
