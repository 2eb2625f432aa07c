-- The fragments have no identifiers.
use Rattle.std.proofs.Common.{◌≡◌, ℕ, suc, Bool, true, false, cond, not, ◌&&◌, ◌||◌, List, [], ◌∷◌, ◌++◌, refl, ◌∙◌, ap, codes}
use Rattle.std.specs.List.{list_any}
use Rattle.base64.specs.GeneralPurpose.{encode_of}
use Rattle.base64.specs.Engines.{standard}
use Rattle.document_model.specs.Characters.{◌is◌, is_empty}
use Rattle.document_model.specs.Items.{Attribute}
use Rattle.document_model.specs.Tree.{Node, Nodes, Path, Element, Text, Comment, Instruction, no_nodes, ◌⨾◌, joined}
use Rattle.document_model.specs.NodeSets.{is_identifier, once_each, identified, identified_in}
use Rattle.document_model.specs.Insertion.{HasNoIdentifiers}
use Rattle.signature_model.specs.Fragments.{text, encoded, each, value_fragment, stamp_fragment, archive_fragment, certificates_fragment, lists_fragment, data_fragment, xades_element, in_property_list, in_unsigned, wrapped, stands_alone, content_of, Item, Value, Stamp, Data, Archive}
use Rattle.signature_model.specs.Spots.{Spot}
use Rattle.signature_model.specs.Parts.{unsigned, unsigned_signature}
use Rattle.signature_model.proofs.Lists.{neither}

-- whether an attribute may be an identifier, by its name
abbrev pub is_id_name : Attribute → Bool
is_id_name a = is_empty a.name.prefix && ((a.name.local is codes "Id") || (a.name.local is codes "ID") || (a.name.local is codes "id"))

abbrev mutual
  pub has_id_name : Nodes → Bool
  has_id_name no_nodes = false
  has_id_name (node ⨾ nodes) = has_id_name_in node || has_id_name nodes

  pub has_id_name_in : Node → Bool
  has_id_name_in (Element name attributes nodes) = list_any is_id_name attributes || has_id_name nodes
  has_id_name_in (Text cs) = false
  has_id_name_in (Comment cs) = false
  has_id_name_in (Instruction target content) = false

regroup : (a b c d : Bool) → (b && d) ≡ false → (a && b && c && d) ≡ false
regroup false b c d e = refl
regroup true false c d e = refl
regroup true true false d e = refl
regroup true true true d e = e

no_identifier : (value : List ℕ) (a : Attribute) → is_id_name a ≡ false → is_identifier value a ≡ false
no_identifier value a e = regroup (not (is_empty value)) (is_empty a.name.prefix) (a.value is value) _ e

none_once : (value : List ℕ) (path : Path) (attributes : List Attribute) → list_any is_id_name attributes ≡ false → once_each value path attributes ≡ []
none_once value path [] e = refl
none_once value path (a ∷ attributes) e =
    let h = neither (is_id_name a) (list_any is_id_name attributes) e in
    ap (λ b. cond b (path ∷ once_each value path attributes) (once_each value path attributes)) (no_identifier value a h.0) ∙ none_once value path attributes h.1

pub none_and : {A : Type 0} (xs ys : List A) → xs ≡ [] → ys ≡ [] → xs ++ ys ≡ []
none_and xs ys e f = λ i. e i ++ f i

mutual
  none_identified : (value : List ℕ) (path : Path) (k : ℕ) (nodes : Nodes) → has_id_name nodes ≡ false → identified value path k nodes ≡ []
  none_identified value path k no_nodes e = refl
  none_identified value path k (node ⨾ nodes) e =
      let h = neither (has_id_name_in node) (has_id_name nodes) e in
      none_and (identified_in value (path ++ k ∷ []) node) (identified value path (suc k) nodes)
      (none_identified_in value (path ++ k ∷ []) node h.0) (none_identified value path (suc k) nodes h.1)

  none_identified_in : (value : List ℕ) (path : Path) (node : Node) → has_id_name_in node ≡ false → identified_in value path node ≡ []
  none_identified_in value path (Element name attributes nodes) e =
      let h = neither (list_any is_id_name attributes) (has_id_name nodes) e in
      none_and (once_each value path attributes) (identified value path 0 nodes)
      (none_once value path attributes h.0) (none_identified value path 0 nodes h.1)
  none_identified_in value path (Text cs) e = refl
  none_identified_in value path (Comment cs) e = refl
  none_identified_in value path (Instruction target content) e = refl

pub without_id_names : (nodes : Nodes) → has_id_name nodes ≡ false → HasNoIdentifiers nodes
without_id_names nodes e value path k = none_identified value path k nodes e

-- Fragments.

text_plain : (cs : List ℕ) → has_id_name (text cs) ≡ false
text_plain [] = refl
text_plain (c ∷ cs) = refl

either : (a b : Bool) → a ≡ false → b ≡ false → (a || b) ≡ false
either a b e f = λ i. e i || f i

joined_plain : (a b : Nodes) → has_id_name a ≡ false → has_id_name b ≡ false → has_id_name (joined a b) ≡ false
joined_plain no_nodes b e f = f
joined_plain (Element name attributes inner ⨾ a) b e f = let h = neither (has_id_name_in (Element name attributes inner)) (has_id_name a) e in
    either _ _ h.0 (joined_plain a b h.1 f)
joined_plain (Comment cs ⨾ a) b e f = joined_plain a b e f
joined_plain (Instruction target content ⨾ a) b e f = joined_plain a b e f
joined_plain (Text cs ⨾ next ⨾ a) b e f = joined_plain (next ⨾ a) b e f
joined_plain (Text cs ⨾ no_nodes) no_nodes e f = refl
joined_plain (Text cs ⨾ no_nodes) (Text ds ⨾ b) e f = f
joined_plain (Text cs ⨾ no_nodes) (Element name attributes inner ⨾ b) e f = f
joined_plain (Text cs ⨾ no_nodes) (Comment ds ⨾ b) e f = f
joined_plain (Text cs ⨾ no_nodes) (Instruction target content ⨾ b) e f = f

each_plain : {A : Type 0} (f : A → Nodes) → ((x : A) → has_id_name (f x) ≡ false) → (xs : List A) → has_id_name (each f xs) ≡ false
each_plain f h [] = refl
each_plain f h (x ∷ xs) = joined_plain (f x) (each f xs) (h x) (each_plain f h xs)

pub value_plain : (octets : List ℕ) → HasNoIdentifiers (value_fragment octets)
value_plain octets = without_id_names (value_fragment octets) (text_plain (encode_of standard octets))

stamp_inner : (token : List ℕ) → has_id_name (encoded token) ≡ false
stamp_inner token = text_plain (encode_of standard token)

pub stamp_plain : (token : List ℕ) → has_id_name (stamp_fragment token) ≡ false
stamp_plain token = rw (stamp_inner token) refl

pub archive_plain : (token : List ℕ) → has_id_name (archive_fragment token) ≡ false
archive_plain token = rw (stamp_inner token) refl

certificates_plain : (list : List (List ℕ)) → has_id_name (certificates_fragment list) ≡ false
certificates_plain [] = refl
certificates_plain (x ∷ xs) =
    let inner = each_plain (λ octets. xades_element (codes "EncapsulatedX509Certificate") [] (encoded octets)) (λ octets i. stamp_inner octets i || false) (x ∷ xs) in
    λ i. inner i || false

lists_plain : (list : List (List ℕ)) → has_id_name (lists_fragment list) ≡ false
lists_plain [] = refl
lists_plain (x ∷ xs) =
    let inner = each_plain (λ octets. xades_element (codes "EncapsulatedCRLValue") [] (encoded octets)) (λ octets i. stamp_inner octets i || false) (x ∷ xs) in
    λ i. (inner i || false) || false

pub data_plain : (alone : Bool) (certificates lists : List (List ℕ)) → has_id_name (data_fragment alone certificates lists) ≡ false
data_plain true certificates lists = joined_plain (certificates_fragment certificates) (lists_fragment lists) (certificates_plain certificates) (lists_plain lists)
data_plain false certificates lists =
    let inner = joined_plain (certificates_fragment certificates) (lists_fragment lists) (certificates_plain certificates) (lists_plain lists) in
    λ i. inner i || false

-- what an item puts in

in_list_plain : (nodes : Nodes) → has_id_name nodes ≡ false → has_id_name (in_property_list nodes) ≡ false
in_list_plain nodes e = λ i. e i || false

in_unsigned_plain : (nodes : Nodes) → has_id_name nodes ≡ false → has_id_name (in_unsigned nodes) ≡ false
in_unsigned_plain nodes e = λ i. e i || false

wrapped_plain : (document : Nodes) (signature : Spot) (nodes : Nodes) → has_id_name nodes ≡ false → has_id_name (wrapped document signature nodes) ≡ false
wrapped_plain document signature nodes e = by_two (not (is_empty (unsigned_signature document signature))) (not (is_empty (unsigned document signature)))
  where
    by_two : (a b : Bool) → has_id_name (cond a nodes (cond b (in_property_list nodes) (in_unsigned (in_property_list nodes)))) ≡ false
    by_two true b = e
    by_two false true = in_list_plain nodes e
    by_two false false = in_unsigned_plain (in_property_list nodes) (in_list_plain nodes e)

pub content_plain : (document : Nodes) (signature : Spot) (item : Item) → HasNoIdentifiers (content_of document signature item)
content_plain document signature (Value octets) = value_plain octets
content_plain document signature (Stamp token) = without_id_names (wrapped document signature (stamp_fragment token)) (wrapped_plain document signature (stamp_fragment token) (stamp_plain token))
content_plain document signature (Data certificates lists) =
    without_id_names (wrapped document signature (data_fragment (stands_alone document signature) certificates lists))
    (wrapped_plain document signature (data_fragment (stands_alone document signature) certificates lists) (data_plain (stands_alone document signature) certificates lists))
content_plain document signature (Archive token) = without_id_names (wrapped document signature (archive_fragment token)) (wrapped_plain document signature (archive_fragment token) (archive_plain token))
