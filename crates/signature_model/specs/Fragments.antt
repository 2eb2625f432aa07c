-- What is put into documents: the fragments as nodes, their texts, and where each is put. EN 319 132-1, clauses 5.3, 5.4 and 5.5.
use Rattle.std.specs.Prelude.{ℕ, Bool, true, false, not, ◌&&◌, if◌then◌else◌, List, [], ◌∷◌, ◌++◌, flat_map, codes, encode_utf8_all}
use Rattle.std.specs.List.{list_any}
use Rattle.base64.specs.GeneralPurpose.{encode_of}
use Rattle.base64.specs.Engines.{standard}
use Rattle.document_model.specs.Characters.{is_empty}
use Rattle.document_model.specs.Names.{Name, spelled}
use Rattle.document_model.specs.Items.{Attribute}
use Rattle.document_model.specs.Tree.{Node, Nodes, Path, Element, Text, Comment, Instruction, no_nodes, ◌⨾◌, joined, put_last}
use Rattle.document_model.specs.Canonical.{attribute_text, text_character, comment_text, instruction_text}
use Rattle.document_model.specs.Methods.{exclusive_name}
use Rattle.document_model.specs.Insertion.{put_inside}
use Rattle.signature_model.specs.Vocabulary.{ds_space, xades_space, xadesv141_space}
use Rattle.signature_model.specs.Spots.{Spot, paths}
use Rattle.signature_model.specs.Parts.{PropertyKind, ArchiveStamp, value, unsigned, unsigned_signature, host, has_values, properties, kind_of}

-- The text of nodes: start tags and end tags, attributes in double quotes in their order, and nothing between.

abbrev mutual
  pub written : Nodes → List ℕ
  written no_nodes = []
  written (node ⨾ nodes) = written_node node ++ written nodes

  pub written_node : Node → List ℕ
  written_node (Element name attributes nodes) =
      codes "<" ++ spelled name ++ flat_map (λ a. attribute_text (spelled a.name) a.value) attributes ++ codes ">"
      ++ written nodes ++ codes "</" ++ spelled name ++ codes ">"
  written_node (Text cs) = flat_map text_character cs
  written_node (Comment cs) = comment_text cs
  written_node (Instruction target content) = instruction_text target content

abbrev pub written_octets : Nodes → List ℕ
written_octets nodes = encode_utf8_all (written nodes)

-- Short words for nodes.

abbrev pub prefixed : List ℕ → List ℕ → Name
prefixed prefix local = record { prefix = prefix; local = local }

-- an attribute without prefix, and the declaration of a prefix
abbrev pub having : List ℕ → List ℕ → Attribute
having local value = record { name = prefixed [] local; value = value }

abbrev pub declaring : List ℕ → List ℕ → Attribute
declaring prefix space = record { name = prefixed (codes "xmlns") prefix; value = space }

abbrev pub ds_element : List ℕ → List Attribute → Nodes → Nodes
ds_element local attributes nodes = Element (prefixed (codes "ds") local) attributes nodes ⨾ no_nodes

abbrev pub xades_element : List ℕ → List Attribute → Nodes → Nodes
xades_element local attributes nodes = Element (prefixed (codes "xades") local) attributes nodes ⨾ no_nodes

abbrev pub xadesv141_element : List ℕ → List Attribute → Nodes → Nodes
xadesv141_element local attributes nodes = Element (prefixed (codes "xadesv141") local) attributes nodes ⨾ no_nodes

abbrev pub text : List ℕ → Nodes
text [] = no_nodes
text (c ∷ cs) = Text (c ∷ cs) ⨾ no_nodes

-- unbroken base64 with padding
abbrev pub encoded : List ℕ → Nodes
encoded octets = text (encode_of standard octets)

infixr 44 ◌then◌
abbrev pub ◌then◌ : Nodes → Nodes → Nodes
nodes then behind = joined nodes behind

abbrev pub each : {A : Type 0} → (A → Nodes) → List A → Nodes
each f [] = no_nodes
each f (x ∷ xs) = f x then each f xs

-- The fragments.

abbrev pub exclusive_method : Nodes
exclusive_method =
    ds_element (codes "CanonicalizationMethod") (declaring (codes "ds") ds_space ∷ having (codes "Algorithm") exclusive_name ∷ []) no_nodes

abbrev pub value_fragment : List ℕ → Nodes
value_fragment octets = encoded octets

abbrev pub stamp_fragment : List ℕ → Nodes
stamp_fragment token =
    xades_element (codes "SignatureTimeStamp") (declaring (codes "xades") xades_space ∷ [])
    (exclusive_method then xades_element (codes "EncapsulatedTimeStamp") [] (encoded token))

abbrev pub archive_fragment : List ℕ → Nodes
archive_fragment token =
    xadesv141_element (codes "ArchiveTimeStamp") (declaring (codes "xadesv141") xadesv141_space ∷ [])
    (exclusive_method then xades_element (codes "EncapsulatedTimeStamp") (declaring (codes "xades") xades_space ∷ []) (encoded token))

abbrev pub unless_empty : List (List ℕ) → Nodes → Nodes
unless_empty [] nodes = no_nodes
unless_empty (x ∷ xs) nodes = nodes

abbrev pub certificates_fragment : List (List ℕ) → Nodes
certificates_fragment certificates = unless_empty certificates
    (xades_element (codes "CertificateValues") (declaring (codes "xades") xades_space ∷ [])
    (each (λ octets. xades_element (codes "EncapsulatedX509Certificate") [] (encoded octets)) certificates))

abbrev pub lists_fragment : List (List ℕ) → Nodes
lists_fragment lists = unless_empty lists
    (xades_element (codes "RevocationValues") (declaring (codes "xades") xades_space ∷ [])
    (xades_element (codes "CRLValues") [] (each (λ octets. xades_element (codes "EncapsulatedCRLValue") [] (encoded octets)) lists)))

abbrev pub is_archive_kind : PropertyKind → Bool
is_archive_kind ArchiveStamp = true
is_archive_kind kind = false

-- whether validation data stand for themselves
abbrev pub stands_alone : Nodes → Spot → Bool
stands_alone document signature =
    not (has_values document signature) && not (list_any (λ property. is_archive_kind (kind_of property)) (properties document signature))

abbrev pub data_fragment : Bool → List (List ℕ) → List (List ℕ) → Nodes
data_fragment alone certificates lists = let values = certificates_fragment certificates then lists_fragment lists in
    if alone then values
    else xadesv141_element (codes "TimeStampValidationData") (declaring (codes "xadesv141") xadesv141_space ∷ []) values

-- What an item puts in. Validation data are taken apart before.
pub data Item : Type 0 where
  Value : (octets : List ℕ) → Item
  Stamp : (token : List ℕ) → Item
  Data : (certificates lists : List (List ℕ)) → Item
  Archive : (token : List ℕ) → Item

abbrev pub fragment_of : Nodes → Spot → Item → Nodes
fragment_of document signature (Value octets) = value_fragment octets
fragment_of document signature (Stamp token) = stamp_fragment token
fragment_of document signature (Data certificates lists) = data_fragment (stands_alone document signature) certificates lists
fragment_of document signature (Archive token) = archive_fragment token

-- The host holds a property as it is, or in the elements that are missing.

abbrev pub in_property_list : Nodes → Nodes
in_property_list nodes = xades_element (codes "UnsignedSignatureProperties") (declaring (codes "xades") xades_space ∷ []) nodes

abbrev pub in_unsigned : Nodes → Nodes
in_unsigned nodes = xades_element (codes "UnsignedProperties") (declaring (codes "xades") xades_space ∷ []) nodes

abbrev pub wrapped : Nodes → Spot → Nodes → Nodes
wrapped document signature nodes =
    if not (is_empty (unsigned_signature document signature)) then nodes
    else (if not (is_empty (unsigned document signature)) then in_property_list nodes else in_unsigned (in_property_list nodes))

abbrev pub content_of : Nodes → Spot → Item → Nodes
content_of document signature (Value octets) = value_fragment octets
content_of document signature item = wrapped document signature (fragment_of document signature item)

abbrev pub place_of : Nodes → Spot → Item → List Path
place_of document signature (Value octets) = paths (value document signature)
place_of document signature item = paths (host document signature)

-- The document that an item gives, as nodes and as bytes.

abbrev pub put_nodes : Nodes → List Path → Nodes → Nodes
put_nodes content [] document = document
put_nodes content (path ∷ others) document = put_last content path document

abbrev pub with_item : Nodes → Spot → Item → Nodes
with_item document signature item = put_nodes (content_of document signature item) (place_of document signature item) document

abbrev pub put_octets : List ℕ → List Path → List ℕ → List ℕ
put_octets content [] bytes = bytes
put_octets content (path ∷ others) bytes = put_inside content path bytes

abbrev pub bytes_with_item : Nodes → Spot → Item → List ℕ → List ℕ
bytes_with_item document signature item bytes =
    put_octets (written_octets (content_of document signature item)) (place_of document signature item) bytes
