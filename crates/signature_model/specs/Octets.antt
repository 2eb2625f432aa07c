-- The octets that References, the value and stamps cover: XML Signature 1.1, "The Reference Processing Model", "Core Generation" and
-- "Reference Validation"; EN 319 132-1, clauses 5.3 and 5.5.2.
use Rattle.std.specs.Prelude.{ℕ, Bool, false, List, [], ◌∷◌, ◌++◌, flat_map, Option, Some, None}
use Rattle.document_model.specs.Tree.{Nodes, Path}
use Rattle.document_model.specs.NodeSets.{NodeSet, subtree}
use Rattle.document_model.specs.Canonical.{Form, Exclusive, octets_of}
use Rattle.signature_model.specs.Vocabulary.{DigestKind}
use Rattle.signature_model.specs.Spots.{Spot}
use Rattle.signature_model.specs.Parts.{signed_info, value, key_info, other_objects, method, references, properties, digest_kind, digest_methods, digest_values, has_digest, octets_or_none, plain_form, form_or, stamp_form, PropertyKind, SignatureStamp, ArchiveStamp, Material, Passed, kind_of}
use Rattle.signature_model.specs.Chains.{Handed, Chain, Meaning, Set, Octets, NoMeaning, place, chain, node_set, handed_in, made_of_set, made_of_octets}

-- the meaning of a Reference: what its chain makes of its nodes, or of the octets handed in
abbrev pub by_chain : Nodes → Option NodeSet → Option (List ℕ) → Option Chain → Meaning
by_chain document set given None = NoMeaning
by_chain document (Some set) given (Some chain) = made_of_set octets_of document set chain.made
by_chain document None None (Some chain) = NoMeaning
by_chain document None (Some given) (Some chain) = made_of_octets given chain.made

abbrev pub meaning : Handed → Nodes → Path → Spot → Meaning
meaning handed document signature reference =
    by_chain document (node_set document signature reference) (handed_in handed (place reference) reference) (chain document reference)

-- the octets of a meaning, where nodes are made octets by a form
abbrev pub octets_by : Form → Nodes → Meaning → List ℕ
octets_by form document (Set set) = octets_of form set document
octets_by form document (Octets octets) = octets
octets_by form document NoMeaning = []

-- the octets of a Reference for its digest, and in an archive stamp
abbrev pub reference_octets : Form → Handed → Nodes → Path → Spot → List ℕ
reference_octets form handed document signature reference = octets_by form document (meaning handed document signature reference)

abbrev pub digest_octets : Handed → Nodes → Path → Spot → List ℕ
digest_octets handed document signature reference = reference_octets plain_form handed document signature reference

-- whether they have the digest that the Reference tells
abbrev pub has_its_digest : (DigestKind → List ℕ → List ℕ) → Handed → Nodes → Path → Spot → Bool
has_its_digest digest handed document signature reference =
    has_digest digest (digest_kind (digest_methods document (reference ∷ []))) (octets_or_none document (digest_values document (reference ∷ [])))
    (digest_octets handed document signature reference)

-- the texts of elements as subtrees, joined
abbrev pub subtree_octets : Form → Nodes → Spot → List ℕ
subtree_octets form document spot = octets_of form (subtree spot.path) document

abbrev pub joined_octets : Form → Nodes → List Spot → List ℕ
joined_octets form document spots = flat_map (subtree_octets form document) spots

-- value octets: SignedInfo by its CanonicalizationMethod
abbrev pub value_octets : Nodes → Spot → List ℕ
value_octets document signature =
    joined_octets (form_or plain_form document (method document signature)) document (signed_info document signature)

-- signature stamp octets: SignatureValue by the property's form
abbrev pub stamp_octets : Form → Nodes → Spot → List ℕ
stamp_octets form document signature = joined_octets form document (value document signature)

-- archive octets: each Reference; SignedInfo, SignatureValue and KeyInfo; the properties before; the Objects but that of the properties
abbrev pub archive_octets : Form → Handed → Nodes → Spot → List Spot → List ℕ
archive_octets form handed document signature before =
    flat_map (reference_octets form handed document signature.path) (references document signature)
    ++ joined_octets form document (signed_info document signature ++ value document signature ++ key_info document signature)
    ++ joined_octets form document before
    ++ joined_octets form document (other_objects document signature)

-- of a stamp of a kind with a form that stands behind some properties
abbrev pub octets_of_stamp : PropertyKind → Form → Handed → Nodes → Spot → List Spot → List ℕ
octets_of_stamp SignatureStamp form handed document signature before = stamp_octets form document signature
octets_of_stamp ArchiveStamp form handed document signature before = archive_octets form handed document signature before
octets_of_stamp Material form handed document signature before = []
octets_of_stamp Passed form handed document signature before = []

-- of an existing property
abbrev pub octets_at : Handed → Nodes → Spot → List Spot → Spot → List ℕ
octets_at handed document signature before property =
    octets_of_stamp (kind_of property) (stamp_form document property) handed document signature before

-- of the next one: all existing properties are before it, and its form is exclusive without comments
abbrev pub next_form : Form
next_form = record { rule = Exclusive []; comments = false }

abbrev pub next_octets : PropertyKind → Handed → Nodes → Spot → List ℕ
next_octets kind handed document signature = octets_of_stamp kind next_form handed document signature (properties document signature)
