-- What a Reference names: targets, chains of transforms, and their faults. XML Signature 1.1, "The Reference Element", "The Reference
-- Processing Model", "The Transforms Element" and "Transform Algorithms".
use Rattle.std.specs.Prelude.{ℕ, suc, Bool, true, false, ◌&&◌, if◌then◌else◌, List, [], ◌∷◌, ◌++◌, map, Option, Some, None, is_none, option_and_then, codes}
use Rattle.std.specs.Option.{option_map_or}
use Rattle.document_model.specs.Characters.{◌is◌, begins_with}
use Rattle.document_model.specs.Items.{or_else}
use Rattle.document_model.specs.Tree.{Node, Nodes, Path, Element, Text, Comment, Instruction, no_nodes, ◌⨾◌}
use Rattle.document_model.specs.NodeSets.{NodeSet, subtree, without_comments, without, part, target_of, Target, Missing, Single, Double}
use Rattle.document_model.specs.Canonical.{Form}
use Rattle.signature_model.specs.Vocabulary.{ds, enveloped_name, base64_name}
use Rattle.signature_model.specs.Spots.{Spot, is_called, attribute, without_white}
use Rattle.signature_model.specs.Base64.{strict, fault_in}
use Rattle.signature_model.specs.Parts.{form_in, digest_methods, digest_kind, uri, transforms}

-- octets that are handed in, by the URI of an external Reference
abbrev pub Handed : Type 0
Handed = List ℕ → Option (List ℕ)

-- Targets: XML Signature 1.1, "The URI Attribute" and "Same-Document URI-References".

pub data Place : Type 0 where
  Document : Place
  Named : (identifier : List ℕ) → Place
  External : Place

abbrev pub place_named : List ℕ → Place
place_named [] = Document
place_named (c ∷ cs) = if begins_with 0x23 (c ∷ cs) then Named cs else External

abbrev pub place : Spot → Place
place reference = place_named (uri reference)

abbrev pub is_external : Place → Bool
is_external Document = false
is_external (Named identifier) = false
is_external External = true

-- Chains: what is taken away from the target's nodes, and what is made of them. XML Signature 1.1, "Enveloped Signature Transform",
-- "Canonicalization" and "Base64"; which lists of transforms are chains is this project's own choice.

pub data Transform : Type 0 where
  Enveloped : Transform
  Canonical : Form → Transform
  Base64 : Transform
  Other : Transform

abbrev pub transform_named : Option Form → List ℕ → Transform
transform_named form name =
    if name is enveloped_name then Enveloped
    else (if name is base64_name then Base64 else option_map_or (λ f. Canonical f) form Other)

abbrev pub transform_of : Nodes → Spot → Transform
transform_of document spot =
    if is_called (ds (codes "Transform")) spot
    then option_map_or (transform_named (form_in document spot)) (attribute (codes "Algorithm") spot) Other else Other

pub data Taken : Type 0 where
  Nothing : Taken
  OwnSignature : Taken

pub data Made : Type 0 where
  NodesAlone : Made
  InForm : Form → Made
  Decoded : Made

pub record Chain : Type 0 where
  pub taken : Taken
  pub made : Made

abbrev pub made_by : List Transform → Option Made
made_by [] = Some NodesAlone
made_by (Canonical form ∷ []) = Some (InForm form)
made_by (Base64 ∷ []) = Some Decoded
made_by others = None

abbrev pub chain_with : Taken → Option Made → Option Chain
chain_with taken made = option_and_then (λ m. Some (record { taken = taken; made = m })) made

-- the chain on a document or an element
abbrev pub chain_within : List Transform → Option Chain
chain_within (Enveloped ∷ list) = chain_with OwnSignature (made_by list)
chain_within list = chain_with Nothing (made_by list)

-- and on octets that are handed in
abbrev pub chain_outside : List Transform → Option Chain
chain_outside [] = Some (record { taken = Nothing; made = NodesAlone })
chain_outside (Base64 ∷ []) = Some (record { taken = Nothing; made = Decoded })
chain_outside others = None

abbrev pub chain_on : Bool → List Transform → Option Chain
chain_on external list = if external then chain_outside list else chain_within list

abbrev pub chain : Nodes → Spot → Option Chain
chain document reference = chain_on (is_external (place reference)) (map (transform_of document) (transforms document reference))

-- Node sets, before any canonical form or base64.

abbrev pub taken_from : Path → NodeSet → Taken → NodeSet
taken_from signature set Nothing = set
taken_from signature set OwnSignature = without set signature

abbrev pub less_taken : Path → NodeSet → Option Chain → NodeSet
less_taken signature set None = set
less_taken signature set (Some chain) = taken_from signature set chain.taken

abbrev pub apex_of : Target → Option Path
apex_of Missing = None
apex_of (Single path) = Some path
apex_of Double = None

abbrev pub set_at : Path → NodeSet
set_at path = without_comments (subtree path)

-- the set of a target, where it is one: the empty path is the document
abbrev pub target_set : Nodes → Place → Option NodeSet
target_set document Document = Some (set_at [])
target_set document (Named identifier) = option_and_then (λ path. Some (set_at path)) (apex_of (target_of identifier document))
target_set document External = None

abbrev pub node_set : Nodes → Path → Spot → Option NodeSet
node_set document signature reference =
    option_and_then (λ set. Some (less_taken signature set (chain document reference))) (target_set document (place reference))

-- The text that base64 decodes: the text nodes of the set, joined, or the octets that are handed in.

abbrev mutual
  pub texts : Nodes → List ℕ
  texts no_nodes = []
  texts (node ⨾ nodes) = text_below node ++ texts nodes

  pub text_below : Node → List ℕ
  text_below (Element name attributes nodes) = texts nodes
  text_below (Text cs) = cs
  text_below (Comment cs) = []
  text_below (Instruction target content) = []

abbrev pub handed_in : Handed → Place → Spot → Option (List ℕ)
handed_in handed External reference = handed (uri reference)
handed_in handed place reference = None

-- A Reference's meaning: nodes, or octets, or none: XML Signature 1.1, "The Reference Processing Model".

pub data Meaning : Type 0 where
  Set : NodeSet → Meaning
  Octets : List ℕ → Meaning
  NoMeaning : Meaning

-- what a chain makes of a node set of a document, with the octets of a node set by a form
abbrev pub or_no_meaning : Option (List ℕ) → Meaning
or_no_meaning None = NoMeaning
or_no_meaning (Some octets) = Octets octets

abbrev pub base64_text : Nodes → NodeSet → List ℕ
base64_text document set = without_white (texts (part set document))

abbrev pub made_of_set : (Form → NodeSet → Nodes → List ℕ) → Nodes → NodeSet → Made → Meaning
made_of_set octets document set NodesAlone = Set set
made_of_set octets document set (InForm form) = Octets (octets form set document)
made_of_set octets document set Decoded = or_no_meaning (strict (base64_text document set))

abbrev pub made_of_octets : List ℕ → Made → Meaning
made_of_octets given NodesAlone = Octets given
made_of_octets given (InForm form) = NoMeaning
made_of_octets given Decoded = or_no_meaning (strict (without_white given))

-- The faults of a Reference, each by a test of its own, which gives nothing where the Reference hasn't this fault.

pub data Fault : Type 0 where
  TargetMissing : (k : ℕ) → Fault
  TargetTwice : (k : ℕ) → Fault
  NoChain : (k : ℕ) → Fault
  DigestName : (k : ℕ) → Fault
  NotHandedIn : (k : ℕ) → Fault
  NotBase64 : (k at : ℕ) → Fault

abbrev pub is_missing : Target → Bool
is_missing Missing = true
is_missing (Single path) = false
is_missing Double = false

abbrev pub is_double : Target → Bool
is_double Missing = false
is_double (Single path) = false
is_double Double = true

abbrev pub on_target : Nodes → (Target → Bool) → Place → Bool
on_target document test Document = false
on_target document test (Named identifier) = test (target_of identifier document)
on_target document test External = false

abbrev pub when : {A : Type 0} → Bool → A → Option A
when b x = if b then Some x else None

abbrev pub target_missing : Nodes → ℕ → Spot → Option Fault
target_missing document k reference = when (on_target document is_missing (place reference)) (TargetMissing k)

abbrev pub target_twice : Nodes → ℕ → Spot → Option Fault
target_twice document k reference = when (on_target document is_double (place reference)) (TargetTwice k)

abbrev pub no_chain : Nodes → ℕ → Spot → Option Fault
no_chain document k reference = when (is_none (chain document reference)) (NoChain k)

abbrev pub no_digest : Nodes → ℕ → Spot → Option Fault
no_digest document k reference = when (is_none (digest_kind (digest_methods document (reference ∷ [])))) (DigestName k)

abbrev pub not_handed_in : Handed → ℕ → Spot → Option Fault
not_handed_in handed k reference =
    when (is_external (place reference) && is_none (handed_in handed (place reference) reference)) (NotHandedIn k)

abbrev pub not_base64_text : ℕ → List ℕ → Option Fault
not_base64_text k text = when (is_none (strict text)) (NotBase64 k (fault_in text))

abbrev pub decoded_text : Option (List ℕ) → Option Chain → Option (List ℕ)
decoded_text text None = None
decoded_text text (Some chain) = if_decoded chain.made text
  where
    if_decoded : Made → Option (List ℕ) → Option (List ℕ)
    if_decoded NodesAlone text = None
    if_decoded (InForm form) text = None
    if_decoded Decoded text = text

-- the text, without white space, of the Reference's nodes or of the octets handed in
abbrev pub whole_text : Handed → Nodes → Path → Spot → Option (List ℕ)
whole_text handed document signature reference =
    option_map_or (λ set. Some (base64_text document set)) (node_set document signature reference)
    (option_and_then (λ octets. Some (without_white octets)) (handed_in handed (place reference) reference))

abbrev pub not_base64 : Handed → Nodes → Path → ℕ → Spot → Option Fault
not_base64 handed document signature k reference =
    option_and_then (not_base64_text k) (decoded_text (whole_text handed document signature reference) (chain document reference))

-- the first fault of one test among References from the k-th on
abbrev pub first_of : (ℕ → Spot → Option Fault) → ℕ → List Spot → Option Fault
first_of test k [] = None
first_of test k (reference ∷ references) = or_else (test k reference) (first_of test (suc k) references)

-- of several tests the first that finds one
abbrev pub first_code : List (ℕ → Spot → Option Fault) → List Spot → Option Fault
first_code [] references = None
first_code (test ∷ tests) references = or_else (first_of test 1 references) (first_code tests references)

-- the fault of the References of a signature
abbrev pub fault : Handed → Nodes → Path → List Spot → Option Fault
fault handed document signature references = first_code
    (target_missing document ∷ target_twice document ∷ no_chain document ∷ no_digest document ∷ not_handed_in handed
    ∷ not_base64 handed document signature ∷ []) references
