-- The canonical form that a method or transform names: XML Signature 1.1, "The CanonicalizationMethod Element" and "Canonicalization
-- Algorithms"; Exclusive XML Canonicalization 1.0, "Use in XML Security".
use Rattle.std.specs.Prelude.{ℕ, Bool, true, false, not, if◌then◌else◌, List, [], ◌∷◌, ◌++◌, map, filter, Option, Some, None, codes}
use Rattle.std.specs.Option.{option_map_or}
use Rattle.document_model.specs.Characters.{is_white, ◌is◌, is_empty}
use Rattle.document_model.specs.Tree.{Node, Nodes, Path, no_nodes, ◌⨾◌, node_at, below}
use Rattle.document_model.specs.Scopes.{Tag, with_tag_of, elements_around, is_named, attribute_value}
use Rattle.document_model.specs.Canonical.{Inclusive, Exclusive, Form}

-- the pieces of a text between characters that pass a test, without empty ones
abbrev pub first_longer : ℕ → List (List ℕ) → List (List ℕ)
first_longer c [] = (c ∷ []) ∷ []
first_longer c (word ∷ words) = (c ∷ word) ∷ words

abbrev pub cut_at : (ℕ → Bool) → List ℕ → List (List ℕ)
cut_at test [] = [] ∷ []
cut_at test (c ∷ cs) = if test c then [] ∷ cut_at test cs else first_longer c (cut_at test cs)

abbrev pub words_at : (ℕ → Bool) → List ℕ → List (List ℕ)
words_at test text = filter (λ word. not (is_empty word)) (cut_at test text)

-- prefixes of a list, where `#default` is the default
abbrev pub prefix_named : List ℕ → List ℕ
prefix_named word = if word is codes "#default" then [] else word

abbrev pub prefixes_of : List ℕ → List (List ℕ)
prefixes_of text = map prefix_named (words_at is_white text)

abbrev pub inclusive_name : List ℕ
inclusive_name = codes "http://www.w3.org/TR/2001/REC-xml-c14n-20010315"

abbrev pub exclusive_name : List ℕ
exclusive_name = codes "http://www.w3.org/2001/10/xml-exc-c14n#"

abbrev pub form_named : List (List ℕ) → List ℕ → Option Form
form_named prefixes name =
    if name is inclusive_name then Some (record { rule = Inclusive; comments = false })
    else (if name is (inclusive_name ++ codes "#WithComments") then Some (record { rule = Inclusive; comments = true })
    else (if name is exclusive_name then Some (record { rule = Exclusive prefixes; comments = false })
    else (if name is (exclusive_name ++ codes "WithComments") then Some (record { rule = Exclusive prefixes; comments = true })
    else None)))

-- the prefix list of the first `InclusiveNamespaces` among the nodes of a method
abbrev pub prefixes_among : List Tag → Nodes → List (List ℕ)
prefixes_among outer no_nodes = []
prefixes_among outer (node ⨾ nodes) =
    if is_named outer (record { space = exclusive_name; local = codes "InclusiveNamespaces" }) node
    then option_map_or prefixes_of (attribute_value outer (record { space = []; local = codes "PrefixList" }) node) []
    else prefixes_among outer nodes

-- the form of a method, with the elements around it
abbrev pub form_of : List Tag → Node → Option Form
form_of outer method =
    option_map_or (form_named (prefixes_among (with_tag_of method outer) (below method)))
    (attribute_value outer (record { space = []; local = codes "Algorithm" }) method) None

-- the form of the method that a path names
abbrev pub form_at : Nodes → Path → Option Form
form_at document path = option_map_or (form_of (elements_around document path)) (node_at document path) None
