-- The form that a method names, as it is read among a signature's parts, is that of the definitions of canonical text.
use Rattle.std.proofs.Common.{◌≡◌, ℕ, suc, Bool, true, false, cond, List, [], ◌∷◌, ◌++◌, Option, Some, None, refl, sym, ◌∙◌, ap, codes}
use Rattle.std.specs.Prelude.{filter, option_and_then}
use Rattle.std.specs.Option.{option_map_or}
use Rattle.document_model.specs.Names.{Expanded}
use Rattle.document_model.specs.Tree.{Node, Nodes, Path, Element, Text, Comment, Instruction, no_nodes, ◌⨾◌, below, IsElement}
use Rattle.document_model.specs.Scopes.{Tag, with_tag_of, elements_around, attribute_value}
use Rattle.document_model.specs.Canonical.{Form}
use Rattle.document_model.specs.Methods.{form_named, form_of, form_at, prefixes_among, exclusive_name}
use Rattle.signature_model.specs.Spots.{Spot, is_called, attribute, emptied_all, held_in, elements_from}
use Rattle.signature_model.specs.Parts.{form_in, prefix_list}
use Rattle.signature_model.specs.Keeping.{IsSpot}
use Rattle.signature_model.proofs.Standing.{tags_of}

abbrev list_name : Expanded
list_name = record { space = exclusive_name; local = codes "InclusiveNamespaces" }

-- the first that passes, in a list and by a recursion
list_step : (b : Bool) (x : Spot) (spots : List Spot) (rest : List (List ℕ)) → prefix_list spots ≡ rest
    → prefix_list (cond b (x ∷ spots) spots) ≡ cond b (prefix_list (x ∷ spots)) rest
list_step true x spots rest e = refl
list_step false x spots rest e = e

lists_agree : (path : Path) (tags : List Tag) (k : ℕ) (nodes : Nodes)
    → prefix_list (filter (is_called list_name) (elements_from path tags k (emptied_all nodes))) ≡ prefixes_among tags nodes
lists_agree path tags k no_nodes = refl
lists_agree path tags k (Element name attributes inner ⨾ nodes) =
    let spot : Spot = record { path = path ++ k ∷ []; tags = record { name = name; attributes = attributes } ∷ tags } in
    list_step (is_called list_name spot) spot (filter (is_called list_name) (elements_from path tags (suc k) (emptied_all nodes)))
    (prefixes_among tags nodes) (lists_agree path tags (suc k) nodes)
lists_agree path tags k (Text cs ⨾ nodes) = lists_agree path tags (suc k) nodes
lists_agree path tags k (Comment cs ⨾ nodes) = lists_agree path tags (suc k) nodes
lists_agree path tags k (Instruction target content ⨾ nodes) = lists_agree path tags (suc k) nodes

-- one look-up in two ways
looked_up : {A B : Type 0} (f : A → Option B) (o : Option A) → option_and_then f o ≡ option_map_or f o None
looked_up f None = refl
looked_up f (Some x) = refl

-- the form by the element's tags and what it holds
abbrev form_by : Path → List Tag → Nodes → Option Form
form_by path tags held = option_and_then
    (form_named (prefix_list (filter (is_called list_name) (elements_from path tags 0 held))))
    (attribute (codes "Algorithm") (record { path = path; tags = tags }))

agree_on : (path : Path) (node : Node) (outer : List Tag) → IsElement node → form_by path (with_tag_of node outer) (emptied_all (below node)) ≡ form_of outer node
agree_on path (Text cs) outer i = elim i [ ]
agree_on path (Comment cs) outer i = elim i [ ]
agree_on path (Instruction target content) outer i = elim i [ ]
agree_on path (Element name attributes nodes) outer i =
    let tags : List Tag = record { name = name; attributes = attributes } ∷ outer in
    looked_up (form_named (prefix_list (filter (is_called list_name) (elements_from path tags 0 (emptied_all nodes))))) (attribute (codes "Algorithm") (record { path = path; tags = tags }))
    ∙ ap (λ prefixes. option_map_or (form_named prefixes) (attribute_value outer (record { space = []; local = codes "Algorithm" }) (Element name attributes nodes)) None)
    (lists_agree path tags 0 nodes)

pub forms_agree : (document : Nodes) (spot : Spot) → IsSpot document spot → form_in document spot ≡ form_at document spot.path
forms_agree document spot s =
    let m : Node = s.element.0 in
    let outer : List Tag = elements_around document spot.path in
    let tags : spot.tags ≡ with_tag_of m outer = s.tags ∙ tags_of document spot.path m s.element.1 in
    (λ i. form_by spot.path (tags i) (held_in (s.element.1 i)))
    ∙ agree_on spot.path m outer s.element.2
    ∙ sym (ap (λ o. option_map_or (form_of outer) o None) s.element.1)
