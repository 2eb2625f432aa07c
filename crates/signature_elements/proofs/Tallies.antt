-- Signatures are counted one after another.
use Rattle.std.proofs.Common.{◌≡◌, ℕ, suc, false, cond, List, [], ◌∷◌, ◌++◌, Option, Some, None, refl, sym, ◌∙◌, ap, arith, codes}
use Rattle.std.proofs.lemmas.Str.{chars-IsAscii}
use Rattle.std.specs.Str.{chars}
use Rattle.xml_items.proofs.AsciiTexts.{ascii_from}
use Rattle.std.specs.Option.{option_map_or}
use Rattle.document_model.specs.Names.{Expanded}
use Rattle.document_model.specs.Tree.{Node, Path, Element, Text, Comment, Instruction}
use Rattle.document_model.specs.Scopes.{Tag, elements_around, tags_at}
use Rattle.doc_spans.specs.declared.documents.Doc.{Doc}
use Rattle.doc_spans.specs.declared.documents.NodeId.{NodeId}
use Rattle.doc_spans.specs.Below.{nodes_from}
use Rattle.doc_spans.specs.Seen.{NameBelow, document_in, path_in, node_in, nodes_at}
use Rattle.doc_spans.specs.Shown.{outer_path}
use Rattle.doc_spans.proofs.ChildSteps.{NextChild, no_child_left}
use Rattle.doc_spans.proofs.Elements.{element_of, nodes_of_element}
use Rattle.doc_spans.proofs.Outward.{tags_around}
use Rattle.doc_spans.proofs.Shows.{outer_more}
use Rattle.signature_model.specs.Spots.{Spot, is_called, outermost, outermost_in}
use Rattle.signature_model.specs.Vocabulary.{ds}
use Rattle.signature_elements.specs.declared.counting.SignatureCount.{SignatureCount}
use Rattle.signature_elements.specs.declared.counting.SignatureCount.TheVariants as counts
use Rattle.signature_elements.specs.Counts.{IsCount, Tally, Nothing, Single, Many, tally_in, AreThere, with_one, with_more, outermost_at}
use Rattle.signature_elements.specs.Standing.{spot_of, is_element, is_element_at, IsElement}
use Rattle.signature_elements.proofs.Named.{tagged}

abbrev pub signature : Expanded
signature = ds (codes "Signature")

joined : (xs ys : List Spot) (t : Tally) → with_more (xs ++ ys) t ≡ with_more ys (with_more xs t)
joined [] ys t = refl
joined (x ∷ xs) ys t = joined xs ys (with_one x t)

still_many : (xs : List Spot) → with_more xs Many ≡ Many
still_many [] = refl
still_many (x ∷ xs) = still_many xs

abbrev number : Tally → ℕ
number Nothing = 0
number (Single spot) = 1
number Many = 2

abbrev the_one : Spot → Tally → Spot
the_one default Nothing = default
the_one default (Single spot) = spot
the_one default Many = default

pub count_is : (doc : Doc) (spots : List Spot) (found : SignatureCount) → tally_in doc found ≡ with_more spots Nothing → AreThere doc found → IsCount doc spots found
count_is doc [] counts.Nothing e there = refl
count_is doc [] (counts.One node) e there = (let n : 1 ≡ 0 = ap number e in absurd (omega (arith, n)))
count_is doc [] counts.Several e there = (let n : 2 ≡ 0 = ap number e in absurd (omega (arith, n)))
count_is doc (x ∷ []) counts.Nothing e there = (let n : 0 ≡ 1 = ap number e in absurd (omega (arith, n)))
count_is doc (x ∷ []) (counts.One node) e there = (there, ap (λ t. the_one x t ∷ []) (sym e))
count_is doc (x ∷ []) counts.Several e there = (let n : 2 ≡ 1 = ap number e in absurd (omega (arith, n)))
count_is doc (x ∷ y ∷ xs) counts.Nothing e there = (let n : 0 ≡ 2 = ap number (e ∙ still_many xs) in absurd (omega (arith, n)))
count_is doc (x ∷ y ∷ xs) (counts.One node) e there = (let n : 1 ≡ 2 = ap number (e ∙ still_many xs) in absurd (omega (arith, n)))
count_is doc (x ∷ y ∷ xs) counts.Several e there = omega arith

-- Among the nodes beside each other.

-- the signatures among the nodes of a path from the i-th on
abbrev pub signatures_left : Doc → Path → ℕ → List Spot
signatures_left doc path i = outermost signature path (tags_at (document_in doc) path) i (nodes_from i (nodes_at (document_in doc) path))

child_signatures : (doc : Doc) (path : Path) (i : ℕ) (child : NodeId) (numbers : List ℕ) → (next : NextChild doc path i child.0 numbers)
    → outermost_at doc child ≡ outermost_in signature (path ++ i ∷ []) (tags_at (document_in doc) path) next.node
child_signatures doc path i child numbers next =
    let around : elements_around (document_in doc) (path_in doc child) ≡ tags_at (document_in doc) path =
    tags_around (document_in doc) (path_in doc child) next.node next.named ∙ ap (tags_at (document_in doc)) (ap outer_path next.at ∙ outer_more path i) in
    ap (λ o. option_map_or (outermost_in signature (path_in doc child) (elements_around (document_in doc) (path_in doc child))) o []) next.named
    ∙ (λ k. outermost_in signature (next.at k) (around k) next.node)

pub next_signatures : (doc : Doc) (path : Path) (i : ℕ) (child : NodeId) (numbers : List ℕ) (before now start : Tally) → NextChild doc path i child.0 numbers
    → now ≡ with_more (outermost_at doc child) before → with_more (signatures_left doc path i) before ≡ start → with_more (signatures_left doc path (suc i)) now ≡ start
next_signatures doc path i child numbers before now start next n e =
    let later = signatures_left doc path (suc i) in
    let here = outermost_in signature (path ++ i ∷ []) (tags_at (document_in doc) path) next.node in
    ap (with_more later) (n ∙ ap (λ xs. with_more xs before) (child_signatures doc path i child numbers next)) ∙ sym (joined here later before)
    ∙ ap (λ nodes. with_more (outermost signature path (tags_at (document_in doc) path) i nodes) before) (sym next.here)
    ∙ e

pub all_signatures : (doc : Doc) (path : Path) (i : ℕ) (numbers : List ℕ) (now start : Tally) → numbers ≡ [] → NameBelow doc path i numbers
    → with_more (signatures_left doc path i) now ≡ start → now ≡ start
all_signatures doc path i numbers now start none below e =
    sym (ap (λ nodes. with_more (outermost signature path (tags_at (document_in doc) path) i nodes) now) (no_child_left doc path i numbers none below)) ∙ e

-- At one node.

pub at_element : (doc : Doc) (node : NodeId) → IsElement doc node
    → outermost_at doc node ≡ cond (is_called signature (spot_of doc node)) (spot_of doc node ∷ []) (signatures_left doc (path_in doc node) 0)
at_element doc node h =
    let t = tagged doc node h in
    let e = element_of (node_in doc node) t.tag t.is in
    let path = path_in doc node in
    ap (λ o. option_map_or (outermost_in signature path (elements_around (document_in doc) path)) o []) e.is
    ∙ (λ k. cond (is_called signature (record { path = path; tags = sym t.scope k })) (record { path = path; tags = sym t.scope k } ∷ [])
    (outermost signature path (sym t.scope k) 0 (sym (nodes_of_element doc node t.tag e) k)))

by_test : (name : Expanded) (path : Path) (outer : List Tag) (found : Option Node) → option_map_or is_element found false ≡ false → option_map_or (outermost_in name path outer) found [] ≡ []
by_test name path outer None e = refl
by_test name path outer (Some (Element written attributes nodes)) e = cc
by_test name path outer (Some (Text cs)) e = refl
by_test name path outer (Some (Comment cs)) e = refl
by_test name path outer (Some (Instruction target content)) e = refl

pub at_other : (doc : Doc) (node : NodeId) → is_element_at (document_in doc) (path_in doc node) ≡ false → outermost_at doc node ≡ []
at_other doc node e = by_test signature (path_in doc node) (elements_around (document_in doc) (path_in doc node)) (node_in doc node) e

-- The text of the name.

pub name_text : ds (chars (codes "Signature")) ≡ signature
name_text = ap ds (chars-IsAscii (codes "Signature") (ascii_from (codes "Signature") refl))
