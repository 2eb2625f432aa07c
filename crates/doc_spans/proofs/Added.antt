-- How many nodes one item adds at most.
use Rattle.std.proofs.Common.{◌≡◌, ℕ, zero, suc, ◌+◌, ◌≤◌, Bool, true, false, not, ◌||◌, cond, List, [], ◌∷◌, length, Option, Some, None, unwrap_or, refl, sym, ap, ◌∙◌, arith}
use Rattle.std.proofs.lemmas.Bool.{le-leb}
use Rattle.std.proofs.lemmas.Option.{none-some}
use Rattle.std.specs.Str.{chars}
use Rattle.document_model.specs.Characters.{is_empty, with_line_ends}
use Rattle.document_model.specs.Documents.{limits}
use Rattle.document_model.specs.Items.{Attribute, Pair, pair_at, pairs_of, each_of, attribute_of, most_attributes}
use Rattle.document_model.proofs.Joins.{some_same, bind_some}
use Rattle.xml_items.specs.Found.{attributes_in, read_attributes}
use Rattle.xml_items.specs.Items.{item_in}
use Rattle.xml_items.specs.declared.items.Found as code
use Rattle.xml_items.specs.declared.items.Found.TheVariants.{Declaration, StartTag, EmptyTag, EndTag, Character, Reference, Cdata, Comment, Instruction}
use Rattle.doc_spans.specs.Standing.{Standing, new_texts, nodes_added, is_one_too_many}

few_pairs : (n : ℕ) (text : List ℕ) (ps : List Pair) → pairs_of n text ≡ Some ps → length ps ≤ n
few_pairs n [] ps e = let f : [] ≡ ps = some_same _ ps e in omega (arith, ap length f)
few_pairs zero (c ∷ cs) ps e = absurd (none-some ps e)
few_pairs (suc n) (c ∷ cs) ps e =
    let one = bind_some _ (pair_at (c ∷ cs)) ps e in
    let two = bind_some _ (pairs_of n one.0.1) ps one.2 in
    let f : one.0.0 ∷ two.0 ≡ ps = some_same _ ps two.2 in
    omega (arith, ap length f, few_pairs n one.0.1 two.0 two.1)

as_many : (ps : List Pair) (xs : List Attribute) → each_of attribute_of ps ≡ Some xs → length xs ≡ length ps
as_many [] xs e = let f : [] ≡ xs = some_same _ xs e in sym (ap length f)
as_many (p ∷ ps) xs e =
    let one = bind_some _ (attribute_of p) xs e in
    let two = bind_some _ (each_of attribute_of ps) xs one.2 in
    let f : one.0 ∷ two.0 ≡ xs = some_same _ xs two.2 in
    sym (ap length f) ∙ ap suc (as_many ps two.0 two.1)

few_attributes : (text : List ℕ) → length (attributes_in text) ≤ 256
few_attributes text = go (read_attributes most_attributes text) refl
  where
    go : (o : Option (List Attribute)) → read_attributes most_attributes text ≡ o → length (unwrap_or o []) ≤ 256
    go None e = omega arith
    go (Some xs) e =
        let one = bind_some _ (pairs_of most_attributes text) xs e in
        omega (arith, few_pairs most_attributes text one.0 one.1, as_many one.0 xs one.2)

few_texts : (s : Standing) (cs : List ℕ) → new_texts s cs ≤ 1
few_texts s [] = omega arith
few_texts s (c ∷ cs) = go (is_empty s.outer || s.in_text)
  where
    go : (b : Bool) → cond b 0 1 ≤ 1
    go true = omega arith
    go false = omega arith

few_added : (s : Standing) (found : code.Found) → nodes_added s (item_in found) ≤ 257
few_added s Declaration = omega arith
few_added s (StartTag name attributes) = let n = few_attributes (chars attributes.now) in omega (arith, n)
few_added s (EmptyTag name attributes) = let n = few_attributes (chars attributes.now) in omega (arith, n)
few_added s (EndTag name) = omega arith
few_added s (Character c) = let n = few_texts s (c ∷ []) in omega (arith, n)
few_added s (Reference c) = let n = few_texts s (c ∷ []) in omega (arith, n)
few_added s (Cdata text) = let n = few_texts s (with_line_ends (chars text.now)) in omega (arith, n)
few_added s (Comment text) = omega arith
few_added s (Instruction target content) = omega arith

-- far from the limit no item passes it
pub not_too_many : (s : Standing) (found : code.Found) → s.nodes + 257 ≤ limits.nodes → is_one_too_many s (item_in found) ≡ false
not_too_many s found h = ap not (le-leb _ _ (let n = few_added s found in omega (arith, n, h)))
