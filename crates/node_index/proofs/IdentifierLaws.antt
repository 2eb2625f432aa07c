-- The elements under each identifier, one attribute after another.
use Rattle.std.proofs.Common.{◌≡◌, ℕ, Bool, true, false, not, ◌&&◌, List, [], ◌∷◌, cond, refl, sym, ◌∙◌, ap, subst}
use Rattle.std.proofs.Math.Bool.{Bool-set}
use Rattle.std.proofs.Math.Logic.{∥∥₁_elim}
use Rattle.std.specs.Cmp.Lexicographic.{same_text}
use Rattle.std.specs.Str.{chars, IsUtf8, bytes_eq}
use Rattle.document_model.specs.Characters.{◌is◌, is_empty}
use Rattle.document_model.specs.Items.{Attribute}
use Rattle.document_model.specs.NodeSets.{Target, is_identifier, once_each}
use Rattle.document_model.specs.Tree.{Path}
use Rattle.xml_items.proofs.AsciiTexts.{texts_same}
use Rattle.doc_spans.specs.declared.documents.Doc.{Doc}
use Rattle.doc_spans.specs.declared.documents.NodeId.{NodeId}
use Rattle.doc_spans.specs.Seen.{Has, path_in}
use Rattle.node_sets.specs.Answers.{answer_in, HasAnswer, with_one, with_more, has_identifier_name}
use Rattle.node_index.specs.declared.indices.NodeIndex.{NodeIndex}
use Rattle.node_index.specs.declared.sightings.Sightings.{Sightings}
use Rattle.node_index.specs.declared.sightings.Sightings.TheVariants.{Absent, One, Several}
use Rattle.node_index.specs.Identifiers.{Finds, IsWithin, answer_of, may_identify, named_by}
use Rattle.node_index.specs.Indices.{sighted, Adds}
use Rattle.node_index.specs.Sightings.{with_node}

-- One more node.

one_more_answer : (doc : Doc) (node : NodeId) (s : Sightings) → answer_in doc (answer_of (with_node node s)) ≡ with_one (path_in doc node) (answer_in doc (answer_of s))
one_more_answer doc node Absent = refl
one_more_answer doc node (One first) = refl
one_more_answer doc node (Several first second) = refl

one_more_there : (doc : Doc) (node : NodeId) (s : Sightings) → Has doc node → HasAnswer doc (answer_of (with_node node s))
one_more_there doc node Absent has = has
one_more_there doc node (One first) has = tt
one_more_there doc node (Several first second) has = tt

by_answer : (doc : Doc) (node : NodeId) (s : Sightings) (b : Bool)
    → answer_in doc (answer_of (cond b (with_node node s) s)) ≡ with_more (cond b (path_in doc node ∷ []) []) (answer_in doc (answer_of s))
by_answer doc node s true = one_more_answer doc node s
by_answer doc node s false = refl

by_there : (doc : Doc) (node : NodeId) (s : Sightings) (b : Bool) → Has doc node → HasAnswer doc (answer_of s) → HasAnswer doc (answer_of (cond b (with_node node s) s))
by_there doc node s true has was = one_more_there doc node s has
by_there doc node s false has was = was

-- Its attribute.

value_alone : (empty prefix names : Bool) → (not empty && prefix && names) ≡ true → (not empty && prefix && true && names) ≡ true
value_alone false true true e = refl
value_alone true prefix names e = cc
value_alone false false names e = cc
value_alone false true false e = cc

never : (empty prefix names : Bool) → (not empty && prefix && false && names) ≡ false
never true prefix names = refl
never false true names = refl
never false false names = refl

-- where an attribute may be an identifier, it is one where its value is that
value_decides : (value : List ℕ) (a : Attribute) → may_identify a ≡ true → is_identifier value a ≡ (a.value is value)
value_decides value a m = by_test (a.value is value) refl
  where
    by_test : (b : Bool) → (a.value is value) ≡ b
        → (not (is_empty value) && is_empty a.name.prefix && (a.value is value) && has_identifier_name a) ≡ (a.value is value)
    by_test true e =
        ap (λ b. not (is_empty value) && is_empty a.name.prefix && b && has_identifier_name a) e
        ∙ value_alone (is_empty value) (is_empty a.name.prefix) (has_identifier_name a)
        (ap (λ (v : List ℕ). not (is_empty v) && is_empty a.name.prefix && has_identifier_name a) (sym (same_text a.value value (sym e))) ∙ m)
        ∙ sym e
    by_test false e =
        ap (λ b. not (is_empty value) && is_empty a.name.prefix && b && has_identifier_name a) e
        ∙ never (is_empty value) (is_empty a.name.prefix) (has_identifier_name a)
        ∙ sym e

-- an attribute that may be an identifier is one where its value is the identifier
tested : (text value : List ℕ) (a : Attribute) → ∥ IsUtf8 text ∥₁ → IsUtf8 value → chars text ≡ a.value → may_identify a ≡ true → bytes_eq text value ≡ is_identifier (chars value) a
tested text value a t u e m =
    ∥∥₁_elim t (Bool-set _ _) (λ v. texts_same text value v u)
    ∙ ap (λ cs. cs is chars value) e
    ∙ sym (value_decides (chars value) a m)

-- an element is added under an attribute's value
pub attribute_found : (doc : Doc) (node : NodeId) (text : List ℕ) (a : Attribute) (old new : NodeIndex) → Has doc node → IsWithin doc old → ∥ IsUtf8 text ∥₁ → chars text ≡ a.value
    → may_identify a ≡ true → Adds text node old new → Finds doc (λ value. once_each value (path_in doc node) (a ∷ [])) old new
attribute_found doc node text a old new has within t e m adds = record {
  each = λ value u.
      ap (λ s. answer_in doc (answer_of s)) (adds value)
      ∙ by_answer doc node (sighted old value) (bytes_eq text value)
      ∙ ap (λ b. with_more (cond b (path_in doc node ∷ []) []) (answer_in doc (named_by old value))) (tested text value a t u e m);
  within = λ value.
      let P : Sightings → Type 0 = λ s. HasAnswer doc (answer_of s) in
      subst P (sym (adds value)) (by_there doc node (sighted old value) (bytes_eq text value) has (within value));
}

-- one attribute, and then those behind it
pub attribute_passed : (value : List ℕ) (path : Path) (a : Attribute) (attributes : List Attribute) (t : Target)
    → with_more (once_each value path attributes) (with_more (once_each value path (a ∷ [])) t) ≡ with_more (once_each value path (a ∷ attributes)) t
attribute_passed value path a attributes t = by_test (is_identifier value a)
  where
    by_test : (b : Bool) → with_more (once_each value path attributes) (with_more (cond b (path ∷ []) []) t) ≡ with_more (cond b (path ∷ once_each value path attributes) (once_each value path attributes)) t
    by_test true = refl
    by_test false = refl
