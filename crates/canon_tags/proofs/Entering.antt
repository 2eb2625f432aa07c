-- What an element is written with, as it is entered.
use Rattle.std.proofs.Common.{◌≡◌, ℕ, ◌-◌, ◌≤◌, Bool, true, false, ◌||◌, cond, List, [], ◌∷◌, ◌++◌, length, take, drop, map, refl, sym, ◌∙◌, ap, arith, length-append}
use Rattle.std.proofs.lemmas.List.{take-append-drop, take-append-le}
use Rattle.std.proofs.Math.Seq.{drop-append_seam}
use Rattle.std.specs.Prelude.{filter}
use Rattle.std.specs.Str.{chars}
use Rattle.document_model.specs.Characters.{◌is◌}
use Rattle.document_model.specs.Items.{Attribute}
use Rattle.document_model.specs.Scopes.{Tag}
use Rattle.document_model.specs.Canonical.{Rule, Inclusive, Exclusive, Around, declared_as, declarations, declared_prefixes, is_among, is_written, with_inherited, attributes_of}
use Rattle.canon_tags.specs.declared.around.Outside.{Outside}
use Rattle.doc_spans.specs.declared.declarations.Declaration.{Declaration}
use Rattle.doc_spans.specs.declared.opened.Opened.{Opened}
use Rattle.canon_tags.specs.Around.{left_to}
use Rattle.doc_spans.specs.Declarations.{declaration_in, nearest_first}
use Rattle.canon_tags.specs.Givers.{givers_by}
use Rattle.doc_spans.specs.Opened.{opened_in}
use Rattle.canon_tags.specs.Own.{own_prefixes}
use Rattle.doc_spans.specs.Scoped.{scope_of, space_in}
use Rattle.canon_tags.specs.Scoped.{prefixes_of, gathered_by}
use Rattle.doc_spans.specs.Stacked.{stacked}
use Rattle.doc_spans.proofs.ScopeLists.{space_same}
use Rattle.canon_tags.proofs.ScopeLists.{written_prefixes}
use Rattle.doc_spans.proofs.StackLists.{stacked_parts}

-- the prefixes of declarations, in the code's order and with the nearest first

among_on : (q : List ℕ) (ds : List Declaration) (scope : List Attribute) → is_among q (prefixes_of (stacked declaration_in scope ds)) ≡ (is_among q (own_prefixes ds) || is_among q (prefixes_of scope))
among_on q [] scope = refl
among_on q (d ∷ ds) scope = among_on q ds (declaration_in d ∷ scope) ∙ turned (is_among q (own_prefixes ds)) (q is chars d.prefix.now) (is_among q (prefixes_of scope))
  where
    turned : (x y z : Bool) → (x || (y || z)) ≡ ((y || x) || z)
    turned true true z = refl
    turned true false z = refl
    turned false true z = refl
    turned false false z = refl

own_members : (ds : List Declaration) (q : List ℕ) → is_among q (own_prefixes ds) ≡ is_among q (prefixes_of (nearest_first ds))
own_members ds q = sym (among_on q ds [] ∙ or_none (is_among q (own_prefixes ds)))
  where
    or_none : (x : Bool) → (x || false) ≡ x
    or_none true = refl
    or_none false = refl

pub found_declarations : (rule : Rule) (around : Around) (tag : Tag) (ds : List Declaration) (shared : ℕ) (found : List (List ℕ)) → nearest_first ds ≡ scope_of (tag ∷ around.outer)
    → nearest_first (take shared ds) ≡ scope_of around.written
    → found ≡ gathered_by rule (own_prefixes (drop shared ds)) (nearest_first ds) (nearest_first (take shared ds)) around.rendered tag
    → map (λ p. declared_as p (space_in p (nearest_first ds))) found ≡ declarations rule around tag
found_declarations rule around tag ds shared found e f g =
    let parts : nearest_first ds ≡ nearest_first (drop shared ds) ++ nearest_first (take shared ds) =
    ap nearest_first (sym (take-append-drop shared ds)) ∙ stacked_parts declaration_in (take shared ds) (drop shared ds) in
    let all : found ≡ filter (is_written rule around tag) (declared_prefixes (tag ∷ around.outer)) =
    g ∙ (λ i. gathered_by rule (own_prefixes (drop shared ds)) (e i) (f i) around.rendered tag)
    ∙ written_prefixes rule around tag (own_prefixes (drop shared ds)) (nearest_first (drop shared ds)) (own_members (drop shared ds))
    (sym e ∙ parts ∙ ap (λ x. nearest_first (drop shared ds) ++ x) f) in
    ap (map (λ p. declared_as p (space_in p (nearest_first ds)))) all
    ∙ (λ i. map (λ p. declared_as p ((ap (space_in p) e ∙ sym (space_same p (tag ∷ around.outer))) i)) (filter (is_written rule around tag) (declared_prefixes (tag ∷ around.outer))))

pub shared_scope : (below : Bool) (n k : ℕ) (ds old : List Declaration) (outer : List Tag) → k ≡ cond below n 0 → take n ds ≡ old → nearest_first old ≡ scope_of outer
    → nearest_first (take k ds) ≡ scope_of (cond below outer [])
shared_scope true n k ds old outer e f g = ap (λ m. nearest_first (take m ds)) e ∙ ap nearest_first f ∙ g
shared_scope false n k ds old outer e f g = ap (λ m. nearest_first (take m ds)) e ∙ none ds
  where
    none : (ds : List Declaration) → nearest_first (take 0 ds) ≡ []
    none [] = refl
    none (d ∷ ds) = refl

given_by : (rule : Rule) (below : Bool) (tags : List Opened) (rendered : List Attribute) (tag : Tag)
    → attributes_of rule (record { outer = opened_in tags; written = cond below (opened_in tags) []; rendered = rendered }) tag ≡ with_inherited tag.attributes (opened_in (givers_by rule below tags))
given_by (Exclusive prefixes) below tags rendered tag = refl
given_by Inclusive false tags rendered tag = refl
given_by Inclusive true tags rendered tag = go (opened_in tags)
  where
    go : (outer : List Tag) → attributes_of Inclusive (record { outer = outer; written = outer; rendered = rendered }) tag ≡ tag.attributes
    go [] = refl
    go (t ∷ outer) = refl

pub given_attributes : (rule : Rule) (below : Bool) (tags now : List Opened) (last : Opened) (n : ℕ) (rendered : List Attribute) (tag : Tag) → n ≤ length tags → now ≡ tags ++ last ∷ []
    → take n tags ≡ givers_by rule below tags
    → attributes_of rule (record { outer = opened_in tags; written = cond below (opened_in tags) []; rendered = rendered }) tag ≡ with_inherited tag.attributes (opened_in (take n now))
given_attributes rule below tags now last n rendered tag h e f =
    given_by rule below tags rendered tag
    ∙ ap (λ xs. with_inherited tag.attributes (opened_in xs)) (sym (ap (take n) e ∙ take-append-le n tags (last ∷ []) h ∙ f))

pub leads_back : (outside : Outside) (now before : Around) (tag : Tag) (ds : List Attribute) → now.outer ≡ tag ∷ before.outer → before.written ≡ cond outside.below before.outer []
    → now.rendered ≡ ds ++ before.rendered → outside.rendered ≡ length before.rendered → left_to outside now ≡ before
leads_back outside now before tag ds e f g h =
    let n : length now.rendered - outside.rendered ≡ length ds = ap (λ k. length now.rendered - k) h ∙ ap (λ xs. length xs - length before.rendered) g ∙ less in
    (λ i. record {
      outer = drop 1 (e i);
      written = (ap (λ xs. cond outside.below (drop 1 xs) []) e ∙ sym f) i;
      rendered = ((λ j. drop (n j) (g j)) ∙ drop-append_seam ds before.rendered) i;
    })
  where
    less : length (ds ++ before.rendered) - length before.rendered ≡ length ds
    less = omega (arith, length-append ds before.rendered)
