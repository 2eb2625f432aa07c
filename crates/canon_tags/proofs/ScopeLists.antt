-- The declarations in scope as a list, and the prefixes that are written.
use Rattle.std.proofs.Common.{◌≡◌, ℕ, Bool, true, false, not, ◌&&◌, ◌||◌, cond, List, [], ◌∷◌, ◌++◌, Option, Some, None, codes, refl, sym, ◌∙◌, ap}
use Rattle.std.proofs.lemmas.Bool.{false≢true}
use Rattle.std.specs.Prelude.{filter}
use Rattle.std.specs.List.{list_any}
use Rattle.std.specs.Option.{option_map_or}
use Rattle.document_model.specs.Characters.{◌is◌, is_empty}
use Rattle.document_model.specs.Items.{Attribute}
use Rattle.document_model.specs.Scopes.{Tag, xml_space, xmlns_space, declared_prefix}
use Rattle.document_model.specs.Canonical.{Rule, Inclusive, Exclusive, Around, rendered_value, is_among, with_prefix, with_declared, declared_prefixes, uses, changes, is_unrendered, is_written}
use Rattle.doc_spans.specs.Scoped.{with_declarations, scope_of, space_in}
use Rattle.canon_tags.specs.Scoped.{prefixes_of, is_bound, changes_in, is_unrendered_in, with_used, used_by, gathered, gathered_by, is_declared_anew, is_rendered_anew, is_ordered}
use Rattle.doc_spans.proofs.ScopeLists.{space_same}
use Rattle.canon_methods.proofs.Texts.{is_same, is_itself, is_turned}
use Rattle.canon_tags.proofs.Ordered.{or_parts, with_ordered, among_with, filter_ordered, among_filter, ordered_same}

-- The prefixes that are declared.

or_or : (x y z : Bool) → (x || (y || z)) ≡ ((x || y) || z)
or_or true y z = refl
or_or false y z = refl

with_members : (q : List ℕ) (attributes scope : List Attribute) (ps : List (List ℕ)) → is_among q ps ≡ is_bound q scope → is_among q (with_declared attributes ps) ≡ is_bound q (with_declarations attributes scope)
with_members q [] scope ps h = h
with_members q (a ∷ attributes) scope ps h = go (with_members q attributes scope ps h) (is_empty a.name.prefix && (a.name.local is codes "xmlns")) refl (a.name.prefix is codes "xmlns") refl
  where
    before : Type 0
    before = is_among q (with_declared attributes ps) ≡ is_bound q (with_declarations attributes scope)

    one : before → (p : List ℕ) → is_among q (with_prefix p (with_declared attributes ps)) ≡ (((q is p) || is_among q (prefixes_of (with_declarations attributes scope))) || is_empty q)
    one old p =
        among_with q p (with_declared attributes ps) ∙ ap (λ b. (q is p) || b) old ∙ or_or (q is p) (is_among q (prefixes_of (with_declarations attributes scope))) (is_empty q)

    go : before → (x : Bool) → (is_empty a.name.prefix && (a.name.local is codes "xmlns")) ≡ x → (y : Bool) → (a.name.prefix is codes "xmlns") ≡ y
        → is_among q (with_declared (a ∷ attributes) ps) ≡ is_bound q (with_declarations (a ∷ attributes) scope)
    go old true e y f = rw e (one old [])
    go old false e true f = rw (e, f) (one old a.name.local)
    go old false e false f = rw (e, f) old

declared_members : (q : List ℕ) (tags : List Tag) → is_among q (declared_prefixes tags) ≡ is_bound q (scope_of tags)
declared_members [] [] = refl
declared_members (c ∷ q) [] = refl
declared_members q (tag ∷ outer) = with_members q tag.attributes (scope_of outer) (declared_prefixes outer) (declared_members q outer)

with_declared_ordered : (attributes : List Attribute) (ps : List (List ℕ)) → is_ordered ps ≡ true → is_ordered (with_declared attributes ps) ≡ true
with_declared_ordered [] ps h = h
with_declared_ordered (a ∷ attributes) ps h = go (with_declared_ordered attributes ps h) (declared_prefix a)
  where
    go : is_ordered (with_declared attributes ps) ≡ true → (o : Option (List ℕ))
        → is_ordered (option_map_or (λ p. with_prefix p (with_declared attributes ps)) o (with_declared attributes ps)) ≡ true
    go old (Some p) = with_ordered p (with_declared attributes ps) old
    go old None = old

declared_ordered : (tags : List Tag) → is_ordered (declared_prefixes tags) ≡ true
declared_ordered [] = refl
declared_ordered (tag ∷ outer) = with_declared_ordered tag.attributes (declared_prefixes outer) (declared_ordered outer)

-- A prefix whose value the declarations of a tag change is among theirs.

unchanged : (p : List ℕ) (own rest : List Attribute) → is_among p (prefixes_of own) ≡ false → rendered_value p (own ++ rest) ≡ rendered_value p rest
unchanged p [] rest e = refl
unchanged p (a ∷ own) rest e =
    let q = or_parts (p is a.name.local) (is_among p (prefixes_of own)) e in
    ap (λ b. cond b a.value (rendered_value p (own ++ rest))) (is_turned a.name.local p ∙ q.0) ∙ unchanged p own rest q.1

own_changes : (p : List ℕ) (own rest : List Attribute) → changes_in (own ++ rest) rest p ≡ true → is_among p (prefixes_of own) ≡ true
own_changes p own rest e = go (is_among p (prefixes_of own)) refl
  where
    go : (r : Bool) → is_among p (prefixes_of own) ≡ r → r ≡ true
    go true f = refl
    go false f =
        let same : space_in p (own ++ rest) ≡ space_in p rest = ap (λ x. cond (p is codes "xml") xml_space (cond (p is codes "xmlns") xmlns_space x)) (unchanged p own rest f) in
        absurd (false≢true (sym (ap (λ x. not (x is space_in p rest)) same ∙ ap not (is_itself (space_in p rest))) ∙ e))

-- The prefixes that a tag uses.

among_used : (q : List ℕ) (attributes : List Attribute) → is_among q (with_used attributes []) ≡ list_any (λ a. not (is_empty a.name.prefix) && (a.name.prefix is q)) attributes
among_used q [] = refl
among_used q (a ∷ attributes) = by (among_used q attributes) (is_empty a.name.prefix)
  where
    by : is_among q (with_used attributes []) ≡ list_any (λ b. not (is_empty b.name.prefix) && (b.name.prefix is q)) attributes → (r : Bool)
        → is_among q (cond r (with_used attributes []) (a.name.prefix ∷ with_used attributes []))
        ≡ ((not r && (a.name.prefix is q)) || list_any (λ b. not (is_empty b.name.prefix) && (b.name.prefix is q)) attributes)
    by old true = old
    by old false = (λ i. is_turned q a.name.prefix i || old i)

used_members : (q : List ℕ) (tag : Tag) → is_among q (used_by tag) ≡ uses q tag
used_members q tag = (λ i. is_turned q tag.name.prefix i || among_used q tag.attributes i)

-- Gathering.

pub gathered_ordered : (test : List ℕ → Bool) (ps old : List (List ℕ)) → is_ordered old ≡ true → is_ordered (gathered test ps old) ≡ true
gathered_ordered test [] old h = h
gathered_ordered test (p ∷ ps) old h = gathered_ordered test ps (cond (test p) (with_prefix p old) old) (go (test p))
  where
    go : (r : Bool) → is_ordered (cond r (with_prefix p old) old) ≡ true
    go true = with_ordered p old h
    go false = h

gathered_among : (q : List ℕ) (test : List ℕ → Bool) (ps old : List (List ℕ)) → is_among q (gathered test ps old) ≡ ((is_among q ps && test q) || is_among q old)
gathered_among q test [] old = refl
gathered_among q test (p ∷ ps) old = gathered_among q test ps (cond (test p) (with_prefix p old) old) ∙ go (test p) refl (q is p) refl
  where
    or_true : (x y : Bool) → (x || (true || y)) ≡ true
    or_true true y = refl
    or_true false y = refl

    go : (r : Bool) → test p ≡ r → (s : Bool) → (q is p) ≡ s
        → ((is_among q ps && test q) || is_among q (cond r (with_prefix p old) old)) ≡ (((s || is_among q ps) && test q) || is_among q old)
    go true e true f =
        ap (λ b. (is_among q ps && test q) || b) (among_with q p old ∙ (λ i. f i || is_among q old)) ∙ or_true (is_among q ps && test q) (is_among q old)
        ∙ sym (ap (λ b. b || is_among q old) (ap test (is_same q p f) ∙ e))
    go true e false f = ap (λ b. (is_among q ps && test q) || b) (among_with q p old ∙ (λ i. f i || is_among q old))
    go false e true f =
        let g : test q ≡ false = ap test (is_same q p f) ∙ e in
        ap (λ b. (is_among q ps && b) || is_among q old) g ∙ no (is_among q ps) ∙ sym (ap (λ b. b || is_among q old) g)
      where
        no : (b : Bool) → ((b && false) || is_among q old) ≡ (false || is_among q old)
        no true = refl
        no false = refl
    go false e false f = refl

-- What is gathered is what is written.

included : (c o b : Bool) → (c ≡ true → o ≡ true) → (o ≡ true → b ≡ true) → ((o && c) || false) ≡ (b && c)
included c true false h k = absurd (false≢true (k refl))
included true false b h k = absurd (false≢true (h refl))
included false false true h k = refl
included false false false h k = refl
included true true true h k = refl
included false true true h k = refl

excluded : (u n l c r o b : Bool) → (c ≡ true → o ≡ true) → (o ≡ true → b ≡ true) → ((u && ((b && n) && cond l c r)) || ((o && ((n && l) && c)) || false)) ≡ (b && (n && cond l c (u && r)))
excluded u n l c r true false h k = absurd (false≢true (k refl))
excluded true n l c r false false h k = refl
excluded false n l c r false false h k = refl
excluded true false l c r true true h k = refl
excluded true false l c r false true h k = refl
excluded false false l c r true true h k = refl
excluded false false l c r false true h k = refl
excluded true true false c true true true h k = refl
excluded true true false c true false true h k = refl
excluded true true false c false true true h k = refl
excluded true true false c false false true h k = refl
excluded false true false c r true true h k = refl
excluded false true false c r false true h k = refl
excluded u true true true r false true h k = absurd (false≢true (h refl))
excluded true true true true r true true h k = refl
excluded false true true true r true true h k = refl
excluded true true true false r true true h k = refl
excluded false true true false r true true h k = refl
excluded true true true false r false true h k = refl
excluded false true true false r false true h k = refl

among_front : (q : List ℕ) (own rest : List Attribute) → is_among q (prefixes_of own) ≡ true → is_among q (prefixes_of (own ++ rest)) ≡ true
among_front q [] rest e = absurd (false≢true e)
among_front q (a ∷ own) rest e = go (among_front q own rest) (q is a.name.local) e
  where
    go : (is_among q (prefixes_of own) ≡ true → is_among q (prefixes_of (own ++ rest)) ≡ true) → (r : Bool) → (r || is_among q (prefixes_of own)) ≡ true → (r || is_among q (prefixes_of (own ++ rest))) ≡ true
    go old true e = refl
    go old false e = old e

-- the declarations in scope are the tag's own and those that the nearest written element has in scope too
pub written_prefixes : (rule : Rule) (around : Around) (tag : Tag) (ps : List (List ℕ)) (own : List Attribute)
    → ((q : List ℕ) → is_among q ps ≡ is_among q (prefixes_of own)) → scope_of (tag ∷ around.outer) ≡ own ++ scope_of around.written
    → gathered_by rule ps (scope_of (tag ∷ around.outer)) (scope_of around.written) around.rendered tag ≡ filter (is_written rule around tag) (declared_prefixes (tag ∷ around.outer))
written_prefixes rule around tag ps own members split = by_rule rule
  where
    scope : List Attribute
    scope = scope_of (tag ∷ around.outer)

    written : List Attribute
    written = scope_of around.written

    changes_same : (q : List ℕ) → changes around tag q ≡ changes_in scope written q
    changes_same q = (λ i. not (space_same q (tag ∷ around.outer) i is space_same q around.written i))

    unrendered_same : (q : List ℕ) → is_unrendered around tag q ≡ is_unrendered_in scope around.rendered q
    unrendered_same q = ap (λ x. not (x is rendered_value q around.rendered)) (space_same q (tag ∷ around.outer))

    changed_own : (q : List ℕ) → changes_in scope written q ≡ true → is_among q ps ≡ true
    changed_own q e = members q ∙ own_changes q own written (sym (ap (λ x. changes_in x written q) split) ∙ e)

    own_bound : (q : List ℕ) → is_among q ps ≡ true → is_bound q scope ≡ true
    own_bound q e = (λ i. (ap (λ x. is_among q (prefixes_of x)) split ∙ among_front q own written (sym (members q) ∙ e)) i || is_empty q)

    by_rule : (rule : Rule) → gathered_by rule ps scope written around.rendered tag ≡ filter (is_written rule around tag) (declared_prefixes (tag ∷ around.outer))
    by_rule Inclusive =
        ordered_same _ _ (gathered_ordered (is_declared_anew Inclusive scope written) ps [] refl)
        (filter_ordered (is_written Inclusive around tag) (declared_prefixes (tag ∷ around.outer)) (declared_ordered (tag ∷ around.outer)))
        (λ q. gathered_among q (is_declared_anew Inclusive scope written) ps [] ∙ included (changes_in scope written q) (is_among q ps) (is_bound q scope) (changed_own q) (own_bound q)
        ∙ sym (among_filter q (is_written Inclusive around tag) (declared_prefixes (tag ∷ around.outer)) ∙ (λ i. declared_members q (tag ∷ around.outer) i && changes_same q i)))
    by_rule (Exclusive listed) =
        let first : List (List ℕ) = gathered (is_declared_anew (Exclusive listed) scope written) ps [] in
        ordered_same _ _
        (gathered_ordered (is_rendered_anew listed scope written around.rendered) (used_by tag) first (gathered_ordered (is_declared_anew (Exclusive listed) scope written) ps [] refl))
        (filter_ordered (is_written (Exclusive listed) around tag) (declared_prefixes (tag ∷ around.outer)) (declared_ordered (tag ∷ around.outer)))
        (λ q. gathered_among q (is_rendered_anew listed scope written around.rendered) (used_by tag) first
        ∙ (λ i. (used_members q tag i && is_rendered_anew listed scope written around.rendered q) || gathered_among q (is_declared_anew (Exclusive listed) scope written) ps [] i)
        ∙ excluded (uses q tag) (not (q is codes "xml")) (is_among q listed) (changes_in scope written q) (is_unrendered_in scope around.rendered q) (is_among q ps) (is_bound q scope) (changed_own q) (own_bound q)
        ∙ sym (among_filter q (is_written (Exclusive listed) around tag) (declared_prefixes (tag ∷ around.outer))
        ∙ (λ i. declared_members q (tag ∷ around.outer) i && (not (q is codes "xml") && cond (is_among q listed) (changes_same q i) (uses q tag && unrendered_same q i)))))
