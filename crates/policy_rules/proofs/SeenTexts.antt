-- A set of texts, and the texts that were put to it.
use Rattle.std.proofs.Common.{◌≡◌, ℕ, ◌+◌, ◌<◌, ◌≤◌, length, drop, get_or, map, String, Global, string_bytes, Ok, Bool, true, false, not, ◌||◌, List, [], ◌∷◌, ◌++◌, Ordering, Less, Equal, Greater, nat_cmp, is_eq, Bor, refl, sym, ap, ◌∙◌}
use Rattle.std.specs.Ordering.{match_ordering}
use Rattle.std.specs.Cmp.Lexicographic.{slice_cmp}
use Rattle.std.specs.List.{list_any}
use Rattle.std.specs.Str.{bytes_eq}
use Rattle.std.specs.BTreeSet.{BTreeSet, insert_key}
use Rattle.std.proofs.lemmas.Map.Text.{is_eq-slice_cmp}
use Rattle.std.proofs.lemmas.Slice.Eq.{bytes_eq-Decides}
use Rattle.std.proofs.lemmas.List.{drop_more, drop_all}
use Rattle.policy_rules.specs.Rules.{is_among, are_new, uris_of}
use Rattle.policy_rules.specs.Seen.{HasTexts, IsSeen}
use Rattle.policy_rules.specs.View.{kind_view}
use Rattle.policy_rules.specs.declared.entries.KindEntry.{KindEntry}

abbrev pub Text : Type 0
Text = Bor (List ℕ)

-- whether the text is one of the keys
abbrev pub has : List ℕ → List Text → Bool
has q keys = list_any (λ k. bytes_eq q k.now) keys

-- the order of texts
abbrev pub order : Text → Text → Ordering
order a b = slice_cmp nat_cmp a.now b.now

pub found : (q : List ℕ) (keys : List Text) → list_any (λ k. is_eq (slice_cmp nat_cmp q k.now)) keys ≡ has q keys
found q [] = refl
found q (k ∷ keys) = rw (is_eq-slice_cmp q k.now, found q keys) refl

twice : (a r : Bool) → (a || (a || r)) ≡ (a || r)
twice true r = refl
twice false r = refl

turned : (a b r : Bool) → (a || (b || r)) ≡ (b || (a || r))
turned true true r = refl
turned true false r = refl
turned false true r = refl
turned false false r = refl

-- a key that is put, by where it stands
placed : (q : List ℕ) (k x : Text) (keys inner : List Text) (o : Ordering) → (o ≡ Equal → bytes_eq q x.now ≡ bytes_eq q k.now)
    → has q inner ≡ (bytes_eq q k.now || has q keys)
    → has q (match_ordering o (k ∷ x ∷ keys) (x ∷ keys) (x ∷ inner)) ≡ (bytes_eq q k.now || (bytes_eq q x.now || has q keys))
placed q k x keys inner Less same ih = refl
placed q k x keys inner Equal same ih = rw (same refl) (sym (twice (bytes_eq q k.now) (has q keys)))
placed q k x keys inner Greater same ih = rw ih (turned (bytes_eq q x.now) (bytes_eq q k.now) (has q keys))

same_text : (k x : List ℕ) → slice_cmp nat_cmp k x ≡ Equal → k ≡ x
same_text k x e = (bytes_eq-Decides k x).0 (sym (is_eq-slice_cmp k x) ∙ ap is_eq e)

pub put : (q : List ℕ) (keys : List Text) (k : Text) → has q (insert_key order keys k) ≡ (bytes_eq q k.now || has q keys)
put q [] k = refl
put q (x ∷ keys) k = placed q k x keys (insert_key order keys k) (order k x) (λ e. ap (bytes_eq q) (sym (same_text k.now x.now e))) (put q keys k)

-- one text more is judged
pub are_new-none : (seen : List (List ℕ)) (text : List ℕ) (rest : List (List ℕ)) → false ≡ not (is_among text seen) → are_new seen (text ∷ rest) ≡ false
are_new-none seen text rest e = rw (← e) refl

pub are_new-one : (seen : List (List ℕ)) (text : List ℕ) (rest : List (List ℕ)) → true ≡ not (is_among text seen) → are_new seen (text ∷ rest) ≡ are_new (text ∷ seen) rest
are_new-one seen text rest e = rw (← e) refl

abbrev pub Uris : Type 0
Uris = List (String Global)

-- the same of a list of URIs from a place on
pub uri_none : (seen : List (List ℕ)) (uris : Uris) (i : ℕ) (x : String Global) (text : List ℕ) (more : List (List ℕ)) → i < length uris → x ≡ get_or uris i x → text ≡ string_bytes x
    → false ≡ not (is_among text seen) → are_new seen (map string_bytes (drop i uris) ++ more) ≡ false
uri_none seen uris i x text more lt at value e = rw (drop_more uris i x lt, ← at, ← value) (are_new-none seen text _ e)

pub uri_one : (seen : List (List ℕ)) (uris : Uris) (i : ℕ) (x : String Global) (text : List ℕ) (more : List (List ℕ)) → i < length uris → x ≡ get_or uris i x → text ≡ string_bytes x
    → true ≡ not (is_among text seen) → are_new seen (map string_bytes (drop i uris) ++ more) ≡ are_new (text ∷ seen) (map string_bytes (drop (i + 1) uris) ++ more)
uri_one seen uris i x text more lt at value e = rw (drop_more uris i x lt, ← at, ← value) (are_new-one seen text _ e)

pub uri_end : (seen : List (List ℕ)) (uris : Uris) (i : ℕ) (more : List (List ℕ)) → length uris ≤ i → are_new seen (map string_bytes (drop i uris) ++ more) ≡ are_new seen more
uri_end seen uris i more le = rw (drop_all i uris le) refl

-- what a call that puts many says
pub seen_none : (set : BTreeSet Text) (b : Bool) (texts uris more : List (List ℕ)) → b ≡ false → IsSeen set (Ok b) texts uris more → are_new texts (uris ++ more) ≡ false
seen_none set true texts uris more e h = cc
seen_none set false texts uris more e h = h

pub seen_all : (set : BTreeSet Text) (b : Bool) (texts uris more : List (List ℕ)) → b ≡ true → IsSeen set (Ok b) texts uris more
    → (all : List (List ℕ)) × HasTexts set all × (are_new texts (uris ++ more) ≡ are_new all more)
seen_all set true texts uris more e h = h
seen_all set false texts uris more e h = cc

-- the URIs of the entries from a place on
pub entry_left : (entries : List KindEntry) (i : ℕ) (x : KindEntry) (uris : Uris) → i < length entries → x ≡ get_or entries i x → uris ≡ x.uris.items
    → uris_of (map kind_view (drop i entries)) ≡ map string_bytes uris ++ uris_of (map kind_view (drop (i + 1) entries))
entry_left entries i x uris lt at same =
    let one : drop i entries ≡ x ∷ drop (i + 1) entries = drop_more entries i x lt ∙ ap (λ y. y ∷ drop (i + 1) entries) (sym at) in
    rw (one, same) refl
