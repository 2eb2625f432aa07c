-- Archive time-stamps among properties in memory.
use Rattle.std.proofs.Common.{◌≡◌, ℕ, zero, suc, ◌+◌, ◌≤◌, Bool, true, false, not, ◌&&◌, ◌||◌, List, [], ◌∷◌, length, drop, map, Some, refl, sym, ◌∙◌, ap, add-one}
use Rattle.std.proofs.lemmas.List.{drop_all}
use Rattle.std.proofs.lemmas.List.Elements.{All-head, All-tail}
use Rattle.std.specs.List.{All, list_any}
use Rattle.std.specs.Prelude.{option_map, slice_get}
use Rattle.doc_spans.specs.declared.documents.Doc.{Doc}
use Rattle.doc_spans.specs.Seen.{document_in}
use Rattle.qualifying_props.specs.PartsOf.{AreParts, IsProperty}
use Rattle.qualifying_props.specs.Shown.{Shown, ShownProperty}
use Rattle.signature_elements.specs.Standing.{spot_of}
use Rattle.signature_model.specs.Fragments.{is_archive_kind, stands_alone}
use Rattle.signature_model.specs.Parts.{kind_of}
use Rattle.signature_parts.specs.Kinds.{kind_in}
use Rattle.signature_parts.specs.declared.kinds.PropertyKind.{PropertyKind}
use Rattle.item_contents.specs.Contents.{stand_alone}

abbrev pub any_archive : List ShownProperty → Bool
any_archive all = list_any (λ property. is_archive_kind (kind_in property.kind)) all

-- One property after another.

same_kind : (property : ShownProperty) (kind : PropertyKind) (b : Bool) → Some property.kind ≡ Some kind → is_archive_kind (kind_in kind) ≡ b → is_archive_kind (kind_in property.kind) ≡ b
same_kind property kind b e f = let same : property.kind ≡ kind = cc in ap (λ k. is_archive_kind (kind_in k)) same ∙ f

any_more : (all : List ShownProperty) (n : ℕ) (kind : PropertyKind) → option_map (λ property. property.kind) (slice_get all n) ≡ Some kind → is_archive_kind (kind_in kind) ≡ false
    → any_archive (drop n all) ≡ any_archive (drop (suc n) all)
any_more [] n kind e f = cc
any_more (property ∷ all) zero kind e f = ap (λ b. b || any_archive all) (same_kind property kind false e f)
any_more (property ∷ all) (suc n) kind e f = any_more all n kind e f

pub any_next : (all : List ShownProperty) (n : ℕ) (kind : PropertyKind) → option_map (λ property. property.kind) (slice_get all n) ≡ Some kind → is_archive_kind (kind_in kind) ≡ false
    → any_archive (drop n all) ≡ any_archive (drop (n + 1) all)
any_next all n kind e f = any_more all n kind e f ∙ ap (λ m. any_archive (drop m all)) (sym (add-one n))

pub any_here : (all : List ShownProperty) (n : ℕ) (kind : PropertyKind) → option_map (λ property. property.kind) (slice_get all n) ≡ Some kind → is_archive_kind (kind_in kind) ≡ true
    → any_archive (drop n all) ≡ true
any_here [] n kind e f = cc
any_here (property ∷ all) zero kind e f = ap (λ b. b || any_archive all) (same_kind property kind true e f)
any_here (property ∷ all) (suc n) kind e f = any_here all n kind e f

pub none_left : (all : List ShownProperty) (n : ℕ) → length all ≤ n → any_archive (drop n all) ≡ false
none_left all n h = ap any_archive (drop_all n all h)

-- By the document.

same_any : (doc : Doc) (all : List ShownProperty) → All (IsProperty doc) all
    → any_archive all ≡ list_any (λ property. is_archive_kind (kind_of property)) (map (spot_of doc) (map (λ property. property.node) all))
same_any doc [] h = refl
same_any doc (property ∷ all) h =
    let first = All-head (IsProperty doc) property all h in
    (λ i. is_archive_kind (first.kind i) || same_any doc all (All-tail (IsProperty doc) property all h) i)

pub alone_in : (doc : Doc) (parts : Shown) → AreParts doc parts → stand_alone parts ≡ stands_alone (document_in doc) (spot_of doc parts.signature)
alone_in doc parts are =
    let found = same_any doc parts.properties are.properties.each ∙ ap (λ spots. list_any (λ property. is_archive_kind (kind_of property)) spots) are.properties.elements.are in
    (λ i. not (are.has_values i) && not (found i))
