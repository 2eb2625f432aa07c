-- What the shown properties of a signature tell is what its properties tell.
use Rattle.std.proofs.Common.{◌≡◌, ℕ, Bool, true, false, cond, ◌||◌, List, [], ◌∷◌, Option, Some, None, ℤ, refl, ◌∙◌, ap, int_lt}
use Rattle.std.proofs.lemmas.List.Elements.{recursion_from_All}
use Rattle.std.specs.Option.{option_or}
use Rattle.std.specs.Prelude.{filter, map, option_and_then}
use Rattle.std.specs.List.{AllByRecursion, find, list_any}
use Rattle.archive_octets.specs.declared.kinds.StampKind.{StampKind}
use Rattle.document_model.specs.Tree.{Nodes}
use Rattle.doc_spans.specs.declared.documents.Doc.{Doc}
use Rattle.doc_spans.specs.Seen.{document_in}
use Rattle.qualifying_props.specs.PartsOf.{AreParts, IsProperty}
use Rattle.qualifying_props.specs.Shown.{Shown, ShownProperty}
use Rattle.signature_elements.specs.Standing.{spot_of}
use Rattle.signature_model.specs.Parts.{is_stamp, kind_of, token}
use Rattle.signature_model.specs.Spots.{Spot}
use Rattle.signature_parts.specs.Kinds.{kind_in}
use Rattle.stamp_checks.proofs.Looking.{first_some}
use Rattle.stamp_checks.specs.Orders.{has_stamp, is_of}
use Rattle.stamp_checks.specs.Times.{after_moment, later_time}
use Rattle.tst_tokens.specs.Tokens.{gen_time}

abbrev spots_of : Doc → List ShownProperty → List Spot
spots_of doc shown = map (spot_of doc) (map (λ (property : ShownProperty). property.node) shown)

-- Kinds.

abbrev pub shows_kind : StampKind → ShownProperty → Bool
shows_kind kind property = is_of kind (kind_in property.kind)

any_told : (doc : Doc) (kind : StampKind) (shown : List ShownProperty) → AllByRecursion (IsProperty doc) shown
    → list_any (shows_kind kind) shown ≡ list_any (λ spot. is_of kind (kind_of spot)) (spots_of doc shown)
any_told doc kind [] h = refl
any_told doc kind (property ∷ shown) h =
    ap (λ k. is_of kind k || list_any (shows_kind kind) shown) h.0.kind
    ∙ ap (λ b. is_of kind (kind_of (spot_of doc property.node)) || b) (any_told doc kind shown h.1)

pub stamp_told : (doc : Doc) (parts : Shown) (kind : StampKind) → AreParts doc parts
    → list_any (shows_kind kind) parts.properties ≡ has_stamp kind (document_in doc) (spot_of doc parts.signature)
stamp_told doc parts kind h =
    any_told doc kind parts.properties (recursion_from_All (IsProperty doc) parts.properties h.properties.each)
    ∙ ap (list_any (λ spot. is_of kind (kind_of spot))) h.properties.elements.are

-- Times.

abbrev pub later_of : ℤ → ShownProperty → Option ℤ
later_of time property = option_and_then (after_moment time) property.token

abbrev times_of : Nodes → List Spot → List ℤ
times_of document stamps = map (λ stamp. gen_time (token document stamp)) stamps

chosen : (b : Bool) (x : ℤ) (rest : Option ℤ) → option_or (cond b (Some x) None) rest ≡ cond b (Some x) rest
chosen true x rest = refl
chosen false x rest = refl

one_told : (time : ℤ) (document : Nodes) (spot : Spot) (spots : List Spot) (rest : Option ℤ) (b : Bool) (o : Option (List ℕ)) → o ≡ cond b (Some (token document spot)) None
    → rest ≡ find (int_lt time) (times_of document spots)
    → option_or (option_and_then (after_moment time) o) rest ≡ find (int_lt time) (times_of document (cond b (spot ∷ spots) spots))
one_told time document spot spots rest true o e h =
    let at = gen_time (token document spot) in
    ap (λ p. option_or (option_and_then (after_moment time) p) rest) e ∙ chosen (int_lt time at) at rest ∙ ap (cond (int_lt time at) (Some at)) h
one_told time document spot spots rest false o e h = ap (λ p. option_or (option_and_then (after_moment time) p) rest) e ∙ h

all_told : (doc : Doc) (time : ℤ) (shown : List ShownProperty) → AllByRecursion (IsProperty doc) shown
    → first_some (later_of time) shown ≡ find (int_lt time) (times_of (document_in doc) (filter is_stamp (spots_of doc shown)))
all_told doc time [] h = refl
all_told doc time (property ∷ shown) h =
    let spot = spot_of doc property.node in
    one_told time (document_in doc) spot (filter is_stamp (spots_of doc shown)) (first_some (later_of time) shown) (is_stamp spot) property.token h.0.token
    (all_told doc time shown h.1)

pub times_told : (doc : Doc) (parts : Shown) (time : ℤ) → AreParts doc parts
    → first_some (later_of time) parts.properties ≡ later_time time (document_in doc) (spot_of doc parts.signature)
times_told doc parts time h =
    all_told doc time parts.properties (recursion_from_All (IsProperty doc) parts.properties h.properties.each)
    ∙ ap (λ spots. find (int_lt time) (times_of (document_in doc) (filter is_stamp spots))) h.properties.elements.are
