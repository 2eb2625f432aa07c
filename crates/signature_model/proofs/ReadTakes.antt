-- A document that is read has a signature with a value and a host.
use Rattle.std.proofs.Common.{◌≡◌, ℕ, Bool, true, false, cond, not, ◌||◌, List, [], ◌∷◌, ◌++◌, Option, Some, None, refl, sym, ◌∙◌, ap, subst, codes}
use Rattle.std.proofs.lemmas.Bool.{not-false, not-true}
use Rattle.std.specs.Prelude.{drop, filter}
use Rattle.std.specs.List.{list_any}
use Rattle.document_model.specs.Characters.{is_empty}
use Rattle.document_model.specs.Names.{Expanded}
use Rattle.document_model.specs.Tree.{Nodes, Path}
use Rattle.signature_model.specs.Vocabulary.{ds, xades}
use Rattle.signature_model.specs.Spots.{Spot, is_called, attribute, called, called_in, elements_in, first, paths}
use Rattle.signature_model.specs.Parts.{DatumKind, counted, value, host, objects, is_qualifying, qualifying_objects, qualifying, unsigned, unsigned_signature, includes}
use Rattle.signature_model.specs.Faults.{ShapeFault, first_fault, first_place}
use Rattle.signature_model.specs.Holding.{Slot, one, any_number, lacks_one, first_misfit, misfits, further, without_attribute, with_stray_text}
use Rattle.signature_model.specs.Shape.{or_first, points_to, id_of, parts_line, qualifying_line, shape_faults}
use Rattle.signature_model.specs.Readable.{Answer, Read, NoSignature, Several, Shape, Include, PropertyData, by_data, by_include, by_shape, bad_data, read_parts, only, answer}
use Rattle.signature_model.specs.Covers.{IsFree}
use Rattle.signature_model.specs.Fragments.{Item}
use Rattle.signature_model.specs.Keeping.{IsSignature, MayTake, TakesItem}
use Rattle.signature_model.proofs.Standing.{Each}
use Rattle.signature_model.proofs.Lists.{not_both, neither}
use Rattle.signature_model.proofs.CountedStand.{counted_stand}
use Rattle.signature_model.proofs.ShapeLines.{not_nothing, front_nothing, behind_nothing, none_first, lines_of}

-- Lists.

-- a list has a first element
abbrev HasFirst : {A : Type 0} → List A → Type 0
HasFirst {A} xs = (x : A) × (rest : List A) × (xs ≡ x ∷ rest)

has_first : {A : Type 0} (xs : List A) → is_empty xs ≡ false → HasFirst xs
has_first [] e = absurd (not_both e)
has_first (x ∷ xs) e = (x, xs, refl)

any_first : {A : Type 0} (p : A → Bool) (xs : List A) → list_any p xs ≡ true → HasFirst (filter p xs)
any_first p [] e = absurd (not_both (sym e))
any_first p (x ∷ xs) e = by_bool (p x) (any_first p xs) e
  where
    by_bool : (b : Bool) → (list_any p xs ≡ true → HasFirst (filter p xs)) → (b || list_any p xs) ≡ true → HasFirst (cond b (x ∷ filter p xs) (filter p xs))
    by_bool true more e' = (x, filter p xs, refl)
    by_bool false more e' = more e'

abbrev head_or : {A : Type 0} → A → List A → A
head_or x [] = x
head_or x (z ∷ zs) = z

first_passes : {A : Type 0} (p : A → Bool) (xs : List A) (y : A) (ys : List A) → filter p xs ≡ y ∷ ys → p y ≡ true
first_passes p [] y ys e = absurd (not_nothing y ys (sym e))
first_passes p (x ∷ xs) y ys e = by_bool (p x) refl (first_passes p xs y ys) e
  where
    by_bool : (b : Bool) → p x ≡ b → (filter p xs ≡ y ∷ ys → p y ≡ true) → cond b (x ∷ filter p xs) (filter p xs) ≡ y ∷ ys → p y ≡ true
    by_bool true h more e' = ap p (sym (ap (head_or x) e')) ∙ h
    by_bool false h more e' = more e'

one_first : (spots : List Spot) → HasFirst spots → (place : Spot) × (first spots ≡ place ∷ [])
one_first spots h = (h.0, ap first h.2)

last_first : {A : Type 0} (xs ys : List A) → HasFirst ys → HasFirst (xs ++ ys)
last_first [] ys h = h
last_first (x ∷ xs) ys h = (x, xs ++ ys, refl)

-- The answer.

abbrev pub IsRead : Answer → Type 0
IsRead (Read spot) = Unit {0}
IsRead NoSignature = ⊥
IsRead Several = ⊥
IsRead (Shape place what) = ⊥
IsRead (Include place) = ⊥
IsRead (PropertyData place) = ⊥

abbrev pub spot_or : Spot → Answer → Spot
spot_or other (Read spot) = spot
spot_or other answer = other

pub is_read : (a : Answer) (spot : Spot) → a ≡ Read spot → IsRead a
is_read a spot e = subst IsRead (sym e) tt

-- what is known of a signature that is read
abbrev pub Passed : Spot → Spot → Option ShapeFault → Option Path → Option Path → Type 0
Passed s signature fault place next = (s ≡ signature) × (fault ≡ None) × (place ≡ None) × (next ≡ None)

pub passed : (s signature : Spot) (fault : Option ShapeFault) (place next : Option Path)
    → by_shape (by_include (by_data s next) place) fault ≡ Read signature → Passed s signature fault place next
passed s signature None None None e = (ap (spot_or s) e, refl, refl, refl)
passed s signature None None (Some next) e = absurd (is_read (PropertyData next) signature e)
passed s signature None (Some place) next e = absurd (is_read (Include place) signature e)
passed s signature (Some fault) place next e = absurd (is_read (Shape fault.place fault.what) signature e)

-- the lines of the shape that are needed
pub record HasLines (document : Nodes) (signature : Spot) : Type 0 where
  pub is_signature : IsSignature document signature
  pub parts : parts_line document signature ≡ []
  pub qualifying : qualifying_line document signature ≡ []

of_only : (is_whole : DatumKind → List ℕ → Bool) (document : Nodes) (signature : Spot) (signatures : List Spot) → Each (IsSignature document) signatures
    → only (read_parts is_whole document) signatures ≡ Read signature → HasLines document signature
of_only is_whole document signature [] h e = absurd (is_read NoSignature signature e)
of_only is_whole document signature (s ∷ next ∷ signatures) h e = absurd (is_read Several signature e)
of_only is_whole document signature (s ∷ []) h e =
    let p = passed s signature (first_fault (shape_faults document s)) (first_place (paths (includes document s))) (first_place (bad_data is_whole document s)) e in
    let lines = lines_of document s (none_first (shape_faults document s) p.1) in
    subst (HasLines document) p.0 (record { is_signature = h.0; parts = lines.parts; qualifying = lines.qualifying })

-- The value and the host.

abbrev part_slots : List Slot
part_slots = one (ds (codes "SignedInfo")) ∷ one (ds (codes "SignatureValue")) ∷ one (ds (codes "KeyInfo")) ∷ any_number (ds (codes "Object")) ∷ []

lacks_none : (b : Bool) (path : Path) (others : List Path) → cond b (path ∷ []) others ≡ [] → b ≡ false
lacks_none true path others e = absurd (not_nothing path [] e)
lacks_none false path others e = refl

value_of : (document : Nodes) (signature : Spot) → parts_line document signature ≡ [] → (place : Spot) × (value document signature ≡ place ∷ [])
value_of document signature e =
    let children : List Spot = elements_in document signature in
    let misfit = behind_nothing (with_stray_text document (signature ∷ [])) (misfits document part_slots (signature ∷ [])) e in
    let here = front_nothing (cond (lacks_one part_slots children) (signature.path ∷ []) (first_misfit part_slots children)) [] misfit in
    let lacks = lacks_none (lacks_one part_slots children) signature.path (first_misfit part_slots children) here in
    let behind = (neither _ _ lacks).1 in
    let missing = (neither _ _ behind).0 in
    one_first (called document (ds (codes "SignatureValue")) signature)
    (any_first (is_called (ds (codes "SignatureValue"))) children (not-false (list_any (is_called (ds (codes "SignatureValue"))) children) missing))

holders_there : (b : Bool) (objects : List Spot) (signature : Spot) → cond b (or_first objects signature) [] ≡ [] → b ≡ false
holders_there true [] signature e = absurd (not_nothing signature.path [] e)
holders_there true (object ∷ objects) signature e = absurd (not_nothing object.path [] e)
holders_there false objects signature e = refl

abbrev wrong_targets : Nodes → Spot → List Path
wrong_targets document signature =
    paths (filter (λ spot. not (points_to (attribute (codes "Target") spot) (id_of signature))) (qualifying document signature))

qualifying_of : (document : Nodes) (signature : Spot) → qualifying_line document signature ≡ [] → HasFirst (qualifying document signature)
qualifying_of document signature e =
    let name : Expanded = xades (codes "QualifyingProperties") in
    let holders : List Spot = qualifying_objects document signature in
    let to_targets = front_nothing _ (wrong_targets document signature) e in
    let to_ids = front_nothing _ (without_attribute (codes "Target") (qualifying document signature)) to_targets in
    let to_further = front_nothing _ (without_attribute (codes "Id") (signature ∷ [])) to_ids in
    let to_later = front_nothing _ (further document name (first holders)) to_further in
    let to_none = front_nothing _ (paths (drop 1 holders)) to_later in
    let there = holders_there (is_empty holders) (objects document signature) signature (behind_nothing (with_stray_text document holders) _ to_none) in
    let h = has_first holders there in
    let q = has_first (called document name h.0)
    (not-true (is_empty (called document name h.0)) (first_passes (is_qualifying document) (objects document signature) h.0 h.1 h.2)) in
    (q.0, [], ap (λ spots. first (called_in document name (first spots))) h.2 ∙ ap (λ spots. first (spots ++ [])) q.2)

host_of : (document : Nodes) (signature : Spot) → qualifying_line document signature ≡ [] → (place : Spot) × (host document signature ≡ place ∷ [])
host_of document signature e =
    one_first (unsigned_signature document signature ++ unsigned document signature ++ qualifying document signature)
    (last_first (unsigned_signature document signature ++ unsigned document signature) (qualifying document signature) (qualifying_of document signature e))

pub read_takes_item : (is_whole : DatumKind → List ℕ → Bool) (document : Nodes) (signature : Spot) (item : Item)
    → answer is_whole document ≡ Read signature → IsFree document signature → MayTake document signature item → TakesItem document signature item
read_takes_item is_whole document signature item e free may =
    let lines = of_only is_whole document signature (counted document) (counted_stand document) e in record {
      is_signature = lines.is_signature;
      value_place = value_of document signature lines.parts;
      property_place = host_of document signature lines.qualifying;
      free = free;
      may = may;
    }
