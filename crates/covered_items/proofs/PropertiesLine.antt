-- The line on the qualifying properties' children, cut into its parts, and one more child.
use Rattle.std.proofs.Common.{◌≡◌, Bool, true, false, cond, not, ◌||◌, List, [], ◌∷◌, ◌++◌, Some, None, refl, sym, ◌∙◌, ap, codes}
use Rattle.std.proofs.lemmas.List.{append-nil}
use Rattle.std.proofs.lemmas.List.Folds.{list_any-append}
use Rattle.std.proofs.lemmas.List.Elements.{filter-append}
use Rattle.std.specs.Prelude.{filter}
use Rattle.std.specs.List.{list_any}
use Rattle.std.specs.Option.{option_map_or}
use Rattle.document_model.specs.Names.{Expanded, same_expanded}
use Rattle.document_model.specs.Tree.{Nodes, Path}
use Rattle.signature_model.specs.Vocabulary.{xades}
use Rattle.signature_model.specs.Spots.{Spot, is_called, elements_in, first, paths, held_at, has_stray_text}
use Rattle.signature_model.specs.Parts.{qualifying, signed_properties, unsigned, unsigned_signature}
use Rattle.signature_model.specs.Holding.{Slot, one, at_most_one, first_misfit, lacks_one, misfits_among, misfits, without_attribute, with_stray_text}
use Rattle.signature_model.specs.Shape.{properties_line}
use Rattle.signature_model.proofs.Standing.{Each}
use Rattle.signature_model.proofs.Lists.{not_both}
use Rattle.signature_model.proofs.Apart.{Apart, all_apart}
use Rattle.signature_model.proofs.PropertyKept.{PropertySetting}
use Rattle.covered_items.proofs.SignedPartsStay.{signed_named}
use Rattle.covered_items.proofs.Lists.{paths_both}
use Rattle.signature_model.proofs.Plain.{none_and}
use Rattle.signature_model.proofs.ShapeLines.{not_nothing, front_nothing, behind_nothing}

-- Stray text.

pub stray_both : (d : Nodes) (xs ys : List Spot) → with_stray_text d (xs ++ ys) ≡ with_stray_text d xs ++ with_stray_text d ys
stray_both d xs ys =
    ap paths (filter-append (λ spot. has_stray_text (held_at d spot.path)) xs ys)
    ∙ paths_both (filter (λ spot. has_stray_text (held_at d spot.path)) xs) (filter (λ spot. has_stray_text (held_at d spot.path)) ys)

pub stray_one : (d : Nodes) (spot : Spot) → has_stray_text (held_at d spot.path) ≡ false → with_stray_text d (spot ∷ []) ≡ []
stray_one d spot e = ap (λ b. paths (cond b (spot ∷ []) [])) e

pub none_of_one : (d : Nodes) (spot : Spot) → with_stray_text d (spot ∷ []) ≡ [] → has_stray_text (held_at d spot.path) ≡ false
none_of_one d spot e = by_bool (has_stray_text (held_at d spot.path)) e
  where
    by_bool : (b : Bool) → paths (cond b (spot ∷ []) []) ≡ [] → b ≡ false
    by_bool true e = absurd (not_nothing spot.path [] e)
    by_bool false e = refl

-- Children.

pub nothing_first : (spots : List Spot) → first spots ≡ [] → spots ≡ []
nothing_first [] e = refl
nothing_first (spot ∷ spots) e = absurd (not_nothing spot [] e)

-- one more child, where none with its name stood
pub lone : (x : Expanded) (children : List Spot) (spot : Spot) → first_misfit (at_most_one x ∷ []) children ≡ [] → filter (is_called x) children ≡ [] → is_called x spot ≡ true
    → first_misfit (at_most_one x ∷ []) (children ++ spot ∷ []) ≡ []
lone x [] spot e none is = ap (λ b. option_map_or (λ left. first_misfit left []) (cond b (Some []) None) (spot.path ∷ [])) is
lone x (child ∷ children) spot e none is = absurd (by_bool (is_called x child) e none)
  where
    by_bool : (b : Bool) → option_map_or (λ left. first_misfit left children) (cond b (Some []) None) (child.path ∷ []) ≡ [] → cond b (child ∷ filter (is_called x) children) (filter (is_called x) children) ≡ [] → ⊥
    by_bool true e none = not_nothing child (filter (is_called x) children) none
    by_bool false e none = not_nothing child.path [] e

pub unless : (b : Bool) (path : Path) (misfit : List Path) → cond b (path ∷ []) misfit ≡ [] → (b ≡ false) × (misfit ≡ [])
unless true path misfit e = absurd (not_nothing path [] e)
unless false path misfit e = (refl, e)

-- behind a required child
pub pair : (x y : Expanded) (children : List Spot) (spot : Spot) → lacks_one (one x ∷ at_most_one y ∷ []) children ≡ false → first_misfit (one x ∷ at_most_one y ∷ []) children ≡ []
    → filter (is_called y) children ≡ [] → is_called y spot ≡ true → first_misfit (one x ∷ at_most_one y ∷ []) (children ++ spot ∷ []) ≡ []
pair x y [] spot lacks e none is = absurd (not_both lacks)
pair x y (child ∷ children) spot lacks e none is = by_two (is_called x child) (is_called y child) e none
  where
    by_two : (b c : Bool) → option_map_or (λ left. first_misfit left children) (cond b (Some (at_most_one y ∷ [])) None) (child.path ∷ []) ≡ []
        → cond c (child ∷ filter (is_called y) children) (filter (is_called y) children) ≡ []
        → option_map_or (λ left. first_misfit left (children ++ spot ∷ [])) (cond b (Some (at_most_one y ∷ [])) None) (child.path ∷ []) ≡ []
    by_two false c e none = absurd (not_nothing child.path [] e)
    by_two true true e none = absurd (not_nothing child (filter (is_called y) children) none)
    by_two true false e none = lone y children spot e none is

true_of_not : (b c : Bool) → ((not b) || c) ≡ false → b ≡ true
true_of_not true c e = refl
true_of_not false c e = absurd (not_both e)

pub still_has : (x y : Expanded) (children : List Spot) (spot : Spot) → lacks_one (one x ∷ at_most_one y ∷ []) children ≡ false → lacks_one (one x ∷ at_most_one y ∷ []) (children ++ spot ∷ []) ≡ false
still_has x y children spot e =
    let h = true_of_not (list_any (is_called x) children) false e in
    ap (λ b. not b || false) (list_any-append (is_called x) children (spot ∷ [])) ∙ ap (λ b. not (b || list_any (is_called x) (spot ∷ [])) || false) h

-- The line.

abbrev pub HolderSlots : List Slot
HolderSlots = one (xades (codes "SignedProperties")) ∷ at_most_one (xades (codes "UnsignedProperties")) ∷ []

abbrev pub ListSlots : List Slot
ListSlots = at_most_one (xades (codes "UnsignedSignatureProperties")) ∷ []

pub record LineParts (d : Nodes) (signature : Spot) : Type 0 where
  pub q_text : with_stray_text d (qualifying d signature) ≡ []
  pub s_text : with_stray_text d (signed_properties d signature) ≡ []
  pub u_text : with_stray_text d (unsigned d signature) ≡ []
  pub l_text : with_stray_text d (unsigned_signature d signature) ≡ []
  pub holder : misfits d HolderSlots (qualifying d signature) ≡ []
  pub id : without_attribute (codes "Id") (signed_properties d signature) ≡ []
  pub list : misfits d ListSlots (unsigned d signature) ≡ []

pub parts_of : (d : Nodes) (signature : Spot) → properties_line d signature ≡ [] → LineParts d signature
parts_of d signature e =
    let q = qualifying d signature in
    let s = signed_properties d signature in
    let u = unsigned d signature in
    let l = unsigned_signature d signature in
    let t = with_stray_text d (q ++ s ++ u ++ l) in
    let m = misfits d HolderSlots q in
    let w = without_attribute (codes "Id") s in
    let r2 = front_nothing (t ++ m ++ w) (misfits d ListSlots u) e in
    let r1 = front_nothing (t ++ m) w r2 in
    let r0 = front_nothing t m r1 in
    let t0 = sym (stray_both d (q ++ s ++ u) l) ∙ r0 in
    let t1 = sym (stray_both d (q ++ s) u) ∙ front_nothing (with_stray_text d (q ++ s ++ u)) (with_stray_text d l) t0 in
    let t2 = sym (stray_both d q s) ∙ front_nothing (with_stray_text d (q ++ s)) (with_stray_text d u) t1 in
    record {
      q_text = front_nothing (with_stray_text d q) (with_stray_text d s) t2;
      s_text = behind_nothing (with_stray_text d q) (with_stray_text d s) t2;
      u_text = behind_nothing (with_stray_text d (q ++ s)) (with_stray_text d u) t1;
      l_text = behind_nothing (with_stray_text d (q ++ s ++ u)) (with_stray_text d l) t0;
      holder = behind_nothing t m r1;
      id = behind_nothing (t ++ m) w r2;
      list = behind_nothing (t ++ m ++ w) (misfits d ListSlots u) e;
    }

pub line_of : (d : Nodes) (signature : Spot) → LineParts d signature → properties_line d signature ≡ []
line_of d signature p =
    let q = qualifying d signature in
    let s = signed_properties d signature in
    let u = unsigned d signature in
    let l = unsigned_signature d signature in
    let text : with_stray_text d (q ++ s ++ u ++ l) ≡ [] =
    stray_both d (q ++ s ++ u) l ∙ none_and _ _ (stray_both d (q ++ s) u ∙ none_and _ _ (stray_both d q s ∙ none_and _ _ p.q_text p.s_text) p.u_text) p.l_text in
    none_and _ _ (none_and _ _ (none_and _ _ text p.holder) p.id) p.list

-- the misfits of one holder
pub one_holder : (d : Nodes) (slots : List Slot) (spots : List Spot) (spot : Spot) → spots ≡ spot ∷ [] → misfits d slots spots ≡ [] → misfits_among slots spot (elements_in d spot) ≡ []
one_holder d slots spots spot e m = sym (append-nil (misfits_among slots spot (elements_in d spot))) ∙ sym (ap (misfits d slots) e) ∙ m

pub of_holder : (d : Nodes) (slots : List Slot) (spots : List Spot) (spot : Spot) → spots ≡ spot ∷ [] → misfits_among slots spot (elements_in d spot) ≡ [] → misfits d slots spots ≡ []
of_holder d slots spots spot e m = ap (misfits d slots) e ∙ append-nil (misfits_among slots spot (elements_in d spot)) ∙ m

pub sp_apart : (document added : Nodes) (signature place : Spot) (host_name : Expanded) → PropertySetting document added signature place host_name → same_expanded (xades (codes "SignedProperties")) host_name ≡ false
    → Each (Apart document place) (signed_properties document signature)
sp_apart document added signature place host_name s d =
    all_apart document place (xades (codes "SignedProperties")) host_name s.setting.place_named d (signed_properties document signature) (signed_named document signature s.setting.signature_named.stands)
