-- The first place and the first fault of a list, found from its front.
use Rattle.std.proofs.Common.{◌≡◌, Bool, true, false, cond, List, [], ◌∷◌, ◌++◌, Option, Some, None, refl, sym, ◌∙◌, ap}
use Rattle.document_model.specs.Canonical.{is_before}
use Rattle.document_model.specs.Tree.{Path}
use Rattle.document_model.proofs.ListOrder.{before_itself, before_on, before_one_way, not_before_on}
use Rattle.signature_model.specs.Faults.{ShapeFault, earlier, first_place, sooner, first_fault, with_place, with_places, with_fault, with_faults}

-- Places.

pub with_places_append : (a b : List Path) (kept : Option Path) → with_places (a ++ b) kept ≡ with_places b (with_places a kept)
with_places_append [] b kept = refl
with_places_append (place ∷ a) b kept = with_places_append a b (with_place place kept)

-- a place that doesn't come before the one that is kept changes nothing
pub later_place : (place kept : Path) → is_before place kept ≡ false → with_place place (Some kept) ≡ Some kept
later_place place kept e = ap (λ b. cond b (Some place) (Some kept)) e

-- so does one that comes behind it, and one that is the same
pub place_behind : (place kept : Path) → is_before kept place ≡ true → with_place place (Some kept) ≡ Some kept
place_behind place kept e = later_place place kept (before_one_way kept place e)

pub same_place : (place kept : Path) → kept ≡ place → with_place place (Some kept) ≡ Some kept
same_place place kept e = later_place place kept (ap (is_before place) e ∙ before_itself place)

earlier_on : (place kept : Path) (others : Option Path) → is_before place kept ≡ true
    → earlier place others ≡ earlier kept (Some (earlier place others))
earlier_on place kept None e = sym (ap (λ b. cond b place kept) e)
earlier_on place kept (Some other) e = by (is_before other place) refl
  where
    by : (b : Bool) → is_before other place ≡ b → cond b other place ≡ cond (is_before (cond b other place) kept) (cond b other place) kept
    by true f = sym (ap (λ b. cond b other kept) (before_on other place kept f e))
    by false f = sym (ap (λ b. cond b place kept) e)

earlier_stays : (place kept : Path) (others : Option Path) → is_before place kept ≡ false
    → earlier kept others ≡ earlier kept (Some (earlier place others))
earlier_stays place kept None e = sym (ap (λ b. cond b place kept) e)
earlier_stays place kept (Some other) e = by (is_before other place) refl
  where
    by : (b : Bool) → is_before other place ≡ b
        → cond (is_before other kept) other kept ≡ cond (is_before (cond b other place) kept) (cond b other place) kept
    by true f = refl
    by false f = ap (λ b. cond b other kept) (not_before_on other place kept f e) ∙ sym (ap (λ b. cond b place kept) e)

with_places_earlier : (places : List Path) (kept : Path) → with_places places (Some kept) ≡ Some (earlier kept (first_place places))
with_places_earlier [] kept = refl
with_places_earlier (place ∷ places) kept = by (with_places_earlier places) (is_before place kept) refl
  where
    by : ((k : Path) → with_places places (Some k) ≡ Some (earlier k (first_place places))) → (b : Bool) → is_before place kept ≡ b
        → with_places places (cond b (Some place) (Some kept)) ≡ Some (earlier kept (Some (earlier place (first_place places))))
    by others true e = others place ∙ ap Some (earlier_on place kept (first_place places) e)
    by others false e = others kept ∙ ap Some (earlier_stays place kept (first_place places) e)

-- From the front the same place is found.
pub with_places_first : (places : List Path) → with_places places None ≡ first_place places
with_places_first [] = refl
with_places_first (place ∷ places) = with_places_earlier places place

-- Faults.

pub with_faults_append : (a b : List ShapeFault) (kept : Option ShapeFault) → with_faults (a ++ b) kept ≡ with_faults b (with_faults a kept)
with_faults_append [] b kept = refl
with_faults_append (fault ∷ a) b kept = with_faults_append a b (with_fault fault kept)

-- a fault whose place doesn't come before that of the one that is kept changes nothing
pub later_fault : (fault kept : ShapeFault) → is_before fault.place kept.place ≡ false → with_fault fault (Some kept) ≡ Some kept
later_fault fault kept e = ap (λ b. cond b (Some fault) (Some kept)) e

-- so does one at a place behind it, and one at the same place
pub fault_behind : (fault kept : ShapeFault) → is_before kept.place fault.place ≡ true → with_fault fault (Some kept) ≡ Some kept
fault_behind fault kept e = later_fault fault kept (before_one_way kept.place fault.place e)

pub fault_there : (fault kept : ShapeFault) → kept.place ≡ fault.place → with_fault fault (Some kept) ≡ Some kept
fault_there fault kept e = later_fault fault kept (ap (is_before fault.place) e ∙ before_itself fault.place)

sooner_on : (fault kept : ShapeFault) (others : Option ShapeFault) → is_before fault.place kept.place ≡ true
    → sooner fault others ≡ sooner kept (Some (sooner fault others))
sooner_on fault kept None e = sym (ap (λ b. cond b fault kept) e)
sooner_on fault kept (Some other) e = by (is_before other.place fault.place) refl
  where
    by : (b : Bool) → is_before other.place fault.place ≡ b
        → cond b other fault ≡ cond (is_before (cond b other fault).place kept.place) (cond b other fault) kept
    by true f = sym (ap (λ b. cond b other kept) (before_on other.place fault.place kept.place f e))
    by false f = sym (ap (λ b. cond b fault kept) e)

sooner_stays : (fault kept : ShapeFault) (others : Option ShapeFault) → is_before fault.place kept.place ≡ false
    → sooner kept others ≡ sooner kept (Some (sooner fault others))
sooner_stays fault kept None e = sym (ap (λ b. cond b fault kept) e)
sooner_stays fault kept (Some other) e = by (is_before other.place fault.place) refl
  where
    by : (b : Bool) → is_before other.place fault.place ≡ b
        → cond (is_before other.place kept.place) other kept ≡ cond (is_before (cond b other fault).place kept.place) (cond b other fault) kept
    by true f = refl
    by false f = ap (λ b. cond b other kept) (not_before_on other.place fault.place kept.place f e) ∙ sym (ap (λ b. cond b fault kept) e)

with_faults_sooner : (faults : List ShapeFault) (kept : ShapeFault) → with_faults faults (Some kept) ≡ Some (sooner kept (first_fault faults))
with_faults_sooner [] kept = refl
with_faults_sooner (fault ∷ faults) kept = by (with_faults_sooner faults) (is_before fault.place kept.place) refl
  where
    by : ((k : ShapeFault) → with_faults faults (Some k) ≡ Some (sooner k (first_fault faults))) → (b : Bool) → is_before fault.place kept.place ≡ b
        → with_faults faults (cond b (Some fault) (Some kept)) ≡ Some (sooner kept (Some (sooner fault (first_fault faults))))
    by others true e = others fault ∙ ap Some (sooner_on fault kept (first_fault faults) e)
    by others false e = others kept ∙ ap Some (sooner_stays fault kept (first_fault faults) e)

-- From the front the same fault is found.
pub with_faults_first : (faults : List ShapeFault) → with_faults faults None ≡ first_fault faults
with_faults_first [] = refl
with_faults_first (fault ∷ faults) = with_faults_sooner faults fault

-- Faults of which none is at a place before that of the one that is kept change nothing.

abbrev pub AreLater : ShapeFault → List ShapeFault → Type 0
AreLater kept [] = Unit {0}
AreLater kept (fault ∷ faults) = (is_before fault.place kept.place ≡ false) × AreLater kept faults

pub later_faults : (faults : List ShapeFault) (kept : ShapeFault) → AreLater kept faults → with_faults faults (Some kept) ≡ Some kept
later_faults [] kept h = refl
later_faults (fault ∷ faults) kept h = ap (with_faults faults) (later_fault fault kept h.0) ∙ later_faults faults kept h.1
