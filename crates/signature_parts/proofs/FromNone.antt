-- The first place of a line, and names that are written in the program.
use Rattle.std.proofs.Common.{◌≡◌, ℕ, Bool, true, List, None, ◌∙◌, ap}
use Rattle.std.specs.Str.{chars}
use Rattle.document_model.specs.Names.{Expanded}
use Rattle.document_model.specs.Tree.{Path}
use Rattle.xml_items.specs.Texts.{is_ascii}
use Rattle.doc_spans.specs.declared.documents.Doc.{Doc}
use Rattle.signature_model.specs.Spots.{Spot, is_called}
use Rattle.signature_model.specs.Vocabulary.{ds, xades}
use Rattle.signature_parts.specs.declared.places.FirstPlace.{FirstPlace}
use Rattle.signature_model.specs.Faults.{with_places}
use Rattle.signature_parts.specs.Places.{place_in, Adds, IsFirst, IsWithin}
use Rattle.signature_parts.proofs.Adding.{Adding, adds_as, adds_first}
use Rattle.signature_parts.proofs.AnyOrder.{Alike, adds_alike}
use Rattle.signature_parts.proofs.Named.{ds_name, xades_name}

pub first_of_all : (doc : Doc) (a b : List Path) (x y : FirstPlace) → x.node ≡ None → Alike a b → Adds doc a x y → IsFirst doc b y
first_of_all doc a b x y e l h = adds_first doc b x y e (adds_alike doc a b x y l h)

-- In a loop, at its start.
pub adding_from : (doc : Doc) (left all : List Path) (x : FirstPlace) → left ≡ all → IsWithin doc x → Adding doc left all x x
adding_from doc left all x e h = record { places = ap (λ places. with_places places (place_in doc x)) e; within = h }

-- Elements by their names.

pub called_ds : (local : List ℕ) (name : Expanded) (spot : Spot) (r : Bool) → is_ascii local ≡ true → name ≡ ds (chars local) → r ≡ is_called name spot → r ≡ is_called (ds local) spot
called_ds local name spot r a n e = e ∙ ap (λ x. is_called x spot) (ds_name name local a n)

pub called_xades : (local : List ℕ) (name : Expanded) (spot : Spot) (r : Bool) → is_ascii local ≡ true → name ≡ xades (chars local) → r ≡ is_called name spot → r ≡ is_called (xades local) spot
called_xades local name spot r a n e = e ∙ ap (λ x. is_called x spot) (xades_name name local a n)

-- Places of elements by a name that is written.
pub adds_ds : (doc : Doc) (F : Expanded → List Path) (local : List ℕ) (name : Expanded) (x y : FirstPlace) → is_ascii local ≡ true → name ≡ ds (chars local) → Adds doc (F name) x y → Adds doc (F (ds local)) x y
adds_ds doc F local name x y a n h = adds_as doc _ _ x y (ap F (ds_name name local a n)) h

pub adds_xades : (doc : Doc) (F : Expanded → List Path) (local : List ℕ) (name : Expanded) (x y : FirstPlace) → is_ascii local ≡ true → name ≡ xades (chars local) → Adds doc (F name) x y → Adds doc (F (xades local)) x y
adds_xades doc F local name x y a n h = adds_as doc _ _ x y (ap F (xades_name name local a n)) h

-- and of a part
pub adds_part : (doc : Doc) (F : List Spot → List Path) (spots wanted : List Spot) (x y : FirstPlace) → spots ≡ wanted → Adds doc (F spots) x y → Adds doc (F wanted) x y
adds_part doc F spots wanted x y e h = adds_as doc _ _ x y (ap F e) h

pub adds_part_ds : (doc : Doc) (F : Expanded → List Spot → List Path) (local : List ℕ) (name : Expanded) (spots wanted : List Spot) (x y : FirstPlace) → is_ascii local ≡ true → name ≡ ds (chars local)
    → spots ≡ wanted → Adds doc (F name spots) x y → Adds doc (F (ds local) wanted) x y
adds_part_ds doc F local name spots wanted x y a n e h = adds_as doc _ _ x y (λ i. F (ds_name name local a n i) (e i)) h

pub adds_part_xades : (doc : Doc) (F : Expanded → List Spot → List Path) (local : List ℕ) (name : Expanded) (spots wanted : List Spot) (x y : FirstPlace) → is_ascii local ≡ true → name ≡ xades (chars local)
    → spots ≡ wanted → Adds doc (F name spots) x y → Adds doc (F (xades local) wanted) x y
adds_part_xades doc F local name spots wanted x y a n e h = adds_as doc _ _ x y (λ i. F (xades_name name local a n i) (e i)) h
