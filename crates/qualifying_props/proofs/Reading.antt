-- Data that are read one after another.
use Rattle.std.proofs.Common.{◌≡◌, ℕ, Bool, true, false, cond, List, [], ◌∷◌, ◌++◌, refl, sym, ◌∙◌, ap, append_assoc}
use Rattle.std.proofs.lemmas.List.{append-nil}
use Rattle.std.specs.Prelude.{filter, map}
use Rattle.document_model.specs.Tree.{Nodes, Path}
use Rattle.doc_spans.specs.declared.documents.Doc.{Doc}
use Rattle.doc_spans.specs.Seen.{document_in}
use Rattle.signature_model.specs.Faults.{with_places}
use Rattle.signature_model.specs.Parts.{Datum}
use Rattle.signature_model.specs.Readable.{is_bad}
use Rattle.signature_parts.specs.declared.places.FirstPlace.{FirstPlace}
use Rattle.signature_parts.specs.Places.{place_in, Adds, IsWithin}
use Rattle.signature_parts.proofs.Adding.{Adding, adds_none, adds_as, adding_goes_on, adding_ends}
use Rattle.qualifying_props.specs.Data.{all_octets, bad_places, octets_of, Reads}
use Rattle.qualifying_props.specs.Whole.{is_whole}

-- Lists.

pub all_octets-append : (document : Nodes) (a b : List Datum) → all_octets document (a ++ b) ≡ all_octets document a ++ all_octets document b
all_octets-append document [] b = refl
all_octets-append document (datum ∷ a) b = ap (λ xs. octets_of document datum ∷ xs) (all_octets-append document a b)

pub bad_places-append : (document : Nodes) (a b : List Datum) → bad_places document (a ++ b) ≡ bad_places document a ++ bad_places document b
bad_places-append document [] b = refl
bad_places-append document (datum ∷ a) b = by_test (is_bad is_whole document datum) (bad_places-append document a b)
  where
    place : Datum → Path
    place d = d.spot.path

    by_test : (bad : Bool) → bad_places document (a ++ b) ≡ bad_places document a ++ bad_places document b
        → map (λ d. d.spot.path) (cond bad (datum ∷ filter (is_bad is_whole document) (a ++ b)) (filter (is_bad is_whole document) (a ++ b)))
        ≡ map (λ d. d.spot.path) (cond bad (datum ∷ filter (is_bad is_whole document) a) (filter (is_bad is_whole document) a)) ++ bad_places document b
    by_test true e = ap (λ ps. datum.spot.path ∷ ps) e
    by_test false e = e

-- One datum.

one_bad : (bad : Bool) (datum : Datum) → cond bad (datum.spot.path ∷ []) [] ≡ map (λ d. d.spot.path) (cond bad (datum ∷ []) [])
one_bad true datum = refl
one_bad false datum = refl

pub adds_tested : (doc : Doc) (datum : Datum) (bad : Bool) (x y : FirstPlace) → bad ≡ is_bad is_whole (document_in doc) datum
    → Adds doc (cond bad (datum.spot.path ∷ []) []) x y → Adds doc (bad_places (document_in doc) (datum ∷ [])) x y
adds_tested doc datum bad x y e h =
    adds_as doc _ _ x y (ap (λ b. cond b (datum.spot.path ∷ []) []) e ∙ one_bad (is_bad is_whole (document_in doc) datum) datum) h

-- Some and then more.

pub reads_none : (doc : Doc) (before : List (List ℕ)) (bad : FirstPlace) → IsWithin doc bad → Reads doc [] before before bad bad
reads_none doc before bad h = record { octets = sym (append-nil before); bad = adds_none doc bad h }

pub reads_as : (doc : Doc) (a b : List Datum) (before now : List (List ℕ)) (bad bad_now : FirstPlace) → a ≡ b → Reads doc a before now bad bad_now
    → Reads doc b before now bad bad_now
reads_as doc a b before now bad bad_now e h = record {
  octets = h.octets ∙ ap (λ xs. before ++ all_octets (document_in doc) xs) e;
  bad = adds_as doc _ _ bad bad_now (ap (bad_places (document_in doc)) e) h.bad;
}

-- In a loop: what is left comes to what all comes to.

pub bad_starts : (doc : Doc) (left all : List Datum) (bad : FirstPlace) → left ≡ all → IsWithin doc bad
    → Adding doc (bad_places (document_in doc) left) (bad_places (document_in doc) all) bad bad
bad_starts doc left all bad e h = record { places = ap (λ xs. with_places (bad_places (document_in doc) xs) (place_in doc bad)) e; within = h }

pub record Reading (doc : Doc) (left all : List Datum) (before now : List (List ℕ)) (start kept : FirstPlace) : Type 0 where
  pub octets : now ++ all_octets (document_in doc) left ≡ before ++ all_octets (document_in doc) all
  pub bad : Adding doc (bad_places (document_in doc) left) (bad_places (document_in doc) all) start kept

pub reading_starts : (doc : Doc) (left all : List Datum) (before now : List (List ℕ)) (bad : FirstPlace) → left ≡ all → now ≡ before → IsWithin doc bad
    → Reading doc left all before now bad bad
reading_starts doc left all before now bad e f h = record {
  octets = (λ i. f i ++ all_octets (document_in doc) (e i));
  bad = bad_starts doc left all bad e h;
}

pub reading_goes_on : (doc : Doc) (these left rest all : List Datum) (before x y : List (List ℕ)) (start bad bad_now : FirstPlace) → rest ≡ these ++ left
    → Reading doc rest all before x start bad → Reads doc these x y bad bad_now → Reading doc left all before y start bad_now
reading_goes_on doc these left rest all before x y start bad bad_now e h k =
    let document = document_in doc in record {
      octets = ap (λ xs. xs ++ all_octets document left) k.octets ∙ append_assoc x (all_octets document these) (all_octets document left)
          ∙ sym (ap (λ xs. x ++ xs) (ap (all_octets document) e ∙ all_octets-append document these left)) ∙ h.octets;
      bad = adding_goes_on doc (bad_places document these) (bad_places document left) (bad_places document rest) (bad_places document all) bad bad_now start
          (ap (bad_places document) e ∙ bad_places-append document these left) h.bad k.bad;
    }

pub reading_ends : (doc : Doc) (left all : List Datum) (before now : List (List ℕ)) (start bad : FirstPlace) → left ≡ [] → Reading doc left all before now start bad
    → Reads doc all before now start bad
reading_ends doc left all before now start bad e h = record {
  octets = sym (append-nil now) ∙ sym (ap (λ xs. now ++ all_octets (document_in doc) xs) e) ∙ h.octets;
  bad = adding_ends doc _ _ bad start (ap (bad_places (document_in doc)) e) h.bad;
}
