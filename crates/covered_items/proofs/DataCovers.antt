-- Validation data add nothing to what a signature covers.
use Rattle.std.proofs.Common.{◌≡◌, ℕ, Bool, true, false, cond, List, [], ◌∷◌, ◌++◌, refl, ◌∙◌, ap, subst}
use Rattle.std.proofs.lemmas.List.{append-nil}
use Rattle.document_model.specs.Tree.{Nodes, Path, put_last}
use Rattle.document_model.specs.Scopes.{Tag}
use Rattle.signature_model.specs.Spots.{Spot}
use Rattle.signature_model.specs.Parts.{Material, kind_of, host, properties, is_signed, token}
use Rattle.signature_model.specs.Chains.{Handed}
use Rattle.signature_model.specs.Octets.{octets_at}
use Rattle.signature_model.specs.Covers.{Entry, stamped_by, stamped, covers}
use Rattle.signature_model.specs.Fragments.{Data, with_item, data_fragment, certificates_fragment, lists_fragment, ◌then◌, stands_alone, content_of}
use Rattle.signature_model.specs.Keeping.{TakesItem}
use Rattle.signature_model.proofs.Standing.{Each}
use Rattle.signature_model.proofs.PropertyKept.{setting_adds}
use Rattle.signature_model.proofs.ItemKept.{put_at}
use Rattle.signature_model.proofs.Plain.{content_plain, none_and}
use Rattle.covered_items.proofs.NewElements.{AreElements, spots_from}
use Rattle.covered_items.proofs.NewProperties.{many_properties}

abbrev IsMaterial : Spot → Type 0
IsMaterial property = kind_of property ≡ Material

values_are_material : (certificates lists : List (List ℕ)) (path : Path) (tags : List Tag) (k : ℕ)
    → Each IsMaterial (spots_from path tags k (certificates_fragment certificates then lists_fragment lists))
values_are_material [] [] path tags k = tt
values_are_material (c ∷ cs) [] path tags k = (refl, tt)
values_are_material [] (l ∷ ls) path tags k = (refl, tt)
values_are_material (c ∷ cs) (l ∷ ls) path tags k = (refl, (refl, tt))

data_are_material : (b : Bool) (certificates lists : List (List ℕ)) (path : Path) (tags : List Tag) (k : ℕ) → Each IsMaterial (spots_from path tags k (data_fragment b certificates lists))
data_are_material true certificates lists path tags k = values_are_material certificates lists path tags k
data_are_material false certificates lists path tags k = (refl, tt)

pub values_are_elements : (certificates lists : List (List ℕ)) → AreElements (certificates_fragment certificates then lists_fragment lists)
values_are_elements [] [] = tt
values_are_elements (c ∷ cs) [] = tt
values_are_elements [] (l ∷ ls) = tt
values_are_elements (c ∷ cs) (l ∷ ls) = tt

pub data_are_elements : (b : Bool) (certificates lists : List (List ℕ)) → AreElements (data_fragment b certificates lists)
data_are_elements true certificates lists = values_are_elements certificates lists
data_are_elements false certificates lists = tt

nothing_stamped : (handed : Handed) (d : Nodes) (signature : Spot) (before spots : List Spot) → Each IsMaterial spots → stamped handed d signature before spots ≡ []
nothing_stamped handed d signature before [] h = refl
nothing_stamped handed d signature before (property ∷ spots) h =
    none_and _ _ (ap (λ kind. stamped_by kind (token d property) (octets_at handed d signature before property)) h.0)
    (nothing_stamped handed d signature (before ++ property ∷ []) spots h.1)

cond_nothing : (b : Bool) (entries : List Entry) → entries ≡ [] → cond b entries [] ≡ []
cond_nothing true entries e = e
cond_nothing false entries e = refl

pub data_cover_nothing : (handed : Handed) (document : Nodes) (signature : Spot) (certificates lists : List (List ℕ)) → TakesItem document signature (Data certificates lists)
    → covers handed (with_item document signature (Data certificates lists)) signature ≡ covers handed document signature
data_cover_nothing handed document signature certificates lists t =
    let item = Data certificates lists in
    let place : Spot = t.property_place.0 in
    let added : Nodes = content_of document signature item in
    let new : Nodes = put_last added place.path document in
    let b : Bool = stands_alone document signature in
    let content : Nodes = data_fragment b certificates lists in
    let many = many_properties document added signature place content (data_are_elements b certificates lists) refl t.is_signature t.property_place.1 t.free (content_plain document signature item) in
    let more : List Spot = spots_from many.path many.tags many.number content in
    let P : Nodes → Type 0 = λ d. covers handed d signature ≡ covers handed document signature in
    subst P (put_at document added (host document signature) place t.property_place.1)
    (setting_adds handed document added signature place many.host_name many.setting (record { more = more; grown = many.grown; held = many.held })
    ∙ ap (λ entries. covers handed document signature ++ entries)
    (cond_nothing (is_signed document signature) _ (nothing_stamped handed new signature (properties document signature) more (data_are_material b certificates lists many.path many.tags many.number)))
    ∙ append-nil (covers handed document signature))
