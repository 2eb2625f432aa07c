-- The first elements with a name that is written in the program.
use Rattle.std.specs.List.{list_any}
use Rattle.std.specs.Prelude.{filter, option_map}
use Rattle.std.proofs.Common.{◌≡◌, ℕ, Bool, true, false, cond, not, ◌||◌, is_some, is_none, List, [], ◌∷◌, Option, Some, None, refl, sym, ◌∙◌, ap, IfSome}
use Rattle.std.specs.Str.{chars}
use Rattle.document_model.specs.Characters.{is_empty}
use Rattle.document_model.specs.Names.{Expanded}
use Rattle.xml_items.specs.Texts.{is_ascii}
use Rattle.doc_spans.specs.declared.documents.Doc.{Doc}
use Rattle.doc_spans.specs.declared.documents.NodeId.{NodeId}
use Rattle.doc_spans.specs.Seen.{document_in}
use Rattle.signature_model.specs.Spots.{Spot, attribute, is_called, elements_in, called, called_in, first}
use Rattle.signature_model.specs.Vocabulary.{ds, xades, xadesv141}
use Rattle.signature_elements.specs.Standing.{spot_or_none, IsThere}
use Rattle.signature_elements.proofs.AsciiNames.{word}
use Rattle.signature_parts.specs.Parts.{IsPart}

pub ds_name : (name : Expanded) (local : List ℕ) → is_ascii local ≡ true → name ≡ ds (chars local) → name ≡ ds local
ds_name name local a e = e ∙ ap ds (word local a)

pub xades_name : (name : Expanded) (local : List ℕ) → is_ascii local ≡ true → name ≡ xades (chars local) → name ≡ xades local
xades_name name local a e = e ∙ ap xades (word local a)

pub xadesv141_name : (name : Expanded) (local : List ℕ) → is_ascii local ≡ true → name ≡ xadesv141 (chars local) → name ≡ xadesv141 local
xadesv141_name name local a e = e ∙ ap xadesv141 (word local a)

pub part_called : (doc : Doc) (name wanted : Expanded) (holder : Spot) (found : Option NodeId) → name ≡ wanted
    → spot_or_none doc found ≡ first (called (document_in doc) name holder) → IfSome found (IsThere doc) → IsPart doc (first (called (document_in doc) wanted holder)) found
part_called doc name wanted holder found n e h = record { spot = e ∙ ap (λ x. first (called (document_in doc) x holder)) n; there = h }

pub part_in : (doc : Doc) (name wanted : Expanded) (part : Option NodeId) (holders : List Spot) (found : Option NodeId) → name ≡ wanted → IsPart doc holders part
    → spot_or_none doc found ≡ first (called_in (document_in doc) name (spot_or_none doc part)) → IfSome found (IsThere doc) → IsPart doc (first (called_in (document_in doc) wanted holders)) found
part_in doc name wanted part holders found n p e h = record { spot = e ∙ (λ i. first (called_in (document_in doc) (n i) (p.spot i))); there = h }

pub part_by : (doc : Doc) (name wanted : Expanded) (holders : List Spot) (found : Option NodeId) → name ≡ wanted
    → spot_or_none doc found ≡ first (called_in (document_in doc) name holders) → IfSome found (IsThere doc) → IsPart doc (first (called_in (document_in doc) wanted holders)) found
part_by doc name wanted holders found n e h = record { spot = e ∙ ap (λ x. first (called_in (document_in doc) x holders)) n; there = h }

-- whether there is one tells whether there are any
pub some_found : (doc : Doc) (found : Option NodeId) (spots : List Spot) → spot_or_none doc found ≡ first spots → is_some found ≡ not (is_empty spots)
some_found doc None [] e = refl
some_found doc None (spot ∷ spots) e = cc
some_found doc (Some node) [] e = cc
some_found doc (Some node) (spot ∷ spots) e = refl

-- all that have a name
pub all_called : (doc : Doc) (name wanted : Expanded) (holder : Spot) (spots : List Spot) → name ≡ wanted → spots ≡ called (document_in doc) name holder → spots ≡ called (document_in doc) wanted holder
all_called doc name wanted holder spots n e = e ∙ ap (λ x. called (document_in doc) x holder) n

-- whether there are any, by the first one
pub has_called : (doc : Doc) (name wanted : Expanded) (holder : Spot) (found : Option NodeId) → name ≡ wanted
    → spot_or_none doc found ≡ first (called (document_in doc) name holder) → is_some found ≡ not (is_empty (called (document_in doc) wanted holder))
has_called doc name wanted holder found n e =
    some_found doc found _ e ∙ ap (λ x. not (is_empty (called (document_in doc) x holder))) n

-- whether one was found tells whether an element passes
kept_any : (p : Spot → Bool) (spots : List Spot) → not (is_empty (filter p spots)) ≡ list_any p spots
kept_any p [] = refl
kept_any p (spot ∷ spots) = by_test (p spot) (kept_any p spots)
  where
    by_test : (b : Bool) → not (is_empty (filter p spots)) ≡ list_any p spots → not (is_empty (cond b (spot ∷ filter p spots) (filter p spots))) ≡ (b || list_any p spots)
    by_test true e = refl
    by_test false e = e

pub any_called : (doc : Doc) (name : Expanded) (holder : Spot) (found : Option NodeId) → spot_or_none doc found ≡ first (called (document_in doc) name holder)
    → is_some found ≡ list_any (is_called name) (elements_in (document_in doc) holder)
any_called doc name holder found e = some_found doc found _ e ∙ kept_any (is_called name) (elements_in (document_in doc) holder)

-- a test that tells whether there is none
pub none_by : (none some : Bool) → some ≡ not none → none ≡ not some
none_by true some e = sym (ap not e)
none_by false some e = sym (ap not e)

-- one element by its name
pub called_as : (name wanted : Expanded) (spot : Spot) (test : Bool) → name ≡ wanted → test ≡ is_called name spot → test ≡ is_called wanted spot
called_as name wanted spot test n e = e ∙ ap (λ x. is_called x spot) n

-- of an element that may not exist, which is a part
pub named_part : (doc : Doc) (name wanted : Expanded) (part : Option NodeId) (holders spots : List Spot) → name ≡ wanted → IsPart doc holders part
    → spots ≡ called_in (document_in doc) name (spot_or_none doc part) → spots ≡ called_in (document_in doc) wanted holders
named_part doc name wanted part holders spots n p e = e ∙ (λ i. called_in (document_in doc) (n i) (p.spot i))

pub none_mapped : {A B : Type 0} (f : A → B) (found : Option A) → not (is_some found) ≡ is_none (option_map f found)
none_mapped f None = refl
none_mapped f (Some x) = refl
