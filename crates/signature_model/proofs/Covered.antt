-- What a signature covers stays where content is put into it.
use Rattle.std.proofs.Common.{◌≡◌, ℕ, suc, Bool, true, false, cond, List, [], ◌∷◌, ◌++◌, Option, Some, None, refl, sym, ◌∙◌, ap, codes}
use Rattle.std.proofs.lemmas.Option.{none-some}
use Rattle.std.specs.Prelude.{filter}
use Rattle.std.specs.List.{list_any}
use Rattle.document_model.specs.Names.{Expanded, same_expanded}
use Rattle.document_model.specs.Tree.{Nodes, Path, put_last}
use Rattle.document_model.specs.Insertion.{HasNoIdentifiers}
use Rattle.signature_model.specs.Vocabulary.{ds, xades}
use Rattle.signature_model.specs.Spots.{Spot, is_called}
use Rattle.signature_model.specs.Parts.{value, references, is_qualifying, host, plain_form, is_blank}
use Rattle.signature_model.specs.Chains.{Handed}
use Rattle.signature_model.specs.Covers.{Digested, digested, places, is_reached, covers_place, first_covering, IsFree}
use Rattle.signature_model.proofs.Standing.{Each, IsChild}
use Rattle.signature_model.proofs.Lists.{none_last}
use Rattle.signature_model.proofs.Apart.{Apart, IsNamed, named_apart}
use Rattle.signature_model.proofs.References.{IsOther, references_stay, references_named, reference_stays}

-- The host is below the Object of the properties.
pub record Below (document : Nodes) (signature spot : Spot) : Type 0 where
  pub object : Spot
  pub is_child : IsChild document signature object
  pub named : is_called (ds (codes "Object")) object ≡ true
  pub qualifies : is_qualifying document object ≡ true
  pub rest : Path
  pub path : spot.path ≡ object.path ++ rest

-- It has another name than what is read of the value, the Objects and stamps.
pub record IsProperty (host_name : Expanded) : Type 0 where
  pub value : same_expanded (ds (codes "SignatureValue")) host_name ≡ false
  pub object : same_expanded (ds (codes "Object")) host_name ≡ false
  pub token : same_expanded (xades (codes "EncapsulatedTimeStamp")) host_name ≡ false

pub record Setting (document added : Nodes) (signature place : Spot) (host_name : Expanded) : Type 0 where
  pub signature_named : IsNamed document (ds (codes "Signature")) signature
  pub place_named : IsNamed document host_name place
  pub other : IsOther host_name
  pub no_identifiers : HasNoIdentifiers added
  pub unreached : Each (λ reference. is_reached document signature.path place reference ≡ false) (references document signature)

-- The References.

abbrev pub Unreached : Nodes → Spot → Spot → Spot → Type 0
Unreached document signature place reference = IsNamed document (ds (codes "Reference")) reference × (is_reached document signature.path place reference ≡ false)

each_both : {A : Type 0} (P Q : A → Type 0) (xs : List A) → Each P xs → Each Q xs → Each (λ x. P x × Q x) xs
each_both P Q [] h k = tt
each_both P Q (x ∷ xs) h k = ((h.0, k.0), each_both P Q xs h.1 k.1)

pub unreached_references : (document added : Nodes) (signature place : Spot) (host_name : Expanded) → Setting document added signature place host_name
    → Each (Unreached document signature place) (references document signature)
unreached_references document added signature place host_name s =
    each_both (IsNamed document (ds (codes "Reference"))) (λ reference. is_reached document signature.path place reference ≡ false) (references document signature)
    (references_named document signature s.signature_named.stands) s.unreached

pub signature_apart : (document added : Nodes) (signature place : Spot) (host_name : Expanded) → Setting document added signature place host_name → Apart document place signature
signature_apart document added signature place host_name s =
    named_apart document place (ds (codes "Signature")) host_name s.place_named s.other.signature signature s.signature_named

digested_stay : (handed : Handed) (document added : Nodes) (signature place : Spot) (host_name : Expanded) → Setting document added signature place host_name
    → (k : ℕ) (list : List Spot) → Each (Unreached document signature place) list
    → digested handed (put_last added place.path document) signature.path k list ≡ digested handed document signature.path k list
digested_stay handed document added signature place host_name s k [] h = refl
digested_stay handed document added signature place host_name s k (reference ∷ list) h =
    let one = reference_stays plain_form handed document added place host_name s.place_named s.other s.no_identifiers signature.path reference h.0.0 h.0.1 in
    let others = digested_stay handed document added signature place host_name s (suc k) list h.1 in
    λ i. Digested k (one i) ∷ others i

pub all_digested_stay : (handed : Handed) (document added : Nodes) (signature place : Spot) (host_name : Expanded) → Setting document added signature place host_name
    → digested handed (put_last added place.path document) signature.path 1 (references (put_last added place.path document) signature)
    ≡ digested handed document signature.path 1 (references document signature)
all_digested_stay handed document added signature place host_name s =
    ap (digested handed (put_last added place.path document) signature.path 1)
    (references_stay document added place signature host_name s.place_named s.other (signature_apart document added signature place host_name s))
    ∙ digested_stay handed document added signature place host_name s 1 (references document signature) (unreached_references document added signature place host_name s)

-- Free places.

pub cond_none : (b : Bool) (k : ℕ) (o : Option ℕ) → cond b (Some k) o ≡ None → (b ≡ false) × (o ≡ None)
cond_none true k o e = absurd (none-some k (sym e))
cond_none false k o e = (refl, e)

free_at : (document : Nodes) (signature place : Spot) (front : List Spot) → places document signature ≡ front ++ place ∷ [] → (k : ℕ) (list : List Spot)
    → first_covering document signature k list ≡ None → Each (λ reference. is_reached document signature.path place reference ≡ false) list
free_at document signature place front p k [] e = tt
free_at document signature place front p k (reference ∷ list) e =
    let here = cond_none (covers_place document signature reference) k _ e in (
      none_last (λ spot. is_reached document signature.path spot reference) front place
          (ap (list_any (λ spot. is_reached document signature.path spot reference)) (sym p) ∙ here.0),
      free_at document signature place front p (suc k) list here.1,
    )

pub free_at_host : (document : Nodes) (signature place : Spot) → host document signature ≡ place ∷ [] → IsFree document signature
    → Each (λ reference. is_reached document signature.path place reference ≡ false) (references document signature)
free_at_host document signature place e f =
    free_at document signature place (filter (is_blank document) (value document signature))
    (ap (λ spots. filter (is_blank document) (value document signature) ++ spots) e) 1 (references document signature) f
