-- Certificates and revocation lists that are handed in, one after another.
use Rattle.std.proofs.Common.{◌≡◌, ℕ, ◌+◌, ◌-◌, ◌<◌, ◌≤◌, true, false, cond, List, [], ◌∷◌, ◌++◌, length, drop, map, Some, Ok, Err, sym, ◌∙◌, ap, subst, arith, length-append}
use Rattle.std.proofs.Math.Seq.{drop-append_seam}
use Rattle.std.proofs.lemmas.List.{drop-drop, length-drop}
use Rattle.std.proofs.lemmas.List.Elements.{All-head, All-tail}
use Rattle.std.proofs.lemmas.Option.{same_Some}
use Rattle.std.specs.List.{All, concat}
use Rattle.std.specs.Prelude.{option_map}
use Rattle.der_values.specs.Element.{Element, element_at}
use Rattle.der_values.specs.Elements.{elements}
use Rattle.der_values.specs.Fits.{Fits, IsElement, IsObject}
use Rattle.der_values.specs.Layout.{read_object}
use Rattle.der_values.proofs.ElementLaws.{element_again}
use Rattle.der_values.proofs.FitsLaws.{read_object-fits}
use Rattle.der_values.proofs.Steps.{elements_step}
use Rattle.x509_certs.specs.Data.{begins_with_0, behind, layout_of, object_in}
use Rattle.x509_certs.specs.Layouts.{certificate, revocation_list}
use Rattle.x509_certs.specs.View.{certificate_bytes, is_certificate, list_bytes, part_bytes}
use Rattle.x509_certs.specs.declared.part.Part.{Part}
use Rattle.x509_certs.specs.declared.part.Part.TheVariants as parts
use Rattle.cert_paths.specs.Pool.{IsWhole}
use Rattle.signature_objects.specs.Objects.{Certificate, RevocationList}
use Rattle.signature_evidence.specs.Material as material
use Rattle.case_steps.specs.Putting as putting
use Rattle.signature_cases.specs.Handed.{IsMaterial, IsWholePart}

-- A whole object is the element in front.

is_element : (part : List ℕ) → IsWholePart part → (e : Element) × IsElement e × (part ≡ e.whole)
unfolding Fits
is_element part w = elim (begins_with_0 part) as (λ b. Fits (cond b certificate revocation_list) [] part [] → (e : Element) × IsElement e × (part ≡ e.whole)) [
  | true ↦ λ f. (f.0, f.1, f.2)
  | false ↦ λ f. (f.0, f.1, f.2)
] w.fits

-- What is left behind a place are whole objects.
pub record Left (bytes : List ℕ) (at : ℕ) : Type 0 where
  pub parts : List (List ℕ)
  pub whole : All IsWholePart parts
  pub joined : concat parts ≡ drop at bytes
  pub within : at ≤ length bytes

pub left_starts : (bytes : List ℕ) → IsMaterial bytes → Left bytes 0
left_starts bytes m = record { parts = m.parts; whole = m.whole; joined = m.joined; within = omega arith }

-- the next one
pub record Next (bytes : List ℕ) (at : ℕ) : Type 0 where
  pub element : Element
  pub found : element_at (drop at bytes) ≡ Some element
  pub whole : IsWholePart element.whole
  pub rest : Left bytes (at + length element.whole)

pub next : (bytes : List ℕ) (at : ℕ) → at < length bytes → Left bytes at → Next bytes at
next bytes at lt l = by_parts l.parts l.whole l.joined
  where
    by_parts : (pieces : List (List ℕ)) → All IsWholePart pieces → concat pieces ≡ drop at bytes → Next bytes at
    by_parts [] w e = let long : 0 ≡ length bytes - at = ap length e ∙ length-drop at bytes in absurd (omega (arith, long, lt))
    by_parts (part ∷ pieces) w e =
        let is = is_element part (All-head IsWholePart part pieces w) in
        let behind_it : concat pieces ≡ drop (at + length part) bytes =
        sym (drop-append_seam part (concat pieces)) ∙ ap (drop (length part)) e ∙ drop-drop (length part) at bytes in
        let long : length part + length (concat pieces) ≡ length bytes - at = sym (length-append part (concat pieces)) ∙ ap length e ∙ length-drop at bytes in
        let within = l.within in
        let end : at + length part ≤ length bytes = omega (arith, long, within) in record {
          element = is.0;
          found = ap element_at (sym e) ∙ ap (λ x. element_at (x ++ concat pieces)) is.2 ∙ element_again is.0 (concat pieces) is.1;
          whole = subst IsWholePart is.2 (All-head IsWholePart part pieces w);
          rest = subst (λ (x : List ℕ). Left bytes (at + length x)) is.2
              (record { parts = pieces; whole = All-tail IsWholePart part pieces w; joined = behind_it; within = end });
        }

-- it isn't bad
pub not_bad : (bytes : List ℕ) (at k : ℕ) → Next bytes at → object_in at (element_at (drop at bytes)) ≡ Err k → ⊥
not_bad bytes at k n bad =
    let right : read_object (layout_of n.element.whole) n.element.whole ≡ Ok (length n.element.whole) = (read_object-fits (layout_of n.element.whole) n.element.whole).1 n.whole in
    wrong (sym (ap (behind at) right) ∙ ap (object_in at) (sym n.found) ∙ bad)
  where
    wrong : {m j : ℕ} → Ok m ≡ Err j → ⊥
    wrong f = cc

-- Read as a certificate or a list it is the same.

pub part_whole : (p : Part) → is_certificate p ≡ begins_with_0 (part_bytes p) → IsObject (layout_of (part_bytes p)) (part_bytes p) → IsWhole p
part_whole (parts.Cert c) e w = subst (λ b. IsObject (cond b certificate revocation_list) (certificate_bytes c)) (sym e) w
part_whole (parts.List l) e w = subst (λ b. IsObject (cond b certificate revocation_list) (list_bytes l)) (sym e) w

same_object : (p : Part) → is_certificate p ≡ begins_with_0 (part_bytes p) → putting.object_of p ≡ cond (begins_with_0 (part_bytes p)) (Certificate (part_bytes p)) (RevocationList (part_bytes p))
same_object (parts.Cert c) e = ap (λ b. cond b (Certificate (certificate_bytes c)) (RevocationList (certificate_bytes c))) e
same_object (parts.List l) e = ap (λ b. cond b (Certificate (list_bytes l)) (RevocationList (list_bytes l))) e

pub read_same : (bytes : List ℕ) (at : ℕ) (n : Next bytes at) (p : Part) → option_map (λ (e : Element). e.whole) (element_at (drop at bytes)) ≡ Some (part_bytes p)
    → n.element.whole ≡ part_bytes p
read_same bytes at n p e = same_Some n.element.whole (part_bytes p) (sym (ap (option_map (λ (x : Element). x.whole)) n.found) ∙ e)

-- what is left to be added begins with it
pub adds_next : (bytes : List ℕ) (at : ℕ) (n : Next bytes at) (p : Part) → is_certificate p ≡ begins_with_0 (part_bytes p) → n.element.whole ≡ part_bytes p
    → map material.object_of (elements (drop at bytes)) ≡ putting.object_of p ∷ map material.object_of (elements (drop (at + length (part_bytes p)) bytes))
adds_next bytes at n p e same =
    let object : material.object_of n.element ≡ putting.object_of p =
    ap (λ (w : List ℕ). cond (begins_with_0 w) (Certificate w) (RevocationList w)) same ∙ sym (same_object p e) in
    let further : drop (length n.element.whole) (drop at bytes) ≡ drop (at + length (part_bytes p)) bytes =
    drop-drop (length n.element.whole) at bytes ∙ ap (λ (w : List ℕ). drop (at + length w) bytes) same in
    ap (map material.object_of) (elements_step (drop at bytes) n.element n.found)
    ∙ (λ i. object i ∷ map material.object_of (elements (further i)))
