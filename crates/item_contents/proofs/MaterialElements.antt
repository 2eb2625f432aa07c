-- Bytes that are whole objects one after another have these as their elements.
use Rattle.std.proofs.Common.{◌≡◌, ℕ, zero, suc, ◌≤◌, List, [], ◌∷◌, ◌++◌, length, drop, map, refl, sym, ◌∙◌, ap, subst, arith, length-append}
use Rattle.std.proofs.Math.Seq.{drop-append_seam}
use Rattle.std.proofs.lemmas.List.Elements.{All-head, All-tail}
use Rattle.std.specs.List.{All, concat}
use Rattle.std.specs.Option.{option_map_or}
use Rattle.std.specs.Prelude.{filter}
use Rattle.base64.specs.GeneralPurpose.{IsBytes}
use Rattle.covered_items.specs.Whole.{AreWhole}
use Rattle.der_values.specs.Element.{Element, element_at}
use Rattle.der_values.specs.Elements.{elements, elements_up_to}
use Rattle.qualifying_props.specs.Whole.{is_whole}
use Rattle.signature_model.specs.Parts.{Certificate, RevocationList}
use Rattle.x509_certs.specs.Data.{begins_with_0}
use Rattle.item_contents.specs.Materials.{IsWholePart, is_list, certificates_in, lists_in, IsMaterialOf, MaterialIsElements}
use Rattle.item_contents.proofs.OneMaterial.{front_of}
use Rattle.item_contents.proofs.Splitting.{certificates_whole, lists_whole}

wholes_up_to : (n : ℕ) (parts : List (List ℕ)) → All IsWholePart parts → length (concat parts) ≤ n → map (λ (e : Element). e.whole) (elements_up_to n (concat parts)) ≡ parts
unfolding elements_up_to element_at
wholes_up_to zero [] w l = refl
wholes_up_to (suc n) [] w l = refl
wholes_up_to zero (part ∷ parts) w l =
    let some = (All-head IsWholePart part parts w).some in
    let long = length-append part (concat parts) in
    absurd (omega (arith, some, long, l))
wholes_up_to (suc n) (part ∷ parts) w l =
    let some = (All-head IsWholePart part parts w).some in
    let long = length-append part (concat parts) in
    let bytes = part ++ concat parts in
    let a = front_of part (concat parts) (All-head IsWholePart part parts w) in
    let left : drop (length a.element.whole) bytes ≡ concat parts = ap (λ (x : List ℕ). drop (length x) bytes) (sym a.whole) ∙ drop-append_seam part (concat parts) in
    let others = ap (λ (x : List ℕ). map (λ (e : Element). e.whole) (elements_up_to n x)) left ∙ wholes_up_to n parts (All-tail IsWholePart part parts w) (omega (arith, some, long, l)) in
    ap (λ o. map (λ (e : Element). e.whole) (option_map_or (λ e. e ∷ elements_up_to n (drop (length e.whole) bytes)) o [])) a.found
    ∙ (λ i. sym a.whole i ∷ others i)

are_parts : (bytes : List ℕ) (parts : List (List ℕ)) → All IsWholePart parts → concat parts ≡ bytes → parts ≡ map (λ (e : Element). e.whole) (elements bytes)
are_parts bytes parts w e = sym (wholes_up_to (length (concat parts)) parts w (omega arith)) ∙ ap (λ (x : List ℕ). map (λ (e : Element). e.whole) (elements x)) e

pub material_is_elements : MaterialIsElements
material_is_elements bytes certificates lists is =
    let same = are_parts bytes is.parts is.whole is.joined in
    (is.certificates_are ∙ ap (filter begins_with_0) same, is.lists_are ∙ ap (filter is_list) same)

-- They are whole objects of their kinds.
pub certificates_are_whole : (bytes : List ℕ) (certificates lists : List (List ℕ)) → IsMaterialOf bytes certificates lists → IsBytes bytes → AreWhole is_whole Certificate (certificates_in bytes)
certificates_are_whole bytes certificates lists is h =
    subst (AreWhole is_whole Certificate) (sym is.certificates_are ∙ (material_is_elements bytes certificates lists is).0)
    (certificates_whole is.parts is.whole (subst IsBytes (sym is.joined) h))

pub lists_are_whole : (bytes : List ℕ) (certificates lists : List (List ℕ)) → IsMaterialOf bytes certificates lists → IsBytes bytes → AreWhole is_whole RevocationList (lists_in bytes)
lists_are_whole bytes certificates lists is h =
    subst (AreWhole is_whole RevocationList) (sym is.lists_are ∙ (material_is_elements bytes certificates lists is).1)
    (lists_whole is.parts is.whole (subst IsBytes (sym is.joined) h))
