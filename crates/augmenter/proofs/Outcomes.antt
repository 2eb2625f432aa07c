-- What a preparation answers, by what was put into the document that is kept.
use Rattle.std.proofs.Common.{◌≡◌, inl, inr, ℕ, ◌≤◌, true, false, List, length, Some, None, Ok, Err, refl, sym, ◌∙◌, ap, subst}
use Rattle.document_model.specs.Documents.{document_of, fault}
use Rattle.document_model.specs.Insertion.{Extends, put_inside}
use Rattle.document_model.specs.Scopes.{tags_at}
use Rattle.document_model.specs.Tree.{Nodes, Path}
use Rattle.document_model.proofs.Extending.{only_adds}
use Rattle.insertion_fragments.specs.Drafts.{IsWritable}
use Rattle.insertion_fragments.proofs.DraftFragments.{prepared_legal}
use Rattle.insertions.specs.Content.{IsContent, PassedBy}
use Rattle.insertions.specs.Live.{longest, IsContentOf, IsTooLarge}
use Rattle.policy_rules.specs.Rules.{Rules}
use Rattle.prepared_documents.specs.Bytes.{IsPreparedFrom}
use Rattle.prepared_documents.specs.Judged.{AreHanded}
use Rattle.prepared_documents.specs.Places.{root_of}
use Rattle.prepared_documents.specs.PreparedRead.{IsComplete}
use Rattle.prepared_documents.specs.Tests.{id_taken}
use Rattle.prepared_documents.proofs.Deciding.{tests_decide}
use Rattle.prepared_documents.proofs.OnBytes.{bytes_right}
use Rattle.qualifying_props.specs.Digests.{digest}
use Rattle.qualifying_props.specs.Whole.{is_whole}
use Rattle.signature_model.specs.Chains.{Handed}
use Rattle.signature_model.specs.Fragments.{written_octets}
use Rattle.signature_model.specs.Prepared.{Draft, prepared_nodes}
use Rattle.augmenter.specs.Answers.{IsPreparation}
use Rattle.signature_checks.specs.Codes.{first_code}
use Rattle.augmenter.specs.Preparing.{drafted_bytes, is_too_large, opening_tests}
use Rattle.augmenter.specs.declared.refusals.Refusal.{Refusal}
use Rattle.augmenter.specs.declared.refusals.Refusal.TheVariants.{Refused}
use Rattle.signature_checks.specs.declared.codes.Code.TheVariants.{TooLarge, IdTaken}
use Rattle.augmenter.proofs.DigestBytes.{digests_are_bytes}
use Rattle.augmenter.proofs.Preparation.{code_is, passed_is_large, small_is_not_large, tests_passed}

-- The bytes that are kept are the document's, which has no fault; no first test found anything in the tree; the content is the prepared
-- signature, and the path is that of the document element.
pub record IsPlanned (rules : Rules) (handed : Handed) (draft : Draft) (bytes kept content : List ℕ) (tree : Nodes) (path : Path) : Type 0 where
  pub same : kept ≡ bytes
  pub none : fault kept ≡ None
  pub tree_is : tree ≡ document_of kept
  pub opening : first_code (opening_tests rules tree draft) ≡ None
  pub content_is : content ≡ written_octets (prepared_nodes digest handed tree draft)
  pub path_is : path ≡ root_of (document_of kept)

module _ (rules : Rules) (handed : Handed) (draft : Draft) (bytes kept content : List ℕ) (tree : Nodes) (path : Path) (p : IsPlanned rules handed draft bytes kept content tree path) where
  no_fault_there : fault bytes ≡ None
  no_fault_there = subst (λ b. fault b ≡ None) p.same p.none

  whole_tree : tree ≡ document_of bytes
  whole_tree = p.tree_is ∙ ap document_of p.same

  content_there : content ≡ written_octets (prepared_nodes digest handed (document_of kept) draft)
  content_there = p.content_is ∙ ap (λ d. written_octets (prepared_nodes digest handed d draft)) p.tree_is

  pub is_legal : IsWritable draft → IsContentOf kept path content
  is_legal w =
      let legal = prepared_legal digest handed draft kept digests_are_bytes w p.none in
      subst (λ q. IsContent (tags_at (document_of kept) q) content) (sym p.path_is)
      (subst (λ t. IsContent (tags_at (document_of kept) (root_of (document_of kept))) t) (sym content_there) legal.0)

  pub is_drafted : put_inside content path kept ≡ drafted_bytes handed (document_of bytes) draft bytes
  is_drafted = (λ i. put_inside (content_there i) (p.path_is i) kept) ∙ ap (λ b. drafted_bytes handed (document_of b) draft b) p.same

  pub answers_large : IsWritable draft → IsTooLarge kept path content → (refusal : Refusal) → refusal ≡ Refused 0 TooLarge → IsPreparation rules handed draft bytes (Err refusal)
  answers_large w large refusal e =
      let is : is_too_large (put_inside content path kept) ≡ true = elim large [
        | inl long ↦ passed_is_large (put_inside content path kept) tree (inl long)
        | inr passed ↦ passed_is_large (put_inside content path kept) _ (inr (passed (is_legal w)))
      ] in
      subst (λ r. IsPreparation rules handed draft bytes (Err r)) (sym e)
      (no_fault_there, refl, code_is rules handed draft bytes tree true (id_taken tree draft) whole_tree p.opening (ap is_too_large (sym is_drafted) ∙ is) refl)

  is_small : (new : List ℕ) → new ≡ put_inside content path kept → length new ≤ longest → fault new ≡ None → is_too_large (drafted_bytes handed (document_of bytes) draft bytes) ≡ false
  is_small new e short none = ap is_too_large (sym (e ∙ is_drafted)) ∙ small_is_not_large new short none

  pub answers_taken : (new : List ℕ) → new ≡ put_inside content path kept → length new ≤ longest → fault new ≡ None → id_taken tree draft ≡ true → (refusal : Refusal) → refusal ≡ Refused 0 IdTaken
      → IsPreparation rules handed draft bytes (Err refusal)
  answers_taken new e short none t refusal r =
      subst (λ r. IsPreparation rules handed draft bytes (Err r)) (sym r)
      (no_fault_there, refl, code_is rules handed draft bytes tree false true whole_tree p.opening (is_small new e short none) t)

  pub answers_bytes : (new : List ℕ) → new ≡ put_inside content path kept → length new ≤ longest → fault new ≡ None → id_taken tree draft ≡ false → IsPreparation rules handed draft bytes (Ok new)
  answers_bytes new e short none t =
      (no_fault_there, code_is rules handed draft bytes tree false false whole_tree p.opening (is_small new e short none) t, e ∙ is_drafted)

  pub extends_bytes : (new : List ℕ) → new ≡ put_inside content path kept → Extends bytes new
  extends_bytes new e = subst (λ b. Extends b new) p.same (subst (Extends kept) (sym e) (only_adds content kept path))

  not_passed : (found : List ℕ) (t : Nodes) → fault found ≡ None → PassedBy t (fault found) → ⊥
  not_passed found t none passed = elim passed.1 [
    | inl deep ↦ no_such (sym none ∙ deep.0)
    | inr many ↦ no_such (sym none ∙ many.0)
  ]
    where
      no_such : {A : Type 0} {x : A} → None ≡ Some x → ⊥
      no_such e = cc

  pub is_prepared : IsWritable draft → IsComplete is_whole draft → AreHanded handed draft.references → (new : List ℕ) → new ≡ put_inside content path kept → fault new ≡ None → id_taken tree draft ≡ false
      → IsPreparedFrom is_whole digest handed (document_of bytes) draft (document_of new)
  is_prepared w c h new e none t =
      let d : new ≡ drafted_bytes handed (document_of bytes) draft bytes = e ∙ is_drafted in
      let opening = ap (λ d. first_code (opening_tests rules d draft)) (sym whole_tree) ∙ p.opening in
      let taken = ap (λ d. id_taken d draft) (sym whole_tree) ∙ t in
      let may = (tests_decide (document_of bytes) draft).0 (tests_passed rules (document_of bytes) draft opening taken) in
      elim (bytes_right is_whole digest handed draft bytes digests_are_bytes w c h no_fault_there may) [
        | inl right ↦ subst (λ b. IsPreparedFrom is_whole digest handed (document_of bytes) draft (document_of b)) (sym d) right.1
        | inr passed ↦ absurd (not_passed (drafted_bytes handed (document_of bytes) draft bytes) _ (ap fault (sym d) ∙ none) passed)
      ]
