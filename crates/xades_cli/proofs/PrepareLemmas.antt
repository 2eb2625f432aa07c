-- What `prepare` comes to, by what was found on the way.
use Rattle.std.proofs.Common.{◌≡◌, ℕ, suc, ◌+◌, ◌<◌, Bool, true, false, List, [], ◌∷◌, ◌++◌, length, map, refl, sym, ap, ◌∙◌, subst, append_assoc, if◌then◌else◌, arith}
use Rattle.std.specs.Prelude.{None, Some, Result, Ok, Err, slice_index_or, take}
use Rattle.std.specs.Str.{chars}
use Rattle.std.proofs.Math.Seq.{take-suc}
use Rattle.std.proofs.lemmas.List.{map-append}
use Rattle.base64.specs.GeneralPurpose.{IsBytes}
use Rattle.covered_items.specs.Whole.{EachBytes}
use Rattle.document_model.specs.Documents.{fault}
use Rattle.policy_rules.specs.Rules.{Rules}
use Rattle.policy_rules.specs.Text as texts
use Rattle.prepared_documents.specs.Judged.{AreHanded}
use Rattle.signature_model.specs.Chains.{Handed}
use Rattle.signature_model.specs.Prepared.{Draft}
use Rattle.whole_files.specs.Roles.{is_certificate, is_document, is_external}
use Rattle.whole_files.specs.Wants.{Held, AreFor, held_of, document_of, policy_of}
use Rattle.whole_files.specs.declared.file.File.{File}
use Rattle.augmenter.specs.Preparing.{IsReady}
use Rattle.xades_cli.specs.Outcomes.{Outcome, IsOf, RefusesData}
use Rattle.xades_cli.specs.Stages.{by_policy, unless_faulty}
use Rattle.xades_cli.specs.Prepare.{BadFile, IsPrepared, IsPreparedOf, TextSays, bad_certificate, by_rules, certificates_of, draft_of, draft_outcome, prepare_outcome, unless_partial, with_certificates}
use Rattle.command_words.specs.Preparing.{IsPreparable, Prepares, prepare_wants}
use Rattle.xades_cli.specs.Handing.{handed_by}
use Rattle.xades_cli.specs.declared.answers.Answer.{Answer}
use Rattle.xades_cli.specs.declared.stop.Stop.{Stop}
use Rattle.xades_cli.proofs.ReadyDrafts.{are_handed, ready}

-- Certificates that are put into a draft.

pub each_more : (certificates : List (List ℕ)) (octets : List ℕ) → EachBytes certificates → IsBytes octets → EachBytes (certificates ++ octets ∷ [])
each_more [] octets each one = (one, tt)
each_more (first ∷ certificates) octets each one = (each.0, each_more certificates octets each.1 one)

more_of : (files : List Held) (file : Held) → certificates_of files ++ certificates_of (file ∷ []) ≡ certificates_of (files ++ file ∷ [])
more_of [] file = refl
more_of (first ∷ files) file = by_first (is_certificate first.role) first.bytes (certificates_of files) (certificates_of (file ∷ [])) _ (more_of files file)
  where
    by_first : (b : Bool) (bytes : List ℕ) (one two three : List (List ℕ)) → one ++ two ≡ three → (if b then bytes ∷ one else one) ++ two ≡ (if b then bytes ∷ three else three)
    by_first true bytes one two three e = ap (λ all. bytes ∷ all) e
    by_first false bytes one two three e = e

pub certificates_more : (draft : Draft) (files : List Held) (file : Held)
    → with_certificates (certificates_of (file ∷ [])) (with_certificates (certificates_of files) draft) ≡ with_certificates (certificates_of (files ++ file ∷ [])) draft
certificates_more draft files file =
    ap (λ all. record draft { certificates = all }) (append_assoc draft.certificates (certificates_of files) (certificates_of (file ∷ [])) ∙ ap (λ all. draft.certificates ++ all) (more_of files file))

-- the files up to the next one
pub next_files : (files : List File) (i : ℕ) (file : File) → i < length files → file ≡ slice_index_or files i file → map held_of (take i files) ++ held_of file ∷ [] ≡ map held_of (take (i + 1) files)
next_files files i file lt is =
    let next : i + 1 ≡ suc i = omega arith in
    sym (ap (λ k. map held_of (take k files)) next ∙ ap (map held_of) (take-suc files i file lt ∙ ap (λ f. take i files ++ f ∷ []) (sym is)) ∙ map-append held_of (take i files) (file ∷ []))

-- What the files come to.

pub refused_policy : (asked : Prepares) (held : List Held) (text : List ℕ) (stop : Stop) → text ≡ policy_of held → ((later : Rules → Outcome) → IsOf (by_policy (texts.policy_of text) later) (Err stop)) → IsOf (prepare_outcome asked held) (Err stop)
refused_policy asked held text stop same of = subst (λ t. IsOf (by_policy (texts.policy_of t) (by_rules asked held)) (Err stop)) same (of (by_rules asked held))

pub by_its_rules : (asked : Prepares) (held : List Held) (text : List ℕ) (rules : Rules) (result : Result Answer Stop) → text ≡ policy_of held → texts.policy_of text ≡ Ok rules → IsOf (by_rules asked held rules) result → IsOf (prepare_outcome asked held) result
by_its_rules asked held text rules result same is of =
    subst (λ outcome. IsOf outcome result) (ap (λ read. by_policy read (by_rules asked held)) (sym is) ∙ ap (λ t. by_policy (texts.policy_of t) (by_rules asked held)) same) of

pub partial : (asked : Prepares) (held : List Held) (rules : Rules) (document : List ℕ) (bad : BadFile) (result : Result Answer Stop) → document ≡ document_of held → bad_certificate held ≡ Some bad
    → IsOf (unless_faulty document (fault document) (RefusesData bad.name bad.at)) result → IsOf (by_rules asked held rules) result
partial asked held rules document bad result same found of =
    subst (λ outcome. IsOf outcome result)
    (λ i. unless_faulty (same i) (fault (same i)) (unless_partial (sym found i) (draft_outcome rules (handed_by held) (draft_of asked (certificates_of held)) (document_of held)))) of

-- What was read for a draft: the document first, and the octets that are handed in by the other files.
pub record IsAtHand (asked : Prepares) (files : List File) (file : File) (others : List File) (handed : Handed) (draft : Draft) : Type 0 where
  pub sound : IsPreparable asked
  pub read : AreFor (prepare_wants asked) (map held_of files)
  pub none : bad_certificate (map held_of files) ≡ None
  pub parts : files ≡ file ∷ others
  pub same : (name : List ℕ) → handed name ≡ handed_by (map held_of others) name
  pub is : draft ≡ draft_of asked (certificates_of (map held_of files))

module _ (asked : Prepares) (files : List File) (file : File) (others : List File) (handed : Handed) (draft : Draft) (h : IsAtHand asked files file others handed draft) where
  first_role : is_document file.role ≡ true
  first_role = let read : AreFor (prepare_wants asked) (map held_of (file ∷ others)) = subst (λ fs. AreFor (prepare_wants asked) (map held_of fs)) h.parts h.read in ap is_document read.0.role

  not_external : is_external file.role ≡ false
  not_external = let read : AreFor (prepare_wants asked) (map held_of (file ∷ others)) = subst (λ fs. AreFor (prepare_wants asked) (map held_of fs)) h.parts h.read in ap is_external read.0.role

  passed_over : (name : List ℕ) → handed_by (map held_of others) name ≡ handed_by (map held_of (file ∷ others)) name
  passed_over name = rw not_external refl

  given_each : (name : List ℕ) → handed name ≡ handed_by (map held_of files) name
  given_each name = h.same name ∙ passed_over name ∙ ap (λ fs. handed_by (map held_of fs) name) (sym h.parts)

  given : handed ≡ handed_by (map held_of files)
  given = λ i name. given_each name i

  bytes : file.bytes ≡ document_of (map held_of files)
  bytes = let own : file.bytes ≡ document_of (map held_of (file ∷ others)) = rw first_role refl in own ∙ ap (λ fs. document_of (map held_of fs)) (sym h.parts)

  pub is_ready : EachBytes draft.certificates → IsReady draft
  is_ready each =
      subst IsReady (sym h.is)
      (ready asked (map held_of files) h.sound h.read h.none (subst (λ d. EachBytes d.certificates) h.is each))

  pub is_handed_in : AreHanded handed draft.references
  is_handed_in =
      subst (λ d. AreHanded handed d.references) (sym h.is)
      (subst (λ given. AreHanded given (map chars asked.references)) (sym given) (are_handed asked (map held_of files) h.read))

  pub drafted : (rules : Rules) (document : List ℕ) (result : Result Answer Stop) → document ≡ file.bytes
      → IsOf (unless_faulty document (fault document) (draft_outcome rules handed draft document)) result → IsOf (by_rules asked (map held_of files) rules) result
  drafted rules document result own of =
      let whole = own ∙ bytes in
      subst (λ outcome. IsOf outcome result)
      (λ i. unless_faulty (whole i) (fault (whole i)) (unless_partial (sym h.none i) (draft_outcome rules (given i) (h.is i) (whole i)))) of

  pub says : (document : List ℕ) (result : Result Answer Stop) → document ≡ file.bytes → TextSays (IsPreparedOf handed draft document) result → TextSays (IsPrepared asked (map held_of files)) result
  says document result own of = subst (λ Says. TextSays Says result) (λ i. IsPreparedOf (given i) (h.is i) ((own ∙ bytes) i)) of
