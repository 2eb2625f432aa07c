-- What `validate` comes to, by what was found on the way.
use Rattle.std.proofs.Common.{◌≡◌, ℕ, Bool, true, false, ◌↔◌, IsTrue, List, [], ◌∷◌, ◌++◌, length, map, refl, sym, ap, ◌∙◌, subst, inl, inr, if◌then◌else◌, append_assoc, ℤ}
use Rattle.std.proofs.lemmas.List.Elements.{All-append, All-nil}
use Rattle.std.specs.List.{concat}
use Rattle.std.specs.Prelude.{Option, None, Some, Result, Ok, Err}
use Rattle.document_model.specs.Documents
use Rattle.document_model.specs.Documents.{fault}
use Rattle.item_contents.specs.Materials.{IsMaterialOf}
use Rattle.policy_rules.specs.Rules.{Rules}
use Rattle.policy_rules.specs.Text as texts
use Rattle.signature_cases.specs.Handed.{IsMaterial, IsWholePart}
use Rattle.signature_evidence.specs.Judging.{Judged, IsYesBy}
use Rattle.signature_evidence.specs.Reporting.{IsReportOn}
use Rattle.signature_model.specs.Chains.{Handed}
use Rattle.time_texts.specs.Clock.{clock}
use Rattle.whole_files.specs.Roles.{is_document, is_external}
use Rattle.whole_files.specs.Wants.{Held, IsFor, document_of, held_of, policy_of}
use Rattle.whole_files.specs.declared.file.File.{File}
use Rattle.command_words.specs.Wanting.{document_want}
use Rattle.augmenter.specs.Answers.{IsFaultyDocument}
use Rattle.doc_spans.specs.declared.faults.DocFault.{DocFault}
use Rattle.doc_spans.specs.declared.faults.DocFault.TheVariants as documents
use Rattle.xades_validator.specs.Validating.{IsValidated}
use Rattle.xades_validator.specs.declared.faults.ValidateFault.TheVariants.{BadDocument}
use Rattle.xades_cli.specs.declared.stop.Refusal.TheVariants as refusals
use Rattle.xades_cli.specs.Computed.{AnswerSays, IsAnswerOf, IsRefusalOf, IsResultOf}
use Rattle.xades_cli.specs.Handing.{handed_by}
use Rattle.xades_cli.specs.Outcomes.{Outcome, Writes, Reports, RefusesDocument, RefusesPolicy, RefusesData, RefusesItem, IsOf}
use Rattle.xades_cli.specs.Stages.{by_policy, policy_fault, unless_faulty}
use Rattle.xades_cli.specs.Validate.{AreJudged, AreWhole, IsBad, IsFirstBad, IsJudgementOf, IsReportedBy, IsValidateOutcome, IsVerdictOutcome, IsWhole, IsYes, found_of, is_more, more_of}
use Rattle.xades_cli.specs.declared.answers.Answer.{Answer}
use Rattle.xades_cli.specs.declared.answers.Answer.TheVariants.{Report}
use Rattle.xades_cli.specs.declared.prepare.BadFile.{BadFile}
use Rattle.xades_cli.specs.declared.stop.Stop.{Stop}
use Rattle.xades_cli.specs.declared.stop.Stop.TheVariants as stops
use Rattle.xades_cli.proofs.AttachLemmas.{has_fault, some_fault}
use Rattle.xades_cli.proofs.Computing.{in_other_words}
use Rattle.xades_cli.proofs.PolicyStops.{stopped_by_policy}

-- Files of certificates and revocation lists.

pub passed_on : (file : Held) (files : List Held) (found : Option BadFile) → IsWhole file → AreJudged files found → AreJudged (file ∷ files) found
passed_on file files None whole judged = (whole, judged)
passed_on file files (Some bad) whole judged = inr (whole, judged)

pub bad_here : (file : Held) (files : List Held) (bad : BadFile) → IsBad file bad.name.now bad.at → AreJudged (file ∷ files) (Some bad)
bad_here file files bad is = inl is

pub other_file : (file : Held) → is_more file.role ≡ false → IsWhole file
other_file file other is = let e : true ≡ false = sym is ∙ other in cc

pub material : (bytes : List ℕ) (certificates lists : List (List ℕ)) → IsMaterialOf bytes certificates lists → IsMaterial bytes
material bytes certificates lists is = record { parts = is.parts; whole = is.whole; joined = is.joined }

no_material : IsMaterial []
no_material = record { parts = []; whole = All-nil IsWholePart; joined = refl }

concat_both : (a b : List (List ℕ)) → concat (a ++ b) ≡ concat a ++ concat b
concat_both [] b = refl
concat_both (part ∷ a) b = ap (λ rest. part ++ rest) (concat_both a b) ∙ sym (append_assoc part (concat a) (concat b))

both_material : (one two : List ℕ) → IsMaterial one → IsMaterial two → IsMaterial (one ++ two)
both_material one two is also = record {
  parts = is.parts ++ also.parts;
  whole = All-append IsWholePart is.parts also.parts is.whole also.whole;
  joined = concat_both is.parts also.parts ∙ (λ i. is.joined i ++ also.joined i);
}

pub more_material : (files : List Held) → AreWhole files → IsMaterial (more_of files)
more_material [] whole = no_material
more_material (file ∷ files) whole = both_material _ _ (of_file (is_more file.role) (λ is. whole.0 is)) (more_material files whole.1)
  where
    of_file : (more : Bool) → (IsTrue more → IsMaterial file.bytes) → IsMaterial (if more then file.bytes else [])
    of_file true is = is refl
    of_file false is = no_material

pub one_joined : (file : Held) (files : List Held) (out bytes now whole : List ℕ) → bytes ≡ file.bytes → is_more file.role ≡ true → now ≡ out ++ bytes → out ++ more_of (file ∷ files) ≡ whole → now ++ more_of files ≡ whole
one_joined file files out bytes now whole same more is before =
    let own : bytes ≡ (if is_more file.role then file.bytes else []) = rw more same in
    ap (λ front. front ++ more_of files) (is ∙ ap (λ b. out ++ b) own) ∙ append_assoc out (if is_more file.role then file.bytes else []) (more_of files) ∙ before

pub none_joined : (file : Held) (files : List Held) (out whole : List ℕ) → is_more file.role ≡ false → out ++ more_of (file ∷ files) ≡ whole → out ++ more_of files ≡ whole
none_joined file files out whole other before =
    let own : more_of (file ∷ files) ≡ more_of files = rw other refl in
    ap (λ rest. out ++ rest) (sym own) ∙ before

-- The judgement.

says_yes : (P : Type 0) (text : List ℕ) (says : Bool) → (IsTrue says ↔ P) → AnswerSays (λ text. P) (Report text says)
says_yes P text true is = is.0 refl
says_yes P text false is = tt

pub reported : (rules : Rules) (found : Judged) (now : ℤ) (bytes text : List ℕ) (says : Bool) → fault bytes ≡ None → IsReportOn clock rules found now text → (IsTrue says ↔ IsYesBy rules found now)
    → IsAnswerOf (IsJudgementOf rules found now bytes) (λ text. IsYesBy rules found now) (Report text says)
reported rules found now bytes text says none is verdict = record {
  outcome = Reports says text;
  comes = (none, is, verdict);
  gives = (refl, refl);
  says = says_yes (IsYesBy rules found now) text says verdict;
}

-- a document that has a fault

faulty_of : (rules : Rules) (handed : Handed) (more bytes : List ℕ) (now : ℤ) (found : DocFault) → IsValidated rules handed more now bytes (Err (BadDocument found)) → IsFaultyDocument bytes found
faulty_of rules handed more bytes now (documents.Item at) is = is
faulty_of rules handed more bytes now (documents.Doctype at) is = is
faulty_of rules handed more bytes now (documents.Depth at) is = is
faulty_of rules handed more bytes now (documents.Nodes at) is = is
faulty_of rules handed more bytes now documents.End is = is
faulty_of rules handed more bytes now documents.OutOfMemory is = is

pub document_refused : (rules : Rules) (handed : Handed) (more bytes : List ℕ) (now : ℤ) (found : Judged) (why : DocFault) → IsValidated rules handed more now bytes (Err (BadDocument why))
    → IsRefusalOf (IsJudgementOf rules found now bytes) (refusals.Document why (length bytes))
document_refused rules handed more bytes now found why is = record {
  outcome = RefusesDocument bytes;
  comes = (refl, some_fault bytes why (faulty_of rules handed more bytes now why is));
  refuses = (faulty_of rules handed more bytes now why is, refl);
}

-- the document first, and the octets that are handed in of the other files
pub record IsAtHand (name : List ℕ) (files : List File) (file : File) (others : List File) (handed : Handed) : Type 0 where
  pub for : IsFor (document_want name) (held_of file)
  pub parts : files ≡ file ∷ others
  pub same : (wanted : List ℕ) → handed wanted ≡ handed_by (map held_of others) wanted

module _ (name : List ℕ) (files : List File) (file : File) (others : List File) (handed : Handed) (h : IsAtHand name files file others handed) where
  given_each : (wanted : List ℕ) → handed wanted ≡ handed_by (map held_of files) wanted
  given_each wanted =
      let outside : is_external file.role ≡ false = ap is_external h.for.role in
      let over : handed_by (map held_of others) wanted ≡ handed_by (map held_of (file ∷ others)) wanted = rw outside refl in
      h.same wanted ∙ over ∙ ap (λ fs. handed_by (map held_of fs) wanted) (sym h.parts)

  pub given : handed ≡ handed_by (map held_of files)
  given = λ i wanted. given_each wanted i

  pub bytes : file.bytes ≡ document_of (map held_of files)
  bytes =
      let first_role : is_document file.role ≡ true = ap is_document h.for.role in
      let own : file.bytes ≡ document_of (map held_of (file ∷ others)) = rw first_role refl in own ∙ ap (λ fs. document_of (map held_of fs)) (sym h.parts)

-- the judgement of the document, where all files are whole
as_verdict : (rules : Rules) (now : ℤ) (held : List Held) (outcome : Outcome) → AreWhole held → IsJudgementOf rules (found_of held) now (document_of held) outcome → IsVerdictOutcome rules now held outcome
as_verdict rules now held (Reports verdict text) whole is = (whole, is)
as_verdict rules now held (RefusesDocument document) whole is = is
as_verdict rules now held (RefusesData name at) whole is = absurd is
as_verdict rules now held (Writes new) whole is = absurd is
as_verdict rules now held (RefusesPolicy found) whole is = absurd is
as_verdict rules now held (RefusesItem item code) whole is = absurd is

pub whole_judged : (rules : Rules) (now : ℤ) (held : List Held) (result : Result Answer Stop) → AreWhole held
    → IsResultOf (IsJudgementOf rules (found_of held) now (document_of held)) (λ text. IsYesBy rules (found_of held) now) result
    → IsResultOf (IsReportedBy (Ok rules) now held) (λ text. IsYesBy rules (found_of held) now) result
whole_judged rules now held result whole is =
    in_other_words (IsJudgementOf rules (found_of held) now (document_of held)) (IsReportedBy (Ok rules) now held) (λ text. IsYesBy rules (found_of held) now) (λ text. IsYesBy rules (found_of held) now) result
    (λ outcome comes. as_verdict rules now held outcome whole comes) (λ text yes. yes) is

-- a file that isn't whole, behind the document
pub bad_refused : (rules : Rules) (now : ℤ) (held : List Held) (document : List ℕ) (bad : BadFile) (stop : Stop) (Says : List ℕ → Type 0) → document ≡ document_of held
    → IsFirstBad held bad.name.now bad.at → IsOf (unless_faulty document (fault document) (RefusesData bad.name.now bad.at)) (Err stop) → IsResultOf (IsReportedBy (Ok rules) now held) Says (Err stop)
bad_refused rules now held document bad stop Says same first of =
    by_fault (fault document) stop refl (subst (λ bytes. IsOf (unless_faulty bytes (fault document) (RefusesData bad.name.now bad.at)) (Err stop)) refl of)
  where
    by_fault : (found : Option Documents.Fault) (stop : Stop) → fault document ≡ found → IsOf (unless_faulty document found (RefusesData bad.name.now bad.at)) (Err stop)
        → IsResultOf (IsReportedBy (Ok rules) now held) Says (Err stop)
    by_fault None (stops.Refusal refusal) e of = record {
      outcome = RefusesData bad.name.now bad.at;
      comes = (ap fault (sym same) ∙ e, first);
      refuses = of;
    }
    by_fault (Some found) (stops.Refusal refusal) e of = record {
      outcome = RefusesDocument document;
      comes = (same, has_fault (fault (document_of held)) found (ap fault (sym same) ∙ e));
      refuses = of;
    }
    by_fault found stops.OutOfMemory e of = tt
    by_fault None (stops.Words index) e of = of
    by_fault (Some found) (stops.Words index) e of = of
    by_fault None (stops.File name why) e of = of
    by_fault (Some found) (stops.File name why) e of = of

-- The policy.

pub no_policy : (now : ℤ) (held : List Held) (text : List ℕ) (stop : Stop) → text ≡ policy_of held → ((later : Rules → Outcome) → IsOf (by_policy (texts.policy_of text) later) (Err stop))
    → IsResultOf (IsValidateOutcome now held) (λ text. IsYes now held) (Err stop)
no_policy now held text stop same of =
    stopped_by_policy (texts.policy_of (policy_of held)) (IsValidateOutcome now held) (λ text. IsYes now held) stop
    (λ found e. subst (λ policy. IsReportedBy policy now held (RefusesPolicy (policy_fault found))) (sym e) refl)
    (λ later. subst (λ t. IsOf (by_policy (texts.policy_of t) later) (Err stop)) same (of later))

pub by_the_policy : (rules : Rules) (now : ℤ) (held : List Held) (text : List ℕ) (result : Result Answer Stop) → text ≡ policy_of held → texts.policy_of text ≡ Ok rules
    → IsResultOf (IsReportedBy (Ok rules) now held) (λ text. IsYesBy rules (found_of held) now) result → IsResultOf (IsValidateOutcome now held) (λ text. IsYes now held) result
by_the_policy rules now held text result same is of =
    let read : texts.policy_of (policy_of held) ≡ Ok rules = ap texts.policy_of (sym same) ∙ is in
    in_other_words (IsReportedBy (Ok rules) now held) (IsValidateOutcome now held) (λ text. IsYesBy rules (found_of held) now) (λ text. IsYes now held) result
    (λ outcome comes. subst (λ policy. IsReportedBy policy now held outcome) (sym read) comes)
    (λ text yes. record { rules = rules; read = read; yes = yes }) of
