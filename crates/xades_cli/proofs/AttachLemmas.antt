-- What `attach` comes to, by what was found on the way.
use Rattle.std.proofs.Common.{◌≡◌, ℕ, suc, ◌≤◌, true, false, List, [], ◌∷◌, ◌++◌, length, map, refl, sym, ap, ◌∙◌, subst, append_assoc, arith}
use Rattle.std.proofs.lemmas.List.{append-nil, map-append}
use Rattle.std.specs.Prelude.{ℤ, IsSome, Option, None, Some, Result, Ok, Err}
use Rattle.augmenter.specs.declared.items.Item.{Item}
use Rattle.augmenter.specs.declared.items.ItemKind.{ItemKind}
use Rattle.policy_rules.specs.Rules.{Rules}
use Rattle.signature_model.specs.Chains.{Handed}
use Rattle.whole_files.specs.Roles.{is_external}
use Rattle.whole_files.specs.Wants.{Held, AreFor, held_of}
use Rattle.whole_files.specs.declared.file.File.{File}
use Rattle.whole_files.specs.declared.role.Role.{Role}
use Rattle.whole_files.specs.declared.role.Role.TheVariants as roles
use Rattle.xades_cli.specs.Attach.{IsAttached, IsAttachedOf, IsAttachOutcome, IsItemsOutcome, IsOutcomeBy, item_by, items_of, kind_of}
use Rattle.policy_rules.specs.Text as texts
use Rattle.xades_cli.specs.Computed.{IsRefusalOf, IsResultOf}
use Rattle.command_words.specs.Attaching.{Attaches, attach_wants, item_want}
use Rattle.xades_cli.specs.Outcomes.{Outcome, IsOf, RefusesDocument, RefusesPolicy}
use Rattle.xades_cli.specs.declared.stop.Refusal.TheVariants as refusals
use Rattle.augmenter.specs.Answers.{IsFaultyDocument}
use Rattle.doc_spans.specs.declared.faults.DocFault.{DocFault}
use Rattle.doc_spans.specs.declared.faults.DocFault.TheVariants as documents
use Rattle.document_model.specs.Documents.{fault}
use Rattle.xades_cli.specs.Stages.{by_policy, policy_fault}
use Rattle.xades_cli.specs.Handing.{handed_by}
use Rattle.command_words.specs.Wanting.{external_want}
use Rattle.xades_cli.specs.declared.answers.Answer.{Answer}
use Rattle.xades_cli.specs.declared.stop.Stop.{Stop}
use Rattle.xades_cli.proofs.PolicyStops.{stopped_by_policy}
use Rattle.whole_files.specs.Roles.{is_document}
use Rattle.whole_files.specs.Wants.{document_of, policy_of}

-- The items of files.

items_append : (files : List Held) (file : Held) → items_of (files ++ file ∷ []) ≡ items_of files ++ item_by (kind_of file.role) file.bytes
items_append [] file = append-nil (item_by (kind_of file.role) file.bytes)
items_append (first ∷ files) file =
    ap (λ all. item_by (kind_of first.role) first.bytes ++ all) (items_append files file)
    ∙ sym (append_assoc (item_by (kind_of first.role) first.bytes) (items_of files) (item_by (kind_of file.role) file.bytes))

pub items_more : (items more : List Item) (files : List File) (file : File) (kind : ItemKind) → items ≡ items_of (map held_of files) → kind_of file.role ≡ Some kind
    → more ≡ items ++ record { kind = kind; bytes = file.bytes } ∷ [] → more ≡ items_of (map held_of (files ++ file ∷ []))
items_more items more files file kind same is added =
    added ∙ ap (λ all. all ++ record { kind = kind; bytes = file.bytes } ∷ []) same
    ∙ ap (λ o. items_of (map held_of files) ++ item_by o file.bytes) (sym is)
    ∙ sym (items_append (map held_of files) (held_of file)) ∙ ap items_of (sym (map-append held_of files (file ∷ [])))

pub items_same : (items : List Item) (files : List File) (file : File) → items ≡ items_of (map held_of files) → kind_of file.role ≡ None
    → items ≡ items_of (map held_of (files ++ file ∷ []))
items_same items files file same is =
    same ∙ sym (append-nil (items_of (map held_of files))) ∙ ap (λ o. items_of (map held_of files) ++ item_by o file.bytes) (sym is)
    ∙ sym (items_append (map held_of files) (held_of file)) ∙ ap items_of (sym (map-append held_of files (file ∷ [])))

pub external_no_item : (role : Role) → is_external role ≡ true → kind_of role ≡ None
external_no_item roles.External e = refl
external_no_item roles.Document e = cc
external_no_item roles.Policy e = cc
external_no_item roles.Certificate e = cc
external_no_item roles.Value e = cc
external_no_item roles.Stamp e = cc
external_no_item roles.Data e = cc
external_no_item roles.Archive e = cc
external_no_item roles.More e = cc

-- What was read for an attachment.

-- a document that is refused for a fault has one

pub has_fault : {A : Type 0} (found : Option A) (a : A) → found ≡ Some a → IsSome found
has_fault found a e = subst (λ o. IsSome o) (sym e) refl

pub some_fault : (bytes : List ℕ) (found : DocFault) → IsFaultyDocument bytes found → IsSome (fault bytes)
some_fault bytes (documents.Item at) is = has_fault _ _ is
some_fault bytes (documents.Doctype at) is = has_fault _ _ is
some_fault bytes (documents.Depth at) is = has_fault _ _ is
some_fault bytes (documents.Nodes at) is = has_fault _ _ is
some_fault bytes documents.End is = has_fault _ _ is
some_fault bytes documents.OutOfMemory is = absurd is

pub faulty_items : (rules : Rules) (handed : Handed) (at : ℤ) (items : List Item) (bytes : List ℕ) (found : DocFault) → IsFaultyDocument bytes found
    → IsRefusalOf (IsItemsOutcome rules handed at items bytes) (refusals.Document found (length bytes))
faulty_items rules handed at items bytes found is = record {
  outcome = RefusesDocument bytes;
  comes = (refl, some_fault bytes found is);
  refuses = (is, refl);
}

pub refused_policy : (at : ℤ) (held : List Held) (text : List ℕ) (stop : Stop) → text ≡ policy_of held → ((later : Rules → Outcome) → IsOf (by_policy (texts.policy_of text) later) (Err stop))
    → IsResultOf (IsAttachOutcome at held) (IsAttached held) (Err stop)
refused_policy at held text stop same of =
    stopped_by_policy (texts.policy_of (policy_of held)) (IsAttachOutcome at held) (IsAttached held) stop
    (λ found e. subst (λ policy. IsOutcomeBy policy at held (RefusesPolicy (policy_fault found))) (sym e) refl)
    (λ later. subst (λ t. IsOf (by_policy (texts.policy_of t) later) (Err stop)) same (of later))

-- what comes to be by one policy comes to be by that of the files
pub accepted_policy : (rules : Rules) (at : ℤ) (held : List Held) (text : List ℕ) (result : Result Answer Stop) → text ≡ policy_of held → texts.policy_of text ≡ Ok rules
    → IsResultOf (IsOutcomeBy (Ok rules) at held) (IsAttached held) result → IsResultOf (IsAttachOutcome at held) (IsAttached held) result
accepted_policy rules at held text result same is of =
    subst (λ policy. IsResultOf (IsOutcomeBy policy at held) (IsAttached held) result) (sym is ∙ ap texts.policy_of same) of

no_items : (names : List (List ℕ)) (held : List Held) → AreFor (map external_want names) held → items_of held ≡ []
no_items [] [] r = refl
no_items [] (file ∷ files) r = absurd r
no_items (name ∷ names) [] r = absurd r
no_items (name ∷ names) (file ∷ files) r = ap (λ role. item_by (kind_of role) file.bytes ++ items_of files) r.0.role ∙ no_items names files r.1

at_most_one : (o : Option ItemKind) (bytes : List ℕ) (items : List Item) → length (item_by o bytes ++ items) ≤ suc (length items)
at_most_one None bytes items = omega arith
at_most_one (Some kind) bytes items = omega arith

few_items : (items : List (Role × List ℕ)) (names : List (List ℕ)) (held : List Held) → AreFor (map item_want items ++ map external_want names) held → length (items_of held) ≤ length items
few_items [] names held r = let none : length (items_of held) ≡ 0 = ap length (no_items names held r) in omega (arith, none)
few_items (item ∷ items) names [] r = absurd r
few_items (item ∷ items) names (file ∷ files) r =
    let one = at_most_one (kind_of file.role) file.bytes (items_of files) in
    let rest = few_items items names files r.1 in
    omega (arith, one, rest)

-- the document first, and the items and the octets that are handed in of the other files
pub record IsAtHand (asked : Attaches) (files : List File) (file : File) (others : List File) (handed : Handed) (items : List Item) : Type 0 where
  pub read : AreFor (attach_wants asked) (map held_of files)
  pub parts : files ≡ file ∷ others
  pub same : (name : List ℕ) → handed name ≡ handed_by (map held_of others) name
  pub items_are : items ≡ items_of (map held_of others)

module _ (asked : Attaches) (files : List File) (file : File) (others : List File) (handed : Handed) (items : List Item) (h : IsAtHand asked files file others handed items) where
  read_parts : AreFor (attach_wants asked) (map held_of (file ∷ others))
  read_parts = subst (λ fs. AreFor (attach_wants asked) (map held_of fs)) h.parts h.read

  given_each : (name : List ℕ) → handed name ≡ handed_by (map held_of files) name
  given_each name =
      let outside : is_external file.role ≡ false = ap is_external read_parts.0.role in
      let over : handed_by (map held_of others) name ≡ handed_by (map held_of (file ∷ others)) name = rw outside refl in
      h.same name ∙ over ∙ ap (λ fs. handed_by (map held_of fs) name) (sym h.parts)

  given : handed ≡ handed_by (map held_of files)
  given = λ i name. given_each name i

  bytes : file.bytes ≡ document_of (map held_of files)
  bytes =
      let first_role : is_document file.role ≡ true = ap is_document read_parts.0.role in
      let own : file.bytes ≡ document_of (map held_of (file ∷ others)) = rw first_role refl in own ∙ ap (λ fs. document_of (map held_of fs)) (sym h.parts)

  all_items : items ≡ items_of (map held_of files)
  all_items =
      let none : kind_of file.role ≡ None = ap kind_of read_parts.0.role in
      h.items_are ∙ ap (λ o. item_by o file.bytes ++ items_of (map held_of others)) (sym none) ∙ ap (λ fs. items_of (map held_of fs)) (sym h.parts)

  pub few : length asked.items ≤ 64 → length items ≤ 64
  few small = in_others others h.items_are read_parts
    where
      in_others : (others : List File) → items ≡ items_of (map held_of others) → AreFor (attach_wants asked) (map held_of (file ∷ others)) → length items ≤ 64
      in_others [] are r = absurd r.1
      in_others (policy ∷ rest) are r =
          let same = ap length are in
          let one : kind_of policy.role ≡ None = ap kind_of r.1.0.role in
          let as_rest : length (items_of (map held_of (policy ∷ rest))) ≡ length (items_of (map held_of rest)) = ap (λ o. length (item_by o policy.bytes ++ items_of (map held_of rest))) one in
          let few_rest = few_items asked.items asked.externals (map held_of rest) r.1.1 in
          omega (arith, same, as_rest, few_rest, small)

  pub outcome : (rules : Rules) (at : ℤ) (document : List ℕ) (result : Result Answer Stop) → document ≡ file.bytes
      → IsResultOf (IsItemsOutcome rules handed at items document) (IsAttachedOf handed items document) result
      → IsResultOf (IsOutcomeBy (Ok rules) at (map held_of files)) (IsAttached (map held_of files)) result
  outcome rules at document result own of =
      let whole = own ∙ bytes in
      subst (λ (all : Handed × List Item × List ℕ). IsResultOf (IsItemsOutcome rules all.0 at all.1 all.2) (IsAttachedOf all.0 all.1 all.2) result) (λ i. (given i, all_items i, whole i)) of
