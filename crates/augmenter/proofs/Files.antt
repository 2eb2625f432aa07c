-- What the files have that the items give one after another.
use Rattle.std.proofs.Common.{◌≡◌, ℕ, ℤ, List, [], ◌∷◌, None, arith}
use Rattle.attached_lists.specs.Accepted.{IsReadFile}
use Rattle.document_model.specs.Documents.{fault}
use Rattle.policy_rules.specs.Rules.{Rules}
use Rattle.qualifying_props.specs.Whole.{is_whole}
use Rattle.signature_model.specs.Chains.{Handed}
use Rattle.augmenter.specs.Attaching.{FilesHold}
use Rattle.augmenter.specs.declared.items.Item.{Item}
use Rattle.augmenter.proofs.OneItem.{read_by}
use Rattle.augmenter.proofs.Renewing.{each_renews}
use Rattle.augmenter.proofs.Steps.{AreSteps, each_adds, each_two}

pub files_hold : (rules : Rules) (handed : Handed) (moment : ℤ) (items : List Item) (bytes : List ℕ) → fault bytes ≡ None → AreSteps rules handed moment items bytes → FilesHold handed items bytes
files_hold rules handed moment [] bytes right s some = absurd (omega (arith, some))
files_hold rules handed moment (item ∷ items) bytes right s some =
    let is = read_by rules handed moment item bytes s.0.code in
    let r : IsReadFile is_whole is.signature bytes = record { right = right; is_read = is.free } in (
      is.signature,
      record {
        hold = each_two rules handed moment is.signature (item ∷ items) bytes r s;
        add = λ more i x e f. each_adds rules handed moment more is.signature (item ∷ items) bytes r s i x e f;
        renew = each_renews rules handed moment is.signature (item ∷ items) bytes r s;
      },
    )
