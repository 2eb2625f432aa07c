use Rattle.std.proofs.Common.{◌≡◌, ◌∙◌, ◌&&◌, not, sym, ap, subst, Bool, false, true, is_some}
use Rattle.std.specs.Str.{chars}
use Rattle.std.proofs.lemmas.Bool.{and_left, and_right}
use Rattle.document_model.specs.Characters.{is_empty}
use Rattle.document_model.specs.Items.{referred}
use Rattle.xml_items.proofs.AsciiTexts.{empty_chars, chars_empty}
use Rattle.xml_items.proofs.Values.{has_references, IsAtReference, references_behind, reference_first}
use Rattle.xml_items.proofs.tags.are_references.Goals as goal
use Rattle.xml_items.proofs.tags.are_references.Goals.{then-is_empty-via-then-is_empty, then-is_empty-via-else-is_empty+then-is_none}

pub loop-behind-init : goal.loop-behind-init
loop-behind-init c =
    let both = references_behind (chars c.args.text.now) (chars c.front.result.0.now) (chars c.front.result.1.now) c.front.ensures.split in
    (c.front.ensures.behind_utf8, both.0, both.1)

pub returns-then-is_empty : goal.returns-then-is_empty
returns-then-is_empty c =
    let step = (ap has_references c.in-Some.ensures.chars
    ∙ reference_first c.in-Some.field-0-0 (chars c.in-Some.behind.now) (chars c.front-in-Some.result.0.now) (chars c.front-in-Some.result.1.now) (chars c.front-in-Some-2.result.0.now) (chars c.front-in-Some-2.result.1.now)
    (subst IsAtReference c.in-Some.ensures.chars c.loop-behind.invariant.2) c.front-in-Some.ensures.split c.front-in-Some-2.ensures.split) in
    let further : Bool = has_references (chars c.front-in-Some.result.1.now) in
    let ends : is_empty (chars c.front-in-Some-2.result.1.now) ≡ _ = empty_chars c.front-in-Some-2.result.1.now c.front-in-Some-2.ensures.behind_utf8 ∙ sym c.is_empty.ensures in
    sym (c.loop-behind.invariant.1 ∙ step ∙ elim c.then-is_empty.branch [
      | then-is_empty-via-then-is_empty w ↦ and_right (is_some (referred (chars c.front-in-Some-2.result.0.now))) _ (ap (λ b. not b && further) (ends ∙ w.if-is_empty.true))
      | then-is_empty-via-else-is_empty+then-is_none w ↦ and_left _ _ (ap is_some w.referred.ensures ∙ w.is_none.ensures ∙ ap not w.if-is_none.true)
    ])

pub loop-behind-preserved : goal.loop-behind-preserved
loop-behind-preserved c =
    let step = (ap has_references c.in-Some.ensures.chars
    ∙ reference_first c.in-Some.field-0-0 (chars c.in-Some.behind.now) (chars c.front-in-Some.result.0.now) (chars c.front-in-Some.result.1.now) (chars c.front-in-Some-2.result.0.now) (chars c.front-in-Some-2.result.1.now)
    (subst IsAtReference c.in-Some.ensures.chars c.loop-behind.invariant.2) c.front-in-Some.ensures.split c.front-in-Some-2.ensures.split) in
    let further : Bool = has_references (chars c.front-in-Some.result.1.now) in
    let ends : is_empty (chars c.front-in-Some-2.result.1.now) ≡ false = empty_chars c.front-in-Some-2.result.1.now c.front-in-Some-2.ensures.behind_utf8 ∙ sym c.is_empty.ensures ∙ c.if-is_empty.false in
    let stands : is_some (referred (chars c.front-in-Some-2.result.0.now)) ≡ true = ap is_some c.referred.ensures ∙ c.is_none.ensures ∙ ap not c.if-is_none.false in (
      c.front-in-Some.ensures.behind_utf8,
      c.loop-behind.invariant.1 ∙ step ∙ (λ i. stands i && (not (ends i) && further)),
      (references_behind (chars c.in-Some.behind.now) (chars c.front-in-Some.result.0.now) (chars c.front-in-Some.result.1.now) c.front-in-Some.ensures.split).1,
    )

pub returns : goal.returns
returns c = sym (c.loop-behind.invariant.1 ∙ ap has_references (chars_empty c.loop-behind.rest.now c.in_default.ensures.chars))
