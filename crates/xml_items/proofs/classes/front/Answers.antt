use Rattle.std.proofs.Common.{◌≡◌, ◌∙◌, refl, arith, sym, ap, subst, ◌<◌, ℕ, Bool, List, [], length, get_or, drop}
use Rattle.std.specs.Str.{IsUtf8, chars}
use Rattle.std.proofs.lemmas.Str.{IsCharBoundary-from_drop}
use Rattle.std.specs.Str.Iter.{chars_rest}
use Rattle.document_model.specs.Characters.{span}
use Rattle.xml_items.specs.Classes.{passes}
use Rattle.xml_items.proofs.Fronts.{Passed, passed_none, passed_more, passed_byte, passed_boundary, passed_all, passed_at, stops_at_end, stops_before, stops_at_byte, stops_behind}
use Rattle.xml_items.proofs.classes.front.Goals as goal
use Rattle.xml_items.proofs.classes.front.Goals.{in_default-via-in-Some+else-has-2, in_default-via-in_default, then-at-bytes-via-then-at-bytes, then-at-bytes-via-else-at-bytes+then-bytes-at-lt128-2, then-bytes-test+then-bytes-at-lt128+else-has, then-bytes-test+else-bytes-at-lt128, else-bytes-test}

pub bytes-init : goal.bytes-init
bytes-init c = (omega arith, passed_none _ _ _ refl, c.utf8.text)

pub bytes-preserved : goal.bytes-preserved
bytes-preserved c =
    let text = c.args.text.now in
    let at = c.bytes.at in
    let same = c.as_bytes-bytes.ensures.value in
    let within : at < length text = omega (arith, c.bytes-test.true, ap length same) in
    let byte : get_or c.as_bytes-bytes.result.now at 0 ≡ get_or text at 0 = ap (λ (xs : List ℕ). get_or xs at 0) same in
    let P : ℕ → Type 0 = λ n. n < 128 in
    let more = passed_byte (passes c.args.class) text at within (subst P byte c.if-bytes-at-lt128.true) (ap (passes c.args.class) (sym byte) ∙ sym c.if-has.ensures) c.bytes.invariant.1 c.bytes.invariant.2 in
    (omega (arith, within), more.0, more.1)

pub returns-then-at-bytes-clause-split : goal.returns-then-at-bytes-clause-split
returns-then-at-bytes-clause-split c =
    let p : ℕ → Bool = passes c.args.class in
    let text : List ℕ = c.args.text.now in
    let at : ℕ = c.bytes.at in
    let same = c.as_bytes-bytes.ensures.value in
    let byte : get_or c.as_bytes-bytes.result.now at 0 ≡ get_or text at 0 = ap (λ (xs : List ℕ). get_or xs at 0) same in
    let P : ℕ → Type 0 = λ n. n < 128 in
    let stop : span p (chars (drop at text)) ≡ ([], chars (drop at text)) = elim c.then-at-bytes.branch [
      | then-at-bytes-via-then-at-bytes w ↦ stops_behind p text at (omega (arith, w.if-at-bytes.true, ap length same))
      | then-at-bytes-via-else-at-bytes+then-bytes-at-lt128-2 w ↦ elim c.bytes-test.branch [
        | then-bytes-test+then-bytes-at-lt128+else-has v ↦
            stops_at_byte p text at (omega (arith, v.bytes-test.true, ap length same)) (subst P byte v.if-bytes-at-lt128.true) (ap p (sym byte) ∙ sym v.if-has.ensures) c.bytes.invariant.2
        | then-bytes-test+else-bytes-at-lt128 v ↦ absurd (omega (arith, v.if-bytes-at-lt128.false, w.if-bytes-at-lt128-2.true))
        | else-bytes-test v ↦ stops_behind p text at (omega (arith, v.bytes-test.false, ap length same))
      ]
    ] in
    passed_at p text at c.bytes.invariant.0 c.bytes.invariant.1 stop ∙ (λ i. (chars (sym c.split_at.ensures.front i), chars (sym c.split_at.ensures.back i)))

pub split_at-requires-2 : goal.split_at-requires-2
split_at-requires-2 c = IsCharBoundary-from_drop c.args.text.now c.bytes.at c.bytes.invariant.0 c.bytes.invariant.2

pub loop-c-init : goal.loop-c-init
loop-c-init c = subst (Passed (passes c.args.class) c.args.text.now) (sym (c.chars-rest.ensures.rest ∙ c.split_at-2.ensures.back)) c.bytes.invariant.1

pub loop-c-preserved : goal.loop-c-preserved
loop-c-preserved c =
    passed_more (passes c.args.class) c.args.text.now (chars_rest c.loop-c.rest) (chars_rest c.next.new.self) c.in-Some.c c.loop-c.invariant
    (subst IsUtf8 c.as_str-behind.ensures c.as_str-behind.utf8) c.in-Some.ensures.steps.0 (sym c.if-has-2.ensures)

pub split_at-requires-in_default : goal.split_at-requires-in_default
split_at-requires-in_default c =
    passed_boundary (passes c.args.class) c.args.text.now c.as_str-behind.result.now
    (subst (Passed (passes c.args.class) c.args.text.now) (sym c.as_str-behind.ensures) c.loop-c.invariant) c.as_str-behind.utf8

pub returns-in_default-clause-split : goal.returns-in_default-clause-split
returns-in_default-clause-split c =
    let p : ℕ → Bool = passes c.args.class in
    let stop : span p (chars c.as_str-behind.result.now) ≡ ([], chars c.as_str-behind.result.now) = elim c.in_default.branch [
      | in_default-via-in-Some+else-has-2 w ↦ stops_before p c.as_str-behind.result.now _ w.in-Some.c c.as_str-behind.utf8 (c.as_str-behind.ensures ∙ w.in-Some.ensures.steps.0) (sym w.if-has-2.ensures)
      | in_default-via-in_default w ↦ stops_at_end p c.as_str-behind.result.now (ap length c.as_str-behind.ensures ∙ w.in_default.ensures.steps.0.0)
    ] in
    passed_all p c.args.text.now c.as_str-behind.result.now
    (subst (Passed p c.args.text.now) (sym c.as_str-behind.ensures) c.loop-c.invariant) stop
    ∙ (λ i. (chars (sym c.split_at-in_default.ensures.front i), chars (sym c.split_at-in_default.ensures.back i)))
