use Rattle.std.proofs.Common.{◌≡◌, ◌∙◌, ◌++◌, append_assoc, sym, ap, length}
use Rattle.std.specs.Char.{encode_utf8}
use Rattle.xml_items.proofs.AsciiTexts.{less_space_behind, no_space_behind, nothing_behind}
use Rattle.xml_items.proofs.texts.without_space_behind.Goals as goal

pub loop-c-preserved : goal.loop-c-preserved
loop-c-preserved c =
    let cut : c.loop-c.front.now ≡ c.as_str-shorter.result.now ++ encode_utf8 c.in-Some.c
    = sym c.chars-rest.ensures.rest ∙ c.in-Some.ensures.steps ∙ ap (λ x. x ++ encode_utf8 c.in-Some.c) (sym c.as_str-shorter.ensures) in
    let space = c.loop-c.invariant.2 in (
      c.as_str-shorter.utf8,
      c.loop-c.invariant.1 ∙ less_space_behind c.as_str-shorter.result.now c.loop-c.front.now c.in-Some.c c.as_str-shorter.utf8 c.loop-c.invariant.0 cut (sym c.if-has.ensures),
      (encode_utf8 c.in-Some.c ++ space.0, space.1 ∙ ap (λ x. x ++ space.0) cut ∙ append_assoc c.as_str-shorter.result.now (encode_utf8 c.in-Some.c) space.0),
    )

pub returns-in_default : goal.returns-in_default
returns-in_default c = record {
  front = c.loop-c.invariant.1
      ∙ no_space_behind c.as_str-shorter.result.now c.loop-c.front.now c.in-Some.c c.as_str-shorter.utf8 c.loop-c.invariant.0
      (sym c.chars-rest.ensures.rest ∙ c.in-Some.ensures.steps ∙ ap (λ x. x ++ encode_utf8 c.in-Some.c) (sym c.as_str-shorter.ensures)) (sym c.if-has.ensures);
  placed = c.loop-c.invariant.2;
}

pub returns-in_default-2 : goal.returns-in_default-2
returns-in_default-2 c = record {
  front = c.loop-c.invariant.1 ∙ nothing_behind c.loop-c.front.now (ap length (sym c.chars-rest.ensures.rest) ∙ c.in_default.ensures.steps.0);
  placed = c.loop-c.invariant.2;
}
