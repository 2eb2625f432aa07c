use Rattle.std.proofs.Common.{◌≡◌, ◌≤◌, ◌-◌, length}
use Rattle.der_values.specs.Layout.{read, repeated, element}
use Rattle.der_values.specs.Meaning.{meaning}
use Rattle.der_values.specs.View.{content_view}
use Rattle.der_values.specs.declared.rules.Rule.TheVariants as rules
use Rattle.der_values.specs.Distinct.{StandsAt}
use Rattle.der_values.proofs.layout.«+judging».Given as goal

abbrev pub invariant-judge_all-loop : goal.invariant-judge_all-loop
invariant-judge_all-loop l = (l.reached ≤ length l.content.bytes.now) × (repeated (read (meaning l.one) (content_view l.content)) (length l.content.bytes.now) (length l.content.bytes.now - l.counter) l.reached ≡ repeated (read (meaning l.one) (content_view l.content)) (length l.content.bytes.now) (length l.content.bytes.now) l.offset)

abbrev pub invariant-judge_distinct-loop-number : goal.invariant-judge_distinct-loop-number
invariant-judge_distinct-loop-number l = record {
  within : l.reached ≤ length l.content.bytes.now;
  stands : StandsAt l.content.bytes.now l.reached l.number;
  read : repeated (read (element l.tag rules.NotTwice (meaning l.inner)) (content_view l.content)) (length l.content.bytes.now) (length l.content.bytes.now - l.number) l.reached
      ≡ repeated (read (element l.tag rules.NotTwice (meaning l.inner)) (content_view l.content)) (length l.content.bytes.now) (length l.content.bytes.now) 0;
}
