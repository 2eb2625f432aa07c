use Rattle.std.proofs.Common.{◌≡◌, ◌++◌, ◌∙◌, [], true, length, List, ℕ, sym, ap, subst, Option, MatchOption, ◌==◌}
use Rattle.std.proofs.lemmas.Bool.{eqb-true}
use Rattle.std.proofs.lemmas.List.{nil_from_length}
use Rattle.std.proofs.lemmas.Str.{scalars-chars}
use Rattle.std.specs.Str.{chars, IsUtf8}
use Rattle.doc_spans.specs.Pieces.{characters_in, front_left}
use Rattle.doc_spans.specs.ReadAs.{is_readable}
use Rattle.xml_items.proofs.AsciiTexts.{chars_empty, empty_chars}
use Rattle.doc_spans.proofs.LiteralRuns.{run_found, written_end, lines_end, lines_step, value_scalar}
use Rattle.doc_spans.proofs.readings.Front.first.Goals as goal

pub invariant_of-front : goal.invariant_of-front
invariant_of-front c =
    record { readable = (run_found c.args.self.reading (chars c.args.self.text.now) _ _ c.args.self.readable c.literal_front.ensures.split).readable }

pub returns-then-not-is_empty-clause-first : goal.returns-then-not-is_empty-clause-first
returns-then-not-is_empty-clause-first c = (run_found c.args.self.reading (chars c.args.self.text.now) _ _ c.args.self.readable c.literal_front.ensures.split).read

-- the run is empty
empty : (run : List ℕ) → true ≡ (length run == 0) → chars run ≡ []
empty run h = chars_empty run (eqb-true (length run) 0 (sym h))

pub returns-in_err-text-in-LineEnds-clause-first : goal.returns-in_err-text-in-LineEnds-clause-first
returns-in_err-text-in-LineEnds-clause-first c =
    let P : Option _ → Type 0 = λ o. MatchOption o (front_left c.args.self ≡ []) (λ r. front_left c.args.self ≡ characters_in r.0 ++ front_left r.1) in
    subst P (sym c.from_residual.ensures)
    (lines_end c.args.self.reading (chars c.args.self.text.now) _ _ c.in-LineEnds.is c.literal_front.ensures.split (empty c.literal_front.result.0.now c.if-not-is_empty.ensures)
    (chars_empty c.literal_front.result.1.now c.in_err-text-in-LineEnds.ensures.chars))

pub unreachable-requires : goal.unreachable-requires
unreachable-requires c =
    let P : _ → Type 0 = λ r. is_readable r (chars c.args.self.text.now) ≡ true in
    c.in-None.ensures.value
    (value_scalar (chars c.args.self.text.now) c.in_ok-code-in-Value.code (chars c.in_ok-code-in-Value.text.now) (subst P c.in-Value.is c.args.self.readable)
    (scalars-chars c.args.self.text.now (subst IsUtf8 (ap (λ xs. xs ++ c.literal_front.result.1.now) (sym (nil_from_length c.literal_front.result.0.now (eqb-true _ 0 (sym c.if-not-is_empty.ensures)))) ∙ c.literal_front.ensures.joined) c.literal_front.ensures.behind_utf8)) c.in_ok-code-in-Value.ensures.first)

pub returns-in-AsWritten-clause-first : goal.returns-in-AsWritten-clause-first
returns-in-AsWritten-clause-first c =
    written_end c.args.self.reading (chars c.args.self.text.now) _ _ c.in-AsWritten.is c.literal_front.ensures.split (empty c.literal_front.result.0.now c.if-not-is_empty.ensures)

pub returns-in_ok-text-in-LineEnds-clause-first : goal.returns-in_ok-text-in-LineEnds-clause-first
returns-in_ok-text-in-LineEnds-clause-first c =
    lines_step c.args.self.reading (chars c.args.self.text.now) _ _ c.in_ok-text-in-LineEnds.field-0-0 (chars c.in_ok-text-in-LineEnds.text.now) (chars c.behind_line_feed.result.now) c.in-LineEnds.is
    c.literal_front.ensures.split (empty c.literal_front.result.0.now c.if-not-is_empty.ensures) c.in_ok-text-in-LineEnds.ensures.chars c.behind_line_feed.ensures.line

pub returns-then-not-is_empty-clause-some : goal.returns-then-not-is_empty-clause-some
returns-then-not-is_empty-clause-some c = empty_chars c.literal_front.result.0.now c.literal_front.ensures.front_utf8 ∙ sym c.if-not-is_empty.ensures
