use Rattle.std.proofs.Common.{◌≡◌, ◌==◌, ◌-◌, ◌++◌, ◌∙◌, false, ap, sym, arith, length, take, drop, length-drop}
use Rattle.std.proofs.lemmas.Bool.{ne_eqb}
use Rattle.std.proofs.lemmas.List.{length-take-le}
use Rattle.std.proofs.lemmas.Str.{IsUtf8-from_is_utf8}
use Rattle.std.specs.Str.{chars}
use Rattle.xml_items.specs.Items.{item_in}
use Rattle.xml_items.proofs.AsciiTexts.{empty_chars}
use Rattle.doc_spans.specs.Texts.{text_between}
use Rattle.doc_spans.proofs.ItemKinds.{piece_names_char, scalar_found, section_fits}
use Rattle.doc_spans.proofs.ItemRuns.{hold_order, run_of, one_of, some_item}
use Rattle.doc_spans.proofs.text_items.TextItems.first.Goals as goal

pub literal_end-behind-requires-clause-order : goal.literal_end-behind-requires-clause-order
literal_end-behind-requires-clause-order c = hold_order c.args.self.bytes.now c.args.self.at c.args.self.end c.args.self.hold

pub utf8_part-text-requires-clause-utf8 : goal.utf8_part-text-requires-clause-utf8
utf8_part-text-requires-clause-utf8 c =
    let self = c.args.self in
    let to = c.literal_end-behind in
    IsUtf8-from_is_utf8 _ (run_of self.bytes.now self.at to.result self.end self.hold to.ensures.literal to.ensures.order to.ensures.within self.within to.ensures.stops).utf8

pub invariant_of-items : goal.invariant_of-items
invariant_of-items c =
    let self = c.args.self in
    let to = c.literal_end-behind in
    record { within = self.within; hold = (run_of self.bytes.now self.at to.result self.end self.hold to.ensures.literal to.ensures.order to.ensures.within self.within to.ensures.stops).hold }

pub returns-then-at-behind-clause-first : goal.returns-then-at-behind-clause-first
returns-then-at-behind-clause-first c =
    let self = c.args.self in
    let to = c.literal_end-behind in
    (run_of self.bytes.now self.at to.result self.end self.hold to.ensures.literal to.ensures.order to.ensures.within self.within to.ensures.stops).left
    ∙ ap (λ xs. chars xs ++ text_between self.bytes.now to.result self.end) (sym c.utf8_part-text.ensures)

pub part_of-part-requires-clause-text : goal.part_of-part-requires-clause-text
part_of-part-requires-clause-text c =
    let self = c.args.self in
    let scanned = c.in-Some.scanned in
    (one_of self.bytes.now self.at scanned.end self.end (item_in scanned.found) self.hold c.if-at-end.false c.in-Some.ensures.within.0 c.in-Some.ensures.within.1 c.in-Some.ensures.item).text

pub part_of-part-requires-clause-scalar : goal.part_of-part-requires-clause-scalar
part_of-part-requires-clause-scalar c = scalar_found c.in-Some.scanned.found (piece_names_char (drop c.args.self.at c.args.self.bytes.now) _ c.in-Some.ensures.item)

pub invariant_of-items-in-Some : goal.invariant_of-items-in-Some
invariant_of-items-in-Some c =
    let self = c.args.self in
    let scanned = c.in-Some.scanned in
    record { within = self.within; hold = (one_of self.bytes.now self.at scanned.end self.end (item_in scanned.found) self.hold c.if-at-end.false c.in-Some.ensures.within.0 c.in-Some.ensures.within.1 c.in-Some.ensures.item).hold }

pub unreachable-requires : goal.unreachable-requires
unreachable-requires c = some_item c.args.self.bytes.now c.args.self.at c.args.self.end c.args.self.hold c.if-at-end.false c.in-None.ensures.item

pub returns-clause-first : goal.returns-clause-first
returns-clause-first c =
    let self = c.args.self in
    let scanned = c.in-Some.scanned in
    (one_of self.bytes.now self.at scanned.end self.end (item_in scanned.found) self.hold c.if-at-end.false c.in-Some.ensures.within.0 c.in-Some.ensures.within.1 c.in-Some.ensures.item).left
    ∙ ap (λ cs. cs ++ text_between self.bytes.now scanned.end self.end) (sym c.part_of-part.ensures.added)

pub returns-clause-shorter : goal.returns-clause-shorter
returns-clause-shorter c =
    let self = c.args.self in
    let scanned = c.in-Some.scanned in
    let order = (one_of self.bytes.now self.at scanned.end self.end (item_in scanned.found) self.hold c.if-at-end.false c.in-Some.ensures.within.0 c.in-Some.ensures.within.1 c.in-Some.ensures.item).order in
    let less = c.in-Some.ensures.within.0 in
    let within = c.in-Some.ensures.within.1 in
    let whole = take (scanned.end - self.at) (drop self.at self.bytes.now) in
    let n : length whole ≡ scanned.end - self.at = length-take-le (scanned.end - self.at) (drop self.at self.bytes.now) (let l = length-drop self.at self.bytes.now in omega (arith, l, within, less)) in
    let fits = section_fits whole scanned.found c.in-Some.ensures.placed (omega (arith, n, less)) in
    let size = c.part_of-part.ensures.size in omega (arith, order, less, n, fits, size)

pub returns-then-at-behind-clause-some : goal.returns-then-at-behind-clause-some
returns-then-at-behind-clause-some c =
    let self = c.args.self in
    let to = c.literal_end-behind in
    let text = c.utf8_part-text.result.now in
    let left : length (drop self.at self.bytes.now) ≡ length self.bytes.now - self.at = length-drop self.at self.bytes.now in
    let size : length text ≡ to.result - self.at
    = ap length c.utf8_part-text.ensures ∙ length-take-le (to.result - self.at) (drop self.at self.bytes.now) (omega (arith, left, to.ensures.within, self.within)) in
    let some : (length text == 0) ≡ false = ne_eqb (length text) 0 (λ e. omega (arith, size, e, c.if-at-behind.true)) in
    empty_chars text c.utf8_part-text.utf8 ∙ some
