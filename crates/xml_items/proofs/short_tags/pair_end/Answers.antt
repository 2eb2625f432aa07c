use Rattle.std.proofs.Common.{◌≡◌, ◌∙◌, ℕ, true, ◌+◌, get_or, sym, refl}
use Rattle.document_model.specs.Items.{is_quote}
use Rattle.xml_items.proofs.ShortTags.{part_of, is_double, is_single}
use Rattle.xml_items.proofs.QuickTags.{pair_is, simple_is, inside_ascii, valued_by}
use Rattle.xml_items.proofs.short_tags.pair_end.Goals as goal
use Rattle.xml_items.proofs.short_tags.pair_end.Goals.{then-quote-eq34-via-then-quote-eq34, then-quote-eq34-via-else-quote-eq34+then-quote-eq39}

pub returns-then-bytes-simple-clause-pair : goal.returns-then-bytes-simple-clause-pair
returns-then-bytes-simple-clause-pair c more =
    let d = c.args.bytes.now in
    let equals = c.name_end-equals.result in
    let q : ℕ = get_or d (equals + 1) 0 in
    let quote : is_quote q ≡ true = elim c.then-quote-eq34.branch [
      | then-quote-eq34-via-then-quote-eq34 w ↦ is_double q w.if-quote-eq34.true
      | then-quote-eq34-via-else-quote-eq34+then-quote-eq39 w ↦ is_single q w.if-quote-eq39.true
    ] in
    let s = simple_is q (part_of d (equals + 2) c.simple_end-simple.result) c.simple_end-simple.ensures.run in
    pair_is d c.args.at equals c.simple_end-simple.result q c.if-start-equals.true c.simple_end-simple.ensures.order c.if-simple-bytes.true c.if-bytes-at-eq32.true (c.name_end-equals.ensures.name c.if-start-equals.true)
    c.if-bytes-equals-eq61.true refl quote s.0 s.1 c.if-bytes-simple.true

pub ascii_text-requires-clause-ascii : goal.ascii_text-requires-clause-ascii
ascii_text-requires-clause-ascii c =
    let d = c.args.bytes.now in
    let equals = c.name_end-equals.result in
    inside_ascii (get_or d (equals + 1) 0) (part_of d (equals + 2) c.inside_end-end.result) c.inside_end-end.ensures.run

pub returns-then-is_value-clause-pair : goal.returns-then-is_value-clause-pair
returns-then-is_value-clause-pair c more =
    let d = c.args.bytes.now in
    let equals = c.name_end-equals.result in
    let q : ℕ = get_or d (equals + 1) 0 in
    let quote : is_quote q ≡ true = elim c.then-quote-eq34.branch [
      | then-quote-eq34-via-then-quote-eq34 w ↦ is_double q w.if-quote-eq34.true
      | then-quote-eq34-via-else-quote-eq34+then-quote-eq39 w ↦ is_single q w.if-quote-eq39.true
    ] in
    let inside = part_of d (equals + 2) c.inside_end-end.result in
    let value = valued_by q c.ascii_text.result.now inside c.inside_end-end.ensures.run c.ascii_text.ensures (sym c.is_value.ensures ∙ c.if-is_value.true) in
    pair_is d c.args.at equals c.inside_end-end.result q c.if-start-equals.true c.inside_end-end.ensures.order c.if-end-bytes.true c.if-bytes-at-eq32.true (c.name_end-equals.ensures.name c.if-start-equals.true)
    c.if-bytes-equals-eq61.true refl quote c.inside_end-end.ensures.run value c.if-bytes-end.true
