use Rattle.std.proofs.Common.{◌≡◌, ◌∙◌, ◌+◌, ℕ, List, Some, true, drop, get_or, length, ap, sym, subst, refl, arith}
use Rattle.std.specs.Str.{chars, IsUtf8}
use Rattle.std.proofs.lemmas.Str.{IsCharBoundary-from_drop}
use Rattle.document_model.specs.Items.{is_quote, pair_at}
use Rattle.xml_items.proofs.ShortTags.{pair_text, part_of, ascii_chars, is_double, is_single}
use Rattle.xml_items.proofs.tags.quick_pair.Goals as goal
use Rattle.xml_items.proofs.tags.quick_pair.Goals.{then-quote-eq34-via-then-quote-eq34, then-quote-eq34-via-else-quote-eq34+then-quote-eq39}

pub split_at-requires : goal.split_at-requires
split_at-requires c =
    let d = c.as_bytes-bytes.result.now in
    let same = c.as_bytes-bytes.ensures.value in
    let equals = c.short_run-equals.result in
    let end = c.quoted_end-end.result in
    let q : ℕ = get_or d (equals + 1) 0 in
    let quote : is_quote q ≡ true = elim c.then-quote-eq34.branch [
      | then-quote-eq34-via-then-quote-eq34 w ↦ is_double q w.if-quote-eq34.true
      | then-quote-eq34-via-else-quote-eq34+then-quote-eq39 w ↦ is_single q w.if-quote-eq39.true
    ] in
    let t = pair_text d equals end q (subst IsUtf8 (sym same) c.utf8.text) c.short_run-equals.ensures.order c.quoted_end-end.ensures.order c.if-end-bytes.true c.if-bytes-eq32.true
    c.short_run-equals.ensures.run c.if-bytes-equals-eq61.true refl quote c.quoted_end-end.ensures.run c.if-bytes-end.true in
    IsCharBoundary-from_drop c.args.text.now (end + 1) (omega (arith, c.if-end-bytes.true, ap length same)) (subst (λ (x : List ℕ). IsUtf8 (drop (end + 1) x)) same t.utf8)

pub ascii_text-requires-clause-ascii : goal.ascii_text-requires-clause-ascii
ascii_text-requires-clause-ascii c =
    let d = c.as_bytes-bytes.result.now in
    let equals = c.short_run-equals.result in
    let q : ℕ = get_or d (equals + 1) 0 in
    let quote : is_quote q ≡ true = elim c.then-quote-eq34.branch [
      | then-quote-eq34-via-then-quote-eq34 w ↦ is_double q w.if-quote-eq34.true
      | then-quote-eq34-via-else-quote-eq34+then-quote-eq39 w ↦ is_single q w.if-quote-eq39.true
    ] in
    (pair_text d equals c.quoted_end-end.result q (subst IsUtf8 (sym c.as_bytes-bytes.ensures.value) c.utf8.text) c.short_run-equals.ensures.order c.quoted_end-end.ensures.order c.if-end-bytes.true c.if-bytes-eq32.true
    c.short_run-equals.ensures.run c.if-bytes-equals-eq61.true refl quote c.quoted_end-end.ensures.run c.if-bytes-end.true).name

pub ascii_text-requires-then-bytes-end-clause-ascii : goal.ascii_text-requires-then-bytes-end-clause-ascii
ascii_text-requires-then-bytes-end-clause-ascii c =
    let d = c.as_bytes-bytes.result.now in
    let equals = c.short_run-equals.result in
    let q : ℕ = get_or d (equals + 1) 0 in
    let quote : is_quote q ≡ true = elim c.then-quote-eq34.branch [
      | then-quote-eq34-via-then-quote-eq34 w ↦ is_double q w.if-quote-eq34.true
      | then-quote-eq34-via-else-quote-eq34+then-quote-eq39 w ↦ is_single q w.if-quote-eq39.true
    ] in
    (pair_text d equals c.quoted_end-end.result q (subst IsUtf8 (sym c.as_bytes-bytes.ensures.value) c.utf8.text) c.short_run-equals.ensures.order c.quoted_end-end.ensures.order c.if-end-bytes.true c.if-bytes-eq32.true
    c.short_run-equals.ensures.run c.if-bytes-equals-eq61.true refl quote c.quoted_end-end.ensures.run c.if-bytes-end.true).text

pub returns-then-bytes-end-clause-pair : goal.returns-then-bytes-end-clause-pair
returns-then-bytes-end-clause-pair c =
    let d = c.as_bytes-bytes.result.now in
    let same = c.as_bytes-bytes.ensures.value in
    let equals = c.short_run-equals.result in
    let end = c.quoted_end-end.result in
    let q : ℕ = get_or d (equals + 1) 0 in
    let quote : is_quote q ≡ true = elim c.then-quote-eq34.branch [
      | then-quote-eq34-via-then-quote-eq34 w ↦ is_double q w.if-quote-eq34.true
      | then-quote-eq34-via-else-quote-eq34+then-quote-eq39 w ↦ is_single q w.if-quote-eq39.true
    ] in
    let t = pair_text d equals end q (subst IsUtf8 (sym same) c.utf8.text) c.short_run-equals.ensures.order c.quoted_end-end.ensures.order c.if-end-bytes.true c.if-bytes-eq32.true
    c.short_run-equals.ensures.run c.if-bytes-equals-eq61.true refl quote c.quoted_end-end.ensures.run c.if-bytes-end.true in
    let name = sym (ascii_chars c.ascii_text.result.now (part_of d 1 equals) c.ascii_text.ensures t.name) in
    let text = sym (ascii_chars c.ascii_text-then-bytes-end.result.now (part_of d (equals + 2) end) c.ascii_text-then-bytes-end.ensures t.text) in
    let rest : chars (drop (end + 1) d) ≡ chars c.split_at.result.1.now = ap (λ (x : List ℕ). chars (drop (end + 1) x)) same ∙ ap chars (sym c.split_at.ensures.back) in
    ap (λ (x : List ℕ). pair_at (chars x)) (sym same) ∙ t.pair ∙ (λ i. Some (record { name = name i; text = text i }, rest i))
