use Rattle.std.proofs.Common.{◌≡◌, ℕ, List, map, OnOk, subst}
use Rattle.der_values.specs.Distinct.{octets}
use Rattle.report_texts.proofs.WrittenLines.{whole_line}
use Rattle.report_texts.proofs.lines.put_line.Goals as goal

pub returns : goal.returns
returns c =
    let P : List ℕ → Type 0 = λ xs. OnOk c.push_all-2.result (c.push_all-2.new.self ≡ xs) in
    subst P (whole_line c.args.out.now c.args.first.now (map octets c.args.words.now) _ _ c.in_ok-push_all.ensures.ok c.in_ok-put_words.ensures) c.push_all-2.ensures.ok
