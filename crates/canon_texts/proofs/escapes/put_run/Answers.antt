use Rattle.std.proofs.Common.{◌≡◌, ℕ, List, ◌++◌, OnOk, subst, sym, ◌∙◌, ap}
use Rattle.std.specs.Prelude.{flat_map}
use Rattle.canon_texts.specs.WrittenAt.{written_at}
use Rattle.canon_texts.proofs.EscapedTexts.{escaped_bytes}
use Rattle.canon_texts.proofs.escapes.put_run.Goals as goal

pub returns-clause-ok : goal.returns-clause-ok
returns-clause-ok c =
    let P : List ℕ → Type 0 = λ xs. OnOk c.put_bytes.result (c.put_bytes.new.out ≡ c.args.out.now ++ xs) in
    subst P (ap (flat_map (written_at c.args.place)) c.as_bytes.ensures.value ∙ sym (escaped_bytes c.args.place c.args.text.now c.utf8.text)) c.put_bytes.ensures.ok
