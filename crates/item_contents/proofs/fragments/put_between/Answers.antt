use Rattle.std.proofs.Common.{◌≡◌, ℕ, List, OnOk, subst}
use Rattle.signature_model.specs.Fragments.{encoded, written_octets}
use Rattle.item_contents.proofs.Appending.{three}
use Rattle.item_contents.proofs.fragments.put_between.Goals as goal

pub returns : goal.returns
returns c =
    let P : List ℕ → Type 0 = λ xs. OnOk c.push_all-2.result (c.push_all-2.new.self ≡ xs) in
    subst P (three c.args.out.now c.args.before.now (written_octets (encoded c.args.octets.now)) c.args.after.now _ _ c.in_ok-push_all.ensures.ok c.in_ok-put_base64.ensures) c.push_all-2.ensures.ok
