use Rattle.std.proofs.Common.{◌≡◌, ◌++◌, ℕ, List, OnOk, subst, sym}
use Rattle.item_contents.proofs.FragmentOctets.{archive_octets}
use Rattle.item_contents.proofs.fragments.put_archive.Goals as goal

pub returns : goal.returns
returns c =
    let P : List ℕ → Type 0 = λ xs. OnOk c.put_between.result (c.put_between.new.out ≡ c.args.out.now ++ xs) in
    subst P (sym (archive_octets c.args.token.now)) c.put_between.ensures
