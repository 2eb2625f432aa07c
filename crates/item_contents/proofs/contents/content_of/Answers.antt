use Rattle.std.proofs.Common.{◌≡◌, ◌∙◌, ℕ, List, IfOk, ap, subst}
use Rattle.document_model.specs.Documents.{document_of}
use Rattle.signature_model.specs.Fragments.{written_octets}
use Rattle.item_contents.specs.Items.{item_of}
use Rattle.item_contents.specs.Kept.{spot_in}
use Rattle.item_contents.proofs.PutItem.{alone_is, content_is, host_is, node_host}
use Rattle.item_contents.proofs.contents.content_of.Goals as goal

pub returns : goal.returns
returns c =
    let bytes : List ℕ = c.args.live.now.bytes in
    let tree = c.args.live.now.tree in
    let parts = c.args.parts.now in
    let P : List ℕ → Type 0 = λ xs. IfOk c.content_by.result (λ content. content ≡ xs) in
    subst P (ap written_octets (content_is (document_of bytes) (spot_in bytes tree parts.signature) c.host_of-host.result c.stand_alone.result (item_of c.args.item)
    (host_is bytes tree parts c.doc.result c.host_of-host.result c.doc.ensures.bytes c.doc.ensures.tree (node_host c.doc.result c.signature.result parts.signature c.host_of-host.result c.signature.ensures c.host_of-host.ensures))
    (c.stand_alone.ensures ∙ alone_is bytes tree parts c.requires))) c.content_by.ensures
