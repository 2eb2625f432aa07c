use Rattle.std.proofs.Common.{◌∙◌}
use Rattle.std.proofs.lemmas.Result.{on_ok_weaker}
use Rattle.insertions.proofs.Grafts.{no_fault}
use Rattle.item_contents.specs.Items.{item_of}
use Rattle.item_contents.proofs.PutItem.{is_large, is_legal, is_put, is_read, is_spelled, on_both}
use Rattle.item_contents.proofs.putting.put_item.Goals as goal

pub insert-requires-clause-content : goal.insert-requires-clause-content
insert-requires-clause-content g c =
    let live = c.args.live.now in
    is_legal live.bytes live.tree c.args.parts.now (item_of c.args.item) c.as_slice.result.now c.place_of.result
    (record { none = no_fault live.bytes live.tree live.whole; are = c.requires.parts; read = c.requires.read; may = c.requires.may; whole = c.requires.whole })
    (record { content_is = c.as_slice.ensures.value ∙ c.in-Ok.ensures; node_is = c.place_of.ensures })

pub returns-clause-bytes : goal.returns-clause-bytes
returns-clause-bytes g c =
    let live = c.args.live.now in
    on_ok_weaker c.insert.result (λ e. e ∙ is_put live.bytes live.tree c.args.parts.now (item_of c.args.item) c.as_slice.result.now c.place_of.result
    (record { none = no_fault live.bytes live.tree live.whole; are = c.requires.parts; read = c.requires.read; may = c.requires.may; whole = c.requires.whole })
    (record { content_is = c.as_slice.ensures.value ∙ c.in-Ok.ensures; node_is = c.place_of.ensures })) c.insert.ensures.bytes

pub returns-clause-tree : goal.returns-clause-tree
returns-clause-tree g c =
    let live = c.args.live.now in
    on_both c.insert.result (λ e small. is_spelled live.bytes live.tree c.args.parts.now (item_of c.args.item) c.as_slice.result.now c.place_of.result
    (record { none = no_fault live.bytes live.tree live.whole; are = c.requires.parts; read = c.requires.read; may = c.requires.may; whole = c.requires.whole })
    (record { content_is = c.as_slice.ensures.value ∙ c.in-Ok.ensures; node_is = c.place_of.ensures }) _ e small.1) c.insert.ensures.bytes c.insert.ensures.small

pub returns-clause-read : goal.returns-clause-read
returns-clause-read g c =
    let live = c.args.live.now in
    on_both c.insert.result (λ e small. is_read live.bytes live.tree c.args.parts.now (item_of c.args.item) c.as_slice.result.now c.place_of.result
    (record { none = no_fault live.bytes live.tree live.whole; are = c.requires.parts; read = c.requires.read; may = c.requires.may; whole = c.requires.whole })
    (record { content_is = c.as_slice.ensures.value ∙ c.in-Ok.ensures; node_is = c.place_of.ensures }) _ e small.1) c.insert.ensures.bytes c.insert.ensures.small

pub returns-clause-large : goal.returns-clause-large
returns-clause-large g c = λ h.
    let live = c.args.live.now in
    is_large live.bytes live.tree c.args.parts.now (item_of c.args.item) c.as_slice.result.now c.place_of.result
    (record { none = no_fault live.bytes live.tree live.whole; are = c.requires.parts; read = c.requires.read; may = c.requires.may; whole = c.requires.whole })
    (record { content_is = c.as_slice.ensures.value ∙ c.in-Ok.ensures; node_is = c.place_of.ensures }) (c.insert.ensures.large h)
