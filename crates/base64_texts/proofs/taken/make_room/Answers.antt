use Rattle.std.proofs.Common.{◌++◌, ◌≡◌, take, ap, sym, ◌∙◌, arith}
use Rattle.std.proofs.lemmas.List.{take_all, append-nil}
use Rattle.base64_texts.specs.Spelling.{spelled}
use Rattle.base64_texts.proofs.Groups.{block_moved, block_groups}
use Rattle.base64_texts.proofs.taken.make_room.Goals as goal

pub returns-clause-same : goal.returns-clause-same
returns-clause-same c =
    let all : take c.args.filled c.args.block.now ≡ c.args.block.now = take_all c.args.filled c.args.block.now (omega arith) in
    append-nil (spelled c.append_decoded.new.octets) ∙ block_moved c.args.octets.now c.args.block.now c.append_decoded.new.octets c.requires.groups c.in_ok-append_decoded.ensures.ok
    ∙ ap (λ x. spelled c.args.octets.now ++ x) (sym all)

pub returns-clause-groups : goal.returns-clause-groups
returns-clause-groups c =
    block_groups c.args.octets.now c.args.block.now c.append_decoded.new.octets c.requires.groups (c.requires.whole (omega arith)) c.in_ok-append_decoded.ensures.ok
