use Rattle.std.proofs.Common.{Bool, not, ◌&&◌, sym, ◌∙◌, ap}
use Rattle.doc_spans.specs.Seen.{path_in}
use Rattle.node_sets.specs.Sets.{is_top}
use Rattle.canon_forms.specs.Walks.{doc_of, held_in}
use Rattle.canon_forms.proofs.Walked.{below_is_holds}
use Rattle.canon_forms.proofs.walks.Walk.has_below.Goals as goal

pub returns-then-is_kept : goal.returns-then-is_kept
returns-then-is_kept c =
    let top : Bool = is_top (held_in c.args.self.now).removed (path_in (doc_of c.args.self.now) c.args.node) in
    ap not c.is_removed.ensures
    ∙ sym (ap (λ b. b && not top) (sym c.has_kind-is_kept.ensures ∙ c.if-is_kept.true))
    ∙ below_is_holds c.args.self.now c.args.node c.requires.has c.requires.reached

pub returns-else-is_kept : goal.returns-else-is_kept
returns-else-is_kept c =
    let top : Bool = is_top (held_in c.args.self.now).removed (path_in (doc_of c.args.self.now) c.args.node) in
    c.if-is_kept.false
    ∙ sym (ap (λ b. b && not top) (sym c.has_kind-is_kept.ensures ∙ c.if-is_kept.false))
    ∙ below_is_holds c.args.self.now c.args.node c.requires.has c.requires.reached
