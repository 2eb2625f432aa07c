use Rattle.std.proofs.Common.{◌∙◌}
use Rattle.node_sets.specs.Sets.{set_in, doc_in}
use Rattle.canon_methods.specs.Forms.{form_in}
use Rattle.canon_forms.proofs.SetOctets.{IsWalk, lines_octets, apex_octets, from_nothing}
use Rattle.canon_forms.proofs.writing.to_vec.Goals as goal
use Rattle.canon_forms.proofs.writing.to_vec.Goals.{in-Some+in_ok-put_apex-in-Some, in-None+in_ok-put_lines-in-None}

pub returns : goal.returns
returns c =
    let walk = c.of-walk.result in
    let form = form_in c.args.form.now in
    let set = set_in c.args.set.now in
    let doc = doc_in c.args.set.now in
    let is : IsWalk walk form set doc = record { doc_is = c.of-walk.ensures.doc; held_is = c.of-walk.ensures.held; rule_is = c.of-walk.ensures.rule } in
    elim c.match-deep_apex.branch [
      | in-Some+in_ok-put_apex-in-Some w ↦ from_nothing c.new-out.result _ c.match-deep_apex.out _ c.new-out.ensures (w.out-is ∙ w.in_ok-put_apex-in-Some.ensures)
          (apex_octets walk form set doc w.in-Some.apex is w.in-Some.ensures.some.0 w.in-Some.ensures.some.1 w.in-Some.ensures.some.2)
      | in-None+in_ok-put_lines-in-None w ↦ from_nothing c.new-out.result _ c.match-deep_apex.out _ c.new-out.ensures (w.out-is ∙ w.in_ok-put_lines-in-None.ensures)
          (lines_octets walk form set doc is w.in-None.ensures.none)
    ]
