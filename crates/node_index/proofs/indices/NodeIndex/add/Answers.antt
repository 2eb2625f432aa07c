use Rattle.std.proofs.Common.{Some, ◌∙◌, ap, string_bytes}
use Rattle.std.proofs.lemmas.Map.Text.{btree_map_updates_text}
use Rattle.std.specs.BTreeMap.{get_by_text}
use Rattle.std.specs.Map.{update}
use Rattle.std.specs.Str.{bytes_eq}
use Rattle.node_index.specs.Indices.{sighted}
use Rattle.node_index.specs.Sightings.{with_node}
use Rattle.node_index.proofs.IndexLaws.{adds_from}
use Rattle.node_index.proofs.indices.NodeIndex.add.Goals as goal

pub returns-clause-ok : goal.returns-clause-ok
returns-clause-ok c =
    let text = string_bytes c.args.text in
    let sets = btree_map_updates_text text c.args.self.now.held c.insert.new.self _ c.in-Ok.ensures.updates in
    let seen = c.with-seen.ensures ∙ ap (with_node c.args.node) (c.find.ensures ∙ ap (sighted c.args.self.now) c.as_str.ensures.value) in
    adds_from text c.args.node c.args.self.now (record { held = c.insert.new.self })
    (λ other. sets other ∙ ap (λ s. update bytes_eq (get_by_text c.args.self.now.held) text (Some s) other) seen)
