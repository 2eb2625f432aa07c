-- What an index has under a text.
use Rattle.std.specs.Prelude.{◌≡◌, ℕ, List, unwrap_or, if◌then◌else◌}
use Rattle.std.specs.BTreeMap.{get_by_text}
use Rattle.std.specs.Str.{bytes_eq}
use Rattle.doc_spans.specs.declared.documents.NodeId.{NodeId}
use Rattle.node_index.specs.declared.indices.NodeIndex.{NodeIndex}
use Rattle.node_index.specs.declared.sightings.Sightings.{Sightings}
use Rattle.node_index.specs.declared.sightings.Sightings.TheVariants.{Absent}
use Rattle.node_index.specs.Sightings.{with_node}

-- the nodes under a text, by its bytes
abbrev pub sighted : NodeIndex → List ℕ → Sightings
sighted index text = unwrap_or (get_by_text index.held text) Absent

-- one more node stands under a text, and each other text has the nodes that it had
abbrev pub Adds : List ℕ → NodeId → NodeIndex → NodeIndex → Type 0
Adds text node old new = (other : List ℕ) → sighted new other ≡ (if bytes_eq text other then with_node node (sighted old other) else sighted old other)
