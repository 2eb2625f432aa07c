-- The first nodes under a text, one after another.
use Rattle.doc_spans.specs.declared.documents.NodeId.{NodeId}
use Rattle.node_index.specs.declared.sightings.Sightings.{Sightings}
use Rattle.node_index.specs.declared.sightings.Sightings.TheVariants.{Absent, One, Several}

-- with one more node behind those that are there
abbrev pub with_node : NodeId → Sightings → Sightings
with_node node Absent = One node
with_node node (One first) = Several first node
with_node node (Several first second) = Several first second
