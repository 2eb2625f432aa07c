-- What is kept of the items before a place, in the code.
use Rattle.doc_spans.specs.declared.standing.Standing as code
use Rattle.doc_spans.specs.Standing.{Standing}
use Rattle.doc_spans.specs.Scopes.{tags_around}

abbrev pub standing_in : code.Standing → Standing
standing_in s = record {
  outer = tags_around s.open;
  begun = s.begun;
  first = s.first;
  front = s.front;
  bracket = s.bracket;
  brackets = s.brackets;
  in_text = s.in_text;
  nodes = s.nodes;
}
