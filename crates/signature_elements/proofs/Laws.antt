-- What callers know of elements where they stand.
use Rattle.std.proofs.Common.{◌≡◌, ℕ, List, [], ◌∷◌, ◌++◌, Some, refl, ◌∙◌, ap, subst}
use Rattle.document_model.specs.Scopes.{Tag}
use Rattle.doc_spans.specs.declared.documents.Doc.{Doc}
use Rattle.doc_spans.specs.declared.documents.NodeId.{NodeId}
use Rattle.doc_spans.specs.Seen.{document_in, path_in, node_in}
use Rattle.doc_spans.specs.Shown.{outer_path}
use Rattle.doc_spans.proofs.ChildSteps.{NextChild}
use Rattle.doc_spans.proofs.Elements.{element_of}
use Rattle.doc_spans.proofs.Outward.{tags_around}
use Rattle.doc_spans.proofs.Shows.{outer_more}
use Rattle.document_model.specs.Scopes.{tags_at}
use Rattle.node_sets.specs.Scopes.{scope_of}
use Rattle.signature_model.specs.Keeping.{IsSpot}
use Rattle.signature_model.specs.Spots.{Spot}
use Rattle.signature_elements.specs.Standing.{spot_of, GivesSpot, IsElement, IsThere}
use Rattle.signature_elements.proofs.Named.{tagged}

-- a spot is that of an element of the document
pub is_spot : (doc : Doc) (node : NodeId) → IsElement doc node → IsSpot (document_in doc) (spot_of doc node)
is_spot doc node h =
    let t = tagged doc node h in
    let e = element_of (node_in doc node) t.tag t.is in
    record { tags = refl; element = (_, e.is, tt) }

-- a child stands one number further, and in the scope of its holder with its own tag
pub record ChildSpot (doc : Doc) (holder child : NodeId) (i : ℕ) : Type 0 where
  pub tag : Tag
  pub spot : spot_of doc child ≡ record { path = path_in doc holder ++ i ∷ []; tags = tag ∷ scope_of doc holder }

pub child_spot : (doc : Doc) (holder child : NodeId) (i : ℕ) (behind : List ℕ) → NextChild doc (path_in doc holder) i child.0 behind → IsElement doc child → ChildSpot doc holder child i
child_spot doc holder child i behind next h =
    let t = tagged doc child h in
    let around = tags_around (document_in doc) (path_in doc child) next.node next.named ∙ ap (tags_at (document_in doc)) (ap outer_path next.at ∙ outer_more (path_in doc holder) i) in
    record { tag = t.tag; spot = (λ k. record { path = next.at k; tags = (t.scope ∙ ap (λ tags. t.tag ∷ tags) around) k }) }

-- One element after another, by an iterator over elements of a document.
pub record NextSpot {S : Type 0} (doc_of : S → Doc) (left : S → List Spot) (doc : Doc) (before : S) (node : NodeId) (now : S) : Type 0 where
  pub there : IsThere doc node
  pub spots : left before ≡ spot_of doc node ∷ left now
  pub doc_is : doc_of now ≡ doc

pub next_spot : {S : Type 0} (doc_of : S → Doc) (left : S → List Spot) (doc : Doc) (before now : S) (node : NodeId) → doc_of before ≡ doc → GivesSpot doc_of left before (Some node) now
    → NextSpot doc_of left doc before node now
next_spot doc_of left doc before now node e g =
    let P : Doc → Type 0 = λ d. IsThere d node in
    record {
      there = subst P e g.1.0;
      spots = g.1.1 ∙ ap (λ d. spot_of d node ∷ left now) e;
      doc_is = g.0 ∙ e;
    }
