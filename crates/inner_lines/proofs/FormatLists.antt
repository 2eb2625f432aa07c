-- The formats that point to a Reference, by an index of what formats point to.
use Rattle.std.proofs.Common.{◌≡◌, ℕ, Bool, true, false, cond, List, [], ◌∷◌, ◌++◌, Option, Some, None, refl, sym, ◌∙◌, ap, subst, codes}
use Rattle.std.proofs.Math.Bool.{Bool-set}
use Rattle.std.proofs.Math.Logic.{∥∥₁_elim}
use Rattle.std.specs.Option.{option_map_or}
use Rattle.std.specs.Prelude.{filter, take}
use Rattle.std.specs.Str.{chars, IsUtf8, bytes_eq}
use Rattle.document_model.specs.Characters.{◌is◌}
use Rattle.document_model.specs.Tree.{Nodes}
use Rattle.xml_items.proofs.AsciiTexts.{texts_same}
use Rattle.doc_spans.specs.declared.documents.Doc.{Doc}
use Rattle.doc_spans.specs.declared.documents.NodeId.{NodeId}
use Rattle.node_index.specs.declared.indices.NodeIndex.{NodeIndex}
use Rattle.node_index.specs.declared.sightings.Sightings.{Sightings}
use Rattle.node_index.specs.declared.sightings.Sightings.TheVariants.{Absent, One, Several}
use Rattle.node_index.specs.Indices.{sighted, Adds}
use Rattle.node_index.specs.Sightings.{with_node}
use Rattle.signature_model.specs.Holding.{lacking, with_stray_text, without_text}
use Rattle.signature_model.specs.Shape.{id_of}
use Rattle.signature_model.specs.Spots.{Spot, attribute, called_in, first, paths}
use Rattle.signature_model.specs.Vocabulary.{fragment, xades}
use Rattle.signature_elements.specs.Standing.{spot_of, IsThere}
use Rattle.inner_lines.specs.DataObjects.{seen_in, is_to, AddsFormat, AreThere, IsIndexOf}
use Rattle.inner_lines.specs.LineParts.{faults_by_formats, is_format_of}
use Rattle.signature_parts.proofs.AnyOrder.{Alike, alike_as, alike_joined}
use Rattle.inner_lines.proofs.Ordered.{Ordered, one_for_all}

-- One more format.

more_there : (doc : Doc) (node : NodeId) (s : Sightings) → IsThere doc node → AreThere doc s → AreThere doc (with_node node s)
more_there doc node Absent h k = h
more_there doc node (One a) h k = (k, h)
more_there doc node (Several a b) h k = k

there_by : (doc : Doc) (node : NodeId) (s : Sightings) (b : Bool) → IsThere doc node → AreThere doc s → AreThere doc (cond b (with_node node s) s)
there_by doc node s true h k = more_there doc node s h k
there_by doc node s false h k = k

-- a format stands under what it points to
pub format_added : (doc : Doc) (format : NodeId) (text target : List ℕ) (old new : NodeIndex) → IsThere doc format → ((uri : List ℕ) → AreThere doc (sighted old uri)) → ∥ IsUtf8 text ∥₁
    → chars text ≡ target → Some target ≡ attribute (codes "ObjectReference") (spot_of doc format) → Adds text format old new → AddsFormat doc format old new
format_added doc format text target old new h there u e t adds = record {
  seen = λ uri v.
      let points : bytes_eq text uri ≡ is_to (chars uri) (spot_of doc format) =
      ∥∥₁_elim u (Bool-set _ _) (λ w. texts_same text uri w v) ∙ ap (λ cs. cs is chars uri) e ∙ ap (λ o. option_map_or (λ cs. cs is chars uri) o false) t in
      adds uri ∙ ap (λ b. cond b (with_node format (sighted old uri)) (sighted old uri)) points;
  there = λ uri.
      subst (AreThere doc) (sym (adds uri)) (there_by doc format (sighted old uri) (bytes_eq text uri) h (there uri));
}

-- one that points to nothing stands nowhere
pub format_passed : (doc : Doc) (format : NodeId) (index : NodeIndex) → ((uri : List ℕ) → AreThere doc (sighted index uri)) → None ≡ attribute (codes "ObjectReference") (spot_of doc format)
    → AddsFormat doc format index index
format_passed doc format index there t = record {
  seen = λ uri v. ap (λ o. cond (option_map_or (λ cs. cs is chars uri) o false) (with_node format (sighted index uri)) (sighted index uri)) t;
  there = there;
}

-- The first two, while some formats are left.

put_behind : (doc : Doc) (node : NodeId) (s : Sightings) (left : List Spot) → take 2 (seen_in doc (with_node node s) ++ left) ≡ take 2 (seen_in doc s ++ spot_of doc node ∷ left)
put_behind doc node Absent left = refl
put_behind doc node (One a) left = refl
put_behind doc node (Several a b) left = refl

-- what was found so far and what is left has the first two of all
pub record Seeing (doc : Doc) (left all : List Spot) (index : NodeIndex) : Type 0 where
  pub seen : (uri : List ℕ) → IsUtf8 uri → take 2 (seen_in doc (sighted index uri) ++ filter (is_to (chars uri)) left) ≡ take 2 (filter (is_to (chars uri)) all)
  pub there : (uri : List ℕ) → AreThere doc (sighted index uri)

pub seeing_starts : (doc : Doc) (left all : List Spot) (index : NodeIndex) → left ≡ all → ((uri : List ℕ) → sighted index uri ≡ Absent) → Seeing doc left all index
seeing_starts doc left all index e none = record {
  seen = λ uri v. (λ i. take 2 (seen_in doc (none uri i) ++ filter (is_to (chars uri)) (e i)));
  there = λ uri. subst (AreThere doc) (sym (none uri)) tt;
}

pub seeing_goes_on : (doc : Doc) (format : NodeId) (before left all : List Spot) (old new : NodeIndex) → before ≡ spot_of doc format ∷ left → Seeing doc before all old → AddsFormat doc format old new
    → Seeing doc left all new
seeing_goes_on doc format before left all old new e h k = record {
  seen = λ uri v.
      ap (λ s. take 2 (seen_in doc s ++ filter (is_to (chars uri)) left)) (k.seen uri v)
      ∙ by uri (is_to (chars uri) (spot_of doc format))
      ∙ ap (λ spots. take 2 (seen_in doc (sighted old uri) ++ filter (is_to (chars uri)) spots)) (sym e)
      ∙ h.seen uri v;
  there = k.there;
}
  where
    by : (uri : List ℕ) (b : Bool) → take 2 (seen_in doc (cond b (with_node format (sighted old uri)) (sighted old uri)) ++ filter (is_to (chars uri)) left)
        ≡ take 2 (seen_in doc (sighted old uri) ++ cond b (spot_of doc format ∷ filter (is_to (chars uri)) left) (filter (is_to (chars uri)) left))
    by uri true = put_behind doc format (sighted old uri) (filter (is_to (chars uri)) left)
    by uri false = refl

at_most_two : (doc : Doc) (s : Sightings) → take 2 (seen_in doc s ++ []) ≡ seen_in doc s
at_most_two doc Absent = refl
at_most_two doc (One a) = refl
at_most_two doc (Several a b) = refl

pub seeing_ends : (doc : Doc) (left all : List Spot) (index : NodeIndex) → left ≡ [] → Seeing doc left all index → IsIndexOf doc all index
seeing_ends doc left all index e h = record {
  seen = λ uri v.
      sym (at_most_two doc (sighted index uri))
      ∙ ap (λ spots. take 2 (seen_in doc (sighted index uri) ++ filter (is_to (chars uri)) spots)) (sym e)
      ∙ h.seen uri v;
  there = h.there;
}

-- Those of a Reference.

-- by an Id that may be missing
with_id : Option (List ℕ) → Spot → Bool
with_id id format = option_map_or (λ i. option_map_or (λ target. target is fragment i) (attribute (codes "ObjectReference") format) false) id false

none_pass : (all : List Spot) → filter (λ (format : Spot). false) all ≡ []
none_pass [] = refl
none_pass (spot ∷ spots) = none_pass spots

pub formats_by_id : (doc : Doc) (reference : Spot) (id uri : List ℕ) (all : List Spot) (index : NodeIndex) → IsUtf8 uri → chars uri ≡ codes "#" ++ id → Some id ≡ id_of reference → IsIndexOf doc all index
    → seen_in doc (sighted index uri) ≡ take 2 (filter (is_format_of reference) all)
formats_by_id doc reference id uri all index v e i h =
    h.seen uri v ∙ ap (λ (cs : List ℕ). take 2 (filter (is_to cs) all)) e
    ∙ ap (λ (o : Option (List ℕ)). take 2 (filter (λ (format : Spot). option_map_or (λ (j : List ℕ). option_map_or (λ (target : List ℕ). target is fragment j) (attribute (codes "ObjectReference") format) false) o false) all)) i

pub no_formats : (reference : Spot) (all : List Spot) → None ≡ id_of reference → [] ≡ take 2 (filter (is_format_of reference) all)
no_formats reference all i =
    ap (λ (spots : List Spot). take 2 spots) (sym (none_pass all))
    ∙ ap (λ (o : Option (List ℕ)). take 2 (filter (λ (format : Spot). option_map_or (λ (j : List ℕ). option_map_or (λ (target : List ℕ). target is fragment j) (attribute (codes "ObjectReference") format) false) o false) all)) i

-- The first two stand for all.

pub two_for_all : (document : Nodes) (holders formats : List Spot) → Ordered formats → Alike (faults_by_formats document holders (take 2 formats)) (faults_by_formats document holders formats)
two_for_all document holders [] h = alike_as _ _ refl
two_for_all document holders (a ∷ []) h = alike_as _ _ refl
two_for_all document holders (a ∷ b ∷ formats) h =
    let name = xades (codes "MimeType") in
    let stray = with_stray_text document (a ∷ []) in
    let lacks = lacking document name (a ∷ []) in
    let texts = without_text document (first (called_in document name (a ∷ []))) in
    alike_joined _ _ texts texts (alike_joined _ _ lacks lacks (alike_joined (b.path ∷ []) (paths (b ∷ formats)) stray stray (one_for_all b formats h.1.0) (alike_as _ _ refl)) (alike_as _ _ refl)) (alike_as _ _ refl)
