-- A signature is free again where its first property is put in: into UnsignedProperties or QualifyingProperties.
use Rattle.std.proofs.Common.{◌≡◌, ℕ, suc, ◌+◌, Bool, true, false, cond, ◌||◌, List, [], ◌∷◌, ◌++◌, Option, Some, None, refl, sym, ◌∙◌, ap, subst, codes, arith, append_assoc, inl, inr, ◌⊎◌}
use Rattle.std.proofs.lemmas.List.{append-nil}
use Rattle.std.proofs.lemmas.Option.{none-some, same_Some}
use Rattle.std.specs.Prelude.{filter, option_and_then}
use Rattle.std.specs.List.{list_any}
use Rattle.std.specs.Option.{option_map_or}
use Rattle.document_model.specs.Characters.{is_empty}
use Rattle.document_model.specs.Names.{Expanded, same_expanded}
use Rattle.document_model.specs.Tree.{Node, Nodes, Path, Element, Text, Comment, Instruction, no_nodes, ◌⨾◌, nth, below, node_at, joined, put_last}
use Rattle.document_model.specs.Scopes.{Tag}
use Rattle.document_model.specs.NodeSets.{NodeSet}
use Rattle.document_model.specs.Insertion.{IsWholeOrElement}
use Rattle.signature_model.specs.Vocabulary.{ds, xades}
use Rattle.signature_model.specs.Spots.{Spot, is_called, elements_from, elements_in, called, called_in, first, emptied_all, held_in, without_white}
use Rattle.signature_model.specs.Parts.{references, value, host, qualifying, unsigned, unsigned_signature, is_blank}
use Rattle.signature_model.specs.Chains.{place, chain, target_set, less_taken, node_set}
use Rattle.signature_model.specs.Covers.{lies_in, is_reached, covers_place, first_covering, IsFree}
use Rattle.signature_model.specs.Keeping.{IsSpot}
use Rattle.signature_model.proofs.Standing.{Each}
use Rattle.signature_model.proofs.Lists.{neither, each_append, each_filter, each_map, each_flat, each_first, filter_same}
use Rattle.signature_model.proofs.Apart.{Apart, IsNamed, called_named, text_stays, all_apart}
use Rattle.signature_model.proofs.References.{references_stay, references_named, target_stands, apex_less}
use Rattle.signature_model.proofs.Covered.{Setting, signature_apart, cond_none}
use Rattle.signature_model.proofs.AtHost.{held_at_host}
use Rattle.signature_model.proofs.FreeAgain.{node_set_stays}
use Rattle.signature_model.proofs.FreeBelow.{IsNew, numbered, new_not_reached}
use Rattle.signature_model.proofs.Outer.{qualifying_stays, unsigned_stays, value_stays}

-- What is new.

over : (path : Path) (i : ℕ) (node : Node) (nodes : Nodes) (spot : Spot) → IsNew path (suc i) nodes spot → IsNew path i (node ⨾ nodes) spot
over path i node nodes spot h = let n : suc i + h.0 ≡ i + suc h.0 = omega arith in (suc h.0, h.1 ∙ ap (λ k. path ++ k ∷ []) n, h.2)

all_over : (path : Path) (i : ℕ) (node : Node) (nodes : Nodes) (spots : List Spot) → Each (IsNew path (suc i) nodes) spots → Each (IsNew path i (node ⨾ nodes)) spots
all_over path i node nodes spots h = each_map (IsNew path (suc i) nodes) (IsNew path i (node ⨾ nodes)) spots (over path i node nodes) h

record Grown (path : Path) (tags : List Tag) (i : ℕ) (a b : Nodes) : Type 0 where
  more : List Spot
  whole : elements_from path tags i (emptied_all (joined a b)) ≡ elements_from path tags i (emptied_all a) ++ more
  new : Each (IsNew path i a) more

joined_new : (path : Path) (tags : List Tag) (a b : Nodes) (i : ℕ) → Grown path tags i a b
joined_new path tags no_nodes b i = record { more = elements_from path tags i (emptied_all b); whole = refl; new = numbered path tags i b }
joined_new path tags (Element name attributes inner ⨾ a) b i =
    let behind = joined_new path tags a b (suc i) in record {
      more = behind.more;
      whole = ap (λ spots. record { path = path ++ i ∷ []; tags = record { name = name; attributes = attributes } ∷ tags } ∷ spots) behind.whole;
      new = all_over path i (Element name attributes inner) a behind.more behind.new;
    }
joined_new path tags (Comment cs ⨾ a) b i = let behind = joined_new path tags a b (suc i) in
    record { more = behind.more; whole = behind.whole; new = all_over path i (Comment cs) a behind.more behind.new }
joined_new path tags (Instruction target content ⨾ a) b i = let behind = joined_new path tags a b (suc i) in
    record { more = behind.more; whole = behind.whole; new = all_over path i (Instruction target content) a behind.more behind.new }
joined_new path tags (Text cs ⨾ next ⨾ a) b i = let behind = joined_new path tags (next ⨾ a) b (suc i) in
    record { more = behind.more; whole = behind.whole; new = all_over path i (Text cs) (next ⨾ a) behind.more behind.new }
joined_new path tags (Text cs ⨾ no_nodes) no_nodes i = record { more = []; whole = refl; new = tt }
joined_new path tags (Text cs ⨾ no_nodes) (Text ds ⨾ b) i =
    record { more = elements_from path tags (suc i) (emptied_all b); whole = refl; new = all_over path i (Text cs) no_nodes _ (numbered path tags (suc i) b) }
joined_new path tags (Text cs ⨾ no_nodes) (Element name attributes inner ⨾ b) i =
    record { more = elements_from path tags (suc i) (emptied_all (Element name attributes inner ⨾ b)); whole = refl; new = all_over path i (Text cs) no_nodes (elements_from path tags (suc i) (emptied_all (Element name attributes inner ⨾ b))) (numbered path tags (suc i) (Element name attributes inner ⨾ b)) }
joined_new path tags (Text cs ⨾ no_nodes) (Comment ds ⨾ b) i =
    record { more = elements_from path tags (suc i) (emptied_all (Comment ds ⨾ b)); whole = refl; new = all_over path i (Text cs) no_nodes _ (numbered path tags (suc i) (Comment ds ⨾ b)) }
joined_new path tags (Text cs ⨾ no_nodes) (Instruction target content ⨾ b) i =
    record { more = elements_from path tags (suc i) (emptied_all (Instruction target content ⨾ b)); whole = refl; new = all_over path i (Text cs) no_nodes _ (numbered path tags (suc i) (Instruction target content ⨾ b)) }

-- a spot below the host, by a step that no old node has
abbrev NewBelow : Node → Path → Spot → Type 0
NewBelow m path spot = (k : ℕ) × (rest : Path) × (spot.path ≡ path ++ k ∷ rest) × (nth k (below m) ≡ None)

filter_append : (p : Spot → Bool) (xs ys : List Spot) → filter p (xs ++ ys) ≡ filter p xs ++ filter p ys
filter_append p [] ys = refl
filter_append p (x ∷ xs) ys = by_bool (p x) (filter_append p xs ys)
  where
    by_bool : (b : Bool) → filter p (xs ++ ys) ≡ filter p xs ++ filter p ys → cond b (x ∷ filter p (xs ++ ys)) (filter p (xs ++ ys)) ≡ cond b (x ∷ filter p xs) (filter p xs) ++ filter p ys
    by_bool true e = ap (λ spots. x ∷ spots) e
    by_bool false e = e

-- the elements with a name that the host holds, where it held none
called_new : (document added : Nodes) (host_spot : Spot) (s : IsSpot document host_spot) (name : Expanded) → called document name host_spot ≡ []
    → Each (NewBelow s.element.0 host_spot.path) (called (put_last added host_spot.path document) name host_spot)
called_new document added host_spot s name none =
    let m : Node = s.element.0 in
    let grown = joined_new host_spot.path host_spot.tags (below m) added 0 in
    let old : elements_in document host_spot ≡ elements_from host_spot.path host_spot.tags 0 (emptied_all (below m)) = ap (λ o. elements_from host_spot.path host_spot.tags 0 (held_in o)) s.element.1 in
    let new : elements_in (put_last added host_spot.path document) host_spot ≡ elements_in document host_spot ++ grown.more =
    ap (elements_from host_spot.path host_spot.tags 0) (held_at_host document added host_spot.path s.element) ∙ grown.whole ∙ ap (λ spots. spots ++ grown.more) (sym old) in
    let all : called (put_last added host_spot.path document) name host_spot ≡ filter (is_called name) grown.more =
    ap (filter (is_called name)) new ∙ filter_append (is_called name) (elements_in document host_spot) grown.more ∙ ap (λ spots. spots ++ filter (is_called name) grown.more) none in
    subst (Each (NewBelow m host_spot.path)) (sym all)
    (each_map (λ spot. IsNew host_spot.path 0 (below m) spot × (is_called name spot ≡ true)) (NewBelow m host_spot.path) _
    (λ spot h. let n : 0 + h.0.0 ≡ h.0.0 = omega arith in (h.0.0, [], h.0.1 ∙ ap (λ k. host_spot.path ++ k ∷ []) n, h.0.2))
    (each_filter (IsNew host_spot.path 0 (below m)) (is_called name) grown.more grown.new))

-- and what new elements hold is new
held_new : (new : Nodes) (m : Node) (path : Path) (name : Expanded) (spots : List Spot) → Each (NewBelow m path) spots → Each (NewBelow m path) (called_in new name spots)
held_new new m path name spots h = each_flat (NewBelow m path) (NewBelow m path) (called new name) spots
    (λ spot i. each_map (λ inner. IsNew spot.path 0 no_nodes inner × (is_called name inner ≡ true)) (NewBelow m path) _
    (λ inner n. (i.0, i.1 ++ (0 + n.0.0) ∷ [], n.0.1 ∙ ap (λ p. p ++ (0 + n.0.0) ∷ []) i.2 ∙ append_assoc path (i.0 ∷ i.1) ((0 + n.0.0) ∷ []), i.3))
    (each_filter (IsNew spot.path 0 no_nodes) (is_called name) (elements_in new spot) (numbered_held new spot))) h
  where
    numbered_all : (spot : Spot) (o : Option Node) → Each (IsNew spot.path 0 no_nodes) (elements_from spot.path spot.tags 0 (held_in o))
    numbered_all spot None = tt
    numbered_all spot (Some node) = numbered spot.path spot.tags 0 (below node)

    numbered_held : (new : Nodes) (spot : Spot) → Each (IsNew spot.path 0 no_nodes) (elements_in new spot)
    numbered_held new spot = numbered_all spot (node_at new spot.path)

-- Not reached.

node_set_stands : (document : Nodes) (signature : Path) (reference : Spot) (set : NodeSet) → node_set document signature reference ≡ Some set → IsWholeOrElement document set.apex
node_set_stands document signature reference set e = on_option (target_set document (place reference)) (target_stands document (place reference)) e
  where
    on_option : (o : Option NodeSet) → ((s : NodeSet) → o ≡ Some s → IsWholeOrElement document s.apex)
        → option_and_then (λ s. Some (less_taken signature s (chain document reference))) o ≡ Some set → IsWholeOrElement document set.apex
    on_option None w e' = absurd (none-some _ e')
    on_option (Some s) w e' =
        let P : NodeSet → Type 0 = λ x. IsWholeOrElement document x.apex in
        subst P (same_Some (less_taken signature s (chain document reference)) set e') (subst (IsWholeOrElement document) (sym (apex_less signature s (chain document reference))) (w s refl))

new_unreached : (document : Nodes) (signature : Path) (reference host_spot spot : Spot) (m : Node) → node_at document host_spot.path ≡ Some m
    → is_reached document signature host_spot reference ≡ false → NewBelow m host_spot.path spot → is_reached document signature spot reference ≡ false
new_unreached document signature reference host_spot spot m e f n =
    on_option (node_set document signature reference) (node_set_stands document signature reference) f
  where
    on_option : (o : Option NodeSet) → ((set : NodeSet) → o ≡ Some set → IsWholeOrElement document set.apex)
        → option_map_or (λ set. lies_in set host_spot.path) o false ≡ false → option_map_or (λ set. lies_in set spot.path) o false ≡ false
    on_option None w f' = refl
    on_option (Some set) w f' = ap (lies_in set) n.2 ∙ new_not_reached document set host_spot.path n.0 n.1 m (w set refl) e n.3 f'

any_none : (p : Spot → Bool) (xs : List Spot) → Each (λ x. p x ≡ false) xs → list_any p xs ≡ false
any_none p [] h = refl
any_none p (x ∷ xs) h = let others = any_none p xs h.1 in λ i. h.0 i || others i

none_any : (p : Spot → Bool) (xs ys : List Spot) → list_any p (xs ++ ys) ≡ false → Each (λ x. p x ≡ false) xs × Each (λ x. p x ≡ false) ys
none_any p [] [] e = (tt, tt)
none_any p [] (y ∷ ys) e = let h = neither (p y) (list_any p ys) e in (tt, (h.0, (none_any p [] ys h.1).1))
none_any p (x ∷ xs) ys e = let h = neither (p x) (list_any p (xs ++ ys)) e in let others = none_any p xs ys h.1 in ((h.0, others.0), others.1)

first_of : (P : Spot → Type 0) (xs : List Spot) (y : Spot) (ys : List Spot) → Each P xs → P y → Each P (first (xs ++ (y ∷ ys)))
first_of P [] y ys h k = (k, tt)
first_of P (x ∷ xs) y ys h k = (h.0, tt)

-- each place of the new document is an old value, the host, or new below the host
abbrev OldOrNew : Node → Spot → Spot → Type 0
OldOrNew m host_spot spot = (spot ≡ host_spot) ⊎ NewBelow m host_spot.path spot

covering_none : (document added : Nodes) (signature host_spot : Spot) (host_name : Expanded) (s : Setting document added signature host_spot host_name)
    → filter (is_blank (put_last added host_spot.path document)) (value (put_last added host_spot.path document) signature) ≡ filter (is_blank document) (value document signature)
    → host document signature ≡ host_spot ∷ []
    → Each (OldOrNew s.place_named.stands.element.0 host_spot) (host (put_last added host_spot.path document) signature)
    → (k : ℕ) (list : List Spot) → Each (IsNamed document (ds (codes "Reference"))) list
    → first_covering document signature k list ≡ None → first_covering (put_last added host_spot.path document) signature k list ≡ None
covering_none document added signature host_spot host_name s v e o k [] h f = refl
covering_none document added signature host_spot host_name s v e o k (reference ∷ list) h f =
    let new : Nodes = put_last added host_spot.path document in
    let here = cond_none (covers_place document signature reference) k _ f in
    let sets = node_set_stays document added signature host_spot host_name s reference h.0 in
    let reached : Spot → Bool = λ spot. is_reached document signature.path spot reference in
    let old = none_any reached (filter (is_blank document) (value document signature)) (host document signature) here.0 in
    let at_host : reached host_spot ≡ false = (subst (Each (λ x. reached x ≡ false)) e old.1).0 in
    let hosts : Each (λ x. reached x ≡ false) (host new signature) =
    each_map (OldOrNew s.place_named.stands.element.0 host_spot) (λ x. reached x ≡ false) _
    (λ spot c. elim c [
      | inl same ↦ ap reached same ∙ at_host
      | inr n ↦ new_unreached document signature.path reference host_spot spot s.place_named.stands.element.0 s.place_named.stands.element.1 at_host n
    ]) o in
    let now : covers_place new signature reference ≡ false =
    (λ i. list_any (λ spot. option_map_or (λ set. lies_in set spot.path) (sets i) false) (v i ++ host new signature))
    ∙ any_none reached (filter (is_blank document) (value document signature) ++ host new signature)
    (each_append (λ x. reached x ≡ false) (filter (is_blank document) (value document signature)) (host new signature) old.0 hosts) in
    (λ i. cond (now i) (Some k) (first_covering new signature (suc k) list))
    ∙ covering_none document added signature host_spot host_name s v e o (suc k) list h.1 here.1

values_stay : (document added : Nodes) (signature host_spot : Spot) (host_name : Expanded) → Setting document added signature host_spot host_name → same_expanded (ds (codes "SignatureValue")) host_name ≡ false
    → filter (is_blank (put_last added host_spot.path document)) (value (put_last added host_spot.path document) signature) ≡ filter (is_blank document) (value document signature)
values_stay document added signature host_spot host_name s d =
    let new : Nodes = put_last added host_spot.path document in
    ap (filter (is_blank new)) (value_stays document added signature host_spot host_name s)
    ∙ filter_same (Apart document host_spot) (is_blank new) (is_blank document) (value document signature)
    (λ spot a. ap (λ text. is_empty (without_white text)) (text_stays document added host_spot spot a))
    (all_apart document host_spot (ds (codes "SignatureValue")) host_name s.place_named d _
    (each_first (IsNamed document (ds (codes "SignatureValue"))) _ (called_named document (ds (codes "SignatureValue")) signature s.signature_named.stands)))

no_called : (spots : List Spot) → first spots ≡ [] → spots ≡ []
no_called [] e = refl
no_called (x ∷ xs) e = absurd (subst IsSome e tt)
  where
    IsSome : List Spot → Type 0
    IsSome [] = ⊥
    IsSome (y ∷ ys) = Unit {0}

-- into QualifyingProperties, where there are no UnsignedProperties
pub free_in_qualifying : (document added : Nodes) (signature host_spot : Spot) → Setting document added signature host_spot (xades (codes "QualifyingProperties"))
    → qualifying document signature ≡ host_spot ∷ [] → unsigned document signature ≡ [] → host document signature ≡ host_spot ∷ []
    → IsFree document signature → IsFree (put_last added host_spot.path document) signature
free_in_qualifying document added signature host_spot s q u e free =
    let new : Nodes = put_last added host_spot.path document in
    let name : Expanded = xades (codes "QualifyingProperties") in
    let up : Expanded = xades (codes "UnsignedProperties") in
    let list : Expanded = xades (codes "UnsignedSignatureProperties") in
    let stands = s.place_named.stands in
    let m : Node = stands.element.0 in
    let none : called document up host_spot ≡ [] =
    sym (append-nil (called document up host_spot)) ∙ sym (ap (called_in document up) q) ∙ no_called (called_in document up (qualifying document signature)) u in
    let q_new : qualifying new signature ≡ host_spot ∷ [] = qualifying_stays document added signature host_spot name s refl ∙ q in
    let u_all : unsigned new signature ≡ first (called new up host_spot) = ap (λ spots. first (called_in new up spots)) q_new ∙ ap first (append-nil (called new up host_spot)) in
    let u_new : Each (NewBelow m host_spot.path) (unsigned new signature) =
    subst (Each (NewBelow m host_spot.path)) (sym u_all) (each_first (NewBelow m host_spot.path) _ (called_new document added host_spot stands up none)) in
    let l_new : Each (NewBelow m host_spot.path) (unsigned_signature new signature) =
    each_first (NewBelow m host_spot.path) _ (held_new new m host_spot.path list (unsigned new signature) u_new) in
    let P : Spot → Type 0 = OldOrNew m host_spot in
    let both_new : Each P (unsigned_signature new signature ++ unsigned new signature) =
    each_map (NewBelow m host_spot.path) P _ (λ spot n. inr n) (each_append (NewBelow m host_spot.path) (unsigned_signature new signature) (unsigned new signature) l_new u_new) in
    let hosts : Each P (host new signature) =
    subst (Each P) (ap (λ spots. first (unsigned_signature new signature ++ unsigned new signature ++ spots)) (sym q_new))
    (first_of P (unsigned_signature new signature ++ unsigned new signature) host_spot [] both_new (inl refl)) in
    ap (first_covering new signature 1) (references_stay document added host_spot signature name s.place_named s.other (signature_apart document added signature host_spot name s))
    ∙ covering_none document added signature host_spot name s (values_stay document added signature host_spot name s refl) e hosts 1 (references document signature)
    (references_named document signature s.signature_named.stands) free

-- into UnsignedProperties, where there is no list of properties
pub free_in_unsigned : (document added : Nodes) (signature host_spot : Spot) → Setting document added signature host_spot (xades (codes "UnsignedProperties"))
    → unsigned document signature ≡ host_spot ∷ [] → unsigned_signature document signature ≡ [] → host document signature ≡ host_spot ∷ []
    → IsFree document signature → IsFree (put_last added host_spot.path document) signature
free_in_unsigned document added signature host_spot s u l e free =
    let new : Nodes = put_last added host_spot.path document in
    let name : Expanded = xades (codes "UnsignedProperties") in
    let list : Expanded = xades (codes "UnsignedSignatureProperties") in
    let stands = s.place_named.stands in
    let m : Node = stands.element.0 in
    let none : called document list host_spot ≡ [] =
    sym (append-nil (called document list host_spot)) ∙ sym (ap (called_in document list) u) ∙ no_called (called_in document list (unsigned document signature)) l in
    let u_new : unsigned new signature ≡ host_spot ∷ [] = unsigned_stays document added signature host_spot name s refl refl ∙ u in
    let l_all : unsigned_signature new signature ≡ first (called new list host_spot) = ap (λ spots. first (called_in new list spots)) u_new ∙ ap first (append-nil (called new list host_spot)) in
    let l_new : Each (NewBelow m host_spot.path) (unsigned_signature new signature) =
    subst (Each (NewBelow m host_spot.path)) (sym l_all) (each_first (NewBelow m host_spot.path) _ (called_new document added host_spot stands list none)) in
    let P : Spot → Type 0 = OldOrNew m host_spot in
    let front : Each P (unsigned_signature new signature) = each_map (NewBelow m host_spot.path) P _ (λ spot n. inr n) l_new in
    let all : host new signature ≡ first (unsigned_signature new signature ++ (host_spot ∷ qualifying new signature)) =
    ap (λ spots. first (unsigned_signature new signature ++ spots ++ qualifying new signature)) u_new
    ∙ ap first (append_assoc (unsigned_signature new signature) (host_spot ∷ []) (qualifying new signature)) in
    let hosts : Each P (host new signature) =
    subst (Each P) (sym all) (first_of P (unsigned_signature new signature) host_spot (qualifying new signature) front (inl refl)) in
    ap (first_covering new signature 1) (references_stay document added host_spot signature name s.place_named s.other (signature_apart document added signature host_spot name s))
    ∙ covering_none document added signature host_spot name s (values_stay document added signature host_spot name s refl) e hosts 1 (references document signature)
    (references_named document signature s.signature_named.stands) free
