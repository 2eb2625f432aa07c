-- The verdict on a made XMSS^MT signature.
use Rattle.std.proofs.Common.{◌≡◌, ℕ, zero, suc, ◌+◌, ◌-◌, ◌*◌, ◌/◌, ◌%◌, ◌^◌, ◌<◌, ◌≤◌, List, ◌++◌, length, take, drop, true, ltb, refl, ap, sym, ◌∙◌, arith, length-append, append_assoc, add-one, lit<}
use Rattle.std.specs.Prelude.{replicate}
use Rattle.std.specs.Int.{bytes_high_first, to_be_bytes, from_be_bytes, w64}
use Rattle.std.proofs.lemmas.Nat.{from_be_bytes-to_be_bytes_8}
use Rattle.std.proofs.lemmas.Bool.Decides.{nat_tests}
use Rattle.std.proofs.lemmas.Slice.Eq.{bytes_eq-Decides}
use Rattle.std.proofs.lemmas.List.{drop_at, take_at}
use Rattle.xmss_definitions.specs.Address.{Tree, word}
use Rattle.xmss_definitions.specs.Octets.{part}
use Rattle.xmss_definitions.specs.Nodes.{root_from}
use Rattle.xmss_definitions.specs.Keys.{u32_at, root_of, seed_of, message_digest}
use Rattle.xmss_definitions.proofs.Octets.{leading}
use Rattle.xmssmt_verify.specs.declared.Verdict.TheVariants.{Good}
use Rattle.xmssmt_verify.specs.XmssMt.{is_known, is_signature, index_of, layer_size, above, tree_over, root_over, root_under, judge, verdict_under, verdict}
use Rattle.sample_world.specs.Joined.{joined}
use Rattle.sample_world.specs.XmssKeys.{node, ots_values, path}
use Rattle.sample_world.specs.XmssMtKeys.{Secrets, root_in, top_tree, mt_key, signed_by, layer_in, layer_of, mt_signature}
use Rattle.sample_world.proofs.Rows.{length-blocks, part_at-joined}
use Rattle.sample_world.proofs.XmssClimb.{length-node}
use Rattle.sample_world.proofs.XmssRoots.{length-values, length-path, made_root}
use Rattle.sample_world.proofs.Places.{part_is, last_part_is}
use Rattle.sample_world.proofs.XmssPlaces.{u32_front}

abbrev AreLong : Secrets → Type 0
AreLong x = (l t f i : ℕ) → length (x l t f i) ≡ 32

record IsKey (k root seed : List ℕ) : Type 0 where
  set : u32_at k 0 ≡ 2
  root_is : root_of k ≡ root
  seed_is : seed_of k ≡ seed
  long : length k ≡ 68

made_key : (root seed : List ℕ) → length root ≡ 32 → length seed ≡ 32 → IsKey (word 2 ++ (root ++ seed)) root seed
made_key root seed lr ls = record {
  set = u32_front 2 (root ++ seed) (lit< tt);
  root_is = part_is (word 2) root seed 4 32 refl lr;
  seed_is = last_part_is (word 2 ++ root) seed 36 32 (omega arith) ls;
  long = simp length-append (omega arith);
}

known_is : (k root seed : List ℕ) → IsKey k root seed → is_known k ≡ true
unfolding is_known
known_is k root seed h = rw h.set refl

-- the number of the three octets at the front
pub index_is : (idx : ℕ) (rest : List ℕ) → idx < 2 ^ 24 → index_of 20 (bytes_high_first 3 idx ++ rest) ≡ idx
unfolding index_of
index_is idx rest small =
    let octets : replicate 5 0 ++ bytes_high_first 3 idx ≡ to_be_bytes w64 idx = sym (leading 2 5 idx small) in
    ap (λ o. from_be_bytes w64 o) octets ∙ from_be_bytes-to_be_bytes_8 idx (omega arith)

length-layer : (tree : Tree) (x : Secrets) (leaf : ℕ) (signed : List ℕ) → AreLong x → length (layer_in tree x leaf signed) ≡ 2304
unfolding layer_in
length-layer tree x leaf signed each =
    let y = length-values tree (x tree.layer tree.number) leaf signed (each tree.layer tree.number) in
    let p = length-path 5 tree (x tree.layer tree.number) leaf (each tree.layer tree.number) in
    rw length-append (omega (arith, y, p))

-- the signature of a layer leads to its tree's root
layer_leads : (tree : Tree) (x : Secrets) (leaf : ℕ) (signed : List ℕ) → AreLong x → leaf < 2 ^ 5
    → root_from 5 tree leaf signed (take (32 * 67) (layer_in tree x leaf signed)) (drop (32 * 67) (layer_in tree x leaf signed)) ≡ root_in tree x
unfolding layer_in
layer_leads tree x leaf signed each below =
    let s = x tree.layer tree.number in
    let long = length-values tree s leaf signed (each tree.layer tree.number) in
    rw (take_at (ots_values tree s leaf signed) (path 5 tree s leaf) (32 * 67) long, drop_at (ots_values tree s leaf signed) (path 5 tree s leaf) (32 * 67) long)
    (made_root 5 tree s leaf signed (each tree.layer tree.number) below)

signed_more : (seed : List ℕ) (x : Secrets) (idx : ℕ) (digest : List ℕ) (j : ℕ) → signed_by seed x idx digest (suc j) ≡ root_in (tree_over 5 seed idx j) x
unfolding signed_by
signed_more seed x idx digest j = refl

layer_at : (seed : List ℕ) (x : Secrets) (idx : ℕ) (digest : List ℕ) (j : ℕ) → AreLong x → j < 4
    → part (joined (layer_of seed x idx digest) 4) (layer_size 5 * j) (layer_size 5) ≡ layer_of seed x idx digest j
layer_at seed x idx digest j each below =
    part_at-joined 2304 (layer_of seed x idx digest) 4 j
    (λ i. length-layer (tree_over 5 seed idx i) x (above 5 idx i % 32) (signed_by seed x idx digest i) each) below

-- n layers lead to what the layer above them signs
layers_lead : (seed : List ℕ) (x : Secrets) (idx : ℕ) (digest : List ℕ) (n : ℕ) → AreLong x → n ≤ 4
    → root_over 5 seed idx digest (joined (layer_of seed x idx digest) 4) n ≡ signed_by seed x idx digest n
unfolding root_over signed_by
layers_lead seed x idx digest zero each within = refl
layers_lead seed x idx digest (suc j) each within =
    let below = layers_lead seed x idx digest j each (omega arith) in
    let own = layer_at seed x idx digest j each (omega arith) in
    rw (below, own) (layer_leads (tree_over 5 seed idx j) x (above 5 idx j % 32) (signed_by seed x idx digest j) each (omega arith))

top_is : (idx : ℕ) → idx < 2 ^ 20 → above 5 idx 4 ≡ 0
unfolding above
top_is idx small = omega arith

same_root : (x y : List ℕ) → x ≡ y → judge x y ≡ Good
same_root x y h = rw ((bytes_eq-Decides x y).1 h) refl

below_all : (q : ℕ) → q < 1048576 → ltb q 1048576 ≡ true
below_all q h = grind (arith, nat_tests)

record IsSignature (s : List ℕ) (idx : ℕ) (r layers : List ℕ) : Type 0 where
  idx_is : index_of 20 s ≡ idx
  r_is : part s 3 32 ≡ r
  layers_are : drop 35 s ≡ layers
  long : length s ≡ 9251

made_signature : (idx : ℕ) (r layers : List ℕ) → idx < 2 ^ 20 → length r ≡ 32 → length layers ≡ 9216 → IsSignature (bytes_high_first 3 idx ++ (r ++ layers)) idx r layers
made_signature idx r layers small lr ll = record {
  idx_is = index_is idx (r ++ layers) (omega arith);
  r_is = part_is (bytes_high_first 3 idx) r layers 3 32 refl lr;
  layers_are = rw (← append_assoc) (drop_at (bytes_high_first 3 idx ++ r) layers 35 (simp length-append (omega arith)));
  long = simp length-append (omega arith);
}

signature_is : (s : List ℕ) (idx : ℕ) (r layers : List ℕ) → idx < 2 ^ 20 → IsSignature s idx r layers → is_signature 20 4 s ≡ true
unfolding is_signature
signature_is s idx r layers small made = rw (made.long, made.idx_is) (below_all idx small)

root_is : (k root seed s message : List ℕ) (idx : ℕ) (r layers : List ℕ) → IsKey k root seed → IsSignature s idx r layers
    → root_under 20 4 k message s ≡ root_over 5 seed idx (message_digest r root idx message) layers 4
unfolding root_under
root_is k root seed s message idx r layers has made =
    rw (made.idx_is, made.r_is, made.layers_are, has.root_is, has.seed_is) refl

good : (k root seed s message : List ℕ) (idx : ℕ) (r layers : List ℕ) → idx < 2 ^ 20 → IsKey k root seed → IsSignature s idx r layers
    → root_under 20 4 k message s ≡ root → verdict k message s ≡ Good
unfolding verdict verdict_under
good k root seed s message idx r layers small has made is_root =
    let known = known_is k root seed has in
    let shape = signature_is s idx r layers small made in
    rw (has.long, known, has.set, shape) (same_root (root_under 20 4 k message s) (root_of k) (is_root ∙ sym has.root_is))

-- a signature made so holds, whichever secrets, number, randomizer and message
pub mt_signatures_hold : (seed : List ℕ) (x : Secrets) (idx : ℕ) (r message : List ℕ)
    → length seed ≡ 32 → AreLong x → length r ≡ 32 → idx < 2 ^ 20
    → verdict (mt_key seed x) message (mt_signature seed x idx r message) ≡ Good
unfolding mt_key mt_signature
mt_signatures_hold seed x idx r message ls each lr small =
    let root = root_in (top_tree seed) x in
    let digest = message_digest r root idx message in
    let layers = joined (layer_of seed x idx digest) 4 in
    let long = length-blocks 2304 (layer_of seed x idx digest) 4 (λ i. length-layer (tree_over 5 seed idx i) x (above 5 idx i % 32) (signed_by seed x idx digest i) each) in
    let has = made_key root seed (length-node (top_tree seed) (x 3 0) 0 5 (each 3 0)) ls in
    let made = made_signature idx r layers small lr long in
    let k = word 2 ++ (root ++ seed) in
    let s = bytes_high_first 3 idx ++ (r ++ layers) in
    let under = root_is k root seed s message idx r layers has made in
    let lead = layers_lead seed x idx digest 4 each (omega arith) ∙ signed_more seed x idx digest 3 in
    let top = rw (top_is idx small) at lead in
    good k root seed s message idx r layers small has made (under ∙ top)

pub signed_none : (seed : List ℕ) (x : Secrets) (idx : ℕ) (digest : List ℕ) → signed_by seed x idx digest 0 ≡ digest
unfolding signed_by
signed_none seed x idx digest = refl

pub signed_next : (seed : List ℕ) (x : Secrets) (idx : ℕ) (digest : List ℕ) (j : ℕ) → signed_by seed x idx digest (j + 1) ≡ root_in (record { seed = seed; layer = j; number = above 5 idx (j + 1) }) x
unfolding signed_by
signed_next seed x idx digest j = rw add-one refl
