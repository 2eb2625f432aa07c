-- The verdict on a made signature.
use Rattle.std.proofs.Common.{◌≡◌, ℕ, ◌+◌, ◌/◌, ◌^◌, ◌<◌, List, ◌++◌, length, true, ltb, refl, sym, ◌∙◌, arith, length-append, append_assoc, lit<}
use Rattle.std.proofs.lemmas.Bool.Decides.{nat_tests}
use Rattle.std.proofs.lemmas.Slice.Eq.{bytes_eq-Decides}
use Rattle.lms_verify.specs.declared.Verdict.TheVariants.{Good}
use Rattle.lms_verify.specs.LmOts.{u32str, candidate}
use Rattle.lms_verify.specs.Lms.{part, u32_at, lms_type, ots_type, id_of, root_of, leaf, node_over, chains_of, height_of, is_known, begins_under, root_under}
use Rattle.lms_verify.specs.Hss.{is_signature, judge, roots, is_key, is_signature_of, verdict}
use Rattle.sample_world.specs.Joined.{sibling}
use Rattle.sample_world.specs.LmsKeys.{node, lms_key, secret, ots_values, path, lms_signature}
use Rattle.sample_world.proofs.Rows.{length-joined}
use Rattle.sample_world.proofs.LmsChains.{candidate_is, length-chain, length-secret}
use Rattle.sample_world.proofs.LmsClimb.{climbs, length-node}
use Rattle.sample_world.proofs.Places.{part_is, last_part_is}
use Rattle.sample_world.proofs.LmsPlaces.{u32_front, u32_after}

length-values : (seed id : List ℕ) (q : ℕ) (c message : List ℕ) → length (ots_values seed id q c message) ≡ 1088
unfolding ots_values
length-values seed id q c message = length-joined _ 34 (λ i. length-chain id q i 0 _ (secret seed id q i) (length-secret seed id q i))

length-path : (seed id : List ℕ) (r : ℕ) → length (path seed id r) ≡ 160
unfolding path
length-path seed id r = length-joined _ 5 (λ k. length-node seed id (sibling (r / 2 ^ k)) k)

-- what a key is made of
pub record IsKey (k id root : List ℕ) : Type 0 where
  pub tree : lms_type k ≡ 5
  pub one_time : ots_type k ≡ 4
  pub id_is : id_of k ≡ id
  pub root_is : root_of k ≡ root
  pub long : length k ≡ 56

made_key : (id root : List ℕ) → length id ≡ 16 → length root ≡ 32 → IsKey (u32str 5 ++ (u32str 4 ++ (id ++ root))) id root
made_key id root li lr = record {
  tree = u32_front 5 (u32str 4 ++ (id ++ root)) (lit< tt);
  one_time = u32_after (u32str 5) (u32str 4 ++ (id ++ root)) 4 refl ∙ u32_front 4 (id ++ root) (lit< tt);
  id_is = part_is (u32str 5 ++ u32str 4) id root 8 16 refl li;
  root_is = last_part_is (u32str 5 ++ u32str 4 ++ id) root 24 32 (omega arith) lr;
  long = simp length-append (omega arith);
}

-- what a signature is made of
pub record IsSignature (s : List ℕ) (q : ℕ) (c y p : List ℕ) : Type 0 where
  pub leaf_is : u32_at s 0 ≡ q
  pub one_time : u32_at s 4 ≡ 4
  pub c_is : part s 8 32 ≡ c
  pub y_is : part s 40 1088 ≡ y
  pub tree : u32_at s 1128 ≡ 5
  pub p_is : part s 1132 160 ≡ p
  pub long : length s ≡ 1292

made_signature : (q : ℕ) (c y p : List ℕ) → q < 32 → length c ≡ 32 → length y ≡ 1088 → length p ≡ 160
    → IsSignature (u32str q ++ (u32str 4 ++ (c ++ (y ++ (u32str 5 ++ p))))) q c y p
made_signature q c y p small lc ly lp =
    let rest = u32str 5 ++ p in
    let joined_cy : (c ++ y) ++ rest ≡ c ++ (y ++ rest) = append_assoc c y rest in
    let to_path : ((c ++ y) ++ u32str 5) ++ p ≡ c ++ (y ++ rest) = append_assoc (c ++ y) (u32str 5) p ∙ joined_cy in
    let front = u32str q ++ u32str 4 ++ (c ++ y) in
    let both = length-append c y in
    record {
      leaf_is = u32_front q (u32str 4 ++ (c ++ (y ++ rest))) (omega arith);
      one_time = u32_after (u32str q) (u32str 4 ++ (c ++ (y ++ rest))) 4 refl ∙ u32_front 4 (c ++ (y ++ rest)) (lit< tt);
      c_is = part_is (u32str q ++ u32str 4) c (y ++ rest) 8 32 refl lc;
      y_is = part_is (u32str q ++ u32str 4 ++ c) y rest 40 1088 (omega arith) ly;
      tree = rw (← joined_cy) (u32_after front rest 1128 (omega arith) ∙ u32_front 5 p (lit< tt));
      p_is = rw (← to_path) (last_part_is (u32str q ++ u32str 4 ++ ((c ++ y) ++ u32str 5)) p 1132 160 (simp length-append (omega arith)) lp);
      long = simp length-append (omega arith);
    }

pub chains_is : (k id root : List ℕ) → IsKey k id root → chains_of k ≡ 34
unfolding chains_of
chains_is k id root h = rw h.one_time refl

pub height_is : (k id root : List ℕ) → IsKey k id root → height_of k ≡ 5
unfolding height_of
height_is k id root h = rw h.tree refl

pub known_is : (k id root : List ℕ) → IsKey k id root → is_known k ≡ true
unfolding is_known
known_is k id root h = rw (h.tree, h.one_time) refl

pub root_under_is : (k s message id root c y p : List ℕ) (q : ℕ) → IsKey k id root → IsSignature s q c y p
    → root_under k s message ≡ node_over id (32 + q) p (leaf id (32 + q) (candidate 8 34 0 id q c y message)) 5
unfolding root_under
root_under_is k s message id root c y p q key made =
    let chains = chains_is k id root key in
    let height = height_is k id root key in
    rw (chains, height, key.one_time, key.id_is, made.leaf_is, made.c_is, made.y_is, made.p_is) refl

pub below_32 : (q : ℕ) → q < 32 → ltb q 32 ≡ true
below_32 q h = grind (arith, nat_tests)

begins_is : (k s id root c y p : List ℕ) (q : ℕ) → q < 32 → IsKey k id root → IsSignature s q c y p → begins_under k s ≡ true
unfolding begins_under
begins_is k s id root c y p q small key made =
    let chains = chains_is k id root key in
    let height = height_is k id root key in
    rw (chains, height, made.long, key.one_time, key.tree, made.one_time, made.tree, made.leaf_is) (below_32 q small)

pub signature_is : (k s id root c y p : List ℕ) (q : ℕ) → q < 32 → IsKey k id root → IsSignature s q c y p → is_signature 0 k s ≡ true
unfolding is_signature
signature_is k s id root c y p q small key made =
    let chains = chains_is k id root key in
    let height = height_is k id root key in
    rw (begins_is k s id root c y p q small key made, chains, height, made.long) refl

pub same_root : (x y : List ℕ) → x ≡ y → judge x y Good ≡ Good
same_root x y h = rw ((bytes_eq-Decides x y).1 h) refl

one_level : (k s message id root c y p : List ℕ) (q : ℕ) → q < 32 → IsKey k id root → IsSignature s q c y p
    → root_under k s message ≡ root → verdict (u32str 1 ++ k) message (u32str 0 ++ s) ≡ Good
unfolding verdict is_key is_signature_of roots
one_level k s message id root c y p q small key made is_root =
    let levels = u32_front 1 k (lit< tt) in
    let lower = u32_front 0 s (lit< tt) in
    let known = known_is k id root key in
    let shape = signature_is k s id root c y p q small key made in
    rw (levels, lower, key.long, made.long, known, shape) (same_root (root_under k s message) (root_of k) (is_root ∙ sym key.root_is))

pub signature_made : (seed id : List ℕ) (q : ℕ) (c message : List ℕ) → length id ≡ 16 → length c ≡ 32 → q < 32
    → IsSignature (lms_signature seed id q c message) q c (ots_values seed id q c message) (path seed id (32 + q))
unfolding lms_signature
signature_made seed id q c message li lc small =
    made_signature q c (ots_values seed id q c message) (path seed id (32 + q)) small lc (length-values seed id q c message) (length-path seed id (32 + q))

pub key_made : (seed id : List ℕ) → length id ≡ 16 → IsKey (lms_key seed id) id (node seed id 1 5)
unfolding lms_key
key_made seed id li = made_key id (node seed id 1 5) li (length-node seed id 1 5)

pub signatures_hold : (seed id : List ℕ) (q : ℕ) (c message : List ℕ) → length id ≡ 16 → length c ≡ 32 → q < 32
    → verdict (u32str 1 ++ lms_key seed id) message (u32str 0 ++ lms_signature seed id q c message) ≡ Good
signatures_hold seed id q c message li lc small =
    let k = lms_key seed id in
    let s = lms_signature seed id q c message in
    let y = ots_values seed id q c message in
    let p = path seed id (32 + q) in
    let key = key_made seed id li in
    let made = signature_made seed id q c message li lc small in
    let root = root_under_is k s message id (node seed id 1 5) c y p q key made in
    let climbed = rw (candidate_is seed id q c message) at root in
    one_level k s message id (node seed id 1 5) c y p q small key made (climbed ∙ climbs seed id q small)
