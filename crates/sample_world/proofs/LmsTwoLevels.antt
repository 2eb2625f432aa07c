-- The verdict on a made signature of two levels.
use Rattle.std.proofs.Common.{◌≡◌, ℕ, suc, ◌+◌, ◌<◌, ◌≤◌, List, ◌++◌, length, drop, true, leb, refl, sym, ◌∙◌, arith, length-append, length-drop, append_assoc, lit<}
use Rattle.std.proofs.lemmas.Bool.Decides.{nat_tests}
use Rattle.std.proofs.lemmas.List.{drop_at, drop-append-le, take-append-le, get_or_append_left}
use Rattle.lms_verify.specs.declared.Verdict.TheVariants.{Good}
use Rattle.lms_verify.specs.LmOts.{u32str, candidate}
use Rattle.lms_verify.specs.Lms.{part, u32_at, root_of, leaf, node_over, size_under, is_known, begins_under, root_under}
use Rattle.lms_verify.specs.Hss.{next_key, after_key, is_signature, roots, is_key, is_signature_of, verdict}
use Rattle.sample_world.specs.LmsKeys.{node, lms_key, ots_values, path, lms_signature, hss_key, two_signatures}
use Rattle.sample_world.proofs.LmsChains.{candidate_is}
use Rattle.sample_world.proofs.LmsClimb.{climbs}
use Rattle.sample_world.proofs.Places.{part_is}
use Rattle.sample_world.proofs.LmsPlaces.{u32_front}
use Rattle.sample_world.proofs.LmsHolds.{IsKey, IsSignature, chains_is, height_is, known_is, root_under_is, below_32, signature_is, same_root, signature_made, key_made}

u32_at_front : (a b : List ℕ) (i : ℕ) → i + 4 ≤ length a → u32_at (a ++ b) i ≡ u32_at a i
unfolding u32_at
u32_at_front a b i h =
    rw (get_or_append_left a b 0 i (omega arith), get_or_append_left a b 0 (i + 1) (omega arith), get_or_append_left a b 0 (i + 2) (omega arith), get_or_append_left a b 0 (i + 3) (omega arith)) refl

part_front : (a b : List ℕ) (i n : ℕ) → i + n ≤ length a → part (a ++ b) i n ≡ part a i n
part_front a b i n h =
    let left = length-drop i a in
    rw (drop-append-le i a b (omega arith)) (take-append-le n (drop i a) b (omega arith))

-- a signature with more behind it
record IsFront (s : List ℕ) (q : ℕ) (c y p : List ℕ) : Type 0 where
  leaf_is : u32_at s 0 ≡ q
  one_time : u32_at s 4 ≡ 4
  c_is : part s 8 32 ≡ c
  y_is : part s 40 1088 ≡ y
  tree : u32_at s 1128 ≡ 5
  p_is : part s 1132 160 ≡ p
  room : 1292 ≤ length s

front : (s rest : List ℕ) (q : ℕ) (c y p : List ℕ) → IsSignature s q c y p → IsFront (s ++ rest) q c y p
front s rest q c y p made =
    let long = made.long in
    record {
      leaf_is = u32_at_front s rest 0 (omega arith) ∙ made.leaf_is;
      one_time = u32_at_front s rest 4 (omega arith) ∙ made.one_time;
      c_is = part_front s rest 8 32 (omega arith) ∙ made.c_is;
      y_is = part_front s rest 40 1088 (omega arith) ∙ made.y_is;
      tree = u32_at_front s rest 1128 (omega arith) ∙ made.tree;
      p_is = part_front s rest 1132 160 (omega arith) ∙ made.p_is;
      room = simp length-append (omega arith);
    }

root_at_front : (k s message id root c y p : List ℕ) (q : ℕ) → IsKey k id root → IsFront s q c y p
    → root_under k s message ≡ node_over id (32 + q) p (leaf id (32 + q) (candidate 8 34 0 id q c y message)) 5
unfolding root_under
root_at_front k s message id root c y p q key made =
    let chains = chains_is k id root key in
    let height = height_is k id root key in
    rw (chains, height, key.one_time, key.id_is, made.leaf_is, made.c_is, made.y_is, made.p_is) refl

enough : (m n : ℕ) → m ≤ n → leb m n ≡ true
enough m n h = grind (arith, nat_tests)

begins_front : (k s id root c y p : List ℕ) (q : ℕ) → q < 32 → IsKey k id root → IsFront s q c y p → begins_under k s ≡ true
unfolding begins_under
begins_front k s id root c y p q small key made =
    let chains = chains_is k id root key in
    let height = height_is k id root key in
    rw (chains, height, enough 1292 (length s) made.room, key.one_time, key.tree, made.one_time, made.tree, made.leaf_is) (below_32 q small)

size_is : (k id root : List ℕ) → IsKey k id root → size_under k ≡ 1292
size_is k id root key = rw (chains_is k id root key, height_is k id root key) refl

signed_is : (k k' s s' id root c y p : List ℕ) (q : ℕ) → q < 32 → IsKey k id root → IsFront s q c y p
    → next_key k s ≡ k' → after_key k s ≡ s' → 1348 ≤ length s → is_known k' ≡ true → is_signature 0 k' s' ≡ true → is_signature 1 k s ≡ true
unfolding is_signature
signed_is k k' s s' id root c y p q small key made next after room known lower =
    let size = size_is k id root key in
    rw (begins_front k s id root c y p q small key made, next, after, known, lower, size, enough 1348 (length s) room) refl

two_roots : (k k' s s' message : List ℕ) → next_key k s ≡ k' → after_key k s ≡ s' → root_under k s k' ≡ root_of k → root_under k' s' message ≡ root_of k' → roots 1 k s message ≡ Good
unfolding roots
two_roots k k' s s' message next after upper lower =
    rw (next, after, upper, lower, same_root (root_of k') (root_of k') refl, same_root (root_of k) (root_of k) refl) refl

two_levels : (k k' s s' message : List ℕ) → length k ≡ 56 → is_known k ≡ true → is_signature 1 k s ≡ true → roots 1 k s message ≡ Good
    → verdict (u32str 2 ++ k) message (u32str 1 ++ s) ≡ Good
unfolding verdict is_key is_signature_of
two_levels k k' s s' message long known shape good =
    let levels = u32_front 2 k (lit< tt) in
    let lower = u32_front 1 s (lit< tt) in
    let room = enough 4 (suc (suc (suc (suc (length s))))) (omega arith) in
    rw (levels, lower, long, known, room, shape, good) refl

made_root : (seed id : List ℕ) (q : ℕ) (c message rest : List ℕ) → length id ≡ 16 → length c ≡ 32 → q < 32
    → root_under (lms_key seed id) (lms_signature seed id q c message ++ rest) message ≡ node seed id 1 5
made_root seed id q c message rest li lc small =
    let made = front (lms_signature seed id q c message) rest q c (ots_values seed id q c message) (path seed id (32 + q)) (signature_made seed id q c message li lc small) in
    let under = root_at_front (lms_key seed id) (lms_signature seed id q c message ++ rest) message id (node seed id 1 5) c (ots_values seed id q c message) (path seed id (32 + q)) q (key_made seed id li) made in
    rw (candidate_is seed id q c message) at under ∙ climbs seed id q small

signed_key : (seed id seed' id' : List ℕ) (q q' : ℕ) (c c' message : List ℕ)
    → length id ≡ 16 → length id' ≡ 16 → length c ≡ 32 → length c' ≡ 32 → q < 32 → q' < 32
    → (s1 s2 k k' : List ℕ) → s1 ≡ lms_signature seed id q c k' → s2 ≡ lms_signature seed' id' q' c' message → k ≡ lms_key seed id → k' ≡ lms_key seed' id'
    → verdict (u32str 2 ++ k) message (u32str 1 ++ (s1 ++ (k' ++ s2))) ≡ Good
signed_key seed id seed' id' q q' c c' message li li' lc lc' small small' s1 s2 k k' e1 e2 ek ek' =
    let root = node seed id 1 5 in
    let root' = node seed' id' 1 5 in
    let key : IsKey k id root = rw ek (key_made seed id li) in
    let key' : IsKey k' id' root' = rw ek' (key_made seed' id' li') in
    let y = ots_values seed id q c k' in
    let y' = ots_values seed' id' q' c' message in
    let p = path seed id (32 + q) in
    let p' = path seed' id' (32 + q') in
    let made : IsSignature s1 q c y p = rw e1 (signature_made seed id q c k' li lc small) in
    let made' : IsSignature s2 q' c' y' p' = rw e2 (signature_made seed' id' q' c' message li' lc' small') in
    let s = s1 ++ (k' ++ s2) in
    let size = size_is k id root key in
    let next : next_key k s ≡ k' = rw size (part_is s1 k' s2 1292 56 made.long key'.long) in
    let split : (s1 ++ k') ++ s2 ≡ s = append_assoc s1 k' s2 in
    let both : length (s1 ++ k') ≡ 1348 = let a = made.long in let b = key'.long in simp length-append (omega arith) in
    let after : after_key k s ≡ s2 = rw (size, ← split) (drop_at (s1 ++ k') s2 1348 both) in
    let lower = signature_is k' s2 id' root' c' y' p' q' small' key' made' in
    let a = made.long in
    let b = key'.long in
    let room : 1348 ≤ length s = simp length-append (omega arith) in
    let shape = signed_is k k' s s2 id root c y p q small key (front s1 (k' ++ s2) q c y p made) next after room (known_is k' id' root' key') lower in
    let upper : root_under k s k' ≡ root = rw (ek, e1) (made_root seed id q c k' (k' ++ s2) li lc small) in
    let below : root_under k' s2 message ≡ root' =
    rw (candidate_is seed' id' q' c' message) at (root_under_is k' s2 message id' root' c' y' p' q' key' made') ∙ climbs seed' id' q' small' in
    let good = two_roots k k' s s2 message next after (upper ∙ sym key.root_is) (below ∙ sym key'.root_is) in
    two_levels k k' s s2 message key.long (known_is k id root key) shape good

-- a signature of two levels made so holds
pub two_levels_hold : (seed id seed' id' : List ℕ) (q q' : ℕ) (c c' message : List ℕ)
    → length id ≡ 16 → length id' ≡ 16 → length c ≡ 32 → length c' ≡ 32 → q < 32 → q' < 32
    → verdict (hss_key 2 seed id) message (two_signatures seed id q c seed' id' q' c' message) ≡ Good
two_levels_hold seed id seed' id' q q' c c' message li li' lc lc' small small' =
    signed_key seed id seed' id' q q' c c' message li li' lc lc' small small' _ _ _ _ refl refl refl refl
