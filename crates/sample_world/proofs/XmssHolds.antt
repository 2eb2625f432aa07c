-- The verdict on a made signature.
use Rattle.std.proofs.Common.{◌≡◌, ℕ, ◌/◌, ◌^◌, ◌<◌, List, ◌++◌, length, true, ltb, refl, ap, sym, ◌∙◌, arith, length-append, append_assoc, lit<}
use Rattle.std.proofs.lemmas.Bool.Decides.{nat_tests}
use Rattle.std.proofs.lemmas.Slice.Eq.{bytes_eq-Decides}
use Rattle.xmss_verify.specs.declared.Verdict.TheVariants.{Good}
use Rattle.xmss_definitions.specs.Address.{Tree, only_tree, word}
use Rattle.xmss_definitions.specs.Octets.{part}
use Rattle.xmss_definitions.specs.Wots.{chain, digit, digits, ends}
use Rattle.xmss_definitions.specs.Nodes.{l_tree, node_over, root_from}
use Rattle.xmss_definitions.specs.Keys.{u32_at, root_of, seed_of, message_digest}
use Rattle.xmss_verify.specs.Xmss.{is_known, is_signature, root_under, judge, verdict_under, verdict}
use Rattle.sample_world.specs.XmssKeys.{node, key, ots_values, path, signature}
use Rattle.sample_world.proofs.XmssClimb.{length-node}
use Rattle.sample_world.proofs.XmssRoots.{length-values, length-path, made_root}
use Rattle.sample_world.proofs.Places.{part_is, last_part_is}
use Rattle.sample_world.proofs.XmssPlaces.{u32_front}

record IsKey (k root seed : List ℕ) : Type 0 where
  set : u32_at k 0 ≡ 1
  root_is : root_of k ≡ root
  seed_is : seed_of k ≡ seed
  long : length k ≡ 68

made_key : (root seed : List ℕ) → length root ≡ 32 → length seed ≡ 32 → IsKey (word 1 ++ (root ++ seed)) root seed
made_key root seed lr ls = record {
  set = u32_front 1 (root ++ seed) (lit< tt);
  root_is = part_is (word 1) root seed 4 32 refl lr;
  seed_is = last_part_is (word 1 ++ root) seed 36 32 (omega arith) ls;
  long = simp length-append (omega arith);
}

record IsSignature (s : List ℕ) (idx : ℕ) (r y p : List ℕ) : Type 0 where
  leaf_is : u32_at s 0 ≡ idx
  r_is : part s 4 32 ≡ r
  y_is : part s 36 2144 ≡ y
  p_is : part s 2180 320 ≡ p
  long : length s ≡ 2500

made_signature : (idx : ℕ) (r y p : List ℕ) → idx < 1024 → length r ≡ 32 → length y ≡ 2144 → length p ≡ 320
    → IsSignature (word idx ++ (r ++ (y ++ p))) idx r y p
made_signature idx r y p small lr ly lp =
    let to_path : (r ++ y) ++ p ≡ r ++ (y ++ p) = append_assoc r y p in
    record {
      leaf_is = u32_front idx (r ++ (y ++ p)) (omega arith);
      r_is = part_is (word idx) r (y ++ p) 4 32 refl lr;
      y_is = part_is (word idx ++ r) y p 36 2144 (omega arith) ly;
      p_is = rw (← to_path) (last_part_is (word idx ++ (r ++ y)) p 2180 320 (simp length-append (omega arith)) lp);
      long = simp length-append (omega arith);
    }

known_is : (k root seed : List ℕ) → IsKey k root seed → is_known k ≡ true
unfolding is_known
known_is k root seed h = rw h.set refl

below_1024 : (q : ℕ) → q < 1024 → ltb q 1024 ≡ true
below_1024 q h = grind (arith, nat_tests)

signature_is : (s : List ℕ) (idx : ℕ) (r y p : List ℕ) → idx < 1024 → IsSignature s idx r y p → is_signature 10 s ≡ true
unfolding is_signature
signature_is s idx r y p small made = rw (made.long, made.leaf_is) (below_1024 idx small)

root_is : (k root seed s message : List ℕ) (idx : ℕ) (r y p : List ℕ) → IsKey k root seed → IsSignature s idx r y p
    → root_under 10 k message s ≡ root_from 10 (only_tree seed) idx (message_digest r root idx message) y p
unfolding root_under
root_is k root seed s message idx r y p has made =
    rw (made.leaf_is, made.r_is, made.y_is, made.p_is, has.root_is, has.seed_is) refl

same_root : (x y : List ℕ) → x ≡ y → judge x y ≡ Good
same_root x y h = rw ((bytes_eq-Decides x y).1 h) refl

good : (k root seed s message : List ℕ) (idx : ℕ) (r y p : List ℕ) → idx < 1024 → IsKey k root seed → IsSignature s idx r y p
    → root_under 10 k message s ≡ root → verdict k message s ≡ Good
unfolding verdict verdict_under
good k root seed s message idx r y p small has made is_root =
    let known = known_is k root seed has in
    let shape = signature_is s idx r y p small made in
    rw (has.long, known, has.set, shape) (same_root (root_under 10 k message s) (root_of k) (is_root ∙ sym has.root_is))

-- a signature made so holds, whichever secrets, leaf, randomizer and message
pub signatures_hold : (seed : List ℕ) (x : ℕ → ℕ → List ℕ) (idx : ℕ) (r message : List ℕ)
    → length seed ≡ 32 → ((l i : ℕ) → length (x l i) ≡ 32) → length r ≡ 32 → idx < 1024
    → verdict (key seed x) message (signature seed x idx r message) ≡ Good
unfolding key signature
signatures_hold seed x idx r message ls each lr small =
    let tree = only_tree seed in
    let root = node tree x 0 10 in
    let digest = message_digest r root idx message in
    let y = ots_values tree x idx digest in
    let p = path 10 tree x idx in
    let has = made_key root seed (length-node tree x 0 10 each) ls in
    let made = made_signature idx r y p small lr (length-values tree x idx digest each) (length-path 10 tree x idx each) in
    let k = word 1 ++ (root ++ seed) in
    let s = word idx ++ (r ++ (y ++ p)) in
    let under = root_is k root seed s message idx r y p has made in
    good k root seed s message idx r y p small has made (under ∙ made_root 10 tree x idx digest each small)
