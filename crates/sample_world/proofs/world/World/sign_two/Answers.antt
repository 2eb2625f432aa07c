use Rattle.std.proofs.Common.{◌≡◌, ◌<◌, ◌++◌, ◌∙◌, append_assoc, rules}
use Rattle.std.specs.Prelude.{slice_index}
use Rattle.lms_verify.specs.LmOts.{u32str}
use Rattle.sample_world.specs.LmsKeys.{lms_key, lms_signature}
use Rattle.sample_world.specs.World.{id_of, seed_of, randomizer, two_signatures_of}
use Rattle.sample_world.proofs.Counts.{both_counted_still}
use Rattle.sample_world.proofs.WorldLaws.{two_good}
use Rattle.sample_world.proofs.world.World.sign_two.Goals as goal

pub returns-clause-good : goal.returns-clause-good
returns-clause-good c =
    let upper : slice_index c.args.self.now.used c.args.upper < 32 = search rules in
    let lower : slice_index c.args.self.now.used c.args.lower < 32 = search rules in
    let w = c.args.self.now in
    let q = slice_index w.used c.args.upper in
    let p = slice_index w.used c.args.lower in
    let key = lms_key (seed_of w.secret c.args.lower) (id_of w.secret c.args.lower) in
    let first = lms_signature (seed_of w.secret c.args.upper) (id_of w.secret c.args.upper) q (randomizer w.secret c.args.upper q) key in
    let second = lms_signature (seed_of w.secret c.args.lower) (id_of w.secret c.args.lower) p (randomizer w.secret c.args.lower p) c.args.message.now in
    let made : c.put_key.new.out ≡ key = search rules in
    let front : c.push_all.new.self ≡ u32str 1 = search rules in
    let signed : c.as_slice-signed.result.now ≡ key = search rules in
    let one : c.put_signature.new.out ≡ u32str 1 ++ first = search rules in
    let two : c.push_all-2.new.self ≡ (u32str 1 ++ first) ++ key = search rules in
    let three : c.put_signature-2.new.out ≡ ((u32str 1 ++ first) ++ key) ++ second = search rules in
    let value : c.put_signature-2.new.out ≡ two_signatures_of w c.args.upper c.args.lower c.args.message.now =
    three ∙ append_assoc (u32str 1 ++ first) key second ∙ append_assoc (u32str 1) first (key ++ second) in
    two_good c.args.self.now c.args.upper c.args.lower c.args.message.now c.put_signature-2.new.out value upper lower

pub invariant_of-self-2 : goal.invariant_of-self-2
invariant_of-self-2 c =
    let upper : slice_index c.self.inside.used c.args.upper < 32 = search rules in
    let lower : slice_index c.self.inside.used c.args.lower < 32 = search rules in
    both_counted_still c.self.inside.used c.self.inside.tokens c.args.upper c.args.lower c.requires.upper c.requires.lower c.requires.differ upper lower c.self.invariant
