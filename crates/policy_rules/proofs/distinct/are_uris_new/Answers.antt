use Rattle.std.proofs.Common.{◌+◌, sym, ◌∙◌, ap, drop, map, string_bytes, List, ℕ}
use Rattle.std.proofs.lemmas.Result.{err_from_is_err_and}
use Rattle.policy_rules.specs.Rules.{are_new, uris_of}
use Rattle.policy_rules.specs.View.{kind_view}
use Rattle.policy_rules.proofs.SeenTexts.{seen_none, seen_all, entry_left}
use Rattle.policy_rules.proofs.distinct.are_uris_new.Goals as goal

pub returns-in_err-see_all : goal.returns-in_err-see_all
returns-in_err-see_all c =
    let so_far = c.loop-entry.invariant in
    let e = c.in_err-see_all.ensures so_far.0 (uris_of (map kind_view (drop (c.loop-entry.entry-index + 1) c.args.entries.now))) so_far.1 in
    let p = err_from_is_err_and c.from_residual.result c.from_residual.ensures.1 in
    rw p.1 (p.2 ∙ e)

pub returns-then-not-branch : goal.returns-then-not-branch
returns-then-not-branch c =
    let so_far = c.loop-entry.invariant in
    let rest : List (List ℕ) = uris_of (map kind_view (drop (c.loop-entry.entry-index + 1) c.args.entries.now)) in
    let left = entry_left c.args.entries.now c.loop-entry.entry-index c.entry-item.result c.as_slice.result.now c.loop-entry-test.true c.entry-item.is c.as_slice.ensures.value in
    sym (sym so_far.2 ∙ ap (are_new so_far.0) left ∙ seen_none _ c.in_ok-see_all.field-0 so_far.0 (map string_bytes c.as_slice.result.now) rest c.if-not-branch.true (c.in_ok-see_all.ensures so_far.0 rest so_far.1))

pub loop-entry-preserved : goal.loop-entry-preserved
loop-entry-preserved c =
    let so_far = c.loop-entry.invariant in
    let rest : List (List ℕ) = uris_of (map kind_view (drop (c.loop-entry.entry-index + 1) c.args.entries.now)) in
    let left = entry_left c.args.entries.now c.loop-entry.entry-index c.entry-item.result c.as_slice.result.now c.loop-entry-test.true c.entry-item.is c.as_slice.ensures.value in
    let all = seen_all _ c.in_ok-see_all.field-0 so_far.0 (map string_bytes c.as_slice.result.now) rest c.if-not-branch.false (c.in_ok-see_all.ensures so_far.0 rest so_far.1) in
    (all.0, all.1, sym all.2 ∙ sym (ap (are_new so_far.0) left) ∙ so_far.2)
