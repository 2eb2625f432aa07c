use Rattle.std.proofs.Common.{◌≡◌, ◌++◌, ◌∷◌, [], List, slice_get, sym, ap, ◌∙◌, arith, refl, length}
use Rattle.acceptance.specs.Certificates.{Part}
use Rattle.cert_paths.specs.Held.{part_of, parts_below}
use Rattle.cert_paths.proofs.HeldLaws.{length-parts_below, get_last}
use Rattle.cert_paths.proofs.PoolLaws.{keeps_same, keeps_before, there_already, not_there, longer_shows, longer_held}
use Rattle.cert_paths.proofs.pool.Pool.hold.Goals as goal

pub returns-in-Some-clause-new : goal.returns-in-Some-clause-new
returns-in-Some-clause-new c none =
    absurd (none c.in-Some.place.number
    (ap (λ (pool : List Part). slice_get pool c.in-Some.place.number) (sym c.self.view_is)
    ∙ there_already c.self.inside.objects c.self.inside.held.entries c.args.bytes.now c.args.is_list c.in-Some.place c.self.invariant c.requires.whole c.in-Some.ensures))

pub returns-in-Some-clause-number : goal.returns-in-Some-clause-number
returns-in-Some-clause-number c =
    ap (λ (pool : List Part). slice_get pool c.in-Some.place.number) (sym c.self.view_is)
    ∙ there_already c.self.inside.objects c.self.inside.held.entries c.args.bytes.now c.args.is_list c.in-Some.place c.self.invariant c.requires.whole c.in-Some.ensures

pub overflow_add-self : goal.overflow_add-self
overflow_add-self c =
    let long : c.self.inside.objects ≡ length c.args.self.now = sym (length-parts_below c.self.inside.objects c.self.inside.held.entries) ∙ ap length c.self.view_is in
    let room = c.requires.room in
    omega arith

pub invariant_of-self-2 : goal.invariant_of-self-2
invariant_of-self-2 c =
    longer_held c.self.inside.objects c.self.inside.held.entries c.put_last.new.held.entries c.args.bytes.now _ c.self.invariant refl c.requires.whole c.in_default.ensures
    c.in_ok-put_last.ensures.ok

pub returns-clause-there : goal.returns-clause-there
returns-clause-there c n there =
    absurd (not_there c.self.inside.objects c.self.inside.held.entries c.args.bytes.now c.args.is_list n c.self.invariant c.in_default.ensures
    (ap (λ (pool : List Part). slice_get pool n) c.self.view_is ∙ there))

pub returns-clause-new : goal.returns-clause-new
returns-clause-new c none =
    longer_shows c.self.inside.objects c.self.inside.held.entries c.put_last.new.held.entries c.args.bytes.now _ c.self.invariant refl c.in_ok-put_last.ensures.ok
    ∙ ap (λ (pool : List Part). pool ++ part_of c.args.is_list c.args.bytes.now ∷ []) c.self.view_is

pub returns-clause-number : goal.returns-clause-number
returns-clause-number c =
    ap (λ (pool : List Part). slice_get pool c.self.inside.objects)
    (longer_shows c.self.inside.objects c.self.inside.held.entries c.put_last.new.held.entries c.args.bytes.now _ c.self.invariant refl c.in_ok-put_last.ensures.ok)
    ∙ get_last (parts_below c.self.inside.objects c.self.inside.held.entries) (part_of c.args.is_list c.args.bytes.now) c.self.inside.objects
    (sym (length-parts_below c.self.inside.objects c.self.inside.held.entries))

pub returns-in-Some-clause-kept : goal.returns-in-Some-clause-kept
returns-in-Some-clause-kept c = keeps_same c.args.self.now

pub returns-clause-kept : goal.returns-clause-kept
returns-clause-kept c =
    keeps_before c.args.self.now _ (part_of c.args.is_list c.args.bytes.now)
    (longer_shows c.self.inside.objects c.self.inside.held.entries c.put_last.new.held.entries c.args.bytes.now _ c.self.invariant refl c.in_ok-put_last.ensures.ok
    ∙ ap (λ (pool : List Part). pool ++ part_of c.args.is_list c.args.bytes.now ∷ []) c.self.view_is)
