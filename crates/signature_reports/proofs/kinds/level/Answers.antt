use Rattle.std.proofs.Common.{true, false, refl, sym, ◌∙◌}
use Rattle.signature_reports.proofs.Levels.{level_is}
use Rattle.signature_reports.proofs.kinds.level.Goals as goal

pub returns-then-is_archived : goal.returns-then-is_archived
returns-then-is_archived c evidence answers words same =
    let archived = sym c.if-is_archived.true ∙ c.is_archived.ensures in
    level_is c.args.words.now c.args.complete true _ archived refl evidence answers words same

pub returns-then-not-is_stamped : goal.returns-then-not-is_stamped
returns-then-not-is_stamped c evidence answers words same =
    let archived = sym c.if-is_archived.false ∙ c.is_archived.ensures in
    let stamped = sym c.if-not-is_stamped.true ∙ c.is_stamped.ensures in
    level_is c.args.words.now c.args.complete false false archived stamped evidence answers words same

pub returns-then-complete : goal.returns-then-complete
returns-then-complete c evidence answers words same =
    let archived = sym c.if-is_archived.false ∙ c.is_archived.ensures in
    let stamped = sym c.if-not-is_stamped.false ∙ c.is_stamped.ensures in
    level_is c.args.words.now true false true archived stamped evidence answers words (same ∙ c.if-complete.true)

pub returns-else-complete : goal.returns-else-complete
returns-else-complete c evidence answers words same =
    let archived = sym c.if-is_archived.false ∙ c.is_archived.ensures in
    let stamped = sym c.if-not-is_stamped.false ∙ c.is_stamped.ensures in
    level_is c.args.words.now false false true archived stamped evidence answers words (same ∙ c.if-complete.false)
