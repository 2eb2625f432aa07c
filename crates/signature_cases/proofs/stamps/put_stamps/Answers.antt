use Rattle.std.proofs.Common.{◌≤◌, ◌<◌, ◌+◌, List, get_or, length, refl, subst, sym, arith}
use Rattle.doc_spans.specs.Seen.{document_in}
use Rattle.reference_chains.specs.HandedIn.{handed_in}
use Rattle.signature_elements.specs.Standing.{spot_of}
use Rattle.signature_cases.specs.declared.cases.StampWord.{StampWord}
use Rattle.signature_cases.proofs.Stamped.{Puts, ends_here, fits_here, judged_here, mark_here, not_here, puts_none, puts_on, spot_here}
use Rattle.signature_cases.proofs.stamps.put_stamps.Goals as goal

pub loop-property-preserved-in_default : goal.loop-property-preserved-in_default
loop-property-preserved-in_default c =
    let parts = c.args.parts.now in
    let number = c.loop-property.property in
    let lt : number < length parts.properties = omega (arith, c.loop-property-test.true, c.properties-property-end.ensures) in
    let here = spot_here c.args.doc parts number c.requires.parts.1 lt in
    puts_none (handed_in c.args.externals.now) (document_in c.args.doc) (spot_of c.args.doc parts.signature) number here.0 c.args.case.now c.loop-property.case c.loop-property.words.items here.1
    (not_here _ c.in_ok-judged.judged c.in_default.is (c.in_ok-judged.ensures here.0 here.1)) c.loop-property.invariant

pub put_stamp-requires-clause-before : goal.put_stamp-requires-clause-before
put_stamp-requires-clause-before c =
    let parts = c.args.parts.now in
    let number = c.loop-property.property in
    let lt : number < length parts.properties = omega (arith, c.loop-property-test.true, c.properties-property-end.ensures) in
    (fits_here (handed_in c.args.externals.now) c.args.doc parts c.args.marks.now number c.args.case.now c.loop-property.case c.loop-property.words.items c.in_ok-judged.judged c.in-Some.stamp
    c.requires.parts.1 lt c.requires.marks c.requires.shows.0 c.requires.shows.1 c.loop-property.invariant c.in-Some.is c.in_ok-judged.ensures).before

pub put_stamp-requires-clause-whole : goal.put_stamp-requires-clause-whole
put_stamp-requires-clause-whole c =
    let parts = c.args.parts.now in
    let number = c.loop-property.property in
    let lt : number < length parts.properties = omega (arith, c.loop-property-test.true, c.properties-property-end.ensures) in
    (fits_here (handed_in c.args.externals.now) c.args.doc parts c.args.marks.now number c.args.case.now c.loop-property.case c.loop-property.words.items c.in_ok-judged.judged c.in-Some.stamp
    c.requires.parts.1 lt c.requires.marks c.requires.shows.0 c.requires.shows.1 c.loop-property.invariant c.in-Some.is c.in_ok-judged.ensures).whole

pub put_stamp-requires-clause-there : goal.put_stamp-requires-clause-there
put_stamp-requires-clause-there c =
    let parts = c.args.parts.now in
    let number = c.loop-property.property in
    let lt : number < length parts.properties = omega (arith, c.loop-property-test.true, c.properties-property-end.ensures) in
    (fits_here (handed_in c.args.externals.now) c.args.doc parts c.args.marks.now number c.args.case.now c.loop-property.case c.loop-property.words.items c.in_ok-judged.judged c.in-Some.stamp
    c.requires.parts.1 lt c.requires.marks c.requires.shows.0 c.requires.shows.1 c.loop-property.invariant c.in-Some.is c.in_ok-judged.ensures).there

pub put_stamp-requires-clause-signer : goal.put_stamp-requires-clause-signer
put_stamp-requires-clause-signer c =
    let parts = c.args.parts.now in
    let number = c.loop-property.property in
    let lt : number < length parts.properties = omega (arith, c.loop-property-test.true, c.properties-property-end.ensures) in
    (fits_here (handed_in c.args.externals.now) c.args.doc parts c.args.marks.now number c.args.case.now c.loop-property.case c.loop-property.words.items c.in_ok-judged.judged c.in-Some.stamp
    c.requires.parts.1 lt c.requires.marks c.requires.shows.0 c.requires.shows.1 c.loop-property.invariant c.in-Some.is c.in_ok-judged.ensures).signer

pub loop-property-preserved : goal.loop-property-preserved
loop-property-preserved c =
    let parts = c.args.parts.now in
    let document = document_in c.args.doc in
    let signature = spot_of c.args.doc parts.signature in
    let handed = handed_in c.args.externals.now in
    let number = c.loop-property.property in
    let lt : number < length parts.properties = omega (arith, c.loop-property-test.true, c.properties-property-end.ensures) in
    let here = spot_here c.args.doc parts number c.requires.parts.1 lt in
    let stamp = c.in-Some.stamp in
    subst (λ (words : List StampWord). Puts handed document signature (number + 1) c.args.case.now c.put_stamp.new.case words) (sym c.in-Ok.ensures.items)
    (puts_on handed document signature number (get_or c.args.marks.now number 0) here.0 stamp c.args.case.now c.loop-property.case c.put_stamp.new.case c.loop-property.words.items _ here.1
    (judged_here _ c.in_ok-judged.judged stamp c.in-Some.is (c.in_ok-judged.ensures here.0 here.1)) (mark_here c.args.doc parts c.args.marks.now number c.requires.parts.1 lt c.requires.marks)
    (refl, refl, refl) c.in_ok-object.ensures.number c.in_ok-object.ensures.stamp c.requires.shows.0 c.requires.shows.1 c.loop-property.invariant)

pub returns : goal.returns
returns c more s =
    let past : length c.args.parts.now.properties ≤ c.loop-property.property = omega (arith, c.loop-property-test.false, c.properties-property-end.ensures) in
    ends_here (handed_in c.args.externals.now) c.args.doc c.args.parts.now c.loop-property.property c.args.case.now c.loop-property.case c.loop-property.words.items c.requires.parts.1 past
    c.loop-property.invariant more s
