use Rattle.std.proofs.Common.{◌≡◌, ℕ, List, ap, ◌∙◌, rules, tests}
use Rattle.std.specs.List.{list_any}
use Rattle.std.specs.Str.{bytes_eq}
use Rattle.der_values.specs.Rules.{first_in}
use Rattle.std.proofs.lemmas.Iterator.Search.{any_from_yields_List}
use Rattle.std.proofs.lemmas.Iterator.Consumers.{YieldsList-from_first}
use Rattle.der_values.specs.View.{view, elements_left}
use Rattle.der_values.specs.Elements.{elements}
use Rattle.der_values.proofs.elements.stands_in.Goals as goal

pub returns : goal.returns
returns c =
    let first : c.piece-first.result.now ≡ first_in (view c.args.tlv.now) = c.piece-first.ensures in
    any_from_yields_List (λ e. bytes_eq (first_in e) c.piece-first.result.now) c.any.new.self _ _ c.any.ensures.ran (YieldsList-from_first view elements_left (elements c.args.content.now) (cc)) (λ x b q k. search (rules, tests))
    ∙ ap (λ (x : List ℕ). list_any (λ e. bytes_eq (first_in e) x) (elements c.args.content.now)) first
