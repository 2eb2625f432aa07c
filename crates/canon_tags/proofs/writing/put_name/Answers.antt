use Rattle.std.proofs.Common.{◌++◌, ◌∙◌, sym, ap}
use Rattle.canon_tags.proofs.WrittenTexts.{name_alone, name_joined, three_put}
use Rattle.canon_tags.proofs.writing.put_name.Goals as goal

pub returns-then-is_empty : goal.returns-then-is_empty
returns-then-is_empty c =
    c.in_ok-push_all.ensures.ok
    ∙ ap (λ x. c.args.out.now ++ x)
    (c.as_bytes.ensures.value ∙ sym (name_alone c.args.prefix.now c.args.local.now (sym c.is_empty.ensures ∙ c.if-is_empty.true) c.utf8.local))

pub returns : goal.returns
returns c =
    three_put c.args.out.now c.push_all-2.new.self c.push_all-3.new.self c.push_all-4.new.self c.args.prefix.now c.args.local.now
    (c.in_ok-push_all-2.ensures.ok ∙ ap (λ x. c.args.out.now ++ x) c.as_bytes-2.ensures.value) c.in_ok-push_all-3.ensures.ok
    (c.in_ok-push_all-4.ensures.ok ∙ ap (λ x. c.push_all-3.new.self ++ x) c.as_bytes-3.ensures.value)
    ∙ ap (λ x. c.args.out.now ++ x) (sym (name_joined c.args.prefix.now c.args.local.now (sym c.is_empty.ensures ∙ c.if-is_empty.false) c.utf8.prefix c.utf8.local))
