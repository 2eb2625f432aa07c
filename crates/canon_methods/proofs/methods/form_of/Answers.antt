use Rattle.std.proofs.Common.{◌≡◌, ℕ, List, true, false, ◌++◌, sym, codes}
use Rattle.document_model.specs.Characters.{◌is◌}
use Rattle.document_model.specs.Methods.{inclusive_name, exclusive_name}
use Rattle.doc_spans.specs.Pieces.{characters_left}
use Rattle.canon_methods.specs.Rules.{prefixes_in}
use Rattle.canon_methods.proofs.Named.{inclusive_text, inclusive_comments_text, exclusive_text, exclusive_comments_text, chosen, is_that}
use Rattle.canon_methods.proofs.methods.form_of.Goals as goal

pub returns-then-same : goal.returns-then-same
returns-then-same c =
    let cs : List ℕ = characters_left c.args.name in
    let e1 : (cs is inclusive_name) ≡ true = is_that cs inclusive_name c.same.result true inclusive_text c.same.ensures c.if-same.true in
    (λ i. chosen (sym e1 i) (cs is inclusive_name ++ codes "#WithComments") (cs is exclusive_name) (cs is exclusive_name ++ codes "WithComments") (prefixes_in c.args.prefixes))

pub returns-then-same-2 : goal.returns-then-same-2
returns-then-same-2 c =
    let cs : List ℕ = characters_left c.args.name in
    let e1 : (cs is inclusive_name) ≡ false = is_that cs inclusive_name c.same.result false inclusive_text c.same.ensures c.if-same.false in
    let e2 : (cs is inclusive_name ++ codes "#WithComments") ≡ true = is_that cs (inclusive_name ++ codes "#WithComments") c.same-else-same.result true inclusive_comments_text c.same-else-same.ensures c.if-same-2.true in
    (λ i. chosen (sym e1 i) (sym e2 i) (cs is exclusive_name) (cs is exclusive_name ++ codes "WithComments") (prefixes_in c.args.prefixes))

pub returns-then-same-3 : goal.returns-then-same-3
returns-then-same-3 c =
    let cs : List ℕ = characters_left c.args.name in
    let e1 : (cs is inclusive_name) ≡ false = is_that cs inclusive_name c.same.result false inclusive_text c.same.ensures c.if-same.false in
    let e2 : (cs is inclusive_name ++ codes "#WithComments") ≡ false = is_that cs (inclusive_name ++ codes "#WithComments") c.same-else-same.result false inclusive_comments_text c.same-else-same.ensures c.if-same-2.false in
    let e3 : (cs is exclusive_name) ≡ true = is_that cs exclusive_name c.same-else-same-2.result true exclusive_text c.same-else-same-2.ensures c.if-same-3.true in
    (λ i. chosen (sym e1 i) (sym e2 i) (sym e3 i) (cs is exclusive_name ++ codes "WithComments") (prefixes_in c.args.prefixes))

pub returns-then-same-4 : goal.returns-then-same-4
returns-then-same-4 c =
    let cs : List ℕ = characters_left c.args.name in
    let e1 : (cs is inclusive_name) ≡ false = is_that cs inclusive_name c.same.result false inclusive_text c.same.ensures c.if-same.false in
    let e2 : (cs is inclusive_name ++ codes "#WithComments") ≡ false = is_that cs (inclusive_name ++ codes "#WithComments") c.same-else-same.result false inclusive_comments_text c.same-else-same.ensures c.if-same-2.false in
    let e3 : (cs is exclusive_name) ≡ false = is_that cs exclusive_name c.same-else-same-2.result false exclusive_text c.same-else-same-2.ensures c.if-same-3.false in
    let e4 : (cs is exclusive_name ++ codes "WithComments") ≡ true = is_that cs (exclusive_name ++ codes "WithComments") c.same-else-same-3.result true exclusive_comments_text c.same-else-same-3.ensures c.if-same-4.true in
    (λ i. chosen (sym e1 i) (sym e2 i) (sym e3 i) (sym e4 i) (prefixes_in c.args.prefixes))

pub returns-else-same-4 : goal.returns-else-same-4
returns-else-same-4 c =
    let cs : List ℕ = characters_left c.args.name in
    let e1 : (cs is inclusive_name) ≡ false = is_that cs inclusive_name c.same.result false inclusive_text c.same.ensures c.if-same.false in
    let e2 : (cs is inclusive_name ++ codes "#WithComments") ≡ false = is_that cs (inclusive_name ++ codes "#WithComments") c.same-else-same.result false inclusive_comments_text c.same-else-same.ensures c.if-same-2.false in
    let e3 : (cs is exclusive_name) ≡ false = is_that cs exclusive_name c.same-else-same-2.result false exclusive_text c.same-else-same-2.ensures c.if-same-3.false in
    let e4 : (cs is exclusive_name ++ codes "WithComments") ≡ false = is_that cs (exclusive_name ++ codes "WithComments") c.same-else-same-3.result false exclusive_comments_text c.same-else-same-3.ensures c.if-same-4.false in
    (λ i. chosen (sym e1 i) (sym e2 i) (sym e3 i) (sym e4 i) (prefixes_in c.args.prefixes))
