use Rattle.std.proofs.Common.{◌≡◌, ℕ, zero, suc, Option, Some, None, refl, sym, ◌∙◌, ap}
use Rattle.std.proofs.Math.Logic.{∥∥₁_elim}
use Rattle.std.proofs.Math.Nat.{ℕ_set}
use Rattle.doc_spans.specs.declared.rows.Kind.{Kind}
use Rattle.doc_spans.specs.declared.rows.Kind.TheVariants.{Element, Text, Comment, Pi}
use Rattle.doc_spans.proofs.documents.Doc.kind.Goals as goal

-- a kind as a number, and back
abbrev code : Option Kind → ℕ
code None = 0
code (Some Element) = 1
code (Some Text) = 2
code (Some Comment) = 3
code (Some Pi) = 4

abbrev decode : ℕ → Option Kind
decode zero = None
decode (suc zero) = Some Element
decode (suc (suc zero)) = Some Text
decode (suc (suc (suc zero))) = Some Comment
decode (suc (suc (suc (suc n)))) = Some Pi

decoded : (o : Option Kind) → decode (code o) ≡ o
decoded None = refl
decoded (Some Element) = refl
decoded (Some Text) = refl
decoded (Some Comment) = refl
decoded (Some Pi) = refl

codes_set : IsSet ℕ
codes_set = ℕ_set

pub returns : goal.returns
returns c =
    sym (decoded _) ∙ ap decode (∥∥₁_elim c.args.self.whole (codes_set _ _) (λ w. ap code (w.kinds c.args.node.0 _ _ c.row.ensures.place c.row.ensures.kind))) ∙ decoded _
