use Rattle.std.proofs.Common.{◌≡◌, ℕ, List, [], ◌∷◌, ◌++◌, sym, ◌∙◌, ap}
use Rattle.std.proofs.lemmas.List.{append-nil}
use Rattle.std.proofs.lemmas.Str.{chars_from_encodes}
use Rattle.std.specs.Prelude.{flat_map, encode_utf8_all}
use Rattle.std.specs.Str.{chars}
use Rattle.doc_spans.specs.Pieces.{characters_in, characters_left}
use Rattle.canon_texts.specs.WrittenAt.{written_at}
use Rattle.canon_texts.proofs.Kept.{kept_behind}
use Rattle.canon_texts.proofs.EscapedTexts.{more_written}
use Rattle.canon_texts.proofs.escapes.put_pieces.Goals as goal

pub loop-piece-preserved-in-Continue-1 : goal.loop-piece-preserved-in-Continue-1
loop-piece-preserved-in-Continue-1 c = (
  tt,
  tt,
  more_written (written_at c.args.place) c.loop-piece.out c.put_run.new.out (characters_left c.loop-piece.piece-iterator) (chars c.in-Run.text.now) (characters_left c.next.new.self) _
      c.in_ok-put_run-in-Run.ensures.ok
      (c.in-Some.ensures.steps ∙ ap (λ p. characters_in p ++ characters_left c.next.new.self) c.in-Run.is)
      c.loop-piece.invariant.2,
  rw c.in_ok-put_run-in-Run.ensures.ok (kept_behind _ _ _ c.loop-piece.invariant.3),
)

pub loop-piece-preserved : goal.loop-piece-preserved
loop-piece-preserved c =
    let written : List ℕ → List ℕ = λ cs. encode_utf8_all (flat_map (written_at c.args.place) cs) in
    let one : chars c.encode_utf8.result.now ≡ c.in-One.c ∷ [] = sym (chars_from_encodes (c.in-One.c ∷ []) c.encode_utf8.result.now c.encode_utf8.utf8 (append-nil _ ∙ sym c.encode_utf8.ensures.value)) in (
      tt,
      tt,
      more_written (written_at c.args.place) c.loop-piece.out c.put_run-in-One.new.out (characters_left c.loop-piece.piece-iterator) (c.in-One.c ∷ []) (characters_left c.next.new.self) _
          (c.in_ok-put_run-in-One.ensures.ok ∙ ap (λ x. c.loop-piece.out ++ written x) one)
          (c.in-Some.ensures.steps ∙ ap (λ p. characters_in p ++ characters_left c.next.new.self) c.in-One.is)
          c.loop-piece.invariant.2,
      rw c.in_ok-put_run-in-One.ensures.ok (kept_behind _ _ _ c.loop-piece.invariant.3),
    )
