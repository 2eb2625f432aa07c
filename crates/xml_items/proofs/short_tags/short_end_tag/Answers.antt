use Rattle.std.proofs.Common.{◌∙◌, ◌+◌, List, ℕ, [], ◌∷◌, ◌++◌, Some, drop, ap, sym, subst, refl, arith}
use Rattle.std.specs.Str.{chars}
use Rattle.document_model.specs.Items.{end_tag}
use Rattle.xml_items.specs.Found.{name_in, IsNameText}
use Rattle.xml_items.proofs.ShortTags.{part_of, found_at, end_text, one_byte, end_piece, is_read_name, same_name_in, stands}
use Rattle.xml_items.proofs.short_tags.short_end_tag.Goals as goal

pub returns-then-bytes-end-eq62-clause-item : goal.returns-then-bytes-end-eq62-clause-item
returns-then-bytes-end-eq62-clause-item c =
    let d = c.args.bytes.now in
    let at = c.args.at in
    let end = c.name_end-end.result in
    let name : List ℕ = part_of d (at + 2) end in
    let h = c.name_end-end.ensures.name c.if-start-end.true in
    found_at d at (end + 1) (0x3C ∷ 0x2F ∷ (name ++ 0x3E ∷ [])) (end_tag (name_in name)) (omega arith)
    (end_text d at end (end + 1) (0x3E ∷ []) (omega arith) (omega arith) c.requires.within c.requires.first c.requires.second (one_byte d end (end + 1) 0x3E c.if-end-bytes.true refl c.if-bytes-end-eq62.true))
    (λ behind. end_piece name behind h)
    ∙ ap (λ n. Some (record { text = part_of d at (end + 1); item = end_tag n }, drop (end + 1) d)) (sym (same_name_in name h) ∙ ap (λ x. name_in (chars x)) (sym c.name_text.ensures))

pub returns-then-bytes-end-eq62-clause-placed : goal.returns-then-bytes-end-eq62-clause-placed
returns-then-bytes-end-eq62-clause-placed c =
    let d = c.args.bytes.now in
    let at = c.args.at in
    let end = c.name_end-end.result in
    stands (part_of d at (end + 1)) (0x3C ∷ 0x2F ∷ []) c.name_text.result.now (0x3E ∷ []) 2
    (end_text d at end (end + 1) (0x3E ∷ []) (omega arith) (omega arith) c.requires.within c.requires.first c.requires.second (one_byte d end (end + 1) 0x3E c.if-end-bytes.true refl c.if-bytes-end-eq62.true)
    ∙ ap (λ x. 0x3C ∷ 0x2F ∷ (x ++ 0x3E ∷ [])) (sym c.name_text.ensures)) refl

pub returns-then-bytes-end-eq62-clause-read : goal.returns-then-bytes-end-eq62-clause-read
returns-then-bytes-end-eq62-clause-read c = subst IsNameText (sym c.name_text.ensures) (is_read_name _ (c.name_end-end.ensures.name c.if-start-end.true))
