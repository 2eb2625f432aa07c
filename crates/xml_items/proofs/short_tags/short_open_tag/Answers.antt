use Rattle.std.proofs.Common.{◌≡◌, ◌∙◌, ◌+◌, List, ℕ, [], ◌∷◌, ◌++◌, Some, drop, length, is_some, ap, sym, subst, refl, arith, append_assoc}
use Rattle.std.specs.Str.{chars}
use Rattle.document_model.specs.Items.{start_tag, empty_tag, most_attributes}
use Rattle.xml_items.specs.Found.{name_in, attributes_in, read_attributes, IsNameText}
use Rattle.xml_items.proofs.ShortTags.{part_of, found_at, one_byte, slash_and_end, is_read_name, same_name_in, stands}
use Rattle.xml_items.proofs.QuickTags.{row_text, row_ascii, row_chars, row_read, row_start_piece, row_empty_piece}
use Rattle.xml_items.proofs.short_tags.short_open_tag.Goals as goal

pub ascii_text-requires-clause-ascii : goal.ascii_text-requires-clause-ascii
ascii_text-requires-clause-ascii c = row_ascii _ _ c.row_end-last.ensures.row.2

pub returns-then-bytes-last-eq62-clause-item : goal.returns-then-bytes-last-eq62-clause-item
returns-then-bytes-last-eq62-clause-item c =
    let d = c.args.bytes.now in
    let at = c.args.at in
    let end = c.name_end-end.result in
    let last = c.row_end-last.result in
    let name : List ℕ = part_of d (at + 1) end in
    let row : List ℕ = part_of d end last in
    let h = c.name_end-end.ensures.name c.if-start-end.true in
    let r = c.row_end-last.ensures.row in
    let named : name_in name ≡ name_in (chars c.name_text.result.now) = sym (same_name_in name h) ∙ ap (λ x. name_in (chars x)) (sym c.name_text.ensures) in
    let read : attributes_in row ≡ attributes_in (chars c.ascii_text.result.now) = ap attributes_in (sym (row_chars c.ascii_text.result.now row r.0 r.2 c.ascii_text.ensures)) in
    found_at d at (last + 1) (0x3C ∷ ((name ++ row) ++ 0x3E ∷ [])) (start_tag (name_in name) (attributes_in row)) (omega arith)
    (row_text d at end last (last + 1) (0x3E ∷ []) (omega arith) (omega arith) (omega arith) (omega (arith, c.requires.within)) c.requires.first (one_byte d last (last + 1) 0x3E c.if-last-bytes.true refl c.if-bytes-last-eq62.true))
    (λ behind. row_start_piece name row r.0 behind r.1 h r.2)
    ∙ (λ i. Some (record { text = part_of d at (last + 1); item = start_tag (named i) (read i) }, drop (last + 1) d))

pub returns-then-bytes-last-eq62-clause-placed : goal.returns-then-bytes-last-eq62-clause-placed
returns-then-bytes-last-eq62-clause-placed c =
    let d = c.args.bytes.now in
    let at = c.args.at in
    let end = c.name_end-end.result in
    let last = c.row_end-last.result in
    let whole : part_of d at (last + 1) ≡ 0x3C ∷ (c.name_text.result.now ++ (c.ascii_text.result.now ++ 0x3E ∷ [])) = (row_text d at end last (last + 1) (0x3E ∷ []) (omega arith) (omega arith) (omega arith) (omega (arith, c.requires.within)) c.requires.first (one_byte d last (last + 1) 0x3E c.if-last-bytes.true refl c.if-bytes-last-eq62.true))
    ∙ ap (λ x. 0x3C ∷ x) (append_assoc (part_of d (at + 1) end) (part_of d end last) (0x3E ∷ []))
    ∙ (λ i. 0x3C ∷ (sym c.name_text.ensures i ++ (sym c.ascii_text.ensures i ++ 0x3E ∷ []))) in (
      stands (part_of d at (last + 1)) (0x3C ∷ []) c.name_text.result.now (c.ascii_text.result.now ++ 0x3E ∷ []) 1 whole refl,
      stands (part_of d at (last + 1)) (0x3C ∷ c.name_text.result.now) c.ascii_text.result.now (0x3E ∷ []) (1 + length c.name_text.result.now) whole (omega arith),
    )

pub returns-then-bytes-last-eq62-clause-read : goal.returns-then-bytes-last-eq62-clause-read
returns-then-bytes-last-eq62-clause-read c =
    let r = c.row_end-last.ensures.row in (
      subst IsNameText (sym c.name_text.ensures) (is_read_name _ (c.name_end-end.ensures.name c.if-start-end.true)),
      ap (λ x. is_some (read_attributes most_attributes x)) (row_chars c.ascii_text.result.now _ r.0 r.2 c.ascii_text.ensures) ∙ row_read _ r.0 r.1 r.2,
    )

pub ascii_text-requires-then-bytes-last-eq62-2-clause-ascii : goal.ascii_text-requires-then-bytes-last-eq62-2-clause-ascii
ascii_text-requires-then-bytes-last-eq62-2-clause-ascii c = row_ascii _ _ c.row_end-last.ensures.row.2

pub returns-then-bytes-last-eq62-2-clause-item : goal.returns-then-bytes-last-eq62-2-clause-item
returns-then-bytes-last-eq62-2-clause-item c =
    let d = c.args.bytes.now in
    let at = c.args.at in
    let end = c.name_end-end.result in
    let last = c.row_end-last.result in
    let name : List ℕ = part_of d (at + 1) end in
    let row : List ℕ = part_of d end last in
    let h = c.name_end-end.ensures.name c.if-start-end.true in
    let r = c.row_end-last.ensures.row in
    let named : name_in name ≡ name_in (chars c.name_text-then-bytes-last-eq62-2.result.now) = sym (same_name_in name h) ∙ ap (λ x. name_in (chars x)) (sym c.name_text-then-bytes-last-eq62-2.ensures) in
    let read : attributes_in row ≡ attributes_in (chars c.ascii_text-then-bytes-last-eq62-2.result.now) = ap attributes_in (sym (row_chars c.ascii_text-then-bytes-last-eq62-2.result.now row r.0 r.2 c.ascii_text-then-bytes-last-eq62-2.ensures)) in
    found_at d at (last + 2) (0x3C ∷ ((name ++ row) ++ 0x2F ∷ 0x3E ∷ [])) (empty_tag (name_in name) (attributes_in row)) (omega arith)
    (row_text d at end last (last + 2) (0x2F ∷ 0x3E ∷ []) (omega arith) (omega arith) (omega arith) (omega (arith, c.requires.within)) c.requires.first (slash_and_end d last c.if-last-bytes-2.true c.if-bytes-last-eq47.true c.if-bytes-last-eq62-2.true))
    (λ behind. row_empty_piece name row r.0 behind r.1 h r.2)
    ∙ (λ i. Some (record { text = part_of d at (last + 2); item = empty_tag (named i) (read i) }, drop (last + 2) d))

pub returns-then-bytes-last-eq62-2-clause-placed : goal.returns-then-bytes-last-eq62-2-clause-placed
returns-then-bytes-last-eq62-2-clause-placed c =
    let d = c.args.bytes.now in
    let at = c.args.at in
    let end = c.name_end-end.result in
    let last = c.row_end-last.result in
    let whole : part_of d at (last + 2) ≡ 0x3C ∷ (c.name_text-then-bytes-last-eq62-2.result.now ++ (c.ascii_text-then-bytes-last-eq62-2.result.now ++ 0x2F ∷ 0x3E ∷ [])) = (row_text d at end last (last + 2) (0x2F ∷ 0x3E ∷ []) (omega arith) (omega arith) (omega arith) (omega (arith, c.requires.within)) c.requires.first (slash_and_end d last c.if-last-bytes-2.true c.if-bytes-last-eq47.true c.if-bytes-last-eq62-2.true))
    ∙ ap (λ x. 0x3C ∷ x) (append_assoc (part_of d (at + 1) end) (part_of d end last) (0x2F ∷ 0x3E ∷ []))
    ∙ (λ i. 0x3C ∷ (sym c.name_text-then-bytes-last-eq62-2.ensures i ++ (sym c.ascii_text-then-bytes-last-eq62-2.ensures i ++ 0x2F ∷ 0x3E ∷ []))) in (
      stands (part_of d at (last + 2)) (0x3C ∷ []) c.name_text-then-bytes-last-eq62-2.result.now (c.ascii_text-then-bytes-last-eq62-2.result.now ++ 0x2F ∷ 0x3E ∷ []) 1 whole refl,
      stands (part_of d at (last + 2)) (0x3C ∷ c.name_text-then-bytes-last-eq62-2.result.now) c.ascii_text-then-bytes-last-eq62-2.result.now (0x2F ∷ 0x3E ∷ []) (1 + length c.name_text-then-bytes-last-eq62-2.result.now) whole (omega arith),
    )

pub returns-then-bytes-last-eq62-2-clause-read : goal.returns-then-bytes-last-eq62-2-clause-read
returns-then-bytes-last-eq62-2-clause-read c =
    let r = c.row_end-last.ensures.row in (
      subst IsNameText (sym c.name_text-then-bytes-last-eq62-2.ensures) (is_read_name _ (c.name_end-end.ensures.name c.if-start-end.true)),
      ap (λ x. is_some (read_attributes most_attributes x)) (row_chars c.ascii_text-then-bytes-last-eq62-2.result.now _ r.0 r.2 c.ascii_text-then-bytes-last-eq62-2.ensures) ∙ row_read _ r.0 r.1 r.2,
    )
