use Rattle.std.proofs.Common.{◌≡◌, ◌++◌, ℕ, List, length}
use denote.Text.{Utf8}
use denote.Shadow.{shadow}
use Rattle.std.specs.Str.{chars}
use Rattle.document_model.specs.Items.{without_space_behind}
use Rattle.xml_items.proofs.texts.without_space_behind.Given as goal

-- only white space is taken off
abbrev pub invariant-loop-c : goal.invariant-loop-c
invariant-loop-c l = shadow (Utf8 l.front) × (without_space_behind (chars l.text) ≡ without_space_behind (chars l.front)) × ((space : List ℕ) × (l.text ≡ l.front ++ space))

abbrev pub decreases-loop-c : goal.decreases-loop-c
decreases-loop-c l = length l.front
