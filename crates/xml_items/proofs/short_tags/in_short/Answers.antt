-- The table is held against the definition at each of the 256 bytes, by computing.
use Rattle.std.proofs.Common.{◌≡◌, ℕ, ◌<◌, true, nat_lt, get_or, List, refl, arith}
use Rattle.std.proofs.lemmas.Bool.{agree_below, agree_below_at}
use Rattle.xml_items.specs.declared.short_tags.TheConstants.{CLASSES}
use Rattle.xml_items.specs.ShortNames.{in_short}
use Rattle.xml_items.proofs.short_tags.in_short.Goals as goal

from_table : (table : List ℕ) (b : ℕ) → b < 256 → agree_below (λ k. nat_lt 0 (get_or table k 0)) in_short 256 ≡ true → nat_lt 0 (get_or table b 0) ≡ in_short b
from_table table b lt h = agree_below_at (λ k. nat_lt 0 (get_or table k 0)) in_short 256 b h lt

pub returns : goal.returns
returns c = from_table CLASSES c.args.byte (omega arith) refl
