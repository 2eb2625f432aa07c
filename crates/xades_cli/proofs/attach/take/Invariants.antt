use Rattle.std.proofs.Common.{◌≡◌, ℕ, List, map}
use Rattle.reference_chains.specs.HandedIn.{handed_in}
use Rattle.whole_files.specs.Wants.{held_of}
use Rattle.xades_cli.specs.Attach.{items_of}
use Rattle.xades_cli.specs.Handing.{handed_by}
use Rattle.xades_cli.proofs.attach.take.Given as goal

-- what was taken so far is what the files so far give
abbrev pub invariant-loop-file : goal.invariant-loop-file
invariant-loop-file l = record {
  items : l.items.items ≡ items_of (map held_of l.yielded);
  handed : (wanted : List ℕ) → handed_in l.externals wanted ≡ handed_by (map held_of l.yielded) wanted;
}
