use Rattle.std.proofs.Common.{◌≡◌, map, take}
use Rattle.covered_items.specs.Whole.{EachBytes}
use Rattle.whole_files.specs.Wants.{held_of}
use Rattle.xades_cli.specs.Prepare.{certificates_of, with_certificates}
use Rattle.xades_cli.proofs.drafting.add_certificates.Given as goal

-- the certificates of the files so far were put in, and all octets are bytes where those of the draft were
abbrev pub invariant-loop-file : goal.invariant-loop-file
invariant-loop-file l =
    (l.draft ≡ with_certificates (certificates_of (map held_of (take l.file-index l.files))) l.initial.draft)
    × (EachBytes l.initial.draft.certificates → EachBytes l.draft.certificates)
