-- What a report says, and the verdict that follows from it. This project's own.
use Rattle.std.specs.Prelude.{Bool, false, ◌&&◌, List, map, Option, Some, None, ℤ, All}
use Rattle.std.specs.List.{list_all}
use Rattle.signature_model.specs.Parts.{PropertyKind}
use Rattle.signature_parts.specs.Kinds.{kind_in}
use Rattle.signature_cases.specs.Words.{soundness_in}
use Rattle.signature_evidence.specs.Soundness as evidence
use Rattle.time_texts.specs.Clock.{IsOfYears}
use Rattle.report_texts.specs.declared.facts.CertificateFact.{CertificateFact}
use Rattle.report_texts.specs.declared.facts.Facts as code
use Rattle.report_texts.specs.declared.facts.Level.{Level}
use Rattle.report_texts.specs.declared.facts.ObjectFact.{ObjectFact}
use Rattle.report_texts.specs.declared.facts.ReferenceFact.{ReferenceFact}
use Rattle.report_texts.specs.declared.facts.TokenFact as code_token
use Rattle.report_texts.specs.declared.facts.ValueFact.{ValueFact}

pub record TokenFact : Type 0 where
  pub kind : PropertyKind
  pub gen_time : ℤ
  pub soundness : evidence.Soundness
  pub accepted : Bool
  pub time : ℤ

abbrev pub token_shown : code_token.TokenFact → TokenFact
token_shown fact = record {
  kind = kind_in fact.kind;
  gen_time = fact.gen_time;
  soundness = soundness_in fact.soundness;
  accepted = fact.accepted;
  time = fact.time;
}

pub record Facts : Type 0 where
  pub moment : ℤ
  pub level : Level
  pub references : List ReferenceFact
  pub certificate : Option CertificateFact
  pub value : ValueFact
  pub walk : Bool
  pub tokens : List TokenFact
  pub in_order : Bool
  pub objects : List ObjectFact

-- what facts in memory say
abbrev pub shown : code.Facts → Facts
shown facts = record {
  moment = facts.moment;
  level = facts.level;
  references = facts.references.items;
  certificate = facts.certificate;
  value = facts.value;
  walk = facts.walk;
  tokens = map token_shown facts.tokens.items;
  in_order = facts.in_order;
  objects = facts.objects.items;
}

-- The verdict: nothing that is said stands against it.

abbrev pub is_certified : Option CertificateFact → Bool
is_certified None = false
is_certified (Some fact) = fact.accepted

abbrev pub is_held : ReferenceFact → Bool
is_held fact = fact.matches && fact.accepted

abbrev pub is_fine : TokenFact → Bool
is_fine fact = evidence.is_sound fact.soundness && fact.accepted

abbrev pub is_yes : Facts → Bool
is_yes facts =
    list_all is_held facts.references && is_certified facts.certificate && facts.value.good && facts.value.accepted && facts.walk
    && list_all is_fine facts.tokens && facts.in_order

-- all times are of the years 0000 to 9999

abbrev pub IsCertificateTimed : Option CertificateFact → Type 0
IsCertificateTimed None = Unit {0}
IsCertificateTimed (Some fact) = IsOfYears fact.time

pub record AreTimed (facts : Facts) : Type 0 where
  pub moment : IsOfYears facts.moment
  pub references : All (λ fact. IsOfYears fact.time) facts.references
  pub certificate : IsCertificateTimed facts.certificate
  pub value : IsOfYears facts.value.time
  pub tokens : All (λ fact. IsOfYears fact.gen_time × IsOfYears fact.time) facts.tokens
  pub objects : All (λ fact. IsOfYears fact.time) facts.objects
