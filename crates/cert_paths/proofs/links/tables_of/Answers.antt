use Rattle.cert_paths.proofs.GatherLaws.{signed_over, closed_over, speaks_over, dates_over}
use Rattle.cert_paths.proofs.links.tables_of.Goals as goal

pub returns-clause-tied : goal.returns-clause-tied
returns-clause-tied c = record {
  certs = c.in_ok-rows.ensures.certs.0;
  few = c.in_ok-rows.ensures.certs.1;
  distinct = c.in_ok-rows.ensures.certs.2;
  issuers = c.in_ok-rows.ensures.issuers;
  lists = c.in_ok-rows.ensures.lists;
  closed = closed_over _ _ _ _ _ _ c.as_slice.ensures.value c.as_slice-2.ensures.value c.in_ok-reach.ensures.closed;
  signed = signed_over _ _ _ _ _ _ c.as_slice.ensures.value c.as_slice-2.ensures.value c.in_ok-reach.ensures.table;
  speaks = speaks_over _ _ _ _ _ _ _ c.as_slice-3.ensures.value c.as_slice-4.ensures.value c.as_slice-5.ensures.value c.in_ok-speaks.ensures;
  dates = dates_over _ _ _ _ _ c.as_slice-6.ensures.value c.as_slice-7.ensures.value c.in_ok-dates.ensures;
}
