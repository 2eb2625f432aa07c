use Rattle.one_report.proofs.OneReport.{one_report_fits}
use Rattle.one_report.proofs.one_report_fits.Goals as goal

pub returns : goal.returns
returns c = one_report_fits
