pub mod FaultReports
