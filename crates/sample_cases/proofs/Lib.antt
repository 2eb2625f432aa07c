pub mod CaseSteps
