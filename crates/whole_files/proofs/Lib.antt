pub mod PlanLemmas
pub mod HeldLemmas
