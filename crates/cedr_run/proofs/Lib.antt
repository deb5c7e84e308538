pub mod FaultLemmas
pub mod RunLemmas
pub mod PlanLemmas
pub mod StreamLemmas
pub mod BegunLemmas
pub mod StreamEndLemmas
pub mod StrongLemmas
