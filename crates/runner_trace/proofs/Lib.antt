pub mod TraceSteps
pub mod TurnLaws
pub mod TraceLaws
pub mod StopLaws
