pub mod BatchLaws
pub mod BoundLaws
pub mod CloseLaws
pub mod EditLaws
pub mod EndLaws
pub mod EventLaws
pub mod HandledLaws
pub mod HeldLaws
pub mod OrderLaws
pub mod OutputLaws
pub mod RunLaws
pub mod SceneLaws
pub mod SoFarLaws
mod UntouchedEvents
pub mod UntouchedGiven
pub mod UntouchedLines
mod UntouchedRuns
