pub mod Resting
pub mod Serving
pub mod Keeping
pub mod Instances
pub mod Table
pub mod BetweenSteps
pub mod BetweenStarts
pub mod Rules
