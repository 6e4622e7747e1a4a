mod Common
pub mod Yards
pub mod Carriers
pub mod Races
pub mod Posts
pub mod Sharing
pub mod Moments
pub mod FairRuns
pub mod RunsAlone
