pub mod Computed
pub mod DuctsComputed
pub mod CollectionComputed
pub mod DrillComputed
pub mod DoubledComputed
pub mod SurveyComputed
pub mod CutOnce
pub mod Same
